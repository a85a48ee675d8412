-- The rows are computed.
use mathlib.Core.Path.{refl}
use Rattle.lines.specs.Lines.{text, hex_of, digits, width_in, width, decimal, hex8, field, marked, ending, line_of}
use Rattle.lines.specs.Rows.{RowsPrinted}

pub rows_printed : RowsPrinted
unfolding text hex_of digits width_in width decimal hex8 field marked ending line_of
rows_printed = refl
