-- Letter, mask and header tell verdicts apart: each is read back from them.
use mathlib.Core.Path.{◌≡◌, refl, sym, ap₂, ◌∙◌}
use mathlib.Core.Bool.{cond}
use Prim.Native.Nat.{ℕ}
use lib.Dec.{eqb}
use Rattle.frame.specs.Header.{header_values}
use Rattle.frame.proofs.Told.{bit_apart, header_apart}
use Rattle.rules.specs.Verdict.{letter_of, report_values, sending_of, sent_by, verdict_values}
use Rattle.rules.specs.declared.Send.{Send}
use Rattle.rules.specs.declared.Report.{Report}
use Rattle.rules.specs.declared.Verdict.{Verdict}
use Rattle.rules.specs.declared.Verdict.TheVariants.{X, D, G, E, F, N, B, H, U}

-- the verdict of a letter
abbrev verdict_of : ℕ → Send → Verdict
verdict_of letter c =
    cond (eqb letter 0x58) X
    (cond (eqb letter 0x44) D
    (cond (eqb letter 0x47) G
    (cond (eqb letter 0x45) E
    (cond (eqb letter 0x46) (F c)
    (cond (eqb letter 0x4E) (N c)
    (cond (eqb letter 0x42) (B c)
    (cond (eqb letter 0x48) (H c) (U c))))))))

read_back : (v : Verdict) → verdict_of (letter_of v) (sent_by (sending_of v)) ≡ v
read_back X = refl
read_back D = refl
read_back G = refl
read_back E = refl
read_back (F c) = refl
read_back (N c) = refl
read_back (B c) = refl
read_back (H c) = refl
read_back (U c) = refl

send_apart : (c d : Send) → c.mask ≡ d.mask → header_values c.header ≡ header_values d.header → c ≡ d
send_apart c d m e = let h = header_apart c.header d.header e in λ i. record { mask = m i; header = h i }

verdict_apart : (v u : Verdict) → verdict_values v ≡ verdict_values u → v ≡ u
verdict_apart v u e =
    let letter : letter_of v ≡ letter_of u = cc in
    let mask : (sent_by (sending_of v)).mask ≡ (sent_by (sending_of u)).mask = cc in
    let header : header_values (sent_by (sending_of v)).header ≡ header_values (sent_by (sending_of u)).header = cc in
    sym (read_back v) ∙ ap₂ verdict_of letter (send_apart (sent_by (sending_of v)) (sent_by (sending_of u)) mask header) ∙ read_back u

pub report_apart : (r q : Report) → report_values r ≡ report_values q → r ≡ q
report_apart r q e =
    let full : r.full ≡ q.full = bit_apart r.full q.full (cc) in
    let overwrote : r.overwrote ≡ q.overwrote = bit_apart r.overwrote q.overwrote (cc) in
    let values : verdict_values r.verdict ≡ verdict_values q.verdict = cc in
    let verdict : r.verdict ≡ q.verdict = verdict_apart r.verdict q.verdict values in
    λ i. record { verdict = verdict i; full = full i; overwrote = overwrote i }
