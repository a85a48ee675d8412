-- Each part is put behind the part before it.
use Rattle.layout.specs.Layout.{SizedSeats, seat_masks, seat_wides, seat_words}
use Rattle.layout.proofs.Wholes.{columns_laid, seat_bytes_laid}
use Rattle.layout.proofs.heads.lay_seats.Goals as goal

pub returns : goal.returns
unfolding seat_masks seat_wides seat_words
returns c =
    let p = c.lay_ports.ensures in
    let q = c.lay_limits.ensures in
    let r = c.lay_slots.ensures in
    let s = c.lay_hops.ensures in
    let t = c.lay_cells.ensures in
    let sized : SizedSeats c.args.seats.now = record { long = p.long; addresses = r.addresses; ports = r.ports; hops = s.hops; cells = t.cells } in
    record {
      bytes = seat_bytes_laid sized c.args.bytes.now c.requires.bytes p.bytes q.bytes r.bytes s.bytes t.bytes;
      masks = columns_laid sized c.args.masks.now (λ s. s.switch.setup.live) (λ s. s.switch.setup.host) c.requires.masks p.masks q.masks;
      words = columns_laid sized c.args.words.now (λ s. s.switch.setup.salt) (λ s. s.switch.nonce) c.requires.words p.words q.words;
      wides = r.wides;
      sized = sized;
    }
