-- What the rules' definitions are in single cases.
use mathlib.Core.Path.{◌≡◌, refl, ap}
use mathlib.Core.Bool.{Bool, true, false, cond, ◌&&◌}
use mathlib.Core.List.{List}
use Prim.Native.Nat.{ℕ, ◌<◌}
use Rattle.std.specs.Prelude.{Option, Some, None}
use Rattle.table.specs.declared.Entry.{Entry}
use Rattle.table.specs.declared.Table.{Table}
use Rattle.rules.specs.Mask.{names}
use Rattle.rules.proofs.Bits.{names_below}
use Rattle.rules.specs.Rules.{plainly, flood, sends, onward, forwarding, PortWithin, if_up}
use Rattle.rules.specs.declared.Setup.{Setup}
use Rattle.rules.specs.declared.Arrival.{Arrival}
use Rattle.rules.specs.declared.Verdict.TheVariants.{F}

pub and_false : (b : Bool) → false ≡ (b && false)
and_false true = refl
and_false false = refl

module _ (s : Setup) (t : Table) (f : List ℕ) (a : Arrival) (dup : Bool) (fresh : dup ≡ false) where
  by_flag : (b : Bool) → a.header.f ≡ b → forwarding s t f a dup ≡ cond b (plainly t f (F (sends (flood s a) a.header))) (onward s t f a)
  unfolding forwarding
  by_flag b e = rw fresh (ap (λ c. cond c (plainly t f (F (sends (flood s a) a.header))) (onward s t f a)) e)

  pub forwarding_flood : a.header.f ≡ true → forwarding s t f a dup ≡ plainly t f (F (sends (flood s a) a.header))
  forwarding_flood e = by_flag true e

  pub forwarding_onward : a.header.f ≡ false → forwarding s t f a dup ≡ onward s t f a
  forwarding_onward e = by_flag false e

-- an entry that stands names a port that is up, one of sixteen
pub port_within : (live : ℕ) → live < 65536 → (found : Option Entry) → PortWithin (if_up live found)
port_within live h None = tt
port_within live h (Some e) = go (names live e.port) refl
  where
    go : (b : Bool) → names live e.port ≡ b → PortWithin (cond b (Some e) None)
    go true up = names_below 16 live e.port h up
    go false up = tt
