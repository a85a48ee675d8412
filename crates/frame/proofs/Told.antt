-- Number and values tell the answers apart, so a contract that gives them gives the answer.
use mathlib.Core.Path.{◌≡◌, sym, ap, ◌∙◌}
use mathlib.Core.Bool.{Bool}
use mathlib.Core.List.{[], ◌∷◌}
use Prim.Native.Nat.{ℕ}
use lib.Dec.{eqb}
use Rattle.refusal.specs.OneOutcome.{TellsApart}
use Rattle.frame.specs.Header.{bit, header_values}
use Rattle.frame.specs.Frame.{host_values}
use Rattle.frame.specs.declared.Header.{Header}
use Rattle.frame.proofs.RoundTrip.{bit_back}

-- so do a flag's number, and a header's
pub bit_apart : (a b : Bool) → bit a ≡ bit b → a ≡ b
bit_apart a b e = sym (bit_back a) ∙ ap (λ n. eqb n 1) e ∙ bit_back b

pub header_apart : (g h : Header) → header_values g ≡ header_values h → g ≡ h
header_apart g h e =
    let l : g.l ≡ h.l = bit_apart g.l h.l (cc) in
    let f : g.f ≡ h.f = bit_apart g.f h.f (cc) in
    let hc : g.hc ≡ h.hc = cc in
    let nonce : g.nonce ≡ h.nonce = cc in
    λ i. record { l = l i; f = f i; hc = hc i; nonce = nonce i }

pub host_apart : TellsApart host_values
host_apart n m v =
    let len : n.len ≡ m.len = cc in
    let header : header_values n.header ≡ header_values m.header = cc in
    let same = header_apart n.header m.header header in
    λ i. record { len = len i; header = same i }

-- a length tells itself
pub length_apart : TellsApart {A = ℕ} (λ n. n ∷ [])
length_apart n m e = cc
