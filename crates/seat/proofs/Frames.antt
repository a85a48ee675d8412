-- On the bench's frames rule 1 gives what arrives at a seat, and refusals 2 to 9 find nothing; the rest of a step is the same rules.
use mathlib.Core.Path.{◌≡◌, refl, sym, ap, subst, ◌∙◌}
use mathlib.Core.Bool.{true, false}
use mathlib.Core.List.{List}
use Prim.Native.Nat.{ℕ, ◌^◌, ◌≤◌, ◌<◌}
use native.Mathlib.Nat.{mod-eq_of_lt}
use native.Mathlib.Omega.{arith}
use lib.Dec.{eqb}
use lib.ListN.{length}
use borrow.Author.Tests.{lt-leb, le-ltb, ne_eqb}
use Rattle.refusal.proofs.Laws.{accepted_answer, accepted_leaves}
use Rattle.wire.specs.Address.{Source, is_source}
use Rattle.wire.specs.Wire.{bytes_of, number, number_after}
use Rattle.wire.proofs.Laws.{source_iff, written_back}
use Rattle.frame.specs.declared.Header.{Header}
use Rattle.frame.specs.Frame.{destination_of, header_in, old_type_of, our_type, source_of, tagged, type_of}
use Rattle.frame.proofs.RoundTrip.{header_is, old_type_is, strips, type_is_ours}
use Rattle.rules.specs.Mask.{names}
use Rattle.rules.specs.Rules.{on_host_port, rule1}
use Rattle.rules.proofs.Bits.{names_below}
use Rattle.head.specs.Step.{refusal, refusal_but1}
use Rattle.head.proofs.Laws.{without_1}
use Rattle.seat.specs.Seat.{from_host, from_link, step_of}
use Rattle.seat.specs.Words.{Formed}
use Rattle.seat.specs.Frames.{GoesOutAlike, HostStepIsTheStep, IsDelivered, IsTheStep, LinkStepIsTheStep, host_frame, link_frame}
use Rattle.seat.specs.declared.Seat.{Seat}

-- an address comes back from its six bytes
address_back : (x : ℕ) → x < 2 ^ 48 → number (bytes_of 6 x) ≡ x
address_back x below = written_back 6 x ∙ mod-eq_of_lt below

-- ---- What is read of the frames

module _ (source destination : ℕ) where
  host_long : length (host_frame source destination) ≡ 60
  unfolding host_frame
  host_long = refl

  host_type : type_of (host_frame source destination) ≡ 0x0800
  unfolding host_frame number number_after
  host_type = refl

  module _ (from : Source source) (to : destination < 2 ^ 48) where
    host_source : source_of (host_frame source destination) ≡ source
    unfolding host_frame
    host_source = address_back source from.below

    host_destination : destination_of (host_frame source destination) ≡ destination
    unfolding host_frame
    host_destination = address_back destination to

    module _ (h : Header) where
      link_source : source_of (link_frame source destination h) ≡ source
      unfolding link_frame tagged host_frame
      link_source = address_back source from.below

      link_destination : destination_of (link_frame source destination h) ≡ destination
      unfolding link_frame tagged host_frame
      link_destination = address_back destination to

  module _ (h : Header) where
    link_long : length (link_frame source destination h) ≡ 66
    unfolding link_frame tagged host_frame
    link_long = refl

    link_type : type_of (link_frame source destination h) ≡ our_type
    unfolding link_frame
    link_type = type_is_ours (host_frame source destination) h (rw (host_long) (omega arith))

    link_old_type : old_type_of (link_frame source destination h) ≡ 0x0800
    unfolding link_frame
    link_old_type = old_type_is (host_frame source destination) h (rw (host_long) (omega arith)) ∙ host_type

    link_header : h.hc ≤ 63 → h.nonce < 2 ^ 24 → header_in (link_frame source destination h) ≡ h
    unfolding link_frame
    link_header low below = header_is (host_frame source destination) h (rw (host_long) (omega arith)) (omega arith) below

-- ---- The step

-- an accepted frame's step is the seat's on what rule 1 makes of the frame
by_rule1 : (s : Seat) (port : ℕ) (frame : List ℕ) → ((room : ℕ) → 66 ≤ room → refusal s.switch s.cells port frame room ≡ 0)
    → IsTheStep s port frame (step_of s (rule1 s.switch.setup s.switch.nonce s.switch.table port frame))
unfolding step_of rule1
by_rule1 s port frame none =
    record {
      accepted = none;
      steps = λ out long. record {
        told = accepted_answer (sym (none (length out) long)) refl _;
        switch = accepted_leaves (sym (none (length out) long)) refl _ _;
        filter = accepted_leaves (sym (none (length out) long)) refl _ _;
        output = accepted_leaves (sym (none (length out) long)) refl _ _;
      };
    }

module _ (s : Seat) (port source destination : ℕ) (formed : Formed s) (live : names s.switch.setup.live port ≡ true) (from : Source source) (to : destination < 2 ^ 48) where
  on_a_port : port < s.switch.setup.ports
  on_a_port = names_below s.switch.setup.ports s.switch.setup.live port formed.live_ports live

  tested : is_source source ≡ true
  tested = (source_iff source).1 from

  -- on a host port
  module _ (role : on_host_port s.switch.setup port ≡ true) where
    host_accepted : (room : ℕ) → 66 ≤ room → refusal s.switch s.cells port (host_frame source destination) room ≡ 0
    unfolding refusal_but1
    host_accepted room enough =
        without_1 formed port (host_frame source destination) room
        ∙ rw (lt-leb _ _ on_a_port, live, role, host_long source destination, host_source source destination from to, tested, host_type source destination, le-ltb room 66 enough)

    host_rule1 : rule1 s.switch.setup s.switch.nonce s.switch.table port (host_frame source destination) ≡ from_host s port source destination
    unfolding rule1 from_host
    host_rule1 = rw (role, host_source source destination from to, host_destination source destination from to)

    host_steps : IsTheStep s port (host_frame source destination) (step_of s (from_host s port source destination))
    host_steps =
        subst (λ a. IsTheStep s port (host_frame source destination) (step_of s a)) host_rule1
        (by_rule1 s port (host_frame source destination) host_accepted)

  -- on a switch port
  module _ (role : on_host_port s.switch.setup port ≡ false) (h : Header) (some : 1 ≤ h.hc) (low : h.hc ≤ 63) (below : h.nonce < 2 ^ 24) where
    header_back : header_in (link_frame source destination h) ≡ h
    header_back = link_header source destination h low below

    link_accepted : (room : ℕ) → 66 ≤ room → refusal s.switch s.cells port (link_frame source destination h) room ≡ 0
    unfolding refusal_but1
    link_accepted room enough =
        let hops : eqb h.hc 0 ≡ false = ne_eqb h.hc 0 (λ z. omega arith) in
        without_1 formed port (link_frame source destination h) room
        ∙ rw (
          lt-leb _ _ on_a_port,
          live,
          role,
          link_long source destination h,
          link_source source destination from to h,
          tested,
          link_type source destination h,
          link_old_type source destination h,
          header_back,
          hops,
          le-ltb room 66 enough,
        )

    link_rule1 : rule1 s.switch.setup s.switch.nonce s.switch.table port (link_frame source destination h) ≡ from_link port source destination h
    unfolding rule1 from_link
    link_rule1 = rw (role, link_source source destination from to h, link_destination source destination from to h, header_back)

    link_steps : IsTheStep s port (link_frame source destination h) (step_of s (from_link port source destination h))
    link_steps =
        subst (λ a. IsTheStep s port (link_frame source destination h) (step_of s a)) link_rule1
        (by_rule1 s port (link_frame source destination h) link_accepted)

pub host_step_is_the_step : HostStepIsTheStep
unfolding HostStepIsTheStep
host_step_is_the_step s port source destination formed live role from to = host_steps s port source destination formed live from to role

pub link_step_is_the_step : LinkStepIsTheStep
unfolding LinkStepIsTheStep
link_step_is_the_step s port source destination h formed live role from to some low below = link_steps s port source destination formed live from to role h some low below

-- ---- What goes out

pub goes_out_alike : GoesOutAlike
unfolding GoesOutAlike link_frame
goes_out_alike true source destination g h = refl
goes_out_alike false source destination g h = ap (λ l. tagged l h) (strips (host_frame source destination) g (rw (host_long source destination) (omega arith)))

pub is_delivered : IsDelivered
unfolding IsDelivered link_frame
is_delivered source destination h = strips (host_frame source destination) h (rw (host_long source destination) (omega arith))
