-- A step takes the first of its causes, and each cause is a test that says what its words say.
use Prim.Native.Nat.{◌+◌, ◌^◌}
use mathlib.Core.Path.{◌≡◌, refl}
use mathlib.Core.Bool.{Bool, true, false, cond, not, ◌&&◌, false≢true}
use mathlib.Core.Logic.{◌↔◌}
use lib.ListN.{length}
use Rattle.refusal.proofs.Laws.{for_its_cause_only}
use Rattle.refusal.proofs.Words.{at_most, beyond, both, equal, is_not, less}
use Rattle.wire.proofs.Laws.{source_iff}
use Rattle.frame.specs.Frame.{our_type, type_of, old_type_of, header_in, source_of}
use Rattle.table.proofs.Laws as table_laws
use Rattle.filter.proofs.Laws as filter_laws
use Rattle.rules.specs.Rules.{on_host_port}
use Rattle.head.specs.Step.{refusal}
use Rattle.head.specs.Causes.{ByRole, StepCausesInWords, StepsForItsCauseOnly, step_causes}

pub steps_for_its_cause_only : StepsForItsCauseOnly
unfolding refusal
steps_for_its_cause_only s f port frame room = for_its_cause_only (step_causes s f port frame room)

-- a test for each role, and one that is asked on switch ports only
by_role : (host : Bool) {a b : Bool} {A B : Type 0} → (a ≡ true) ↔ A → (b ≡ true) ↔ B → (cond host a b ≡ true) ↔ ByRole host A B
by_role true p q = p
by_role false p q = q

on_link_lem : (host : Bool) {b : Bool} {B : Type 0} → (b ≡ true) ↔ B → ((not host && b) ≡ true) ↔ ByRole host ⊥ B
on_link_lem true q = (λ e. false≢true e, λ x. absurd x)
on_link_lem false q = q

pub step_causes_in_words : StepCausesInWords
step_causes_in_words s f port frame room sized = (
  refl,
  beyond 1 16 s.setup.ports,
  (
    refl,
    at_most (2 ^ s.setup.ports) s.setup.live,
    (
      refl,
      at_most (2 ^ s.setup.ports) s.setup.host,
      (
        refl,
        beyond 1 62 s.setup.limit,
        (
          refl,
          at_most (2 ^ 24) s.nonce,
          (
            refl,
            is_not (table_laws.test_iff s.setup.ports sized),
            (
              refl,
              is_not (filter_laws.test_sound f, filter_laws.test_complete f),
              (
                refl,
                at_most s.setup.ports port,
                (
                  refl,
                  is_not (λ e. e, λ e. e),
                  (
                    refl,
                    by_role (on_host_port s.setup port) (beyond 60 1514 (length frame)) (beyond 66 1520 (length frame)),
                    (
                      refl,
                      is_not (source_iff (source_of frame)),
                      (
                        refl,
                        by_role (on_host_port s.setup port) (equal (type_of frame) our_type) (both (equal (type_of frame) our_type) (equal (old_type_of frame) our_type)),
                        (
                          refl,
                          on_link_lem (on_host_port s.setup port) (is_not (equal (type_of frame) our_type)),
                          (
                            refl,
                            on_link_lem (on_host_port s.setup port) (equal (header_in frame).hc 0),
                            (refl, by_role (on_host_port s.setup port) (less room (length frame + 6)) (less room (length frame)), tt),
                          ),
                        ),
                      ),
                    ),
                  ),
                ),
              ),
            ),
          ),
        ),
      ),
    ),
  ),
)
