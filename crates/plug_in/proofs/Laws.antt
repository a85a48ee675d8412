-- Demand 3: the term of `FirstPlugIn`.
use mathlib.Core.Path.{sym, subst}
use mathlib.Core.List.{[], ◌∷◌}
use Rattle.network.specs.declared.Network.{Network}
use Rattle.turn.specs.Turn.{host_of}
use Rattle.counters.specs.History.{after, history_of, run_of}
use Rattle.plug_in.specs.Demand.{FirstPlugIn, PluggedIn, frame_of, sends}
use Rattle.plug_in.specs.Words.{LimitsReach, address_of_host, home_of}
use Rattle.plug_in.proofs.Claims.{claims, flows_from}
use Rattle.plug_in.proofs.Run.{at_own, flows, happened}

-- at every moment of every run that the order provides for, its claims hold
pub first_plug_in : FirstPlugIn
unfolding address_of_host home_of frame_of run_of history_of
first_plug_in s A to es starts room provided =
    let run = flows (after s (sends A to)) (happened s (sends A to) ∷ []) es (flows_from s A to starts room) provided in
    subst (λ (n : Network). PluggedIn A (host_of s.bench.network A).address (host_of n A).port.switch (run_of (after s (sends A to)) es) (happened s (sends A to) ∷ history_of (after s (sends A to)) es)) run.network
    (claims (at_own run) (subst LimitsReach (sym run.network) starts.limits))
