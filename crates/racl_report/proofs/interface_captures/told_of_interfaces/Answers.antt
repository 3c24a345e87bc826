use Rattle.std.proofs.Common.{◌+◌, ◌∷◌, List, ℕ, inr, subst, sym, arith}
use Rattle.std.proofs.lemmas.List.{drop_all}
use Rattle.racl_io.specs.declared.totals_and_truncation.Captured.{Captured}
use Rattle.racl_report.specs.InterfaceInputs.{IsOwnFault, IsTakenApart}
use Rattle.racl_report.proofs.InterfaceLaws.{IsAmidApart, all_taken, amid_more, captures_from, fault_there}
use Rattle.racl_report.proofs.interface_captures.told_of_interfaces.Goals as goal

pub returns-in-Err-clause-fault : goal.returns-in-Err-clause-fault
returns-in-Err-clause-fault c =
    let there = captures_from c.args.captures.now c.captures-2.place c.index-captures-place.result c.captures-test.true c.index-captures-place.is in
    inr (fault_there c.args.captures.now c.captures-2.place c.captures-2.seen.items c.captures-2.told.items c.index-captures-place.result c.in-Err.fault c.captures-2.invariant there
    (subst (λ (seen : List ℕ). IsOwnFault seen c.index-captures-place.result c.in-Err.fault) c.deref.ensures.value c.in-Err.ensures.fault))

pub captures-preserved : goal.captures-preserved
captures-preserved c =
    let captures = c.args.captures.now in
    let place = c.captures-2.place in
    let seen = c.captures-2.seen.items in
    let told = c.captures-2.told.items in
    let capture = c.index-captures-place.result in
    let there = captures_from captures place capture c.captures-test.true c.index-captures-place.is in
    let (mine, taken) = c.in-Ok.ensures.ok in
    let next = amid_more captures place seen told capture mine c.in-Ok.captured c.captures-2.invariant there
    (subst (λ (s : List ℕ). IsTakenApart s capture mine c.in-Ok.captured) c.deref.ensures.value taken) in
    subst (λ (s : List ℕ). IsAmidApart captures (place + 1) s c.push.new.self.items) (sym c.in-Ok-Ok.ensures'.items)
    (subst (λ (t : List Captured). IsAmidApart captures (place + 1) (capture.interface ∷ seen) t) (sym c.in-Ok-Ok.ensures.items) next)

pub returns-clause-ok : goal.returns-clause-ok
returns-clause-ok c =
    all_taken c.args.captures.now c.captures-2.place c.captures-2.seen.items c.captures-2.told.items c.captures-2.invariant
    (drop_all c.captures-2.place c.args.captures.now (omega (arith, c.captures-test.false)))
