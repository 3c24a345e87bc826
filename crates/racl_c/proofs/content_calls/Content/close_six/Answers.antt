-- The pairs that the closed table had are listed.
use Rattle.std.proofs.Common.{rules, ◌≡◌, ℕ, List, Result, IfOk, subst}
use Rattle.std.specs.Global.{Vec}
use Rattle.packet_view.specs.declared.tuple.Family.TheVariants.{V6}
use Rattle.bihash_words.specs.contracts.flow_shapes.ShapeV4Shape.TheImpl as four
use Rattle.bihash_words.specs.contracts.flow_shapes.ShapeV6Shape.TheImpl as six
use Rattle.bihash_words.specs.contracts.large_flow_shapes.LargeV4Shape.TheImpl as large_four
use Rattle.bihash_words.specs.contracts.large_flow_shapes.LargeV6Shape.TheImpl as large_six
use Rattle.session_state.specs.declared.timeouts.Timeouts.{Timeouts}
use Rattle.flow_judge.specs.declared.end_fault.EndFault.{EndFault}
use Rattle.flow_judge.specs.Closings.{IsClosedSix}
use Rattle.racl_c.specs.Closings.{ListsSix}
use Rattle.racl_c.specs.declared.content_calls.Content.TheVariants.{Large, Standard}
use Rattle.racl_c.proofs.ClosingLemmas.{large_closed, standard_closed}
use Rattle.racl_c.proofs.content_calls.Content.close_six.Goals as goal

pub returns-in-Ok : goal.returns-in-Ok
returns-in-Ok c =
    let is : c.args.self.now ≡ Standard c.in-Standard.judge = search rules in
    let closed = subst (λ (r : Result (Vec (List ℕ × ℕ)) EndFault). IfOk r
    (λ ps. IsClosedSix six.ghosts c.in-Standard.judge ps.items c.close_six-closed.result.1)) c.in-Ok.is c.close_six-closed.ensures.closed in
    let listed = subst (λ (times : Timeouts). ListsSix times c.in-Ok.pairs.items c.list_six.new.list) c.times-times.ensures
    c.list_six.ensures.listed in
    standard_closed four.ghosts six.ghosts large_four.ghosts large_six.ghosts V6 c.args.self.now c.args.list.now c.list_six.new.list
    c.in-Standard.judge c.close_six-closed.result.1 c.list_six.result is (_, listed, closed) c.list_six.ensures.done

pub returns-in-Ok-closed : goal.returns-in-Ok-closed
returns-in-Ok-closed c =
    let is : c.args.self.now ≡ Large c.in-Large.judge = search rules in
    let closed = subst (λ (r : Result (Vec (List ℕ × ℕ)) EndFault). IfOk r
    (λ ps. IsClosedSix large_six.ghosts c.in-Large.judge ps.items c.close_six-closed-in-Large.result.1)) c.in-Ok-closed.is c.close_six-closed-in-Large.ensures.closed in
    let listed = subst (λ (times : Timeouts). ListsSix times c.in-Ok-closed.pairs.items c.list_six-in-Ok-closed.new.list) c.times-times-in-Large.ensures
    c.list_six-in-Ok-closed.ensures.listed in
    large_closed four.ghosts six.ghosts large_four.ghosts large_six.ghosts V6 c.args.self.now c.args.list.now c.list_six-in-Ok-closed.new.list
    c.in-Large.judge c.close_six-closed-in-Large.result.1 c.list_six-in-Ok-closed.result is (_, listed, closed) c.list_six-in-Ok-closed.ensures.done
