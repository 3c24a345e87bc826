use Rattle.std.proofs.Common.{◌∙◌, arith, sym}
use Rattle.packet_view.specs.CheckedCaptures.{remaining}
use Rattle.packet_view.proofs.BurstLemmas.{none_behind, one_less}
use Rattle.packet_view.proofs.packets.Packets.behind.Goals as goal

pub loop-at-preserved : goal.loop-at-preserved
loop-at-preserved c =
    one_less (remaining c.args.self) _ _ c.loop-at._at c.next.result c.loop-at.invariant c.next.ensures

pub returns-in_default : goal.returns-in_default
returns-in_default c =
    let before = c.loop-at-test.true in
    c.in_default.ensures.1
    ∙ sym (none_behind (remaining c.args.self) c.loop-at._at c.args.count (sym c.loop-at.invariant ∙ c.in_default.ensures.0) (omega arith))
