use Rattle.std.proofs.Common.{◌≡◌, ◌∙◌, ◌+◌, arith, length, refl}
use Rattle.packet_view.specs.Captures.{packet_facts}
use Rattle.packet_view.specs.CheckedCaptures.{remaining}
use Rattle.packet_view.proofs.BurstLemmas.{left_behind}
use Rattle.flow_dealing.proofs.DealtLists.{none_left, stands_at}
use Rattle.flow_workers.specs.inner.Jobs.{dealer_of}
use Rattle.flow_workers.proofs.DealtLemmas.{worked_on, worked_to}
use Rattle.flow_workers.proofs.TogetherLemmas.{only_dealt}
use Rattle.flow_workers.proofs.WorkSteps.{taken_inside}
use Rattle.flow_workers.proofs.judge_in_one_thread.judge_by_one.Goals as goal

pub age_where_due-requires : goal.age_where_due-requires
age_where_due-requires g c =
    let batch = c.args.batch.now in
    let taken = c.packets.invariant.left ∙ c.in-Some.ensures in
    record {
      shapes = c.requires.shapes;
      few = let alone = c.requires.alone in omega arith;
      idle = c.packets.invariant.worked.idle;
      packet = packet_facts c.in-Some.packet;
      there = stands_at _ _ c.packets.taken _ taken;
      timed = refl;
    }

pub judge_packet-requires : goal.judge_packet-requires
judge_packet-requires g c =
    let batch = c.args.batch.now in
    let taken = c.packets.invariant.left ∙ c.in-Some.ensures in
    record {
      shapes = c.requires.shapes;
      few = let alone = c.requires.alone in omega arith;
      idle = c.age_where_due.ensures.idle;
      fits = c.requires.fits;
      there = stands_at _ _ c.packets.taken _ taken;
      mine = only_dealt g.A.Shape g.B.Shape (dealer_of batch.setup) (batch.first + c.packets.taken) (packet_facts c.in-Some.packet) c.requires.alone;
    }

pub packets-preserved : goal.packets-preserved
packets-preserved g c =
    let batch = c.args.batch.now in
    let taken = c.packets.invariant.left ∙ c.in-Some.ensures in
    let inside = taken_inside (remaining batch.packets) _ c.packets.taken _ taken in
    record {
      left = left_behind _ _ c.packets.taken _ taken;
      inside = omega arith;
      worked = worked_on g.A.Shape g.B.Shape batch 0 0 c.packets.taken _ _ _ _ c.packets.invariant.worked
          (worked_on g.A.Shape g.B.Shape batch 0 c.packets.taken c.packets.taken _ _ _ _ c.age_where_due.ensures c.in_ok-judge_packet.ensures);
    }

pub returns : goal.returns
returns g c =
    let batch = c.args.batch.now in
    let none = none_left (remaining batch.packets) c.packets.taken (c.packets.invariant.left ∙ c.in_default.ensures.0) in
    let inside = c.packets.invariant.inside in
    let all : c.packets.taken ≡ length (remaining batch.packets) = omega arith in
    worked_to g.A.Shape g.B.Shape batch 0 0 c.packets.taken _ _ _ all c.packets.invariant.worked
