use Rattle.std.proofs.Common.{[], ◌≡◌, ◌∙◌, arith, length, subst, sym}
use Rattle.packet_view.specs.Captures.{packet_facts}
use Rattle.packet_view.specs.CheckedCaptures.{remaining}
use Rattle.packet_view.proofs.BurstLemmas.{left_behind}
use Rattle.flow_dealing.proofs.DealtLists.{none_left, stands_at}
use Rattle.flow_workers.specs.inner.Jobs.{dealer_of}
use Rattle.flow_workers.specs.inner.Together.{HaveNotedSome}
use Rattle.flow_workers.proofs.TogetherLemmas.{all_worked_on, all_worked_to, idle_after, none_noted, none_worked, noted_push}
use Rattle.flow_workers.proofs.WorkSteps.{taken_inside}
use Rattle.flow_workers.proofs.judge_in_one_thread.judge_by_turns.Goals as goal

pub packets-init : goal.packets-init
packets-init g c =
    let batch = c.args.batch.now in
    record {
      left = sym c.new-packets.ensures;
      inside = omega arith;
      worked = none_worked g.A.Shape g.B.Shape batch c.args.shares.now.items c.requires.idle;
      noted = rw (c.in_ok-reserve.ensures.items ∙ c.new-judges.ensures.items)
          (none_noted g.A.Shape g.B.Shape (dealer_of batch.setup) batch.first (remaining batch.packets) []);
    }

pub judge_next-requires : goal.judge_next-requires
judge_next-requires g c =
    let taken = c.packets.invariant.left ∙ c.in-Some.ensures in
    record {
      shapes = c.requires.shapes;
      some = c.requires.some;
      count = c.packets.invariant.worked.count ∙ c.requires.count;
      idle = idle_after g.A.Shape g.B.Shape c.args.batch.now 0 c.packets.taken _ _ c.packets.invariant.worked;
      fits = c.requires.fits;
      there = stands_at _ _ c.packets.taken _ taken;
    }

pub packets-preserved : goal.packets-preserved
packets-preserved g c =
    let batch = c.args.batch.now in
    let taken = c.packets.invariant.left ∙ c.in-Some.ensures in
    let inside = taken_inside (remaining batch.packets) _ c.packets.taken _ taken in
    record {
      left = left_behind _ _ c.packets.taken _ taken;
      inside = omega arith;
      worked = all_worked_on g.A.Shape g.B.Shape batch 0 c.packets.taken _ _ _ _ c.packets.invariant.worked
          c.in_ok-worker.ensures.worked;
      noted = noted_push g.A.Shape g.B.Shape (dealer_of batch.setup) batch.first (remaining batch.packets) c.packets.taken
          c.in_ok-worker.worker (packet_facts c.in-Some.packet) _ _ _ c.packets.invariant.noted
          (stands_at _ _ c.packets.taken _ taken) c.in_ok-worker.ensures.dealt c.in_ok-push.ensures.items;
    }

pub returns : goal.returns
returns g c =
    let batch = c.args.batch.now in
    let none = none_left (remaining batch.packets) c.packets.taken (c.packets.invariant.left ∙ c.in_default.ensures.0) in
    let inside = c.packets.invariant.inside in
    let all : c.packets.taken ≡ length (remaining batch.packets) = omega arith in
    record {
      worked = all_worked_to g.A.Shape g.B.Shape batch 0 c.packets.taken _ _ _ all c.packets.invariant.worked;
      noted = subst (λ n. HaveNotedSome g.A.Shape g.B.Shape (dealer_of batch.setup) batch.first (remaining batch.packets) n
          [] c.packets.judges.items) all c.packets.invariant.noted;
    }
