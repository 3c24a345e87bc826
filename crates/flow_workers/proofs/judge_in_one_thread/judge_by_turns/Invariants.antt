use Rattle.std.proofs.Common.{◌≡◌, ◌≤◌, [], drop, length}
use Rattle.packet_view.specs.CheckedCaptures.{remaining}
use Rattle.flow_workers.specs.inner.Jobs.{dealer_of}
use Rattle.flow_workers.specs.inner.Together.{HaveNotedSome}
use Rattle.flow_workers.specs.inner.Turns.{HaveWorkedOn}
use Rattle.flow_workers.proofs.judge_in_one_thread.judge_by_turns.Given as goal

abbrev pub invariant-packets : goal.invariant-packets
invariant-packets g l = record {
  left : drop l.taken (remaining l.batch.packets) ≡ l.packets.left;
  inside : l.taken ≤ length (remaining l.batch.packets);
  worked : HaveWorkedOn {ga = g.A.Shape} {gb = g.B.Shape} l.batch 0 l.taken l.fn.shares.items l.shares.items;
  noted : HaveNotedSome g.A.Shape g.B.Shape (dealer_of l.batch.setup) l.batch.first (remaining l.batch.packets) l.taken
      [] l.judges.items;
}

abbrev pub decreases-packets : goal.decreases-packets
decreases-packets g l = length l.packets.left
