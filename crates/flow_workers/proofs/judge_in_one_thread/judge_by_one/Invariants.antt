use Rattle.std.proofs.Common.{◌≡◌, ◌≤◌, drop, length}
use Rattle.packet_view.specs.CheckedCaptures.{remaining}
use Rattle.flow_workers.specs.inner.Jobs.{HasWorkedOn}
use Rattle.flow_workers.proofs.judge_in_one_thread.judge_by_one.Given as goal

abbrev pub invariant-packets : goal.invariant-packets
invariant-packets g l = record {
  left : drop l.taken (remaining l.batch.packets) ≡ l.packets.left;
  inside : l.taken ≤ length (remaining l.batch.packets);
  worked : HasWorkedOn g.A.Shape g.B.Shape l.batch 0 0 l.taken l.fn.share l.share;
}

abbrev pub decreases-packets : goal.decreases-packets
decreases-packets g l = length l.packets.left
