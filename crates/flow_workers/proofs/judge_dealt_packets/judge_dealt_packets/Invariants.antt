use Rattle.std.proofs.Common.{◌≤◌, drop, length}
use Rattle.packet_view.specs.CheckedCaptures.{remaining}
use Rattle.flow_workers.specs.inner.Jobs.{AreDealtFrom, HasWorkedOn}
use Rattle.flow_workers.proofs.judge_dealt_packets.judge_dealt_packets.Given as goal

abbrev pub invariant-loop-chunk : goal.invariant-loop-chunk
invariant-loop-chunk g l = record {
  left : AreDealtFrom g.A.Shape g.B.Shape l.fn.job.batch l.first (drop l.chunk-index l.fn.job.dealt.chunks.now.items);
  inside : l.first ≤ length (remaining l.fn.job.batch.packets);
  worked : HasWorkedOn g.A.Shape g.B.Shape l.fn.job.batch l.fn.job.worker 0 l.first l.fn.job.share l.share;
}
