use Rattle.std.proofs.Common.{◌≡◌, ◌+◌, drop, length}
use Rattle.packet_view.specs.CheckedCaptures.{remaining}
use Rattle.flow_dealing.specs.Dealt.{IsDealtChunk}
use Rattle.flow_dealing.proofs.chunk_dealing.deal_chunk.Given as goal

abbrev pub invariant-loop-at : goal.invariant-loop-at
invariant-loop-at g l = record {
  count : l.fn.job.first + length l.chunk.workers.items ≡ l.at;
  left : drop l.at (remaining l.fn.job.packets) ≡ l.packets.left;
  dealt : IsDealtChunk g.A.Shape g.B.Shape l.fn.job.dealer (l.fn.job.number + l.fn.job.first) l.chunk
      (drop l.fn.job.first (remaining l.fn.job.packets));
}
