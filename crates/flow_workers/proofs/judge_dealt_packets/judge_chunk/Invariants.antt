use Rattle.std.proofs.Common.{drop}
use Rattle.flow_workers.proofs.OwnLemmas.{HasLeft}
use Rattle.flow_workers.proofs.judge_dealt_packets.judge_chunk.Given as goal

abbrev pub invariant-loop-dealt : goal.invariant-loop-dealt
invariant-loop-dealt g l =
    HasLeft g.A.Shape g.B.Shape l.batch l.worker l.first l.chunk (drop l.dealt-index l.own) l.fn.share l.share
