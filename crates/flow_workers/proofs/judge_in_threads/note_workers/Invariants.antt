use Rattle.std.proofs.Common.{◌≡◌, ◌++◌, drop}
use Rattle.flow_workers.specs.inner.Shares.{workers_in}
use Rattle.flow_workers.proofs.judge_in_threads.note_workers.Given as goal

abbrev pub invariant-loop-chunk : goal.invariant-loop-chunk
invariant-loop-chunk l =
    l.judges.items ++ workers_in (drop l.chunk-index l.dealt) ≡ workers_in l.dealt
