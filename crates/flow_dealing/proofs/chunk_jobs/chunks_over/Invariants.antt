use Rattle.std.proofs.Common.{◌≡◌, map, Ok}
use Rattle.flow_dealing.specs.declared.chunk.Chunk.TheVariants.{Over}
use Rattle.flow_dealing.proofs.chunk_jobs.chunks_over.Given as goal

abbrev pub invariant-loop-chunk : goal.invariant-loop-chunk
invariant-loop-chunk g l = l.yielded ≡ map (λ chunk. Over (Ok chunk)) l.all.items
