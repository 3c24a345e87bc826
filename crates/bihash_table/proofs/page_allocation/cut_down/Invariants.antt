-- The block was cut down to this size so far.
use Rattle.std.proofs.Common.{◌≤◌}
use Rattle.bihash_words.specs.Sizes.{sizes_of}
use Rattle.bihash_table.specs.inner.Taking.{TellsCutDown}
use Rattle.bihash_table.proofs.page_allocation.cut_down.Given as goal

abbrev pub invariant-halves : goal.invariant-halves
invariant-halves g l = record {
  cut : TellsCutDown (sizes_of g.S.Shape) l.initial.seat l.seat l.page l.from l.size;
  low : l.log2 ≤ l.size;
  high : l.size ≤ l.from;
}

abbrev pub decreases-halves : goal.decreases-halves
decreases-halves g l = l.size
