use Rattle.std.proofs.Common.{◌≡◌}
use Rattle.bihash_words.specs.Sizes.{sizes_of}
use Rattle.bihash_rule.specs.Words.{lists_words}
use Rattle.bihash_steps.proofs.row_layout.lists_words.Given as goal

abbrev pub invariant-loop-smaller : goal.invariant-loop-smaller
invariant-loop-smaller g l = l.words ≡ lists_words (sizes_of g.S.Shape) l.smaller
