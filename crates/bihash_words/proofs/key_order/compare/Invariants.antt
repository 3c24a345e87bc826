-- The words so far are the same, and of either key there are as many as the shape says.
use Rattle.std.proofs.Common.{◌≡◌, ◌<◌, ℕ, slice_index, length}
use Rattle.bihash_words.proofs.key_order.compare.Given as goal

abbrev pub invariant-loop-i : goal.invariant-loop-i
invariant-loop-i g l = record {
  same : (k : ℕ) → k < l.i → slice_index (g.S.Shape.words_of l.a) k ≡ slice_index (g.S.Shape.words_of l.b) k;
  counted : 0 < l.i
      → (length (g.S.Shape.words_of l.a) ≡ g.S.Shape.WORDS) × (length (g.S.Shape.words_of l.b) ≡ g.S.Shape.WORDS);
}
