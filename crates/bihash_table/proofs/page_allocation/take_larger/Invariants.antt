-- No block of a smaller size above the one that is wanted was returned.
use Rattle.std.proofs.Common.{◌≡◌, ◌<◌, ℕ, []}
use Rattle.bihash_words.specs.Sizes.{sizes_of}
use Rattle.bihash_rule.specs.PageStores.{returned_in}
use Rattle.bihash_rule.specs.declared.view.LockedStore.{LockedStore}
use Rattle.bihash_table.specs.inner.Copying.{HasStore}
use Rattle.bihash_table.proofs.page_allocation.take_larger.Given as goal

abbrev pub invariant-loop-larger : goal.invariant-loop-larger
invariant-loop-larger g l = record {
  same : l.seat ≡ l.initial.seat;
  none : (n : LockedStore) → HasStore (sizes_of g.S.Shape) l.initial.seat.view n → (size : ℕ) → l.log2 < size → size < l.larger
      → returned_in n.store size ≡ [];
}
