use Rattle.std.proofs.Common.{◌≤◌, ◌<◌, ◌*◌, ◌==◌, ◌∷◌, ℕ}
use Rattle.std.specs.Prelude.{count_by}
use Rattle.bihash_words.specs.Pages.{page_of, paging_of}
use Rattle.bihash_plan.specs.Plans.{keys_of}
use Rattle.bihash_plan.proofs.block_fit.fits.Given as goal

-- no page of the windows so far is named by more than four keys
abbrev pub invariant-loop-window : goal.invariant-loop-window
invariant-loop-window g l = (page : ℕ) → page < l.window * 64
    → count_by (λ k. page_of (paging_of g.S.Shape) l.log2 k == page) (l.key ∷ keys_of l.places) ≤ 4
