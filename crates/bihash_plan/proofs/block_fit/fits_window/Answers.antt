use Rattle.std.proofs.Common.{ℕ, [], ◌∷◌, Bool, true, false, List, refl}
use Rattle.std.specs.Bool.{OnTrue, OnFalse}
use Rattle.std.proofs.lemmas.Bool.{false≢true}
use Rattle.bihash_words.specs.Pages.{Paging}
use Rattle.bihash_plan.specs.inner.Tallies.{FitsWindow, IsTally}
use Rattle.bihash_plan.proofs.TallyLemmas.{one_fits, tally_all, tally_more, tally_none, window_full}
use Rattle.bihash_plan.proofs.block_fit.fits_window.Goals as goal

-- the count of the new key alone is not refused
counted_first : {K : Type 0} (paging : Paging K) (log2 first : ℕ) (key : K) (counts : List ℕ) (b : Bool)
    → OnTrue b (IsTally paging log2 first (key ∷ []) counts)
    → OnFalse b (FitsWindow paging log2 first (key ∷ []) → ⊥) → IsTally paging log2 first (key ∷ []) counts
counted_first paging log2 first key counts true tally _ = tally
counted_first paging log2 first key counts false _ refused = absurd (refused (one_fits paging log2 first key))

pub loop-other-init : goal.loop-other-init
loop-other-init g c =
    counted_first _ _ _ _ _ _ (c.count.ensures.counted [] (tally_none _ _ _))
    (c.count.ensures.refused [] (tally_none _ _ _))

pub returns-then-not-count : goal.returns-then-not-count
returns-then-not-count g c = (
  λ yes. absurd (false≢true yes),
  λ fits. absurd
      (window_full _ _ _ c.loop-other-test.true c.loop-other-item.is c.if-value.false
      (c.if-not-count.ensures.refused _ c.loop-other.invariant) fits),
)

pub loop-other-preserved : goal.loop-other-preserved
loop-other-preserved g c = tally_more _ _ _ c.loop-other-test.true c.loop-other-item.is c.if-value.false
    (c.if-not-count.ensures.counted _ c.loop-other.invariant)

pub returns : goal.returns
returns g c = (λ yes. tally_all _ _ c.loop-other-test.false c.loop-other.invariant, λ fits. refl)
