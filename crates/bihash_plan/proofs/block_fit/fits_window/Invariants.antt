use Rattle.std.proofs.Common.{◌∷◌, take}
use Rattle.bihash_words.specs.Pages.{paging_of}
use Rattle.bihash_plan.specs.Plans.{keys_of}
use Rattle.bihash_plan.specs.inner.Tallies.{IsTally}
use Rattle.bihash_plan.proofs.block_fit.fits_window.Given as goal

-- the new key and those of the places so far are counted
abbrev pub invariant-loop-other : goal.invariant-loop-other
invariant-loop-other g l = IsTally (paging_of g.S.Shape) l.log2 l.first
    (l.key ∷ keys_of (take l.other-index l.places)) l.counts
