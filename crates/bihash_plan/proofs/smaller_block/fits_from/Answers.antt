use Rattle.std.proofs.Common.{◌+◌, ◌-◌, ◌↔◌, List, IsTrue, length, arith, subst}
use Rattle.bihash_words.specs.Pages.{paging_of}
use Rattle.bihash_plan.specs.Plans.{Fits}
use Rattle.bihash_plan.proofs.FirstPairs.{first_keys, slice_to_end}
use Rattle.bihash_plan.proofs.smaller_block.fits_from.Goals as goal

pub returns : goal.returns
returns g c = let h = c.requires.first in let inside = h.inside in
    subst (λ (keys : List _). IsTrue c.fits.result ↔ Fits (paging_of g.S.Shape) c.args.log2 keys)
    (first_keys c.args.places.now c.args.first c.index-places-first.result.0 c.index-places-first.result.1 _ h c.index-places-first.is
    (slice_to_end c.args.places.now (c.args.first + 1) (length c.args.places.now - (c.args.first + 1)) (omega arith))) c.fits.ensures
