use Rattle.bihash_plan.proofs.TallyLemmas.{tally_full}
use Rattle.bihash_plan.proofs.block_fit.count.Goals as goal

pub returns-then-counts-page-ge-PAGE_PLACES : goal.returns-then-counts-page-ge-PAGE_PLACES
returns-then-counts-page-ge-PAGE_PLACES g c = record {
  counted = λ keys tally. tt;
  refused = λ keys tally fits.
      tally_full _ _ tally c.page-page.ensures c.if-page-first.false c.if-page-first-ge-WINDOW.false c.if-counts-page-ge-PAGE_PLACES.true fits;
}
