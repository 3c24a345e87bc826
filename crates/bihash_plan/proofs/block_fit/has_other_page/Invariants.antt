use Rattle.std.proofs.Common.{◌≤◌, ◌<◌, ℕ}
use Rattle.bihash_words.specs.Pages.{page_of, paging_of}
use Rattle.bihash_plan.specs.Blocks.{NamesPage}
use Rattle.bihash_plan.proofs.block_fit.has_other_page.Given as goal

-- each key so far names the key's page
abbrev pub invariant-loop-i : goal.invariant-loop-i
invariant-loop-i g l = (i : ℕ) → l.from ≤ i → i < l.i
    → NamesPage (paging_of g.S.Shape) l.log2 (page_of (paging_of g.S.Shape) l.log2 l.key) l.places i
