use Rattle.std.proofs.Common.{◌≡◌, ◌<◌, ℕ, List, length, get_or, sym, ap, ◌∙◌}
use Rattle.std.proofs.lemmas.Bool.{eq-eqb, eqb-true}
use Rattle.std.proofs.lemmas.Option.{get_or_from_slice_get, slice_get-get_or}
use Rattle.bihash_words.specs.Pages.{Paging, page_of}
use Rattle.bihash_plan.specs.Blocks.{NamesPage}
use Rattle.bihash_plan.proofs.block_fit.names_page_in_fit.Goals as goal

named : {K : Type 0} (paging : Paging K) (log2 page : ℕ) (places : List (K × ℕ)) (i : ℕ) (d : K × ℕ)
    → i < length places → page_of paging log2 (get_or places i d).0 ≡ page
    → NamesPage paging log2 page places i
named paging log2 page places i d inside same = record {
  key = (get_or places i d).0;
  value = (get_or places i d).1;
  at = slice_get-get_or places i d inside;
  named = same;
}

page_is : {K : Type 0} (paging : Paging K) (log2 page : ℕ) (places : List (K × ℕ)) (i : ℕ) (d : K × ℕ)
    → NamesPage paging log2 page places i → page_of paging log2 (get_or places i d).0 ≡ page
page_is paging log2 page places i d h = ap (λ place. page_of paging log2 place.0)
    (get_or_from_slice_get places i _ d h.at) ∙ h.named

pub returns : goal.returns
returns g c = (
  λ yes. named _ _ _ _ _ _ c.requires.place.inside (sym c.page.ensures ∙ eqb-true _ _ yes),
  λ h. eq-eqb _ _ (c.page.ensures ∙ page_is _ _ _ _ _ _ h),
)
