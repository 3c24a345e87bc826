use Rattle.std.proofs.Common.{◌≡◌, ◌≤◌, ◌<◌, ◌*◌, ◌/◌, ◌^◌, ◌↔◌, ℕ, Bool, true, false, List, ◌∷◌, IsTrue, length, refl, arith}
use Rattle.std.specs.Bool.{OnTrue, OnFalse}
use Rattle.std.proofs.lemmas.Bool.{false≢true, true≢false}
use Rattle.bihash_words.specs.Pages.{Paging, page_of}
use Rattle.bihash_plan.specs.Blocks.{IsCrowded, IsLawfulBlock, NamesPage}
use Rattle.bihash_plan.specs.Plans.{HasRoom, keys_of}
use Rattle.bihash_plan.proofs.OpenPlaces.{AreOpen}
use Rattle.bihash_plan.proofs.Places.{block_sized}
use Rattle.bihash_plan.proofs.Room.{fits_beside, overflows}
use Rattle.bihash_plan.proofs.block_fit.has_room.Goals as goal

-- what the keys of a full page say of a larger block
page_room : {K : Type 0} (paging : Paging K) (log2 size : ℕ) (linear : Bool) (places : List (K × ℕ))
    (key : K) (from to : ℕ) (r : Bool)
    → linear ≡ false → size ≤ paging.max_log2 → to ≤ length places
    → AreOpen linear (page_of paging log2 key) (length places) from to
    → OnTrue r
    ((i : ℕ) × (from ≤ i) × (i < to) × (NamesPage paging size (page_of paging size key) places i → ⊥))
    → OnFalse r ((i : ℕ) → from ≤ i → i < to → NamesPage paging size (page_of paging size key) places i)
    → IsLawfulBlock paging log2 linear places → IsCrowded linear (page_of paging log2 key) places
    → 0 < length places → log2 ≤ size → IsTrue r ↔ HasRoom paging (key ∷ keys_of places) size
page_room paging log2 size true places key from to r plain small within open_are other same lawful crowded some larger = absurd (true≢false plain)
page_room paging log2 size false places key from to true plain small within open_are other same lawful crowded some larger =
    let inside : other.0 < length places = omega (arith, other.2) in
    let here = (open_are other.0 inside).0 (other.1, other.2) in
    (λ _. (small, fits_beside paging log2 size places key other.0 lawful larger inside here other.3), λ _. refl)
page_room paging log2 size false places key from to false plain small within open_are other same lawful crowded some larger =
    let sized : length places ≡ 4 * 2 ^ log2 = block_sized places log2 some lawful.sized in
    let all_same = λ (i : ℕ) (inside : i < length places) (here : i / 4 ≡ page_of paging log2 key).
    let open_at = (open_are i inside).1 here in same i open_at.0 open_at.1 in
    (λ e. absurd (false≢true e), λ room. absurd (overflows paging log2 size places key sized crowded all_same room.1))

pub returns-clause-exact : goal.returns-clause-exact
returns-clause-exact g c =
    page_room _ _ _ _ _ _ _ _ _ c.if-size.false
    (omega arith) c.places_open_to-from.ensures.within c.places_open_to-from.ensures.exact c.has_other_page.ensures.other c.has_other_page.ensures.same
