-- Lemmas on searches of the places that are open to a key.
use Rattle.std.proofs.Common.{◌≤◌, ◌<◌, ◌↔◌, ℕ, Bool, List, length}
use Rattle.bihash_words.specs.Blocks.{IsOpen}
use Rattle.bihash_words.specs.Pages.{Paging, page_of}
use Rattle.bihash_plan.specs.Blocks.{HasKey, IsCrowded, IsFirstFree, IsFree, IsLawfulBlock, IsNew}
use Rattle.bihash_plan.proofs.Places.{free_inside, pair_inside}

-- the places from one to before another are those open to a page
abbrev pub AreOpen : Bool → ℕ → ℕ → ℕ → ℕ → Type 0
AreOpen linear page count from to = (i : ℕ) → i < count → ((from ≤ i) × (i < to)) ↔ IsOpen linear page i

-- a key that no open place has is new to a lawful block
pub new_from_open : {K : Type 0} (paging : Paging K) (log2 : ℕ) (linear : Bool) (places : List (K × ℕ))
    (key : K) (from to : ℕ)
    → AreOpen linear (page_of paging log2 key) (length places) from to
    → ((i : ℕ) → from ≤ i → i < to → HasKey places key i → ⊥) → IsLawfulBlock paging log2 linear places
    → IsNew places key
new_from_open paging log2 linear places key from to open_are none lawful i h =
    let looked = (open_are i (pair_inside h.pair)).1 (lawful.rule.paged key h.value i h.pair) in
    none i looked.0 looked.1 h

pub crowded_from_open : {K : Type 0} (linear : Bool) (page : ℕ) (places : List (K × ℕ)) (from to : ℕ)
    → AreOpen linear page (length places) from to → ((i : ℕ) → from ≤ i → i < to → IsFree places i → ⊥)
    → IsCrowded linear page places
crowded_from_open linear page places from to open_are none i is_open h =
    let looked = (open_are i (free_inside h)).1 is_open in
    none i looked.0 looked.1 h

pub first_free_from_open : {K : Type 0} (linear : Bool) (page : ℕ) (places : List (K × ℕ)) (from to i : ℕ)
    → AreOpen linear page (length places) from to → (from ≤ i) × (i < to) × IsFree places i
    → ((j : ℕ) → from ≤ j → j < i → IsFree places j → ⊥) → IsFirstFree linear page places i
first_free_from_open linear page places from to i open_are found none = record {
  vacant = found.2;
  reached = (open_are i (free_inside found.2)).0 (found.0, found.1);
  first = λ j less is_open h. let looked = (open_are j (free_inside h)).1 is_open in none j looked.0 less h;
}
