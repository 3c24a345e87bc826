-- Lists of the pairs that were read so far.
use Rattle.std.specs.Prelude.{◌≡◌, ℕ, ◌+◌, ◌⊎◌, ◌<◌, true, List, Contains, Some}
use Rattle.std.specs.FinMap.{get}
use Rattle.std.specs.List.{IsDistinct}
use Rattle.std.specs.Ordering.{eq_by_cmp, nat_cmp}
use Rattle.std.specs.Cmp.Lexicographic.{slice_cmp}
use Rattle.bihash_words.specs.Sizes.{Sizes, sizes_of}
use Rattle.bihash_words.specs.declared.shape.Shape.{Ghosts}
use Rattle.bihash_rule.specs.Histories.{IsWriteList, bucket_of}
use Rattle.bihash_rule.specs.Callers.{IsLawfulCaller, known_at, opening_at}
use Rattle.bihash_rule.specs.Blocks.{HoldsPair, IsBlockOf}
use Rattle.bihash_steps.specs.Seats.{CallerState}
use Rattle.bihash_rule.specs.Views.{no_notes, nothing_held}
use Rattle.bihash_rule.specs.declared.view.Extent.{Extent}
use Rattle.bihash_rule.specs.declared.view.Known.{Known}
use Rattle.bihash_table.specs.Closing.{keys_of, map_in}

-- The pairs of the list are those that `has` has, and each key stands once.
pub record ListsPairs {A K : Type 0} (g : Ghosts A K) (ps : List (K × ℕ)) (has : List ℕ → ℕ → Type 0) : Type 0 where
  pub each : (p : K × ℕ) → Contains ps p → has (g.words_of p.0) p.1
  pub all : (key : List ℕ) (value : ℕ) → has key value
      → (p : K × ℕ) × Contains ps p × (g.words_of p.0 ≡ key) × (p.1 ≡ value)
  pub once : IsDistinct (eq_by_cmp (slice_cmp nat_cmp)) (keys_of g ps)

-- the pairs of the buckets below n
abbrev pub InBucketsBelow : Sizes → Known → ℕ → List ℕ → ℕ → Type 0
InBucketsBelow z known n key value = (bucket_of z key < n) × (get (map_in known (bucket_of z key)) key ≡ Some value)

-- The pairs of the list are those of the buckets below n, whose keys are keys of their buckets.
pub record ListsBuckets {A K : Type 0} (g : Ghosts A K) (known : Known) (n : ℕ) (ps : List (K × ℕ)) : Type 0 where
  pub pairs : ListsPairs g ps (InBucketsBelow (sizes_of g) known n)
  pub home : (b : ℕ) (key : List ℕ) (value : ℕ) → b < n → get (map_in known b) key ≡ Some value
      → bucket_of (sizes_of g) key ≡ b

-- the pairs of the places of a block below n
pub record InPlacesBelow (z : Sizes) (e : Extent) (block : List ℕ) (n : ℕ) (key : List ℕ) (value : ℕ) : Type 0 where
  pub place : ℕ
  pub below : place < n
  pub at : HoldsPair z e block key value place

-- those of the buckets below b, and those of the places below n of the block of b
abbrev pub InPart : Sizes → Known → ℕ → Extent → List ℕ → ℕ → List ℕ → ℕ → Type 0
InPart z known b e block n key value = InBucketsBelow z known b key value ⊎ InPlacesBelow z e block n key value

-- the block of bucket b, as far as its writes are known
pub record IsBlockIn (z : Sizes) (known : Known) (b : ℕ) (e : Extent) (block : List ℕ) : Type 0 where
  pub pairs : IsBlockOf z e block (map_in known b)
  pub writes : IsWriteList z b (opening_at known b) (known_at known b)

-- To a list of the pairs of the buckets before that of the block, those of its places below n were added.
abbrev pub AddsPlaces : {A K : Type 0} → Ghosts A K → ℕ → Extent → List ℕ → List (K × ℕ) → List (K × ℕ) → Type 0
AddsPlaces g n e block old new = (known : Known) (b : ℕ) → IsBlockIn (sizes_of g) known b e block → ListsBuckets g known b old
    → ListsPairs g new (InPart (sizes_of g) known b e block n)

-- all of them were added
abbrev pub AddsBlock : {A K : Type 0} → Ghosts A K → Extent → List ℕ → List (K × ℕ) → List (K × ℕ) → Type 0
AddsBlock g e block old new = (known : Known) (b : ℕ) → IsBlockIn (sizes_of g) known b e block → ListsBuckets g known b old
    → ListsBuckets g known (b + 1) new

-- the caller belongs to this row, holds and notes nothing, is lone and lawful
pub record IsIdleAndLone (z : Sizes) (row : _) (s : CallerState) : Type 0 where
  pub own : s.row ≡ row
  pub free : s.view.holds ≡ nothing_held
  pub lone : s.view.lone ≡ true
  pub lawful : IsLawfulCaller z s.view
  pub bare : s.view.notes ≡ no_notes
