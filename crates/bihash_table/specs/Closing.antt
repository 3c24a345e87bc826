-- The pairs of a table that ends, and why it could not end.
use Rattle.std.specs.Prelude.{◌≡◌, ℕ, ◌<◌, ◌≤◌, List, length, map, Contains, Some}
use Rattle.std.specs.FinMap.{get}
use Rattle.std.specs.Ordering.{nat_cmp}
use Rattle.std.specs.Cmp.Lexicographic.{slice_cmp}
use Rattle.std.specs.List.Sorted.{IsStrictlySortedBy}
use Rattle.bihash_words.specs.Maps.{Pairs}
use Rattle.bihash_words.specs.Sizes.{Sizes, sizes_of}
use Rattle.bihash_words.specs.declared.shape.Shape.{Ghosts}
use Rattle.bihash_rule.specs.Words.{buckets}
use Rattle.bihash_rule.specs.Histories.{after, bucket_of}
use Rattle.bihash_rule.specs.Callers.{known_at, opening_at}
use Rattle.bihash_steps.specs.Steps.{HaveBearers, IsToldWhole, view_after_count}
use Rattle.bihash_rule.specs.declared.view.Known.{Known}
use Rattle.bihash_rule.specs.declared.view.View.{View}
use Rattle.bihash_table.specs.declared.close_fault.CloseFault.{CloseFault}
use Rattle.bihash_table.specs.declared.close_fault.CloseFault.TheVariants.{Strangers, Memory}

-- the map of bucket b, as far as its writes are known
abbrev pub map_in : Known → ℕ → Pairs
map_in known b = after (opening_at known b) (known_at known b) (length (known_at known b))

-- the words of the keys of pairs
abbrev pub keys_of : {A K : Type 0} → Ghosts A K → List (K × ℕ) → List (List ℕ)
keys_of {A} {K} g ps = map (λ (p : K × ℕ). g.words_of p.0) ps

-- The pairs of all buckets, where their writes are known. Each key stands once, and the words of the keys
-- ascend, first word first.
pub record ArePairsOf {A K : Type 0} (g : Ghosts A K) (known : Known) (ps : List (K × ℕ)) : Type 0 where
  pub ascending : IsStrictlySortedBy (slice_cmp nat_cmp) (keys_of g ps)
  pub stored : (p : K × ℕ) → Contains ps p
      → get (map_in known (bucket_of (sizes_of g) (g.words_of p.0))) (g.words_of p.0) ≡ Some p.1
  pub all : (b : ℕ) (key : List ℕ) (value : ℕ) → b < buckets (sizes_of g)
      → get (map_in known b) key ≡ Some value
      → (p : K × ℕ) × Contains ps p × (g.words_of p.0 ≡ key) × (p.1 ≡ value)

-- The table was closed by a caller that had every number, and knew what that tells it.
pub record WasWhole (z : Sizes) (v : View) : Type 0 where
  pub count : ℕ
  pub rises : v.seen ≤ count
  pub all : count ≡ length v.records
  pub told : IsToldWhole z (view_after_count v count)
  pub bearers : HaveBearers z (view_after_count v count)

-- there are more callers than this one has numbers, and it knows how many
abbrev pub LeavesStrangers : Sizes → View → View → Type 0
LeavesStrangers z v w = (count : ℕ) × (v.seen ≤ count) × (length v.records < count)
    × (w ≡ view_after_count v count) × HaveBearers z w

-- the caller has every number, and is as it was but for what it noted
abbrev pub StaysWhole : Sizes → View → View → Type 0
StaysWhole z v w = (count : ℕ) × (v.seen ≤ count) × (count ≡ length v.records)
    × (w ≡ record (view_after_count v count) { notes = w.notes }) × IsToldWhole z w × HaveBearers z w

-- Why a table was not closed, and what the caller knows then: there are more callers than it has numbers, or it has
-- every number and memory was refused.
abbrev pub IsCloseRefused : Sizes → View → CloseFault → View → Type 0
IsCloseRefused z v Strangers w = LeavesStrangers z v w
IsCloseRefused z v Memory w = StaysWhole z v w
