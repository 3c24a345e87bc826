-- The pairs of a table whose keys are lists of words, whatever its shape.
use Rattle.std.specs.Prelude.{◌≡◌, ◌<◌, ◌↔◌, ℕ, false, List, Contains, Some, map}
use Rattle.std.specs.FinMap.{get}
use Rattle.std.specs.Ordering.{nat_cmp}
use Rattle.std.specs.Cmp.Lexicographic.{slice_cmp}
use Rattle.std.specs.List.Sorted.{IsStrictlySortedBy}
use Rattle.bihash_words.specs.Maps.{Pairs}
use Rattle.bihash_words.specs.Runs.{IsRun}
use Rattle.bihash_words.specs.Sizes.{Sizes, bucket_of}
use Rattle.bihash_rule.specs.Words.{buckets}
use Rattle.bihash_rule.specs.declared.view.Known.{Known}
use Rattle.bihash_table.specs.Closing.{map_in}
use Rattle.session_state.specs.declared.timeouts.Timeouts.{Timeouts}
use Rattle.session_state.specs.Sessions.{is_expired_at}
use Rattle.flow_filter.specs.Judged.{Judged}
use Rattle.flow_filter.specs.OneThread.{Home, Layout, bounds_in, events_at, nothing, sizes_in}

-- the first part of each pair
abbrev pub keys_in : List (List ℕ × ℕ) → List (List ℕ)
keys_in pairs = map (λ (p : List ℕ × ℕ). p.0) pairs

-- All pairs of the maps that the buckets of a table of these sizes hold behind their known writes, and no others, in the
-- order of their keys, first word first.
pub record AreStored (z : Sizes) (known : Known) (pairs : List (List ℕ × ℕ)) : Type 0 where
  pub ascending : IsStrictlySortedBy (slice_cmp nat_cmp) (keys_in pairs)
  pub stored : (key : List ℕ) (value : ℕ) → Contains pairs (key, value)
      → get (map_in known (bucket_of z key)) key ≡ Some value
  pub all : (b : ℕ) (key : List ℕ) (value : ℕ) → b < buckets z → get (map_in known b) key ≡ Some value
      → Contains pairs (key, value)

-- Of a family's pairs, those of this bucket are all of the map to which the one-thread filter comes there by these packets,
-- where no bucket held anything at first.
pub record AreLeft (l : Layout) (judged : List Judged) (home : Home) (pairs : List (List ℕ × ℕ)) : Type 0 where
  pub last : Pairs
  pub writes : ℕ
  pub run : IsRun (bounds_in l home.family) (nothing home) 0 (events_at l home judged) last writes
  pub kept : (key : List ℕ) (value : ℕ) → Contains pairs (key, value)
      → bucket_of (sizes_in l home.family) key ≡ home.bucket → get last key ≡ Some value
  pub all : (key : List ℕ) (value : ℕ) → get last key ≡ Some value → Contains pairs (key, value)

-- of these pairs, those whose sessions are live at this moment
abbrev pub AreLiveOf : Timeouts → ℕ → List (List ℕ × ℕ) → List (List ℕ × ℕ) → Type 0
AreLiveOf times moment stored pairs = (key : List ℕ) (value : ℕ)
    → Contains pairs (key, value) ↔ (Contains stored (key, value) × (is_expired_at times moment value ≡ false))

-- Of a family's pairs, those of this bucket are the ones that are live at this moment of the map to which the one-thread filter
-- comes there by these packets, where no bucket held anything at first.
pub record AreLiveLeft (l : Layout) (times : Timeouts) (moment : ℕ) (judged : List Judged) (home : Home)
    (pairs : List (List ℕ × ℕ)) : Type 0 where
  pub last : Pairs
  pub writes : ℕ
  pub run : IsRun (bounds_in l home.family) (nothing home) 0 (events_at l home judged) last writes
  pub kept : (key : List ℕ) (value : ℕ) → Contains pairs (key, value)
      → bucket_of (sizes_in l home.family) key ≡ home.bucket
      → (get last key ≡ Some value) × (is_expired_at times moment value ≡ false)
  pub all : (key : List ℕ) (value : ℕ) → get last key ≡ Some value → is_expired_at times moment value ≡ false
      → Contains pairs (key, value)
