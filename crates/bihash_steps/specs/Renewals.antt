-- What a lone caller's loads of a row's words tell, and what a row begins with that is made of these words.
use Rattle.std.specs.Prelude.{◌≡◌, ℕ, ◌+◌, ◌<◌, ◌≤◌, List, [], ◌∷◌, ◌++◌, length, slice_index, true, false}
use lib.ListN.{get_elem?}
use mathlib.Core.Option.{some}
use Rattle.atomic_table.specs.Table.{State}
use Rattle.bihash_words.specs.Sizes.{Sizes}
use Rattle.bihash_words.specs.Words.{Bucket, FitsWord, packed}
use Rattle.bihash_rule.specs.Words.{count_of, front_words, buckets, bucket_at, all_words}
use Rattle.bihash_rule.specs.Callers.{IsLawfulCaller, known_writes, opening_at}
use Rattle.bihash_rule.specs.PageStores.{most_used}
use Rattle.bihash_rule.specs.Views.{no_notes, opening_view}
use Rattle.bihash_rule.specs.WordRule.{WordRule}
use Rattle.bihash_steps.specs.Steps.{ViewOfSeat}
use Rattle.bihash_steps.specs.BucketSteps.{map_now}
use Rattle.bihash_steps.specs.Seats.{CallerState, with_view}
use Rattle.bihash_rule.specs.declared.view.View.{View}

-- ---- A lone caller's load of a word

-- the word was noted after those that were loaded before
abbrev pub view_after_load : View → ℕ → View
view_after_load v word = record v { notes = record no_notes { row = v.notes.row ++ word ∷ [] } }

-- The lone caller noted these words, and they are all words of its row: they are the words of a state of
-- which the word rule holds, and in which the caller is as it is here.
pub record AreRowWords (z : Sizes) (v : View) (words : List ℕ) : Type 0 where
  pub noted : v.notes.row ≡ words
  pub lone : v.lone ≡ true
  pub acts : 1 ≤ length v.records
  pub state : State (Unit {0}) View
  pub rule : WordRule z state
  pub are : state.words ≡ words
  pub seat : ℕ
  pub stands : get_elem? state.views seat ≡ some v

-- a lone caller may load the word after those that it noted
pub record IsNextWord (z : Sizes) (v : View) (at : ℕ) : Type 0 where
  pub lone : v.lone ≡ true
  pub next : at ≡ length v.notes.row
  pub inside : at < all_words z

pub record TellsRowWord (z : Sizes) (m : ViewOfSeat) (found : ℕ) (m' : ViewOfSeat) : Type 0 where
  pub seat : m' ≡ (view_after_load m.0 found, m.1)
  pub lawful : IsLawfulCaller z m'.0
  pub row : length m'.0.notes.row ≡ all_words z → AreRowWords z m'.0 m'.0.notes.row

-- the word was loaded; with the last one, the caller noted all words of the row
pub record LoadsRowWord (z : Sizes) (s t : CallerState) (word : ℕ) : Type 0 where
  pub view : t ≡ with_view s (view_after_load s.view word)
  pub lawful : IsLawfulCaller z t.view
  pub row : length t.view.notes.row ≡ all_words z → AreRowWords z t.view t.view.notes.row

-- ---- A row that begins with what another one came to

-- the words of the buckets have fields
abbrev pub HaveFields : Sizes → List ℕ → Type 0
HaveFields z words = (b : ℕ) → b < buckets z → (x : Bucket) × FitsWord x × (slice_index words (bucket_at z b) ≡ packed x)

-- the same words, where none of the first n buckets is locked or has a version, and there is one caller
pub record AreRenewedBelow (z : Sizes) (n : ℕ) (words new : List ℕ) : Type 0 where
  pub wide : length new ≡ length words
  pub one : count_of new ≡ 1
  pub bucket : (b : ℕ) (x : Bucket) → b < n → FitsWord x → slice_index words (bucket_at z b) ≡ packed x
      → slice_index new (bucket_at z b) ≡ packed (record x { locked = false; version = 0 })
  pub front : (i : ℕ) → 1 ≤ i → i < front_words z → slice_index new i ≡ slice_index words i
  pub pages : (i : ℕ) → front_words z + buckets z ≤ i → slice_index new i ≡ slice_index words i

-- the same of all buckets
abbrev pub AreRenewed : Sizes → List ℕ → List ℕ → Type 0
AreRenewed z words new = AreRenewedBelow z (buckets z) words new

-- Caller 1 of a row that was made of the words that the caller v loaded: each bucket begins with the map
-- that v's known writes left there, and so many pages had been handed out.
pub record IsRenewed (z : Sizes) (v w : View) : Type 0 where
  pub first : w ≡ opening_view z w.known.openings
  pub maps : (b : ℕ) → b < buckets z → opening_at w.known b ≡ map_now v b
  pub used : w.known.openings.used ≤ most_used z v.known.openings.used (known_writes v.known (buckets z))
  pub few : w.known.openings.used ≤ z.pages
