-- The word rule: what the words of a table and the views of its seats have to do with one another
-- between any two atomic steps.
use Rattle.std.specs.Prelude.{◌≡◌, ◌≢◌, ◌⊎◌, ℕ, ◌<◌, ◌≤◌, List, length, true, Option, Some, None}
use lib.ListN.{get_elem?}
use mathlib.Core.Option.{some}
use Rattle.atomic_table.specs.Table.{State}
use Rattle.bihash_words.specs.Sizes.{Sizes, IsSound}
use Rattle.bihash_rule.specs.Words.{count_of, buckets, all_words, Stands}
use Rattle.bihash_rule.specs.Histories.{IsPrefix}
use Rattle.bihash_rule.specs.Callers.{Openings, known_at, opening_in, IsLawful, HasNumbers, IsWhole, Apart, HaveOneLog, MatchesLog, KnowsOwn}
use Rattle.bihash_rule.specs.Blocks.{no_block}
use Rattle.bihash_rule.specs.Partition.{IsPartition}
use Rattle.bihash_rule.specs.Buckets.{BucketState, IsBucket, HoldsBucketIf, NotesLocks, IsOpenIf, StandsStillIf}
use Rattle.bihash_rule.specs.PageStores.{StoreState, IsStore, HoldsStoreIf, NotesStore, HoldsBlockIf, BearOutOfPages, LeftIf, all_used, runs_now}
use Rattle.bihash_rule.specs.LogRule.{LogRule}
use Rattle.bihash_rule.specs.Views.{nothing_held}
use Rattle.bihash_rule.specs.declared.view.Write.{Write}
use Rattle.bihash_rule.specs.declared.view.Record.{Record}
use Rattle.bihash_rule.specs.declared.view.Known.{Known}
use Rattle.bihash_rule.specs.declared.view.Meeting.{Meeting}
use Rattle.bihash_rule.specs.declared.view.View.{View}

-- What there is to know of a table between two steps: with what it began, each bucket, and the page
-- store.
pub record TableState : Type 0 where
  pub openings : Openings
  pub bucket : ℕ → BucketState
  pub store : StoreState

-- What a view knows of the histories: a beginning of each, on which its records are lawful and in which
-- each write stands that bears one of its numbers. A view with a number knows with what the table
-- began.
pub record IsInformed (z : Sizes) (t : TableState) (known : Known) (records : List Record) : Type 0 where
  pub wide : length known.writes ≡ buckets z
  pub begins : (b : ℕ) → b < buckets z → IsPrefix (known_at known b) (t.bucket b).history
  pub opening : 1 ≤ length records → known.openings ≡ t.openings
  pub lawful : IsLawful z known records
  pub own : (i b n : ℕ) (r : Record) (w : Write) → get_elem? records i ≡ some r → b < buckets z
      → get_elem? (t.bucket b).history n ≡ some w → w.by ≡ r.number → n < length (known_at known b)

-- what two callers knew when they met is of one table, and begins its histories and its log; each knew its own writes
-- and entries
pub record HaveMet (z : Sizes) (t : TableState) (m : Meeting) : Type 0 where
  pub openings : m.first.openings ≡ m.second.openings
  pub wide : (length m.first.writes ≡ buckets z) × (length m.second.writes ≡ buckets z)
  pub begin : (b : ℕ) → b < buckets z → IsPrefix (known_at m.first b) (t.bucket b).history
      × IsPrefix (known_at m.second b) (t.bucket b).history
  pub own : KnowsOwn m.first_records m.first m.second
  pub other_own : KnowsOwn m.second_records m.second m.first
  pub logs : HaveOneLog m.first_records m.first_log m.second_records m.second_log
  pub matches : MatchesLog m.first m.second_log
  pub other_matches : MatchesLog m.second m.first_log

abbrev pub HaveMetIf : Sizes → TableState → Option Meeting → Type 0
HaveMetIf z t None = Unit {0}
HaveMetIf z t (Some m) = HaveMet z t m

-- the view of seat j, where `count` callers were made
pub record IsView (z : Sizes) (words : List ℕ) (count : ℕ) (t : TableState) (j : ℕ)
    (v : View) : Type 0 where
  pub informed : IsInformed z t v.known v.records
  pub numbers : HasNumbers v.seen v.records
  pub seen : v.seen ≤ count
  pub lone : v.lone ≡ true → IsWhole v.records count
  -- only a caller with a number holds a lock or a block
  pub able : (1 ≤ length v.records) ⊎ (v.holds ≡ nothing_held)
  -- it holds the locks and the block that it notes, and notes each lock that it holds
  pub bucket : HoldsBucketIf z words t.bucket j v.known v.holds.bucket
  pub only : NotesLocks z t.bucket j v.holds.bucket
  pub store : HoldsStoreIf z words t.store j v.holds.store
  pub only_store : NotesStore t.store j v.holds.store
  pub block : HoldsBlockIf z words v.holds.block
  -- what it noted of a bucket that was open; nobody else moves a word of a bucket before a lone caller
  pub open_bucket : IsOpenIf z t.bucket v.notes.open_bucket
  pub still : v.lone ≡ true → StandsStillIf z words v.notes.open_bucket
  -- what it was told, and what it noted, of pages that were left
  pub short : BearOutOfPages z (all_used z t.openings t.bucket) v.records
  pub left : LeftIf z (all_used z t.openings t.bucket) v.notes.left
  pub meeting : HaveMetIf z t v.notes.meeting
  -- the words that a lone caller loaded are the first words
  pub row : v.lone ≡ true → Stands words 0 v.notes.row

-- the word rule
pub record WordRule (z : Sizes) (s : State (Unit {0}) View) : Type 0 where
  pub table : TableState
  pub sound : IsSound z
  pub wide : length s.words ≡ all_words z
  pub some_caller : 1 ≤ count_of s.words
  pub few_callers : count_of s.words ≤ z.callers
  -- the words are what they say
  pub each_bucket : (b : ℕ) → b < buckets z
      → IsBucket z s.words (count_of s.words) b (opening_in table.openings b) (table.bucket b)
  pub outside : (b : ℕ) → buckets z ≤ b → ((table.bucket b).lock ≡ None)
      × ((table.bucket b).extent ≡ no_block)
  pub store : IsStore z s.words (all_used z table.openings table.bucket) table.store
  -- the views fit them, those of dropped callers too, and no two have a number in common
  pub each_view : (j : ℕ) (v : View) → get_elem? s.views j ≡ some v
      → IsView z s.words (count_of s.words) table j v
  pub apart : (i j : ℕ) (v w : View) → i ≢ j → get_elem? s.views i ≡ some v
      → get_elem? s.views j ≡ some w → Apart v.records w.records
  -- each lock that is held has a seat that holds it
  pub holders : (b j : ℕ) → (table.bucket b).lock ≡ Some j → j < length s.views
  pub keeper : (j : ℕ) → table.store.lock ≡ Some j → j < length s.views
  -- all answered calls stand in one log, of which each view knows a beginning
  pub logged : LogRule z table.openings (λ b. (table.bucket b).history) s.views
  -- each page has one owner
  pub parted : IsPartition z.pages table.store.store.used
      (runs_now table.bucket table.store.store s.views)
