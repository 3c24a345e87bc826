-- Lawful callers, what two of them have in common, and whole callers.
use Rattle.std.specs.Prelude.{◌≡◌, ◌≢◌, ◌⊎◌, ℕ, ◌+◌, ◌<◌, ◌≤◌, true, List, [], length, slice_index_or, zero, suc}
use lib.ListN.{get_elem?}
use mathlib.Core.Option.{some}
use Rattle.bihash_words.specs.Maps.{Pairs}
use Rattle.bihash_words.specs.Sizes.{Sizes}
use Rattle.bihash_rule.specs.Words.{buckets}
use Rattle.bihash_rule.specs.Histories.{Begins, IsLegal, IsPrefix, IsWriteList, is_changed}
pub use Rattle.bihash_rule.specs.Histories.{opening_in}
use Rattle.bihash_rule.specs.Logs.{IsLogged, writes_on}
use Rattle.bihash_rule.specs.declared.view.Write.{Write}
use Rattle.bihash_rule.specs.declared.view.Call.{Call}
use Rattle.bihash_rule.specs.declared.view.Entry.{Entry}
use Rattle.bihash_rule.specs.declared.view.Record.{Record}
use Rattle.bihash_rule.specs.declared.view.Known.{Known}
pub use Rattle.bihash_rule.specs.declared.view.Openings.{Openings}
use Rattle.bihash_rule.specs.declared.view.View.{View}

-- the map with which bucket b began
abbrev pub opening_at : Known → ℕ → Pairs
opening_at known b = opening_in known.openings b

-- what is known of the writes of bucket b
abbrev pub known_at : Known → ℕ → List Write
known_at known b = slice_index_or known.writes b []

-- of two lists of writes the one begins the other
abbrev pub AreOneList : List Write → List Write → Type 0
AreOneList H K = IsPrefix H K ⊎ IsPrefix K H

-- of each bucket the log has a beginning of the writes that are known, or begins with them
abbrev pub MatchesLog : Known → List Entry → Type 0
MatchesLog known log = (b : ℕ) → AreOneList (writes_on b log) (known_at known b)

-- d may come after c in one record: on one bucket no stamp falls, and that of a write is greater than
-- all before it
abbrev pub MayFollow : Call → Call → Type 0
MayFollow c d = c.bucket ≡ d.bucket → (c.stamp ≤ d.stamp)
    × (is_changed d.reply ≡ true → c.stamp < d.stamp)

abbrev pub Rises : List Call → Type 0
Rises calls = (i j : ℕ) (c d : Call) → i < j → get_elem? calls i ≡ some c → get_elem? calls j ≡ some d
    → MayFollow c d

-- the calls have the write of this number of bucket b
abbrev pub HasWrite : List Call → ℕ → ℕ → Type 0
HasWrite calls b number = (k : ℕ) × (c : Call) × (get_elem? calls k ≡ some c) × (c.bucket ≡ b)
    × (is_changed c.reply ≡ true) × (c.stamp ≡ number)

-- What records have to do with known writes. Each call is legal on what is known of its bucket, stamps
-- rise, and each known write that bears a record's number is a call of that record, at its stamp.
pub record IsLawful (z : Sizes) (known : Known) (records : List Record) : Type 0 where
  pub legal : (i k : ℕ) (r : Record) (c : Call) → get_elem? records i ≡ some r
      → get_elem? r.calls k ≡ some c
      → IsLegal z (opening_at known c.bucket) (known_at known c.bucket) r.number c
  pub rises : (i : ℕ) (r : Record) → get_elem? records i ≡ some r → Rises r.calls
  pub own : (i b n : ℕ) (r : Record) (w : Write) → get_elem? records i ≡ some r → b < buckets z
      → get_elem? (known_at known b) n ≡ some w → w.by ≡ r.number → HasWrite r.calls b (n + 1)

-- the records bear numbers from 1 to the count that was seen, no two the same
pub record HasNumbers (seen : ℕ) (records : List Record) : Type 0 where
  pub range : (i : ℕ) (r : Record) → get_elem? records i ≡ some r → (1 ≤ r.number) × (r.number ≤ seen)
  pub once : (i k : ℕ) (r q : Record) → i ≢ k → get_elem? records i ≡ some r
      → get_elem? records k ≡ some q → r.number ≢ q.number

abbrev pub HasNumber : List Record → ℕ → Type 0
HasNumber records n = (i : ℕ) × (r : Record) × (get_elem? records i ≡ some r) × (r.number ≡ n)

-- each of these writes was made under a number of these records
abbrev pub HasMade : List Record → List Write → Type 0
HasMade records writes = (n : ℕ) (w : Write) → get_elem? writes n ≡ some w → HasNumber records w.by

-- it made each write that it knows
abbrev pub HasMadeAll : Sizes → View → Type 0
HasMadeAll z v = (b : ℕ) → b < buckets z → HasMade v.records (known_at v.known b)

-- A lawful caller. It has a number, what it knows of a bucket is a write list, and a lone caller made each
-- of these writes. What it knows of the log is a log that has its calls, and matches what it knows of the buckets.
pub record IsLawfulCaller (z : Sizes) (v : View) : Type 0 where
  pub acts : 1 ≤ length v.records
  pub numbers : HasNumbers v.seen v.records
  pub lawful : IsLawful z v.known v.records
  pub lists : (b : ℕ) → b < buckets z → IsWriteList z b (opening_at v.known b) (known_at v.known b)
  pub made : v.lone ≡ true → HasMadeAll z v
  pub logged : IsLogged z v.known.openings v.log v.records
  pub matches : MatchesLog v.known v.log

-- a whole caller has every number up to the caller count
abbrev pub IsWhole : List Record → ℕ → Type 0
IsWhole records count = (n : ℕ) → 1 ≤ n → n ≤ count → HasNumber records n

-- no number of the one is the other's
abbrev pub Apart : List Record → List Record → Type 0
Apart records others = (i k : ℕ) (r q : Record) → get_elem? records i ≡ some r
    → get_elem? others k ≡ some q → r.number ≢ q.number

-- what is known of one table: the same beginnings, and of each bucket the one list begins the other
abbrev pub IsConsistent : Known → Known → Type 0
IsConsistent k m = (k.openings ≡ m.openings) × ((b : ℕ) → AreOneList (known_at k b) (known_at m b))

-- whatever another knows of the writes under a number of these records is known here
abbrev pub KnowsOwn : List Record → Known → Known → Type 0
KnowsOwn records known other = (b n : ℕ) (w : Write) → get_elem? (known_at other b) n ≡ some w
    → HasNumber records w.by → get_elem? (known_at known b) n ≡ some w

-- Of two callers with these records one knows a beginning of the log that the other knows, and neither lacks an entry
-- of its own that the other knows.
pub record HaveOneLog (records : List Record) (log : List Entry) (others : List Record) (other : List Entry) : Type 0 where
  pub one : Begins log other ⊎ Begins other log
  pub own : (k : ℕ) (e : Entry) → get_elem? other k ≡ some e → HasNumber records e.by → k < length log
  pub other_own : (k : ℕ) (e : Entry) → get_elem? log k ≡ some e → HasNumber others e.by → k < length other

-- Two callers agree: they share no number, of each bucket and of the log the one knows a beginning of what the
-- other knows, what each knows of the log matches what the other knows of the buckets, and neither lacks a write or
-- an entry of its own that the other knows.
pub record Agrees (v w : View) : Type 0 where
  pub apart : Apart v.records w.records
  pub known : IsConsistent v.known w.known
  pub own : KnowsOwn v.records v.known w.known
  pub other_own : KnowsOwn w.records w.known v.known
  pub logs : HaveOneLog v.records v.log w.records w.log
  pub matches : MatchesLog v.known w.log
  pub other_matches : MatchesLog w.known v.log

-- how many writes are known of the first n buckets
abbrev pub known_writes : Known → ℕ → ℕ
known_writes known zero = 0
known_writes known (suc n) = known_writes known n + length (known_at known n)
