-- What the calls of lawful callers say of the map of a bucket.
use Rattle.std.specs.Prelude.{◌≡◌, ◌⊎◌, ℕ, ◌+◌, ◌≤◌, ◌==◌, List, length, map}
use Rattle.std.specs.List.{filter}
use Rattle.std.specs.FinMap.{get}
use lib.ListN.{get_elem?}
use mathlib.Core.Option.{some}
use Rattle.bihash_words.specs.Maps.{Pairs, Event, written}
use Rattle.bihash_words.specs.Runs as events
use Rattle.bihash_words.specs.Runs.{writes_of}
use Rattle.bihash_words.specs.Sizes.{Sizes}
use Rattle.bihash_rule.specs.Histories.{IsLegal, IsPrefix, after, bounds_of, bucket_of, event_of}
use Rattle.bihash_rule.specs.Callers.{IsLawfulCaller, known_at, opening_at}
use Rattle.bihash_rule.specs.declared.view.Write.{Write}
use Rattle.bihash_rule.specs.declared.view.Call.{Call}
use Rattle.bihash_rule.specs.declared.view.Record.{Record}
use Rattle.bihash_rule.specs.declared.view.Known.{Known}
use Rattle.bihash_rule.specs.declared.view.View.{View}
use Rattle.bihash_table.specs.Promise.{IsAnswered}

-- ---- One caller

-- the calls on bucket b, in their order
abbrev pub calls_on : ℕ → List Call → List Call
calls_on b calls = filter (λ c. c.bucket == b) calls

-- how many writes there are after a call that came after n writes
abbrev pub writes_after : ℕ → Call → ℕ
writes_after n c = n + writes_of c.reply

-- The calls are a run of one bounded map: each is a step of the map that the one before it left. They lead
-- from the map m after n writes to the map `last` after `writes`.
abbrev pub IsCallRun : Sizes → Pairs → ℕ → List Call → Pairs → ℕ → Type 0
IsCallRun z m n calls last writes = events.IsRun (bounds_of z) m n (map event_of calls) last writes

-- each known write of bucket b was made under this number
abbrev pub IsOneWriter : Known → ℕ → ℕ → Type 0
IsOneWriter known b number = (n : ℕ) (w : Write) → get_elem? (known_at known b) n ≡ some w → w.by ≡ number

-- ---- Two callers

-- each call of these records on bucket b is legal on this history
abbrev pub AreLegal : Sizes → ℕ → Pairs → List Write → List Record → Type 0
AreLegal z b opening history records = (i k : ℕ) (r : Record) (c : Call) → get_elem? records i ≡ some r
    → get_elem? r.calls k ≡ some c → c.bucket ≡ b → IsLegal z opening history r.number c

-- One history of bucket b for both callers: the longer of what the two know. It continues what either
-- knows, and each call of either is legal on it.
pub record IsCommonHistory (z : Sizes) (b : ℕ) (v w : View) (history : List Write) : Type 0 where
  pub known : (history ≡ known_at v.known b) ⊎ (history ≡ known_at w.known b)
  pub continues : IsPrefix (known_at v.known b) history
  pub other_continues : IsPrefix (known_at w.known b) history
  pub opening : opening_at v.known b ≡ opening_at w.known b
  pub legal : AreLegal z b (opening_at v.known b) history v.records
  pub other_legal : AreLegal z b (opening_at v.known b) history w.records

-- ---- One call

-- a call of a key of bucket b was answered to a caller that is lawful then
pub record IsLawfulAnswer (z : Sizes) (b : ℕ) (v w : View) (e : Event) : Type 0 where
  pub home : bucket_of z e.key ≡ b
  pub answered : IsAnswered z v w e
  pub lawful : IsLawfulCaller z w

-- The event is the last write of this history, made under this number: it found what the map before it
-- held, and left that map with its change.
pub record IsLastWrite (opening : Pairs) (history : List Write) (number : ℕ) (e : Event) : Type 0 where
  pub before : ℕ
  pub last : length history ≡ before + 1
  pub stands : get_elem? history before ≡ some (record { by = number; key = e.key; change = e.change; recycling = e.recycling })
  pub found : e.found ≡ get (after opening history before) e.key
  pub leaves : after opening history (length history) ≡ written (after opening history before) e.key e.change e.recycling

-- no write of bucket b was learned but the one that the call made
abbrev pub LearnsOnlyOwn : ℕ → View → View → Event → Type 0
LearnsOnlyOwn b v w e = length (known_at w.known b) ≤ length (known_at v.known b) + writes_of e.reply
