-- The calls on a bucket as one sequential list of operations on one bounded map.
use Rattle.std.specs.Prelude.{◌≡◌, ◌⊎◌, ℕ, ◌+◌, ◌==◌, true, List, [], ◌∷◌, ◌++◌, length, map, All}
use Rattle.std.specs.List.{filter}
use lib.ListN.{get_elem?}
use mathlib.Core.Option.{some}
use Rattle.bihash_words.specs.Maps.{Pairs}
use Rattle.bihash_words.specs.Sizes.{Sizes}
use Rattle.bihash_rule.specs.Histories.{after, is_changed, write_of}
use Rattle.bihash_rule.specs.Callers.{HasNumber, opening_at}
use Rattle.bihash_rule.specs.declared.view.Write.{Write}
use Rattle.bihash_rule.specs.declared.view.Call.{Call}
use Rattle.bihash_rule.specs.declared.view.Record.{Record}
use Rattle.bihash_rule.specs.declared.view.View.{View}
use Rattle.bihash_laws.specs.CallRuns.{IsCommonHistory, IsCallRun, calls_on, writes_after}

-- a call, and the caller number under which it was made
pub record Operation : Type 0 where
  pub by : ℕ
  pub call : Call

abbrev pub calls_in : List Operation → List Call
calls_in operations = map (λ t. t.call) operations

-- the calls of this number, in their order
abbrev pub calls_by : ℕ → List Operation → List Call
calls_by number operations = calls_in (filter (λ t. t.by == number) operations)

-- the writes among them, in their order
abbrev pub writes_in : List Operation → List Write
writes_in operations = map (λ t. write_of t.by t.call) (filter (λ t. is_changed t.call.reply) operations)

-- the stamp of each call is how many writes there are up to it and with it, where n stand before the first
abbrev pub AreStamped : ℕ → List Call → Type 0
AreStamped n [] = Unit {0}
AreStamped n (c ∷ cs) = (c.stamp ≡ writes_after n c) × AreStamped (writes_after n c) cs

-- These operations on bucket b, one after the other, are what one bounded map answers. Each record finds just
-- its own calls under its number, in its order. The writes are the history. Stamps never fall.
pub record IsSerialization (z : Sizes) (b : ℕ) (opening : Pairs) (history : List Write) (records : List Record)
    (operations : List Operation) : Type 0 where
  -- each call is a step of the map that the one before it left
  pub run : IsCallRun z opening 0 (calls_in operations) (after opening history (length history)) (length history)
  -- the writes among them are the history
  pub writes : writes_in operations ≡ history
  -- each stamp is how many writes there are by then
  pub stamps : AreStamped 0 (calls_in operations)
  pub home : All (λ t. t.call.bucket ≡ b) operations
  -- each record has its calls there, each once, and in its order
  pub order : (i : ℕ) (r : Record) → get_elem? records i ≡ some r → calls_by r.number operations ≡ calls_on b r.calls
  -- whatever else there is is a write
  pub others : All (λ t. HasNumber records t.by ⊎ (is_changed t.call.reply ≡ true)) operations

-- ---- One write

-- the write that follows n others on bucket b is a call of one of these records, at its stamp
pub record IsCalled (b n : ℕ) (w : Write) (records : List Record) : Type 0 where
  pub at : ℕ
  pub record_at : Record
  pub stands : get_elem? records at ≡ some record_at
  pub place : ℕ
  pub call : Call
  pub called : get_elem? record_at.calls place ≡ some call
  pub bucket : call.bucket ≡ b
  pub changed : is_changed call.reply ≡ true
  pub stamp : call.stamp ≡ n + 1
  pub write : w ≡ write_of record_at.number call

-- ---- Two callers

-- One list for both callers, on their common history. Whatever there is of neither is a write.
pub record IsCommonSerialization (z : Sizes) (b : ℕ) (v w : View) (history : List Write)
    (operations : List Operation) : Type 0 where
  pub common : IsCommonHistory z b v w history
  pub serial : IsSerialization z b (opening_at v.known b) history (v.records ++ w.records) operations
