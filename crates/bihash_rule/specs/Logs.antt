-- Logs: answered calls in the order in which they were answered, each legal after those before it.
use Rattle.std.specs.Prelude.{◌≡◌, ℕ, ◌<◌, ◌==◌, Bool, true, false, List, [], ◌∷◌, ◌++◌, length}
use lib.ListN.{get_elem?}
use mathlib.Core.Option.{some}
use Rattle.bihash_words.specs.Sizes.{Sizes}
use Rattle.bihash_rule.specs.Words.{buckets}
use Rattle.bihash_rule.specs.Histories.{IsLegal, is_changed, opening_in, write_of}
pub use Rattle.bihash_rule.specs.Histories.{Begins}
use Rattle.bihash_rule.specs.declared.view.Write.{Write}
use Rattle.bihash_rule.specs.declared.view.Call.{Call}
use Rattle.bihash_rule.specs.declared.view.Entry.{Entry}
use Rattle.bihash_rule.specs.declared.view.Record.{Record}
use Rattle.bihash_rule.specs.declared.view.Openings.{Openings}

abbrev pub call_if : Bool → Call → List Call → List Call
call_if true c cs = c ∷ cs
call_if false c cs = cs

-- the calls of a log that were made under this number, in their order
abbrev pub calls_by : ℕ → List Entry → List Call
calls_by n [] = []
calls_by n (e ∷ es) = call_if (e.by == n) e.call (calls_by n es)

abbrev pub write_if : Bool → Bool → Write → List Write → List Write
write_if true true w ws = w ∷ ws
write_if true false w ws = ws
write_if false here w ws = ws

-- the writes of a log on bucket b, in their order
abbrev pub writes_on : ℕ → List Entry → List Write
writes_on b [] = []
writes_on b (e ∷ es) = write_if (is_changed e.call.reply) (e.call.bucket == b) (write_of e.by e.call) (writes_on b es)

-- The entry follows these: its call is legal on the writes of its bucket up to it, and its stamp is their
-- number, which is the version of the bucket at this place.
pub record Follows (z : Sizes) (openings : Openings) (before : List Entry) (e : Entry) : Type 0 where
  pub inside : e.call.bucket < buckets z
  pub now : e.call.stamp ≡ length (writes_on e.call.bucket (before ++ e ∷ []))
  pub legal : IsLegal z (opening_in openings e.call.bucket) (writes_on e.call.bucket (before ++ e ∷ [])) e.by e.call

abbrev pub FollowEach : Sizes → Openings → List Entry → List Entry → Type 0
FollowEach z openings before [] = Unit {0}
FollowEach z openings before (e ∷ es) = Follows z openings before e × FollowEach z openings (before ++ e ∷ []) es

-- a log: each entry follows those before it
abbrev pub IsLog : Sizes → Openings → List Entry → Type 0
IsLog z openings log = FollowEach z openings [] log

-- What a caller with these records knows of the log is a log, and the calls of each record are those that it has under
-- the record's number, in their order.
pub record IsLogged (z : Sizes) (openings : Openings) (log : List Entry) (records : List Record) : Type 0 where
  pub legal : IsLog z openings log
  pub calls : (i : ℕ) (r : Record) → get_elem? records i ≡ some r → calls_by r.number log ≡ r.calls
