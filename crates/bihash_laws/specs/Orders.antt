-- What a caller knows of the log, as one sequential order of all calls in it.
use Rattle.std.specs.Prelude.{◌≡◌, ◌⊎◌, ℕ, ◌<◌, ◌==◌, ◌++◌, List, [], ◌∷◌, length}
use lib.ListN.{get_elem?}
use mathlib.Core.Option.{some}
use Rattle.bihash_words.specs.Sizes.{Sizes}
use Rattle.bihash_rule.specs.Words.{buckets}
use Rattle.bihash_rule.specs.Histories.{after}
use Rattle.bihash_rule.specs.Callers.{opening_in}
use Rattle.bihash_rule.specs.Logs.{Begins, call_if, calls_by, writes_on}
use Rattle.bihash_rule.specs.declared.view.Call.{Call}
use Rattle.bihash_rule.specs.declared.view.Entry.{Entry}
use Rattle.bihash_rule.specs.declared.view.Openings.{Openings}
use Rattle.bihash_rule.specs.declared.view.Record.{Record}
use Rattle.bihash_rule.specs.declared.view.View.{View}
use Rattle.bihash_laws.specs.CallRuns.{IsCallRun}
use Rattle.bihash_laws.specs.Serializations.{AreStamped}

-- the calls of a log on bucket b, in their order
abbrev pub calls_there : ℕ → List Entry → List Call
calls_there b [] = []
calls_there b (e ∷ es) = call_if (e.call.bucket == b) e.call (calls_there b es)

-- The log is one sequential order of its calls on all buckets. Those on one bucket are what one bounded map answers, one
-- after the other; the stamp of each is how many writes there are by then. Each record has its calls in it, and in its order.
pub record IsOneOrder (z : Sizes) (openings : Openings) (records : List Record) (log : List Entry) : Type 0 where
  pub run : (b : ℕ) → b < buckets z → IsCallRun z (opening_in openings b) 0 (calls_there b log)
      (after (opening_in openings b) (writes_on b log) (length (writes_on b log))) (length (writes_on b log))
  pub stamps : (b : ℕ) → b < buckets z → AreStamped 0 (calls_there b log)
  pub order : (i : ℕ) (r : Record) → get_elem? records i ≡ some r → calls_by r.number log ≡ r.calls

-- one log for both callers: the longer of what the two know
pub record IsCommonLog (z : Sizes) (v w : View) (log : List Entry) : Type 0 where
  pub known : (log ≡ v.log) ⊎ (log ≡ w.log)
  pub begins : Begins v.log log
  pub other_begins : Begins w.log log
  pub order : IsOneOrder z v.known.openings (v.records ++ w.records) log
