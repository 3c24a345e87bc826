-- What any steps under the rule do to the log, whatever they are.
use Rattle.std.specs.Prelude.{◌≡◌, ℕ, ◌≤◌, false, List, [], ◌∷◌, ◌++◌, length, slice_set}
use lib.ListN.{get_elem?}
use mathlib.Core.Option.{some}
use Rattle.atomic_table.specs.Table.{State}
use Rattle.bihash_words.specs.Sizes.{Sizes}
use Rattle.bihash_rule.specs.Histories.{is_changed}
use Rattle.bihash_rule.specs.Callers.{HasNumber}
use Rattle.bihash_rule.specs.Logs.{Begins}
use Rattle.bihash_rule.specs.WordRule.{WordRule}
use Rattle.bihash_steps.specs.Steps.{ViewOfSeat}
use Rattle.bihash_steps.specs.BucketSteps.{entry_of, push_call}
use Rattle.bihash_rule.specs.declared.view.Call.{Call}
use Rattle.bihash_rule.specs.declared.view.Entry.{Entry}
use Rattle.bihash_rule.specs.declared.view.View.{View}

abbrev pub RowState : Type 0
RowState = State (Unit {0}) View

-- the log of a row in this state
abbrev pub log_of : {z : Sizes} {s : RowState} → WordRule z s → List Entry
log_of r = r.logged.log

-- No number is lost, and who has it forgets nothing of the log. Each step of bihash_steps is so: it changes one view,
-- which keeps its numbers and what it knows of the log, or passes both to another.
abbrev pub Continues : List View → List View → Type 0
Continues views views' = (j n : ℕ) (v : View) → get_elem? views j ≡ some v → HasNumber v.records n
    → (k : ℕ) × (w : View) × (get_elem? views' k ≡ some w) × HasNumber w.records n × Begins v.log w.log

-- A step of seat id, whose view was v and is w, after which its acting record has this call more. No other view
-- changes, and the caller forgets nothing of the log.
pub record IsAnswerStep (s s' : RowState) (id : ℕ) (v w : View) (c : Call) : Type 0 where
  pub at : get_elem? s.views id ≡ some v
  pub acts : 1 ≤ length v.records
  pub views : s'.views ≡ slice_set s.views id w
  pub pushed : w.records ≡ push_call c v.records
  pub begins : Begins v.log w.log

-- what such a step does: the call is the next entry of the log, with the version of its bucket
pub record IsEntered (z : Sizes) {s s' : RowState} (r : WordRule z s) (r' : WordRule z s') (v : View) (c : Call) : Type 0 where
  pub log : log_of r' ≡ log_of r ++ entry_of v c ∷ []
  pub version : c.stamp ≡ length (r'.table.bucket c.bucket).history
  pub read : is_changed c.reply ≡ false → c.stamp ≡ length (r.table.bucket c.bucket).history

-- what a step of seat m would tell that enters the call c whatever it finds
pub record Recalls (c : Call) (m m' : ViewOfSeat) : Type 0 where
  pub pushed : m'.0.records ≡ push_call c m.0.records
  pub begins : Begins m.0.log m'.0.log
