-- The log of a table, and what its views know of it.
use Rattle.std.specs.Prelude.{◌≡◌, ℕ, ◌<◌, List, length}
use lib.ListN.{get_elem?}
use mathlib.Core.Option.{some}
use Rattle.bihash_words.specs.Sizes.{Sizes}
use Rattle.bihash_rule.specs.Words.{buckets}
use Rattle.bihash_rule.specs.Callers.{HasNumber}
use Rattle.bihash_rule.specs.Logs.{Begins, IsLog, calls_by, writes_on}
use Rattle.bihash_rule.specs.declared.view.Entry.{Entry}
use Rattle.bihash_rule.specs.declared.view.Openings.{Openings}
use Rattle.bihash_rule.specs.declared.view.Record.{Record}
use Rattle.bihash_rule.specs.declared.view.View.{View}
use Rattle.bihash_rule.specs.declared.view.Write.{Write}

-- What a view with these records knows of a log: a beginning, in which stand all entries that bear its numbers.
-- The calls of each record are those that the log has under its number.
pub record KnowsLog (log known : List Entry) (records : List Record) : Type 0 where
  pub begins : Begins known log
  pub calls : (i : ℕ) (r : Record) → get_elem? records i ≡ some r → calls_by r.number log ≡ r.calls
  pub own : (i k : ℕ) (r : Record) (e : Entry) → get_elem? records i ≡ some r → get_elem? log k ≡ some e → e.by ≡ r.number
      → k < length known

-- one of the views has the number
abbrev pub IsHeld : List View → ℕ → Type 0
IsHeld views n = (j : ℕ) × (v : View) × (get_elem? views j ≡ some v) × HasNumber v.records n

-- The log of a table with these histories and views: its writes are the histories, each of its entries bears a
-- number that a view has, and each view knows a beginning of it.
pub record LogRule (z : Sizes) (openings : Openings) (history : ℕ → List Write) (views : List View) : Type 0 where
  pub log : List Entry
  pub legal : IsLog z openings log
  pub writes : (b : ℕ) → b < buckets z → writes_on b log ≡ history b
  pub each : (j : ℕ) (v : View) → get_elem? views j ≡ some v → KnowsLog log v.log v.records
  pub made : (k : ℕ) (e : Entry) → get_elem? log k ≡ some e → IsHeld views e.by
