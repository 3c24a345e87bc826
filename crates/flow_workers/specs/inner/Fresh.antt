-- Callers before their first call, and what they have when they did their packets.
use Rattle.std.specs.Prelude.{◌≡◌, ℕ, [], ◌∷◌}
use Rattle.bihash_rule.specs.Views.{empty_record, no_openings}
use Rattle.bihash_rule.specs.declared.view.View.{View}

-- a caller of one number without calls, of a table whose buckets began empty
pub record IsFreshView (v : View) : Type 0 where
  pub number : ℕ
  pub records : v.records ≡ empty_record number ∷ []
  pub openings : v.known.openings ≡ no_openings
