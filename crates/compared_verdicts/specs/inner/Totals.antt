-- Counts that so many packets may be added to.
use Rattle.std.specs.Prelude.{◌+◌, ◌<◌, ◌^◌, ℕ}
use Rattle.compared_verdicts.specs.declared.change_totals.ChangeTotals.{ChangeTotals}

pub record HasRoom (totals : ChangeTotals) (more : ℕ) : Type 0 where
  pub changed : totals.changed + more < 2 ^ 64
  pub to_drop : totals.to_drop + more < 2 ^ 64
  pub to_pass : totals.to_pass + more < 2 ^ 64
  pub other : totals.other + more < 2 ^ 64
