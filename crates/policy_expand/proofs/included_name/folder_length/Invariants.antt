use Rattle.std.proofs.Common.{◌≡◌, ◌≤◌, drop, length, true}
use Rattle.std.specs.List.{list_all}
use Rattle.policy_expand.specs.Inclusions.{is_no_slash}
use Rattle.policy_expand.proofs.included_name.folder_length.Given as goal

-- No `/` stands behind the end.
abbrev pub invariant-names : goal.invariant-names
invariant-names l = (l.end ≤ length l.file) × (list_all is_no_slash (drop l.end l.file) ≡ true)

abbrev pub decreases-names : goal.decreases-names
decreases-names l = l.end
