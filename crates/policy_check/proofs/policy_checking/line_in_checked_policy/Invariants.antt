use Rattle.std.proofs.Common.{◌≡◌, ◌≤◌, ◌==◌, take, length}
use Rattle.std.specs.Prelude.{filter}
use Rattle.policy_check.proofs.policy_checking.line_in_checked_policy.Given as goal

-- the line feeds so far
abbrev pub invariant-loop-i : goal.invariant-loop-i
invariant-loop-i l = record { counted : l.count ≡ length (filter (λ b. b == 10) (take l.i l.bytes)); few : l.count ≤ l.i }
