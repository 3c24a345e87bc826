use Rattle.std.proofs.Common.{◌≡◌, ℕ, length, map, Some}
use Rattle.std.specs.Prelude.{slice_get}
use Rattle.rule_index.specs.Dimensions.{Spans}
use Rattle.acl_policy.specs.Rules.{RuleFacts, rule_facts}
use Rattle.rule_index.proofs.ranges_of_rules.ranges_of.Given as goal

-- a range for each rule so far
abbrev pub invariant-loop-rule : goal.invariant-loop-rule
invariant-loop-rule l =
    record {
      len : length l.ranges.items ≡ l.rule-index;
      each : (k : ℕ) (rule : RuleFacts) (range : ℕ × ℕ) → slice_get (map rule_facts l.rules) k ≡ Some rule → slice_get l.ranges.items k ≡ Some range → Spans l.dimension rule range;
    }
