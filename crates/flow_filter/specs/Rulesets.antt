-- The rules of a direction, as a list.
use Rattle.std.specs.Prelude.{List}
use Rattle.acl_policy.specs.Rules.{RuleFacts}
use Rattle.flow_filter.specs.declared.ruleset.Ruleset.{Ruleset}
use Rattle.flow_filter.specs.RuleSearches.{searched_rules}

-- the rules of one direction
abbrev pub rules_in : Ruleset → List RuleFacts
rules_in r = searched_rules r.search
