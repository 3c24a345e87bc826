-- What is searched, as lists of rules.
use Rattle.std.specs.Prelude.{List, map}
use Rattle.acl_policy.specs.Rules.{RuleFacts, rule_facts}
use Rattle.flow_filter.specs.declared.ruleset.RuleSearch.{RuleSearch}
use Rattle.flow_filter.specs.declared.ruleset.RuleSearch.TheVariants.{Listed, Indexed}

-- the rules that are searched
abbrev pub searched_rules : RuleSearch → List RuleFacts
searched_rules (Listed rules) = map rule_facts rules.now
searched_rules (Indexed index) = map rule_facts index.now.rules.items
