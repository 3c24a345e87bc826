-- A rule as a value, without what its type keeps.
use Rattle.std.specs.Prelude.{ℕ}
use Rattle.packet_view.specs.declared.tuple.Family.{Family}
use Rattle.acl_policy.specs.declared.rule.Action.{Action}
use Rattle.acl_policy.specs.declared.rule.Rule.{Rule}

pub record RuleFacts : Type 0 where
  pub action : Action
  pub family : Family
  pub source : ℕ × ℕ
  pub dest : ℕ × ℕ
  pub proto : ℕ
  pub first : ℕ × ℕ
  pub second : ℕ × ℕ
  pub value : ℕ
  pub mask : ℕ

-- what a rule says
abbrev pub rule_facts : Rule → RuleFacts
rule_facts r = record {
  action = r.action;
  family = r.family;
  source = r.source;
  dest = r.dest;
  proto = r.proto;
  first = r.first;
  second = r.second;
  value = r.value;
  mask = r.mask;
}

-- the greatest number of rules of one direction
abbrev pub most_rules : ℕ
most_rules = 4096
