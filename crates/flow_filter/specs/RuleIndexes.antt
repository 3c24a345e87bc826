-- Indexes of the rules of a policy's sections.
use Rattle.std.specs.Prelude.{◌≡◌}
use Rattle.std.specs.Option.{ForSome}
use Rattle.acl_policy.specs.declared.policy.Section.{Section}
use Rattle.flow_filter.specs.declared.rule_indexes.RuleIndexes.{RuleIndexes}

-- each index is of the rules of its direction
pub record ArePrepared (section : Section) (prepared : RuleIndexes) : Type 0 where
  pub inbound : ForSome prepared.inbound (λ index. index.rules.items ≡ section.inbound.items)
  pub outbound : ForSome prepared.outbound (λ index. index.rules.items ≡ section.outbound.items)
