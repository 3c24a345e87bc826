use Rattle.std.proofs.Common.{refl}
use Rattle.acl_policy.specs.Rules.{rule_facts}
use Rattle.rule_cover.proofs.RegionLemmas.{region_is}
use Rattle.rule_cover.proofs.region_of_rule.region_of.Goals as goal

pub returns-clause-region : goal.returns-clause-region
returns-clause-region c =
    region_is (rule_facts c.args.rule.now)
    (record {
      family = c.args.rule.now.family;
      shown = c.args.shown;
      source = c.range_of_prefix.result;
      dest = c.range_of_prefix-2.result;
      proto = c.range_of_protocol.result;
      numbers = c.numbers_of.result;
    })
    (record {
      family = refl;
      source = c.range_of_prefix.ensures;
      dest = c.range_of_prefix-2.ensures;
      proto = c.range_of_protocol.ensures;
      any = c.numbers_of.ensures.any;
      one = c.numbers_of.ensures.one;
    })
