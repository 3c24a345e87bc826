use Rattle.std.proofs.Common.{◌-◌, ap, drop, length, map, take}
use Rattle.std.specs.Prelude.{option_map}
use Rattle.acl_policy.specs.Rules.{rule_facts}
use Rattle.policy_compare.proofs.FindingLemmas.{behind_idle, free_if_ok, starting_if_ok}
use Rattle.policy_compare.proofs.pair_of_rules.apart_by.Goals as goal

pub returns-in-Some-clause-found : goal.returns-in-Some-clause-found
returns-in-Some-clause-found c = λ rest is.
    starting_if_ok c.left_of_starting.result (option_map rule_facts c.args.rules.0) (option_map rule_facts c.args.rules.1) (rule_facts c.in-Some.one) (rule_facts c.in-Some.two)
    (map rule_facts c.args.earlier.now) rest (ap (option_map rule_facts) c.in-Some.ensures.one.0) (ap (option_map rule_facts) c.in-Some.ensures.two.0)
    c.requires.apart c.in-Some.ensures.one.1 c.in-Some.ensures.two.1 is c.left_of_starting.ensures.found

pub returns-in-None-clause-found : goal.returns-in-None-clause-found
returns-in-None-clause-found c = λ rest is.
    let earlier = c.args.earlier.now in
    free_if_ok c.free_of_both.result (option_map rule_facts c.args.rules.0) (option_map rule_facts c.args.rules.1) (map rule_facts (take (length earlier - 8) (drop 8 earlier))) rest
    c.requires.apart (c.both_pass.ensures.none c.in-None.is) (behind_idle earlier rest is) c.free_of_both.ensures.found
