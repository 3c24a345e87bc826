use Rattle.std.proofs.Common.{◌≡◌, ◌+◌, ◌++◌, ◌∷◌, [], arith, length, map, rules}
use Rattle.std.proofs.lemmas.List.{length-map}
use Rattle.acl_policy.specs.Rules.{rule_facts}
use Rattle.policy_compare.proofs.LimitLemmas.{limit_pushed, limits_whole}
use Rattle.policy_compare.proofs.taking_rules.limits_of.Goals as goal

pub loop-place-preserved : goal.loop-place-preserved
loop-place-preserved c =
    let items : c.push.new.self.items ≡ c.loop-place.limits.items ++ c.limit_of.result ∷ [] = search rules in
    limit_pushed (map rule_facts c.args.rules.now) (map rule_facts c.args.taken.now) c.loop-place.place c.limit_of.result _ c.loop-place.limits.items
    c.push.new.self.items c.loop-place.invariant items c.rule_at.ensures c.limit_of.ensures

pub returns : goal.returns
returns c =
    let same = length-map c.args.taken.now rule_facts in
    let end : c.loop-place.place ≡ length (map rule_facts c.args.taken.now) + 1 = omega (arith, same, c.loop-place-test.false, c.loop-place.auto.place-end) in
    limits_whole (map rule_facts c.args.rules.now) (map rule_facts c.args.taken.now) c.loop-place.place c.loop-place.limits.items end c.loop-place.invariant
