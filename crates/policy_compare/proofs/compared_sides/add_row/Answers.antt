use Rattle.std.proofs.Common.{◌∙◌, ◌+◌, List, ap, arith, length, length-take-le, map, sym, take}
use Rattle.acl_policy.specs.declared.rule.Rule.{Rule}
use Rattle.acl_policy.specs.Rules.{rule_facts}
use Rattle.policy_compare.specs.inner.Found.{sides_facts}
use Rattle.policy_compare.proofs.RowLemmas.{earlier_rules, earlier_within, next_pair}
use Rattle.policy_compare.proofs.compared_sides.add_row.Goals as goal

pub slice_bounds-difference_at-end : goal.slice_bounds-difference_at-end
slice_bounds-difference_at-end c =
    let all = c.in_ok-earlier.earlier.items in
    let end = 8 + c.args.place + c.loop-other.other in
    let within = earlier_within all c.args.sides.now.before.now c.args.sides.now.after.now c.args.place c.loop-other.other c.in_ok-earlier.ensures c.requires.within
    (omega (arith, c.loop-other-test.true)) in
    sym (ap (λ (rules : List Rule). length (take end rules)) c.deref.ensures.value ∙ length-take-le end all within)

pub difference_at-requires-clause-earlier : goal.difference_at-requires-clause-earlier
difference_at-requires-clause-earlier c =
    let all = c.in_ok-earlier.earlier.items in
    ap (λ (rules : List Rule). map rule_facts (take (8 + c.args.place + c.loop-other.other) rules)) c.deref.ensures.value
    ∙ earlier_rules all c.args.sides.now.before.now c.args.sides.now.after.now c.args.place c.loop-other.other c.in_ok-earlier.ensures c.requires.within

pub loop-other-preserved : goal.loop-other-preserved
loop-other-preserved c =
    let sides = sides_facts c.args.sides.now in
    record {
      adds = next_pair sides c.loop-other.tests c.difference_at.new.tests c.args.place c.loop-other.other _ _ _ c.in_ok-found.found c.in_ok-found.ensures.fewer
          c.loop-other.invariant.adds c.in_ok-add.ensures c.in_ok-found.ensures.some c.in_ok-found.ensures.same c.in_ok-found.ensures.none;
      fewer = omega (arith, c.in_ok-found.ensures.fewer, c.loop-other.invariant.fewer);
    }
