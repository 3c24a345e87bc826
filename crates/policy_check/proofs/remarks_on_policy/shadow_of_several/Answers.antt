use Rattle.std.proofs.Common.{◌≡◌, List, Some, ap, arith, inl, length, ltb, map, refl, subst, sym, take}
use Rattle.std.specs.Prelude.{slice_get}
use Rattle.std.proofs.lemmas.List.{length-map}
use Rattle.packet_view.specs.Tuples.{tuple_facts}
use Rattle.acl_policy.specs.Rules.{RuleFacts, rule_facts}
use Rattle.rule_cover.specs.Covers.{IsCover}
use Rattle.rule_cover.specs.declared.uncovered_packets.Cover.{Cover}
use Rattle.policy_check.specs.Remarks.{CanDecide, IsShadowedTogether, NoneCovers}
use Rattle.policy_check.proofs.ShadowLemmas.{decides_left, shadowed_together, some_left}
use Rattle.policy_check.proofs.ToldLemmas.{told_by}
use Rattle.policy_check.proofs.remarks_on_policy.shadow_of_several.Goals as goal

pub returns-in-Left-clause-told : goal.returns-in-Left-clause-told
returns-in-Left-clause-told c =
    let place = c.args.place in
    let rule = rule_facts c.rule_for_remarks-rule.result in
    let rules = c.rules_for_remarks.result.now in
    let same = c.rules_for_remarks.ensures in
    let at = subst (λ (all : List RuleFacts). slice_get all place ≡ Some rule) (sym same) c.rule_for_remarks-rule.ensures in
    let left = subst (λ (x : Cover). IsCover rule rule (map rule_facts (take place rules)) x) c.in-Left.is c.in_ok-uncovered.ensures.cover in
    inl (subst (λ (all : List RuleFacts). CanDecide all place) same (decides_left rules place rule (tuple_facts c.in-Left.field-0) at left))

pub returns-in-Unknown-clause-told : goal.returns-in-Unknown-clause-told
returns-in-Unknown-clause-told c = told_by _ _ _ _ (refl, refl, refl)

pub returns-in_ok-places-in-Taken-clause-remark : goal.returns-in_ok-places-in-Taken-clause-remark
returns-in_ok-places-in-Taken-clause-remark c =
    let place = c.args.place in
    let rule = rule_facts c.rule_for_remarks-rule.result in
    let rules = c.rules_for_remarks.result.now in
    let same = c.rules_for_remarks.ensures in
    let at = subst (λ (all : List RuleFacts). slice_get all place ≡ Some rule) (sym same) c.rule_for_remarks-rule.ensures in
    let alone = subst (λ (all : List RuleFacts). NoneCovers all place rule) (sym same) (c.requires.none rule c.rule_for_remarks-rule.ensures) in
    let found = c.in_ok-places-in-Taken.ensures in
    let least = ltb 0 c.least_takers.new.tests in (
      refl,
      refl,
      refl,
      subst (λ (all : List RuleFacts). IsShadowedTogether all place c.in_ok-places-in-Taken.places.items least) same
          (shadowed_together rules place rule c.in_ok-places-in-Taken.places.items least
          (omega (arith, c.requires.place, ap length same, length-map rules rule_facts)) at alone found.within found.taken
          (λ are. found.least (some_left c.least_takers.new.tests are))),
    )

pub returns-in_ok-places-in-Taken-clause-told : goal.returns-in_ok-places-in-Taken-clause-told
returns-in_ok-places-in-Taken-clause-told c = told_by _ _ _ _ (refl, refl, refl)
