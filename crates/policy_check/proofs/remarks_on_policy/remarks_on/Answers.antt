use Rattle.std.proofs.Common.{◌≡◌, List, Some, ap, arith, length, map, subst}
use Rattle.std.specs.Prelude.{slice_get}
use Rattle.std.proofs.lemmas.List.{length-map}
use Rattle.std.proofs.lemmas.Option.{slice_get_within}
use Rattle.acl_policy.specs.declared.policy.Section.{Section}
use Rattle.acl_policy.specs.Policies.{policy_facts, section_facts}
use Rattle.policy_check.proofs.RemarkLemmas.{more_of_policy, section_there}
use Rattle.policy_check.proofs.ToldLemmas.{section_told}
use Rattle.policy_check.proofs.remarks_on_policy.remarks_on.Goals as goal

pub loop-section-preserved : goal.loop-section-preserved
loop-section-preserved c =
    let policy = policy_facts c.args.policy.now in
    let section = c.section-item.result in
    let place = c.loop-section.section-index in
    let read = section_there c.deref-section-items.result.now place section c.loop-section-test.true c.section-item.is in
    let here = subst (λ (ss : List Section). slice_get (map section_facts ss) place ≡ Some (section_facts section)) c.deref-section-items.ensures.value read in (
      more_of_policy policy place (section_facts section) _ _ here c.loop-section.invariant.0 c.in_ok-add_section.ensures.adds,
      section_told policy place (section_facts section) _ _ here c.loop-section.invariant.1 c.in_ok-add_section.ensures.adds c.in_ok-add_section.ensures.told,
    )

pub returns-clause-told : goal.returns-clause-told
returns-clause-told c = λ k section at.
    let all = (policy_facts c.args.policy.now).sections in
    c.loop-section.invariant.1 k section
    (omega (arith, slice_get_within all k section at, length-map c.args.policy.now.sections.items section_facts, ap length c.deref-section-items.ensures.value)) at
