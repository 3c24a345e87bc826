use Rattle.std.proofs.Common.{◌≡◌, ◌∙◌, List, take, subst}
use Rattle.std.specs.Prelude.{All}
use Rattle.std.proofs.lemmas.List.{take_all}
use Rattle.std.proofs.lemmas.List.Elements.{All-map, All-more}
use Rattle.acl_policy.specs.declared.policy.Section.{Section}
use Rattle.acl_policy.specs.Policies.{section_facts}
use Rattle.policy_check.specs.Remarks.{HasNoRule}
use Rattle.policy_check.proofs.remarks_on_policy.has_no_rule.Goals as goal

pub loop-section-preserved : goal.loop-section-preserved
loop-section-preserved c =
    let P = λ (s : Section). HasNoRule (section_facts s) in
    All-more P c.deref-section-items.result.now c.loop-section.section-index c.section-item.result c.loop-section-test.true c.loop-section.invariant
    (subst P c.section-item.is (c.is_bare.ensures.yes c.if-not-is_bare.false))

pub returns : goal.returns
returns c = λ yes.
    let items = c.args.policy.now.sections.items in
    let whole : take c.loop-section.section-index c.deref-section-items.result.now ≡ items =
    take_all c.loop-section.section-index c.deref-section-items.result.now c.loop-section-test.false ∙ c.deref-section-items.ensures.value in
    All-map HasNoRule section_facts items (subst (λ (ss : List Section). All (λ s. HasNoRule (section_facts s)) ss) whole c.loop-section.invariant)
