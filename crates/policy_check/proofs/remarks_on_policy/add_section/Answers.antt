use Rattle.packet_view.specs.declared.tuple.Direction.TheVariants.{Inbound}
use Rattle.acl_policy.specs.Policies.{section_facts}
use Rattle.policy_check.specs.Remarks.{IsSectionRemark}
use Rattle.policy_check.proofs.ToldLemmas.{adds_told, both_told}
use Rattle.policy_check.proofs.RemarkLemmas.{Adds-found, Adds-more}
use Rattle.policy_check.proofs.remarks_on_policy.add_section.Goals as goal

pub returns-clause-adds : goal.returns-clause-adds
returns-clause-adds c =
    let P = IsSectionRemark (section_facts c.args.section.now) in
    let first = Adds-found P _ _ c.no_mac.result c.no_mac.ensures.holds c.in_ok-add.ensures in
    Adds-more P _ _ _ (Adds-more P _ _ _ first c.in_ok-add_rules.ensures.adds) c.in_ok-add_rules-2.ensures.adds

pub returns-clause-told : goal.returns-clause-told
returns-clause-told c =
    let section = section_facts c.args.section.now in
    both_told section _ (adds_told section Inbound _ _ c.in_ok-add_rules-2.ensures.adds c.in_ok-add_rules.ensures.told) c.in_ok-add_rules-2.ensures.told
