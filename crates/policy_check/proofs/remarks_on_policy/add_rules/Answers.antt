use Rattle.std.proofs.Common.{ℕ, ap, arith, length}
use Rattle.std.proofs.lemmas.List.{length-map}
use borrow.Author.Count.{below_more}
use Rattle.acl_policy.specs.Policies.{section_facts}
use Rattle.acl_policy.specs.Rules.{rule_facts}
use Rattle.policy_check.specs.Remarks.{IsDecidingTold, IsSectionRemark}
use Rattle.policy_check.proofs.RemarkLemmas.{Adds-none, Adds-rule}
use Rattle.policy_check.proofs.ToldLemmas.{newly_told, still_told}
use Rattle.policy_check.proofs.remarks_on_policy.add_rules.Goals as goal

pub loop-place-init : goal.loop-place-init
loop-place-init c = (Adds-none (IsSectionRemark (section_facts c.args.section.now)) c.args.all.now.items, λ k less. absurd (omega (arith, less)))

pub loop-place-preserved : goal.loop-place-preserved
loop-place-preserved c =
    let section = section_facts c.args.section.now in
    let way = c.args.direction in
    let place = c.loop-place.place in
    let first = Adds-rule section way place _ _ _ c.source_bits.result c.loop-place.invariant.0 c.source_bits.ensures c.in_ok-add.ensures in
    let second = Adds-rule section way place _ _ _ c.dest_bits.result first c.dest_bits.ensures c.in_ok-add-2.ensures in
    let third = Adds-rule section way place _ _ _ c.mask.result second c.mask.ensures c.in_ok-add-3.ensures in
    let fourth = Adds-rule section way place _ _ _ c.unmatched_flags.result third c.unmatched_flags.ensures c.in_ok-add-4.ensures in (
      Adds-rule section way place _ _ _ c.in_ok-remark.remark fourth c.in_ok-remark.ensures.remark c.in_ok-add-5.ensures,
      below_more (λ (k : ℕ). IsDecidingTold section way k c.add-in-loop-place-4.new.all.items) place
          (λ k less.
          let one = still_told section way k _ _ _ c.in_ok-add.ensures (c.loop-place.invariant.1 k less) in
          let two = still_told section way k _ _ _ c.in_ok-add-2.ensures one in
          let three = still_told section way k _ _ _ c.in_ok-add-3.ensures two in
          still_told section way k _ _ _ c.in_ok-add-5.ensures (still_told section way k _ _ _ c.in_ok-add-4.ensures three))
          (newly_told section way place _ _ _ c.in_ok-add-5.ensures c.in_ok-remark.ensures.told),
    )

pub returns-clause-told : goal.returns-clause-told
returns-clause-told c = λ place less.
    c.loop-place.invariant.1 place
    (omega (arith, less, ap length c.rules_for_remarks-place-end.ensures, length-map c.rules_for_remarks-place-end.result.now rule_facts))
