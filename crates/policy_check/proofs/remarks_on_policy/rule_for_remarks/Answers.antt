use Rattle.std.proofs.Common.{◌≡◌, ◌<◌, List, Some, ap, length, subst, arith}
use Rattle.std.specs.Prelude.{slice_get}
use Rattle.std.proofs.lemmas.List.{length-map}
use Rattle.acl_policy.specs.Rules.{RuleFacts, rule_facts}
use Rattle.policy_check.proofs.RemarkLemmas.{rule_there}
use Rattle.policy_check.proofs.remarks_on_policy.rule_for_remarks.Goals as goal

pub returns : goal.returns
returns c =
    let rule = c.index-rules_for_remarks-place.result in
    let within : c.args.place < length c.rules_for_remarks.result.now = omega (arith, ap length c.rules_for_remarks.ensures, length-map c.rules_for_remarks.result.now rule_facts, c.requires) in
    let here = rule_there c.rules_for_remarks.result.now c.args.place rule within c.index-rules_for_remarks-place.is in
    subst (λ (rules : List RuleFacts). slice_get rules c.args.place ≡ Some (rule_facts rule)) c.rules_for_remarks.ensures here
