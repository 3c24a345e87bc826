-- What is read at a place of a list of rules.
use Rattle.std.proofs.Common.{◌≡◌, ◌<◌, ◌∙◌, ℕ, List, Option, None, Some, arith, length, map, subst, sym}
use Rattle.std.proofs.lemmas.List.{length-map}
use Rattle.std.proofs.lemmas.Option.{slice_get_within}
use Rattle.std.specs.Prelude.{IfSome, slice_get}
use Rattle.acl_policy.specs.declared.rule.Action.{Action}
use Rattle.acl_policy.specs.Matching.{IsRuling}
use Rattle.packet_view.specs.Tuples.{TupleFacts}
use Rattle.acl_policy.specs.declared.rule.Rule.{Rule}
use Rattle.acl_policy.specs.Rules.{RuleFacts, rule_facts}
use Rattle.acl_policy.proofs.RulingLemmas.{slice_get-rule_facts}
use Rattle.acl_policy.proofs.OptionLemmas.{same_some}

-- the facts read at a place are those of the rule there
pub facts_there : (rules : List Rule) (i k : ℕ) (item : Rule) (rule : RuleFacts) → slice_get rules i ≡ Some item → k ≡ i
    → slice_get (map rule_facts rules) k ≡ Some rule → rule ≡ rule_facts item
facts_there rules i k item rule here same read =
    same_some rule (rule_facts item) (sym (subst (λ (n : ℕ). slice_get (map rule_facts rules) n ≡ Some rule) same read) ∙ slice_get-rule_facts rules i item here)

-- the place of the rule that decides is that of a rule
pub ruling_within : (rules : List Rule) (tuple : TupleFacts) (found : Option (ℕ × Action)) → IsRuling (map rule_facts rules) tuple found → IfSome found (λ d. d.0 < length rules)
ruling_within rules tuple None none = tt
ruling_within rules tuple (Some (place, action)) one =
    let within : place < length (map rule_facts rules) = slice_get_within (map rule_facts rules) place one.0 one.1 in
    omega (arith, within, length-map rules rule_facts)
