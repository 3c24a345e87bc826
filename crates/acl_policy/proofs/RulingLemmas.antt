-- A list of rules decides a packet in one way.
use Rattle.std.proofs.Common.{◌≡◌, ℕ, List, Option, Some, None, map, sym, ap, subst, ◌∙◌, inl, inr}
use Rattle.std.specs.Prelude.{slice_get, option_map}
use Rattle.std.proofs.lemmas.Bool.{cases_order}
use Rattle.std.proofs.lemmas.Option.{slice_get-map}
use Rattle.packet_view.specs.Tuples.{TupleFacts}
use Rattle.acl_policy.specs.declared.rule.Action.{Action}
use Rattle.acl_policy.specs.declared.rule.Rule.{Rule}
use Rattle.acl_policy.specs.Matching.{Decides, IsRuling}
use Rattle.acl_policy.specs.Rules.{RuleFacts, rule_facts}

-- what a place of a list of rules says
pub slice_get-rule_facts : (rules : List Rule) (k : ℕ) (rule : Rule) → slice_get rules k ≡ Some rule → slice_get (map rule_facts rules) k ≡ Some (rule_facts rule)
slice_get-rule_facts rules k rule read = slice_get-map rule_facts rules k ∙ ap (option_map rule_facts) read

one_place : (rules : List RuleFacts) (tuple : TupleFacts) (i j : ℕ) (a b : Action) → Decides rules tuple i a → Decides rules tuple j b → i ≡ j → b ≡ a
one_place rules tuple i j a b one two same =
    let read : slice_get rules i ≡ Some two.0 = subst (λ (k : ℕ). slice_get rules k ≡ Some two.0) (sym same) two.1 in
    let rule : one.0 ≡ two.0 = cc (one.1, read) in
    two.3 ∙ sym (one.3 ∙ ap (λ (r : RuleFacts). r.action) rule)

pub one_ruling : (rules : List RuleFacts) (tuple : TupleFacts) (a b : Option (ℕ × Action)) → IsRuling rules tuple a → IsRuling rules tuple b → b ≡ a
one_ruling rules tuple None None one two = cc
one_ruling rules tuple None (Some b) one two = absurd (one b.0 two.0 two.1 two.2)
one_ruling rules tuple (Some a) None one two = absurd (two a.0 one.0 one.1 one.2)
one_ruling rules tuple (Some (i, a)) (Some (j, b)) one two =
    elim (cases_order i j) [
      | inl same ↦ let action : b ≡ a = one_place rules tuple i j a b one two same in cc
      | inr apart ↦ elim apart [
        | inl below ↦ absurd (two.4 i one.0 below one.1 one.2)
        | inr above ↦ absurd (one.4 j two.0 above two.1 two.2)
      ]
    ]
