use Rattle.std.proofs.Common.{arith, ◌≡◌, ◌∙◌, ℕ, List, length, map, refl, subst, sym, Some}
use Rattle.std.specs.Prelude.{slice_get}
use Rattle.std.proofs.lemmas.Option.{slice_get_read}
use Rattle.rule_index.specs.Dimensions.{Spans}
use Rattle.acl_policy.specs.Rules.{RuleFacts, rule_facts}
use Rattle.acl_policy.proofs.RulingLemmas.{slice_get-rule_facts}
use Rattle.acl_policy.proofs.OptionLemmas.{same_some}
use Rattle.rule_index.proofs.RangeLemmas.{spans_more}
use Rattle.rule_index.proofs.ranges_of_rules.ranges_of.Goals as goal

pub loop-rule-preserved : goal.loop-rule-preserved
loop-rule-preserved c =
    let rules = c.args.rules.now in
    let i = c.loop-rule.rule-index in
    let here : slice_get (map rule_facts rules) i ≡ Some (rule_facts c.rule-item.result) =
    slice_get-rule_facts rules i c.rule-item.result (slice_get_read rules (length rules) i c.rule-item.result refl (omega arith) c.rule-item.is) in
    record {
      len = omega (arith, c.in_ok-push.ensures.len);
      each = λ k rule range at read.
          spans_more c.args.dimension (map rule_facts rules) c.loop-rule.ranges.items c.range_of.result c.loop-rule.invariant.each
          (λ rule at.
          let same : rule_facts c.rule-item.result ≡ rule = same_some (rule_facts c.rule-item.result) rule (sym here ∙ subst (λ (n : ℕ). slice_get (map rule_facts rules) n ≡ Some rule) c.loop-rule.invariant.len at) in
          subst (λ (r : RuleFacts). Spans c.args.dimension r c.range_of.result) same c.range_of.ensures)
          k rule range at (subst (λ (items : List (ℕ × ℕ)). slice_get items k ≡ Some range) c.in_ok-push.ensures.items read);
    }
