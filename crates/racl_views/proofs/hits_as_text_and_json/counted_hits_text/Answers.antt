use Rattle.std.proofs.Common.{◌∙◌, ◌++◌, ◌-◌, ℕ, List, ◌≡◌, ap, flat_map, map, subst, sym}
use Rattle.racl_views.specs.Hits.{hit_told, live_stored, reason_hits, rule_hits, session_hits}
use Rattle.racl_views.specs.RuleLines.{AreRules}
use Rattle.racl_views.specs.RuleTexts.{rule_texts, shown_of}
use Rattle.acl_policy.specs.Policies.{IsPolicyText}
use Rattle.racl_views.specs.declared.hit_counts.Hit.{Hit}
use Rattle.racl_views.specs.declared.rule_numbering.RuleLine.{RuleLine}
use Rattle.racl_views.specs.declared.session_counts.SessionCounts.{SessionCounts}
use Rattle.racl_views.proofs.hits_as_text_and_json.counted_hits_text.Goals as goal

pub returns : goal.returns
returns c = λ run times latest stored text says have are.
    let right = subst (λ (t : List ℕ). IsPolicyText t run.policy) text says in
    let told : List Hit → List ℕ = flat_map (hit_told c.args.view (rule_texts run.text)) in
    let texts : map shown_of c.deref-2.result.now ≡ rule_texts run.text =
    ap (map shown_of) c.deref-2.ensures.value ∙ c.in_ok-texts.ensures right.0 ∙ ap rule_texts (sym text) in
    let others = reason_hits run.verdicts in
    let hits = c.in_ok-hits.ensures have.rules run.verdicts have.counted have.reasons
    ∙ ap (λ (rules : List RuleLine). rule_hits have.rules rules ++ (others ++ session_hits c.args.sessions)) c.deref.ensures.value
    ∙ ap (λ (sessions : SessionCounts). rule_hits have.rules c.in_ok-rules.rules.items ++ (others ++ session_hits sessions))
    (are
    ∙ (λ i. record {
      entered = have.entered i;
      matched = have.reasons.session i;
      expired = have.entered i - live_stored times latest stored;
    })) in
    record {
      rules = c.in_ok-rules.rules.items;
      lines = subst (λ (t : List ℕ). AreRules t c.in_ok-rules.rules.items) (sym text)
          (c.in_ok-rules.ensures run.policy right);
      deciding = have.rules;
      decided = have.decided;
      all = c.in_ok-told.ensures ∙ ap (λ (ts : List (List ℕ)). flat_map (hit_told c.args.view ts) c.deref-3.result.now) texts
          ∙ ap told (c.deref-3.ensures.value ∙ hits);
    }
