use Rattle.std.proofs.Common.{◌∙◌, ◌++◌, List, ℕ, ap, append_assoc, subst, sym}
use Rattle.racl_views.specs.Hits.{reason_hits, rule_hits, session_hits}
use Rattle.racl_views.specs.declared.hit_counts.Hit.{Hit}
use Rattle.racl_views.specs.inner.Counts.{Count}
use Rattle.racl_views.proofs.hits_as_text_and_json.hits_to_tell.Goals as goal

pub returns : goal.returns
returns c = λ deciding verdicts counted reasons.
    let rules = rule_hits deciding c.args.rules.now in
    let others = reason_hits verdicts in
    let sessions = session_hits c.args.sessions in
    let first = c.in_ok-push_rule_hits_to_tell.ensures deciding (subst (λ (cs : List ℕ). Count cs deciding) (sym c.deref.ensures.value) counted)
    ∙ ap (λ (hs : List Hit). hs ++ rules) c.new-hits.ensures.items in
    c.in_ok-push_session_hits_to_tell.ensures
    ∙ ap (λ (hs : List Hit). hs ++ sessions) (c.in_ok-push_reason_hits_to_tell.ensures verdicts reasons ∙ ap (λ (hs : List Hit). hs ++ others) first)
    ∙ append_assoc rules others sessions
