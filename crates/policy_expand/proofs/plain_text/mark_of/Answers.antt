use Rattle.std.proofs.Common.{◌∙◌, ◌++◌, IfOk, List, ℕ, ap, decimal, map, subst, ◌≡◌}
use Rattle.policy_expand.specs.Sources.{source_facts}
use Rattle.policy_expand.specs.Texts.{own_comment, shown}
use Rattle.policy_expand.proofs.MarkLemmas.{mark_with}
use Rattle.policy_expand.proofs.plain_text.mark_of.Goals as goal

pub returns : goal.returns
returns c =
    let line = source_facts c.args.line.now in
    let comment : List ℕ = own_comment line.text in
    let place = c.in_ok-mark.ensures.items ∙ c.as_bytes.ensures.value ∙ c.in_ok-place.ensures.ok in
    let whole = c.as_slice.ensures.value ∙ c.in_ok-push_own_comment.ensures ∙ ap (λ (bytes : List ℕ). bytes ++ comment) place
    ∙ mark_with line.file (decimal line.number) comment in
    subst (λ (bytes : List ℕ). IfOk c.shown_bytes.result (λ mark. mark.items ≡ map shown bytes)) whole c.shown_bytes.ensures
