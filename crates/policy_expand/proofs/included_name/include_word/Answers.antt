use Rattle.std.proofs.Common.{◌≡◌, ◌∷◌, ◌∙◌, ap, rules, sym}
use Rattle.std.specs.Prelude.{codes}
use Rattle.acl_policy.specs.Words.{words_of}
use Rattle.acl_policy.proofs.OptionLemmas.{next_in-some}
use Rattle.policy_expand.proofs.included_name.include_word.Goals as goal

pub returns-in-Some-next_word-2-clause-err : goal.returns-in-Some-next_word-2-clause-err
returns-in-Some-next_word-2-clause-err c =
    let first : c.in-Some.first.now ≡ codes "include" = search rules in
    let all : words_of c.before_comment.result.now ≡ c.in-Some.first.now ∷ words_of c.in-Some.rest.now = next_in-some _ _ _ (sym c.in-Some.ensures) in
    (words_of c.in-Some.rest.now, ap words_of (sym c.before_comment.ensures) ∙ all ∙ ap (λ w. w ∷ words_of c.in-Some.rest.now) first)
