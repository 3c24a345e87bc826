use Rattle.std.proofs.Common.{◌≡◌, rules, tests, [], ◌∷◌, ◌++◌, ◌∙◌, ap, List, ℕ}
use Rattle.std.specs.Prelude.{codes}
use Rattle.acl_policy.specs.Traffic.{OfTcp}
use Rattle.acl_policy.specs.Words.{words_of}
use Rattle.policy_check.specs.Reasons.{IsPartReason}
use Rattle.policy_check.specs.declared.reason.Reason.TheVariants.{NoFlags}
use Rattle.policy_check.proofs.FormLemmas.{flags_reason, said, two_words}
use Rattle.policy_check.proofs.port_and_flag_findings.after_flags.Goals as goal

pub returns-in-Some-read_flags_word-clause-right : goal.returns-in-Some-read_flags_word-clause-right
returns-in-Some-read_flags_word-clause-right c = (
  c.in-Some.word.now ∷ c.in-Some-read_next_word.value.now ∷ [],
  two_words _ _ _ _ _ c.in-Some.ensures c.in-Some-read_next_word.ensures,
)

pub returns-in-None-clause-wrong : goal.returns-in-None-clause-wrong
returns-in-None-clause-wrong c = λ used.
    let words = words_of c.args.text.now in
    let value = c.in-Some-read_next_word.value.now in
    let named : c.in-Some.word.now ≡ codes "flags" = search (rules, tests) in
    let split = two_words words _ (words_of c.in-Some-read_next_word.rest.now) _ value (c.in-Some.ensures ∙ ap (λ (w : List ℕ). w ∷ words_of c.in-Some.rest.now) named) c.in-Some-read_next_word.ensures in
    said (IsPartReason OfTcp (used ++ words)) c.of.result.reason NoFlags c.of.result.word.now value c.of.ensures.reason c.of.ensures.word
    (flags_reason used words (words_of c.in-Some-read_next_word.rest.now) value split c.in-None.ensures)
