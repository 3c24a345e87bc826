use Rattle.std.proofs.Common.{◌≡◌, rules, tests, [], ◌∷◌, ◌++◌, List, ℕ, subst, sym}
use Rattle.acl_policy.specs.Words.{words_of}
use Rattle.policy_check.specs.Reasons.{HasRange, IsPartReason}
use Rattle.policy_check.proofs.FormLemmas.{said, two_words, value_reason}
use Rattle.policy_check.proofs.port_and_flag_findings.after_range.Goals as goal

pub returns-in-Some-read_range_word-clause-right : goal.returns-in-Some-read_range_word-clause-right
returns-in-Some-read_range_word-clause-right c = (
  c.in-Some.word.now ∷ c.in-Some-read_next_word.value.now ∷ [],
  two_words _ _ _ _ _ c.in-Some.ensures c.in-Some-read_next_word.ensures,
)

pub range_fault-requires : goal.range_fault-requires
range_fault-requires c = c.in-None.ensures

pub returns-in-None-clause-wrong : goal.returns-in-None-clause-wrong
returns-in-None-clause-wrong c = λ parts used has.
    let words = words_of c.args.text.now in
    let value = c.in-Some-read_next_word.value.now in
    let named : c.in-Some.word.now ≡ c.args.name.now = search (rules, tests) in
    let split = two_words words _ (words_of c.in-Some-read_next_word.rest.now) c.in-Some.word.now value c.in-Some.ensures c.in-Some-read_next_word.ensures in
    said (IsPartReason parts (used ++ words)) c.of.result.reason c.range_fault.result c.of.result.word.now value c.of.ensures.reason c.of.ensures.word
    (value_reason parts used words (words_of c.in-Some-read_next_word.rest.now) c.args.most c.in-Some.word.now value c.range_fault.result c.range_fault.ensures
    (subst (λ (name : List ℕ). HasRange parts name c.args.most) (sym named) has) split)
