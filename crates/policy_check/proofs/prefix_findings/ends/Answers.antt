use Rattle.std.proofs.Common.{inl, inr}
use Rattle.acl_policy.specs.Words.{words_of}
use Rattle.policy_check.specs.Reasons.{IsEndReason}
use Rattle.policy_check.proofs.FormLemmas.{end_reason, said, two_words}
use Rattle.policy_check.proofs.prefix_findings.ends.Goals as goal

pub returns-in-Some-prefix_reason-clause-wrong : goal.returns-in-Some-prefix_reason-clause-wrong
returns-in-Some-prefix_reason-clause-wrong c =
    let words = words_of c.args.text.now in
    said (IsEndReason c.args.family words) c.of.result.reason c.in-Some-prefix_reason.reason c.of.result.word.now c.in-Some.source.now c.of.ensures.reason c.of.ensures.word
    (end_reason c.args.family words c.in-Some.source.now c.in-Some-prefix_reason.reason c.in-Some-prefix_reason.ensures (inl (words_of c.in-Some.text.now, c.in-Some.ensures)))

pub returns-in-Some-prefix_reason-2-clause-wrong : goal.returns-in-Some-prefix_reason-2-clause-wrong
returns-in-Some-prefix_reason-2-clause-wrong c =
    let words = words_of c.args.text.now in
    let told = c.of-in-Some-prefix_reason-2 in
    let split = two_words words _ (words_of c.in-Some-read_next_word.text.now) c.in-Some.source.now c.in-Some-read_next_word.dest.now c.in-Some.ensures c.in-Some-read_next_word.ensures in
    said (IsEndReason c.args.family words) told.result.reason c.in-Some-prefix_reason-2.reason told.result.word.now c.in-Some-read_next_word.dest.now told.ensures.reason told.ensures.word
    (end_reason c.args.family words c.in-Some-read_next_word.dest.now c.in-Some-prefix_reason-2.reason c.in-Some-prefix_reason-2.ensures (inr (c.in-Some.source.now, words_of c.in-Some-read_next_word.text.now, split)))
