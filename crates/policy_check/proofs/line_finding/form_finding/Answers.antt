use Rattle.std.proofs.Common.{List, ℕ, inl, inr, subst}
use Rattle.acl_policy.specs.Words.{words_of}
use Rattle.policy_check.specs.Reasons.{IsWordsReason}
use Rattle.policy_check.proofs.line_finding.form_finding.Goals as goal

pub returns-in-Err : goal.returns-in-Err
returns-in-Err c =
    inr (inl (subst (λ (text : List ℕ). IsWordsReason (words_of text) c.in-Err.found.reason c.in-Err.found.word.now) c.before_comment-text.ensures c.in-Err.ensures))
