use Rattle.std.proofs.Common.{◌++◌, refl}
use Rattle.acl_policy.specs.Traffic.{OfTcp}
use Rattle.acl_policy.specs.Words.{words_of}
use Rattle.policy_check.specs.Reasons.{IsPartReason}
use Rattle.policy_check.specs.declared.reason.Reason.TheVariants.{NoTcpPart}
use Rattle.policy_check.proofs.FormLemmas.{both_used, left_wrong}
use Rattle.policy_check.proofs.protocol_findings.tcp_parts.Goals as goal

pub returns-in-Ok-after_flags : goal.returns-in-Ok-after_flags
returns-in-Ok-after_flags c =
    let words = words_of c.args.text.now in
    let more = words_of c.in-Ok.text.now in
    let last = words_of c.in-Ok-after_flags.text.now in
    let one = c.in-Ok.ensures.right in
    let two = c.in-Ok-after_flags.ensures.right in
    left_wrong (λ f. f.reason) (λ f. f.word.now) words (one.0 ++ two.0) last NoTcpPart (IsPartReason OfTcp words) (λ w stands. (stands, refl))
    (both_used words more last one.0 two.0 one.1 two.1)
    c.left_after_protocol.result c.left_after_protocol.ensures.reason c.left_after_protocol.ensures.word
