use Rattle.acl_policy.specs.Words.{words_of}
use Rattle.policy_check.specs.Reasons.{IsTrafficReason}
use Rattle.policy_check.specs.declared.reason.Reason.TheVariants.{NoProtocol}
use Rattle.policy_check.proofs.FormLemmas.{said, traffic_wrong}
use Rattle.policy_check.proofs.protocol_findings.traffic.Goals as goal

pub returns-in-None : goal.returns-in-None
returns-in-None c =
    said (IsTrafficReason c.args.family (words_of c.args.text.now)) c.of.result.reason NoProtocol c.of.result.word.now c.in-Some.word.now c.of.ensures.reason c.of.ensures.word
    (words_of c.in-Some.rest.now, c.in-Some.ensures, c.in-None.ensures)

pub returns-in-Some-read_protocol_word : goal.returns-in-Some-read_protocol_word
returns-in-Some-read_protocol_word c =
    traffic_wrong (λ found. found.reason) (λ found. found.word.now) c.args.family (words_of c.args.text.now) (words_of c.in-Some.rest.now) c.in-Some.word.now
    c.in-Some-read_protocol_word.proto c.in-Some.ensures c.in-Some-read_protocol_word.ensures
    c.parts.result c.parts.ensures
