use Rattle.acl_policy.proofs.TrafficLaws.{protocol_in-complete, protocol_in-sound}
use Rattle.acl_policy.specs.Traffic.{IsProtocol}
use Rattle.acl_policy.specs.inner.WordReading.Traffic.{protocol_in}
use Rattle.policy_check.proofs.ReaderLemmas.{read_as}
use Rattle.policy_check.proofs.word_readers.read_protocol_word.Goals as goal

pub returns : goal.returns
returns c =
    let w = c.args.word.now in
    read_as (protocol_in c.args.family w) c.protocol_of.result (IsProtocol c.args.family w) c.protocol_of.ensures (λ n found. protocol_in-sound c.args.family w n found) (λ n is. protocol_in-complete c.args.family w n is)
