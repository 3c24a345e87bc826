use Rattle.acl_policy.proofs.RangeLaws.{range_in-complete, range_in-sound}
use Rattle.acl_policy.specs.Traffic.{IsRange}
use Rattle.acl_policy.specs.inner.WordReading.Traffic.{range_in}
use Rattle.policy_check.proofs.ReaderLemmas.{read_as}
use Rattle.policy_check.proofs.word_readers.read_range_word.Goals as goal

pub returns : goal.returns
returns c =
    let w = c.args.word.now in
    read_as (range_in c.args.most w) c.range_of.result (IsRange c.args.most w) c.range_of.ensures (λ r found. range_in-sound c.args.most w r found) (λ r is. range_in-complete c.args.most w r is)
