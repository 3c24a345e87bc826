use Rattle.acl_policy.proofs.PrefixLaws.{address_in-complete, address_in-sound}
use Rattle.acl_policy.specs.Prefixes.{IsAddress}
use Rattle.acl_policy.specs.inner.WordReading.Prefixes.{address_in}
use Rattle.policy_check.proofs.ReaderLemmas.{read_as}
use Rattle.policy_check.proofs.word_readers.read_address_word.Goals as goal

pub returns-clause-value : goal.returns-clause-value
returns-clause-value c =
    let w = c.args.word.now in
    read_as (address_in c.args.family w) c.address_of.result (IsAddress c.args.family w) c.address_of.ensures.value (λ n found. address_in-sound c.args.family w n found) (λ n is. address_in-complete c.args.family w n is)
