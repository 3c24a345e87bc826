use Rattle.acl_policy.proofs.PrefixLaws.{prefix_in-complete, prefix_in-sound}
use Rattle.acl_policy.specs.Prefixes.{IsPrefix}
use Rattle.acl_policy.specs.inner.WordReading.Prefixes.{prefix_in}
use Rattle.policy_check.proofs.ReaderLemmas.{read_as}
use Rattle.policy_check.proofs.word_readers.read_prefix_word.Goals as goal

pub returns : goal.returns
returns c =
    let w = c.args.word.now in
    read_as (prefix_in c.args.family w) c.prefix_of.result (IsPrefix c.args.family w) c.prefix_of.ensures.value (λ p found. prefix_in-sound c.args.family w p found) (λ p is. prefix_in-complete c.args.family w p is)
