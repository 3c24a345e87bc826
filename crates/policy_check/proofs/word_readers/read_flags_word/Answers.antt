use Rattle.acl_policy.proofs.RangeLaws.{flags_in-complete, flags_in-sound}
use Rattle.acl_policy.specs.Traffic.{IsFlags}
use Rattle.acl_policy.specs.inner.WordReading.Traffic.{flags_in}
use Rattle.policy_check.proofs.ReaderLemmas.{read_as}
use Rattle.policy_check.proofs.word_readers.read_flags_word.Goals as goal

pub returns : goal.returns
returns c =
    let w = c.args.word.now in
    read_as (flags_in w) c.flags_of_word.result (IsFlags w) c.flags_of_word.ensures (λ f found. flags_in-sound w f found) (λ f is. flags_in-complete w f is)
