use Rattle.acl_policy.proofs.PieceLaws.{mac_in-complete, mac_in-sound}
use Rattle.acl_policy.specs.Prefixes.{IsMac}
use Rattle.acl_policy.specs.inner.WordReading.Prefixes.{mac_in}
use Rattle.policy_check.proofs.ReaderLemmas.{read_as}
use Rattle.policy_check.proofs.word_readers.read_mac_word.Goals as goal

pub returns : goal.returns
returns c =
    let w = c.args.word.now in
    read_as (mac_in w) c.mac_of.result (IsMac w) c.mac_of.ensures (λ m found. mac_in-sound w m found) (λ m is. mac_in-complete w m is)
