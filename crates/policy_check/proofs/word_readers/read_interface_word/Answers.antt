use Rattle.acl_policy.proofs.LineLaws.{interface_in-complete, interface_in-sound}
use Rattle.acl_policy.specs.Lines.{IsInterface}
use Rattle.acl_policy.specs.inner.Reading.Lines.{interface_in}
use Rattle.policy_check.proofs.ReaderLemmas.{read_as}
use Rattle.policy_check.proofs.word_readers.read_interface_word.Goals as goal

pub returns : goal.returns
returns c =
    let w = c.args.word.now in
    read_as (interface_in w) c.interface_of_word.result (IsInterface w) c.interface_of_word.ensures (λ n found. interface_in-sound w n found) (λ n is. interface_in-complete w n is)
