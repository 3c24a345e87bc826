use Rattle.acl_policy.proofs.NumeralLaws.{number_in-complete, number_in-sound}
use Rattle.acl_policy.specs.Numerals.{IsNumber}
use Rattle.acl_policy.specs.inner.WordReading.Numerals.{number_in}
use Rattle.policy_check.proofs.ReaderLemmas.{read_as}
use Rattle.policy_check.proofs.word_readers.read_number_word.Goals as goal

pub returns : goal.returns
returns c =
    let w = c.args.word.now in
    read_as (number_in w) c.number_of.result (IsNumber w) c.number_of.ensures (λ n found. number_in-sound w n found) (λ n is. number_in-complete w n is)
