use Rattle.std.proofs.Common.{◌≡◌, ap, ◌∙◌}
use Rattle.acl_policy.proofs.LineLaws.{family_in-complete, family_in-sound}
use Rattle.acl_policy.specs.Lines.{family_word}
use Rattle.acl_policy.specs.inner.Reading.Lines.{family_in}
use Rattle.policy_check.proofs.ReaderLemmas.{read_as}
use Rattle.policy_check.proofs.word_readers.read_family_word.Goals as goal

pub returns : goal.returns
returns c =
    let w = c.args.word.now in
    read_as (family_in w) c.family_of_word.result (λ f. w ≡ family_word f) c.family_of_word.ensures (λ f found. family_in-sound w f found) (λ f same. ap family_in same ∙ family_in-complete f)
