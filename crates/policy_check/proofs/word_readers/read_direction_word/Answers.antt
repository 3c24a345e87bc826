use Rattle.std.proofs.Common.{◌≡◌, ap, ◌∙◌}
use Rattle.acl_policy.proofs.LineLaws.{direction_in-complete, direction_in-sound}
use Rattle.acl_policy.specs.Lines.{direction_word}
use Rattle.acl_policy.specs.inner.Reading.Lines.{direction_in}
use Rattle.policy_check.proofs.ReaderLemmas.{read_as}
use Rattle.policy_check.proofs.word_readers.read_direction_word.Goals as goal

pub returns : goal.returns
returns c =
    let w = c.args.word.now in
    read_as (direction_in w) c.direction_of_word.result (λ d. w ≡ direction_word d) c.direction_of_word.ensures (λ d found. direction_in-sound w d found) (λ d same. ap direction_in same ∙ direction_in-complete d)
