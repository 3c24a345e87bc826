use Rattle.std.proofs.Common.{◌≡◌, ap, ◌∙◌}
use Rattle.acl_policy.proofs.LineLaws.{action_in-complete, action_in-sound}
use Rattle.acl_policy.specs.Lines.{action_word}
use Rattle.acl_policy.specs.inner.Reading.Lines.{action_in}
use Rattle.policy_check.proofs.ReaderLemmas.{read_as}
use Rattle.policy_check.proofs.word_readers.read_action_word.Goals as goal

pub returns : goal.returns
returns c =
    let w = c.args.word.now in
    read_as (action_in w) c.action_of_word.result (λ a. w ≡ action_word a) c.action_of_word.ensures (λ a found. action_in-sound w a found) (λ a same. ap action_in same ∙ action_in-complete a)
