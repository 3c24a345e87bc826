use Rattle.policy_check.proofs.ReaderLemmas.{cut_as}
use Rattle.policy_check.proofs.word_readers.cut_word_at.Goals as goal

pub returns : goal.returns
returns c = cut_as c.args.byte c.args.word.now (λ b. b.now) c.cut_at.result c.cut_at.ensures
