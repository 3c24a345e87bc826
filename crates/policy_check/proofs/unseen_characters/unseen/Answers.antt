use Rattle.std.proofs.Common.{[], ◌∷◌, ◌++◌}
use Rattle.acl_policy.specs.Words.{words_of}
use Rattle.policy_check.proofs.WalkLemmas.{one_further}
use Rattle.policy_check.proofs.unseen_characters.unseen.Goals as goal

pub words-preserved : goal.words-preserved
words-preserved c = (
  c.words.invariant.0 ++ c.in-Some.word.now ∷ [],
  one_further (words_of c.args.text.now) c.words.invariant.0 (words_of c.words.rest.now) (words_of c.in-Some.more.now) c.in-Some.word.now c.words.invariant.1 c.in-Some.ensures,
)
