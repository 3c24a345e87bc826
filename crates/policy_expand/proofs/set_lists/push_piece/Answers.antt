use Rattle.std.proofs.Common.{[], ◌∷◌, inr, refl}
use Rattle.policy_expand.proofs.set_lists.push_piece.Goals as goal

pub returns-in_ok-push-in-None : goal.returns-in_ok-push-in-None
returns-in_ok-push-in-None c = (
  c.in-Some-visible_word.word ∷ [],
  c.in_ok-push-in-None.ensures.items,
  inr (c.named_in.ensures.none c.in-None.is, (c.in-Some-visible_word.word, c.in-Some-visible_word.ensures, refl)),
)
