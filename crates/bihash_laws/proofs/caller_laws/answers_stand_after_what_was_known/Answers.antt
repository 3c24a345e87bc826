use Rattle.bihash_laws.proofs.LogOrders.{comes_after}
use Rattle.bihash_laws.proofs.caller_laws.answers_stand_after_what_was_known.Goals as goal

pub returns : goal.returns
returns c = comes_after
