-- The call that is answered is that of the event.
use Rattle.bihash_steps.proofs.ToldCalls.{answer_at}
use Rattle.bihash_table.proofs.try_update.answer_try.Given as goal

abbrev pub ghosts-validate : goal.ghosts-validate
ghosts-validate g a = record { call = answer_at g.S.Shape a.caller.now.view a.bucket a._told.now }
