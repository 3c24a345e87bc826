-- The write is that of the event, and so is the refusal.
use Rattle.bihash_steps.proofs.ToldCalls.{answer_at, write_at}
use Rattle.bihash_table.proofs.change_of_block.enter_in_new_block.Given as goal

abbrev pub ghosts-publish_block : goal.ghosts-publish_block
ghosts-publish_block g a = record { call = write_at g.S.Shape a.caller.now.view a.bucket a._told.now }

abbrev pub ghosts-cancel : goal.ghosts-cancel
ghosts-cancel g a = record { call = answer_at g.S.Shape a.caller.now.view a.bucket a._told.now }
