-- The write is that of the event.
use Rattle.bihash_steps.proofs.ToldCalls.{write_at}
use Rattle.bihash_table.proofs.shrinking.shrink_or_vacate.Given as goal

abbrev pub ghosts-publish_block : goal.ghosts-publish_block
ghosts-publish_block g a = record { call = write_at g.S.Shape a.caller.now.view a.bucket a._told.now }
