-- The write is that of the event.
use Rattle.bihash_steps.proofs.ToldCalls.{write_at}
use Rattle.bihash_table.proofs.change_in_place.overwrite.Given as goal

abbrev pub ghosts-publish : goal.ghosts-publish
ghosts-publish g a = record { call = write_at g.S.Shape a.caller.now.view a.bucket a._told.now }
