-- The write is that of the event: it removed a key, and asked the expiry.
use Rattle.bihash_steps.proofs.ToldCalls.{recycled_at}
use Rattle.bihash_table.proofs.recycling.recycle_place.Given as goal

abbrev pub ghosts-publish : goal.ghosts-publish
ghosts-publish g a = record {
  call = recycled_at g.S.Shape a.caller.now.view a.bucket a._told.now.0 a._told.now.1.now (g.E.Expiry.is_expired a._told.now.2.now);
}
