-- The refusal is that of the event, and asked the expiry.
use Rattle.bihash_steps.proofs.ToldCalls.{refusal_at}
use Rattle.bihash_table.proofs.recycling.refuse_to_recycle.Given as goal

abbrev pub ghosts-validate : goal.ghosts-validate
ghosts-validate g a = record {
  call = refusal_at g.S.Shape a.caller.now.view a.bucket a._told.now.0 (g.E.Expiry.is_expired a._told.now.1.now);
}
