use Rattle.bihash_table.specs.inner.OpenReads.{HasRead}
use Rattle.bihash_table.proofs.ExpiredReads.{NoneExpired}
use Rattle.bihash_table.proofs.bucket_ageing.expired_in_open_bucket.Given as goal

-- no pair so far is expired
abbrev pub invariant-loop-place : goal.invariant-loop-place
invariant-loop-place g l = HasRead l.initial.seat l.seat (NoneExpired g.S.Shape (g.E.Expiry.is_expired l.expiry) l.place)
