use Rattle.std.proofs.Common.{◌≤◌, ◌*◌, ◌^◌}
use Rattle.bihash_words.specs.Sizes.{sizes_of}
use Rattle.bihash_table.specs.Ageing.{Sweeps}
use Rattle.bihash_table.proofs.shared_table.Sessions.sweep.Given as goal

-- the buckets so far
abbrev pub invariant-loop-bucket : goal.invariant-loop-bucket
invariant-loop-bucket g l = record {
  order : l.from ≤ l.bucket;
  swept : Sweeps (sizes_of g.S.Shape) l.initial.caller.seat l.caller.seat l.from l.bucket (g.E.Expiry.is_expired l.expiry) l.went;
  few : l.went ≤ l.bucket * 2 ^ 33;
}
