use Rattle.std.proofs.Common.{rules}
use Rattle.bihash_steps.proofs.Addresses.{sees_at}
use Rattle.bihash_steps.proofs.SeatCounts.{can_act, counted_same, found_bucket, seen_records}
use Rattle.bihash_steps.proofs.row_and_callers.Row.load_bucket.Goals as goal

pub load-requires : goal.load-requires
load-requires g c = (
  search rules,
  search rules,
  sees_at _ _ _ _ _ _ c.bucket_at.ensures.place c.requires.at.inside (can_act _ _ c.caller.invariant.1),
)

pub invariant_of-caller : goal.invariant_of-caller
invariant_of-caller g c =
    let told = c.load.ensures.2 _ c.requires.at.inside c.bucket_at.ensures.place in
    counted_same c.caller.inside.seat.me _ _ _ told.slots (seen_records _ _ _ _ _ told.seen) c.caller.invariant

pub returns : goal.returns
returns g c = found_bucket _ _ _ _ _ _ _ _ c.caller.inside.seat.me _ _ c.load.ensures.0 c.load.ensures.1 c.of.ensures c.caller.view_is
    (c.load.ensures.2 _ c.requires.at.inside c.bucket_at.ensures.place)
