use Rattle.std.proofs.Common.{rules}
use Rattle.bihash_steps.specs.BucketSteps.{HoldsClean}
use Rattle.bihash_steps.proofs.Addresses.{unlocks_at}
use Rattle.bihash_steps.proofs.SeatCounts.{of_seat}
use Rattle.bihash_steps.proofs.row_and_callers.Row.release.Goals as goal

pub store-requires : goal.store-requires
store-requires g c = (
  search rules,
  search rules,
  rw c.to_word.ensures (unlocks_at _ _ _ _ _ _ _ c.bucket_at.ensures.place
      (of_seat (λ v. HoldsClean v c.args.bucket c.args.word) c.caller.view_is c.requires.clean)),
)
