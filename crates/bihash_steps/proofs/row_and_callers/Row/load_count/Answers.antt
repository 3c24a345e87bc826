use Rattle.std.proofs.Common.{rules}
use Rattle.bihash_steps.proofs.CountWord.{some_words}
use Rattle.bihash_steps.proofs.caller_steps.LoadCount.{loads_count}
use Rattle.bihash_steps.proofs.SeatCounts.{can_act}
use Rattle.bihash_steps.proofs.row_and_callers.Row.load_count.Goals as goal

pub load-requires : goal.load-requires
load-requires g c = (search rules, rw c.self.invariant.wide (some_words _), loads_count _ _ _ _ (can_act _ _ c.caller.invariant.1))
