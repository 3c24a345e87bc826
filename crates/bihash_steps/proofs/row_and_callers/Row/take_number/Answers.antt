use Rattle.std.proofs.Common.{rules, arith}
use Rattle.bihash_steps.proofs.CountWord.{some_words}
use Rattle.bihash_steps.proofs.caller_steps.LoadCount.{takes_number}
use Rattle.bihash_steps.proofs.row_and_callers.Row.take_number.Goals as goal

pub compare_exchange-found-requires : goal.compare_exchange-found-requires
compare_exchange-found-requires g c = (
  search rules,
  rw c.self.invariant.wide (some_words _),
  takes_number _ _ _ _ _ c.requires.few (let a = c.caller.invariant.1.count in let b = c.caller.invariant.1.some in omega arith),
)
