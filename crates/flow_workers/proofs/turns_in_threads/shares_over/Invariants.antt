use Rattle.std.proofs.Common.{◌≡◌, map, Ok}
use Rattle.flow_workers.specs.declared.worker_turn.Turn.TheVariants.{Over}
use Rattle.flow_workers.proofs.turns_in_threads.shares_over.Given as goal

abbrev pub invariant-loop-turn : goal.invariant-loop-turn
invariant-loop-turn g l = l.yielded ≡ map (λ share. Over (Ok share)) l.shares.items
