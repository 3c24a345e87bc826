use Prim.Native.Nat.{◌+◌, ◌*◌}
use Rattle.flow_dealing.proofs.tasks_in_threads.+tasks.Given as goal

abbrev pub decreases-run_all : goal.decreases-run_all
decreases-run_all g l = 2 * l.tasks.len

abbrev pub decreases-own : goal.decreases-own
decreases-own g l = 2 * l.tasks.len + 1
