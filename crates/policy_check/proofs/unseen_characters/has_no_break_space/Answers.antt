use Rattle.std.proofs.Common.{refl}
use Rattle.policy_check.proofs.WalkLemmas.{left_of}
use Rattle.policy_check.proofs.unseen_characters.has_no_break_space.Goals as goal

pub bytes-preserved : goal.bytes-preserved
bytes-preserved c = left_of c.args.word.now c.bytes.invariant.0 c.bytes.rest.now _ refl c.bytes.invariant.1
