use Rattle.std.proofs.Common.{arith, drop, get_or}
use Rattle.std.proofs.lemmas.List.{take_rest}
use Rattle.policy_expand.proofs.ListLemmas.{first_two}
use Rattle.policy_expand.proofs.written_line.define_set.Goals as goal

pub returns : goal.returns
returns c = (
  get_or c.args.words.now 0 c.name-item.result,
  c.name-item.result,
  drop 2 c.args.words.now,
  first_two c.args.words.now c.name-item.result (omega arith) c.name-item.is,
  rw take_rest at c.in_ok-add_set.ensures,
)
