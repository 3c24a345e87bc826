use Rattle.std.proofs.Common.{arith, ◌*◌, ◌+◌, ◌/◌, ◌%◌}
use Rattle.rule_index.proofs.ColumnLemmas.{set_here, set_other, two_places}
use Rattle.rule_index.proofs.bit_rows.set_bit.Goals as goal

pub returns-clause-set : goal.returns-clause-set
returns-clause-set c = set_here c.args.rows.now (c.args.row * c.args.width + c.args.rule / 64) (c.args.rule % 64) c.requires.within (omega arith)

pub returns-clause-others : goal.returns-clause-others
returns-clause-others c = λ r k short other.
    set_other c.args.rows.now (c.args.row * c.args.width + c.args.rule / 64) (c.args.rule % 64) c.requires.within (omega arith)
    (r * c.args.width + k / 64) (k % 64) (two_places r c.args.row c.args.width k c.args.rule short c.requires.rule other)
