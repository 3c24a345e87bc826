use Rattle.std.proofs.Common.{arith, map}
use Rattle.policy_expand.specs.Written.{list_words}
use Rattle.policy_expand.proofs.RowLemmas.{grown_next}
use Rattle.policy_expand.proofs.rows_of_lists.grown_rows.Goals as goal

pub loop-row-preserved : goal.loop-row-preserved
loop-row-preserved c =
    grown_next c.args.rows.now c.loop-row.row-index c.row-item.result c.args.list.now (map list_words c.loop-row.out.items)
    (map list_words c.push_rows.new.out.items) (omega arith) c.row-item.is c.loop-row.invariant (rw c.as_slice.ensures.value at c.in_ok-push_rows.ensures)
