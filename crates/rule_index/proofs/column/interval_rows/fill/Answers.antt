use Rattle.std.proofs.Common.{arith, ◌<◌, ◌/◌, length}
use Rattle.std.proofs.lemmas.Option.{slice_get_within}
use Rattle.rule_index.proofs.TurnLemmas.{range_filled, Sums}
use Rattle.rule_index.proofs.column.interval_rows.fill.Goals as goal

pub returns-clause-filled : goal.returns-clause-filled
returns-clause-filled c = λ k row x range read within place.
    let below : k < length c.args.ranges.now = slice_get_within c.args.ranges.now k range read in
    let short : k / 64 < c.args.width = omega arith in
    let sums : Sums (length c.args.starts.now) c.args.width c.mark_all.new.rows c.accumulate.new.rows =
    record { len = omega arith; first = c.accumulate.ensures.first; rest = c.accumulate.ensures.rest } in
    range_filled c.args.starts.now c.args.width c.mark_all.new.rows c.accumulate.new.rows k row x range sums short (c.mark_all.ensures.turns k range read) within place
