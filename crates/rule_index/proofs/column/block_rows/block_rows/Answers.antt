use Rattle.std.proofs.Common.{arith, ◌≡◌, ◌<◌, ◌+◌, ◌*◌, ◌/◌, ◌%◌, ℕ, List, length, subst, sym}
use Rattle.std.specs.Prelude.{slice_index}
use Rattle.std.specs.Int.{bit_at}
use Rattle.std.proofs.lemmas.Option.{slice_get_within}
use Rattle.rule_index.specs.Rows.{bit_in}
use Rattle.rule_index.proofs.ColumnLemmas.{written_over}
use Rattle.rule_index.proofs.NumberLemmas.{part_read}
use Rattle.rule_index.proofs.column.block_rows.block_rows.Goals as goal

pub returns-clause-filled : goal.returns-clause-filled
returns-clause-filled c = λ bit row x range short read within place.
    let from : ℕ = c.args.block * 64 in
    let inside : from + bit < length c.args.ranges.now = slice_get_within c.args.ranges.now (from + bit) range read in
    let below : from + bit < c.block_end-to.result = c.block_end-to.ensures.all (from + bit) inside (omega (arith, short)) in
    let first : row * 1 + bit / 64 ≡ row = omega (arith, short) in
    let same : bit % 64 ≡ bit = omega (arith, short) in
    let one : bit_in 1 c.fill.new.rows row bit ≡ 1 =
    c.fill.ensures.filled bit row x range (part_read c.args.ranges.now from _ bit range (omega (arith, below)) read) within place in
    subst (λ (rows : List ℕ). bit_at (slice_index rows row) bit ≡ 1) (sym (written_over c.fill.new.rows c.in_ok-rows.rows.items c.in_ok-rows.rows.len (omega arith)))
    (subst (λ (i : ℕ). bit_at (slice_index c.fill.new.rows i) bit ≡ 1) first
    (subst (λ (b : ℕ). bit_at (slice_index c.fill.new.rows (row * 1 + bit / 64)) b ≡ 1) same one))
