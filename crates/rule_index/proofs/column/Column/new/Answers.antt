use Rattle.std.proofs.Common.{arith, ◌≡◌, ◌<◌, ◌++◌, ◌*◌, ◌/◌, ◌∙◌, ℕ, List, length, ap, subst, sym, take, drop}
use Rattle.std.proofs.lemmas.Option.{slice_get_within}
use Rattle.rule_index.specs.inner.Columns.{AreLaid}
use Rattle.rule_index.specs.Numbered.{AreOf, IsCarried, numbered_bit}
use Rattle.rule_index.proofs.ColumnLemmas.{written_over}
use Rattle.rule_index.proofs.NumberLemmas.{laid_bit}
use Rattle.rule_index.proofs.column.Column.new.Goals as goal

pub invariant_of-result-clause-within : goal.invariant_of-result-clause-within
invariant_of-result-clause-within c =
    let count = c.in_ok-numbers.numbers.len in
    let laid = c.lay_blocks.new.numbers in
    let carried = c.carry.new.numbers in
    let first : take count (laid ++ drop (length laid) c.in_ok-numbers.numbers.items) ≡ laid = written_over laid c.in_ok-numbers.numbers.items count (omega arith) in
    let last : take count (carried ++ drop (length carried) (take count (laid ++ drop (length laid) c.in_ok-numbers.numbers.items))) ≡ carried = written_over carried _ count (omega arith) in
    let carrying : IsCarried c.words_for-width.result laid carried = subst (λ (old : List ℕ). IsCarried c.words_for-width.result old carried) (c.deref_mut-2.ensures.value ∙ first) c.carry.ensures in
    subst (λ (numbers : List ℕ). AreOf numbers c.in_ok-words.words.items) (sym last) (carrying.below (length c.in_ok-words.words.items) c.in_ok-words.ensures.laid.within)

pub invariant_of-result-clause-sized : goal.invariant_of-result-clause-sized
invariant_of-result-clause-sized c =
    let count = c.in_ok-numbers.numbers.len in
    let laid = c.lay_blocks.new.numbers in
    let carried = c.carry.new.numbers in
    let width = c.words_for-width.result in
    let starts = c.in_ok-starts.starts.items in
    let last : take count (carried ++ drop (length carried) (take count (laid ++ drop (length laid) c.in_ok-numbers.numbers.items))) ≡ carried = written_over carried _ count (omega arith) in
    let many : c.len.result ≡ length starts = omega (arith, c.len.ensures, c.deref.ensures.len, ap length c.deref.ensures.value) in
    let products : c.len.result * width ≡ length starts * width = ap (λ (n : ℕ). n * width) many in
    let sized : length carried ≡ length starts * width = omega (arith, products, c.in_ok-numbers.ensures.len) in
    ap length last ∙ sized

pub returns : goal.returns
returns c =
    let count = c.in_ok-numbers.numbers.len in
    let laid = c.lay_blocks.new.numbers in
    let carried = c.carry.new.numbers in
    let width = c.words_for-width.result in
    let words = c.in_ok-words.words.items in
    let starts = c.in_ok-starts.starts.items in
    let first : take count (laid ++ drop (length laid) c.in_ok-numbers.numbers.items) ≡ laid = written_over laid c.in_ok-numbers.numbers.items count (omega arith) in
    let last : take count (carried ++ drop (length carried) (take count (laid ++ drop (length laid) c.in_ok-numbers.numbers.items))) ≡ carried = written_over carried _ count (omega arith) in
    let carrying : IsCarried width laid carried = subst (λ (old : List ℕ). IsCarried width old carried) (c.deref_mut-2.ensures.value ∙ first) c.carry.ensures in
    let many : c.len.result ≡ length starts = omega (arith, c.len.ensures, c.deref.ensures.len, ap length c.deref.ensures.value) in
    let products : c.len.result * width ≡ length starts * width = ap (λ (n : ℕ). n * width) many in
    let sized : length laid ≡ length starts * width = omega (arith, products, c.in_ok-numbers.ensures.len) in
    let are : AreLaid starts c.args.ranges.now width laid words =
    subst (λ (begun : List ℕ). AreLaid begun c.args.ranges.now width laid words) c.deref.ensures.value
    (subst (λ (n : ℕ). AreLaid c.deref.result.now c.args.ranges.now n laid words) (sym c.words_for-width.ensures) c.in_ok-words.ensures.laid) in
    record {
      width = c.words_for-width.ensures;
      held = λ rule row x range read within place.
          let inside : rule < length c.args.ranges.now = slice_get_within c.args.ranges.now rule range read in
          let short : rule / 64 < width = omega (arith, inside, c.words_for-width.ensures) in
          subst (λ (numbers : List ℕ). numbered_bit width numbers words row rule ≡ 1) (sym last)
          (laid_bit starts c.args.ranges.now width laid carried words carrying sized are rule row x range short read within place);
    }
