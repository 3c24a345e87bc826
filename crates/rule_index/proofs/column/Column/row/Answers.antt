use Rattle.std.proofs.Common.{arith, ◌≡◌, ◌∙◌, ◌+◌, ◌*◌, ◌/◌, ◌<◌, ℕ, List, length, subst, sym, ap}
use Rattle.std.proofs.lemmas.Option.{slice_get_within}
use Rattle.rule_index.specs.Numbered.{numbered_bit}
use Rattle.rule_index.specs.Rows.{IsPlace}
use Rattle.rule_index.proofs.ColumnLemmas.{cell_within}
use Rattle.rule_index.proofs.RowLemmas.{cut_bit, cut_width}
use Rattle.rule_index.proofs.column.Column.row.Goals as goal

pub returns : goal.returns
returns c = λ dimension rules tuple sieves at.
    let column = c.args.self.now in
    let place : IsPlace column.starts.items c.args.x c.place.result = subst (λ starts. IsPlace starts c.args.x c.place.result) c.deref.ensures.value c.place.ensures in
    let last : c.place.result * column.width + (length rules / 64) < length column.starts.items * column.width = cell_within c.place.result (length column.starts.items) (length rules / 64) column.width place.within (omega (arith, sieves.width)) in
    let sized : length c.deref-2.result.now ≡ length column.starts.items * column.width = ap length c.deref-2.ensures.value ∙ column.sized in
    record {
      width = cut_width c.deref-2.result.now c.deref-3.result.now (c.place.result * column.width) _ (length rules) (omega (arith, sieves.width)) (omega (arith, sieves.width));
      sifted = λ k rule read matches.
          let short : k < length rules = slice_get_within _ _ _ read in
          let one : numbered_bit column.width column.numbers.items column.words.items c.place.result k ≡ 1 = sieves.held k c.place.result c.args.x rule tuple read c.ranges.x.fits at matches place in
          let read_words : numbered_bit column.width column.numbers.items c.deref-3.result.now c.place.result k ≡ 1 =
          subst (λ (words : List ℕ). numbered_bit column.width column.numbers.items words c.place.result k ≡ 1) (sym c.deref-3.ensures.value) one in
          let read_numbers : numbered_bit column.width c.deref-2.result.now c.deref-3.result.now c.place.result k ≡ 1 =
          subst (λ (numbers : List ℕ). numbered_bit column.width numbers c.deref-3.result.now c.place.result k ≡ 1) (sym c.deref-2.ensures.value) read_words in
          cut_bit c.deref-2.result.now c.deref-3.result.now (c.place.result * column.width) _ k (omega (arith, sieves.width)) (omega (arith, sieves.width)) read_numbers;
    }
