use Rattle.std.proofs.Common.{arith, ◌+◌, ◌*◌, length, sym, ◌∙◌, inl}
use Rattle.std.proofs.lemmas.List.{get_or-set_other, length-set}
use Rattle.rule_index.proofs.NumberLemmas.{before_next, laid_next, laid_same, others_next, places_apart}
use Rattle.rule_index.proofs.numbered_words.lay.Goals as goal

pub loop-row-preserved-then-rows-row : goal.loop-row-preserved-then-rows-row
loop-row-preserved-then-rows-row c =
    let row = c.loop-row.row in
    let none = c.loop-row.invariant.clear row (omega arith) (omega arith) in
    record {
      len = c.loop-row.invariant.len;
      last = sym c.if-rows-row.true ∙ sym (before_next c.args.rows.now row);
      laid = laid_same c.args.width c.args.block c.args.rows.now c.loop-row.numbers c.loop-row.words.items row none (c.if-rows-row.true ∙ c.loop-row.invariant.last) c.loop-row.invariant.laid;
      clear = λ r from within. c.loop-row.invariant.clear r (omega (arith, from)) within;
      others = c.loop-row.invariant.others;
    }

pub loop-row-preserved : goal.loop-row-preserved
loop-row-preserved c =
    let row = c.loop-row.row in
    let width = c.args.width in
    let block = c.args.block in
    let numbers = c.loop-row.numbers in
    let stored = c.in_ok-number.ensures in
    record {
      len = length-set numbers (row * width + block) c.in_ok-number.number ∙ c.loop-row.invariant.len;
      last = sym (before_next c.args.rows.now row);
      laid = laid_next (length c.args.rows.now) width block c.args.rows.now numbers c.loop-row.words.items _ row c.in_ok-number.number (c.loop-row.invariant.len ∙ c.requires.sized) (omega arith) c.requires.block stored c.loop-row.invariant.laid;
      clear = λ r from within.
          get_or-set_other numbers (row * width + block) (r * width + block) c.in_ok-number.number 0
          (places_apart r row width block block c.requires.block c.requires.block (inl (λ same. absurd (omega (arith, same, from)))))
          ∙ c.loop-row.invariant.clear r (omega (arith, from)) within;
      others = others_next width block _ _ numbers c.loop-row.words.items _ row c.in_ok-number.number c.requires.block stored.kept c.loop-row.invariant.others;
    }
