use Rattle.std.proofs.Common.{arith, ◌∙◌, ℕ, List, length, ap, sym, subst, inl, inr}
use Rattle.std.proofs.lemmas.Bool.{cases_eq}
use Rattle.rule_index.specs.Numbered.{Laid}
use Rattle.rule_index.specs.inner.Columns.{IsBlockLaid}
use Rattle.rule_index.proofs.NumberLemmas.{block_kept}
use Rattle.rule_index.proofs.column.block_rows.lay_blocks.Goals as goal

pub loop-block-preserved : goal.loop-block-preserved
loop-block-preserved c =
    let block = c.loop-block.block in
    let width = c.words_for-width.result in
    let laid = c.in_ok-lay.ensures.laid in
    let others = c.in_ok-lay.ensures.others in
    record {
      len = c.lay.ensures.len ∙ c.loop-block.invariant.len;
      words = laid.stored;
      within = laid.within;
      laid = λ b below.
          elim (cases_eq b block) [
            | inl same ↦ subst (λ (n : ℕ). IsBlockLaid c.args.starts.now c.args.ranges.now width n c.lay.new.numbers c.lay.new.words.items) (sym same)
                (record {
                  rows = c.in_ok-rows.rows.items;
                  fills = c.in_ok-rows.ensures.filled;
                  laid = subst (λ (rows : List ℕ). Laid (length c.args.starts.now) width block rows c.lay.new.numbers c.lay.new.words.items) c.deref.ensures.value
                      (subst (λ (n : ℕ). Laid n width block c.deref.result.now c.lay.new.numbers c.lay.new.words.items) (ap length c.deref.ensures.value ∙ c.in_ok-rows.ensures.len) laid);
                })
            | inr other ↦
                let before = c.loop-block.invariant.laid b (omega (arith, other, below)) in
                record {
                  rows = before.rows;
                  fills = before.fills;
                  laid = block_kept (length c.args.starts.now) width b block before.rows c.loop-block.numbers c.loop-block.words.items c.lay.new.numbers c.lay.new.words.items
                      c.loop-block.invariant.len (omega arith) other others laid.within before.laid;
                }
          ];
      clear = λ row b from below inside. others.others row b below (λ same. absurd (omega (arith, same, from))) ∙ c.loop-block.invariant.clear row b (omega (arith, from)) below inside;
    }
