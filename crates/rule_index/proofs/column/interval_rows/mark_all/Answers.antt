use Rattle.std.proofs.Common.{arith, ◌≡◌, ◌<◌, ◌/◌, ◌∙◌, ℕ, length, inl, inr, get_or, subst, sym}
use Rattle.std.proofs.lemmas.Bool.{cases_eq}
use Rattle.std.proofs.lemmas.Option.{slice_get_within}
use Rattle.rule_index.specs.Rows.{HasTurns}
use Rattle.rule_index.proofs.ColumnLemmas.{read_there}
use Rattle.rule_index.proofs.TurnLemmas.{turns_kept}
use Rattle.rule_index.proofs.column.interval_rows.mark_all.Goals as goal

pub loop-rule-preserved : goal.loop-rule-preserved
loop-rule-preserved c = record {
  len = omega arith;
  turns = λ k range below read.
      elim (cases_eq k c.loop-rule.rule) [
        | inl same ↦
            let here : get_or c.args.ranges.now c.loop-rule.rule (0, 0) ≡ range = rw (← same) (read_there c.args.ranges.now k range (0, 0) read) in
            subst (λ (n : ℕ). HasTurns c.args.starts.now c.args.width c.mark.new.rows n range) (sym same)
            (subst (λ (r : ℕ × ℕ). HasTurns c.args.starts.now c.args.width c.mark.new.rows c.loop-rule.rule r) here c.mark.ensures.turns)
        | inr other ↦
            let short : k / 64 < c.args.width = omega arith in
            turns_kept c.args.starts.now c.args.width c.loop-rule.rows c.mark.new.rows k range (λ row. c.mark.ensures.others row k short other)
            (c.loop-rule.invariant.turns k range (omega (arith, other)) read)
      ];
  clear = λ row k short late.
      c.mark.ensures.others row k short (λ same. absurd (omega (arith, same, late))) ∙ c.loop-rule.invariant.clear row k short (omega arith);
}

pub returns-clause-turns : goal.returns-clause-turns
returns-clause-turns c = λ k range read.
    c.loop-rule.invariant.turns k range (let within : k < length c.args.ranges.now = slice_get_within c.args.ranges.now k range read in omega arith) read
