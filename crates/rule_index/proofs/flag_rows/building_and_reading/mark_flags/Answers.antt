use Rattle.std.proofs.Common.{arith, ◌≡◌, ◌<◌, ◌/◌, ℕ, inl, inr, subst, sym}
use Rattle.std.proofs.lemmas.Bool.{cases_eq}
use Rattle.rule_index.specs.Flagged.{IsFlagsOf}
use Rattle.rule_index.specs.Rows.{bit_in}
use Rattle.rule_index.proofs.ColumnLemmas.{bits_kept}
use Rattle.rule_index.proofs.flag_rows.building_and_reading.mark_flags.Goals as goal
use Rattle.rule_index.proofs.flag_rows.building_and_reading.mark_flags.Goals.{then-may_have, else-may_have}

pub loop-value-preserved : goal.loop-value-preserved
loop-value-preserved c =
    elim c.if-may_have.branch [
      | then-may_have w ↦
          let kept : (r k : ℕ) → k / 64 < c.args.width → bit_in c.args.width c.loop-value.rows r k ≡ 1 → bit_in c.args.width w.set_bit.new.rows r k ≡ 1 =
          bits_kept c.args.width c.loop-value.rows w.set_bit.new.rows c.loop-value.value c.args.place w.set_bit.ensures.set w.set_bit.ensures.others in
          rw w.rows-is (record {
            len = omega arith;
            kept = λ i k short one. kept i k short (c.loop-value.invariant.kept i k short one);
            marked = λ x tuple below at matches.
                elim (cases_eq x c.loop-value.value) [
                  | inl same ↦ subst (λ (r : ℕ). bit_in c.args.width w.set_bit.new.rows r c.args.place ≡ 1) (sym same) w.set_bit.ensures.set
                  | inr other ↦ kept x c.args.place c.requires.place (c.loop-value.invariant.marked x tuple (omega (arith, other)) at matches)
                ];
          })
      | else-may_have w ↦ rw w.rows-is (record {
        len = c.loop-value.invariant.len;
        kept = c.loop-value.invariant.kept;
        marked = λ x tuple below at matches.
            elim (cases_eq x c.loop-value.value) [
              | inl same ↦
                  let yes = c.may_have.ensures tuple (subst (λ (n : ℕ). IsFlagsOf tuple.fields n) same at) matches in
                  absurd (cc)
              | inr other ↦ c.loop-value.invariant.marked x tuple (omega (arith, other)) at matches
            ];
      })
    ]
