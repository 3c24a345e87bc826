use Rattle.std.proofs.Common.{arith, ◌≡◌, ◌∙◌, ℕ, ◌+◌, ◌/◌, List, ap, subst, sym}
use Rattle.std.proofs.lemmas.List.{length-map}
use Rattle.rule_index.specs.Rows.{bit_in}
use Rattle.acl_policy.specs.Rules.{rule_facts}
use Rattle.rule_index.proofs.ColumnLemmas.{written_over}
use Rattle.rule_index.proofs.flag_rows.FlagRows.of_rules.Goals as goal

pub returns : goal.returns
returns c =
    record {
      width = c.words_for-width.ensures ∙ ap (λ (n : ℕ). n / 64 + 1) (sym (length-map c.args.rules.now rule_facts));
      held = λ k x rule tuple read within at matches.
          subst (λ (rows : List ℕ). bit_in c.words_for-width.result rows x k ≡ 1)
          (sym (written_over c.fill.new.rows c.in_ok-rows.rows.items c.in_ok-rows.rows.len (omega arith)))
          (c.fill.ensures.marked k x rule tuple read within at matches);
    }
