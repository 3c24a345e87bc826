use Rattle.std.proofs.Common.{ℕ, List, map, subst}
use Rattle.std.proofs.lemmas.Result.{IfOk-weaker}
use Rattle.rule_index.specs.inner.Columns.{Holds}
use Rattle.acl_policy.specs.Rules.{rule_facts}
use Rattle.rule_index.proofs.ColumnLemmas.{sieves_from}
use Rattle.rule_index.proofs.column.Column.of_rules.Goals as goal

pub returns : goal.returns
returns c =
    IfOk-weaker c.new.result _ _
    (λ column holds.
    sieves_from c.args.dimension (map rule_facts c.args.rules.now) c.in_ok-ranges.ranges.items column c.in_ok-ranges.ensures
    (subst (λ (ranges : List (ℕ × ℕ)). Holds ranges column) c.deref.ensures.value holds))
    c.new.ensures
