use Rattle.std.proofs.Common.{List, arith, drop, subst, sym}
use Rattle.racl_views.specs.declared.rule_numbering.RuleLine.{RuleLine}
use Rattle.racl_views.specs.inner.EntryLists.{AreAtPlaces}
use Rattle.racl_views.proofs.CountLemmas.{drop_before}
use Rattle.racl_views.proofs.rule_lines_by_place.lines_at_places.Goals as goal

pub loop-i-preserved : goal.loop-i-preserved
loop-i-preserved c =
    subst (λ (rs : List RuleLine). AreAtPlaces c.set_rule.new.lines.items rs)
    (sym (drop_before c.args.rules.now c.loop-i.i _ (omega (arith, c.loop-i-test.true)) (omega (arith, c.loop-i-test.true))))
    (c.in_ok-set_rule.ensures (drop c.loop-i.i c.args.rules.now) c.loop-i.invariant)
