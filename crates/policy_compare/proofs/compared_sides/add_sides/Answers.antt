use Rattle.std.proofs.Common.{◌≡◌, ◌+◌, ℕ, arith, length, map, subst, sym}
use Rattle.std.proofs.lemmas.List.{length-map}
use Rattle.acl_policy.specs.Rules.{rule_facts}
use Rattle.policy_compare.specs.inner.Found.{AddsDifferences, IsAtRow, IsBeforeRow, IsDifferenceOf, sides_facts}
use Rattle.policy_compare.proofs.RowLemmas.{all_rows, row_more}
use Rattle.policy_compare.proofs.compared_sides.add_sides.Goals as goal

pub loop-place-preserved : goal.loop-place-preserved
loop-place-preserved c =
    let sides = sides_facts c.args.sides.now in
    let place = c.loop-place.place in
    let left = c.add_row.new.tests in
    let row = subst (λ (n : ℕ). AddsDifferences (IsDifferenceOf sides left) (IsAtRow sides place (n + 1)) c.loop-place.all.items c.add_row.new.all.items)
    (sym (length-map c.args.sides.now.after.now rule_facts)) c.in_ok-add_row.ensures.adds in
    record {
      adds = row_more sides c.loop-place.tests left place _ _ _ c.in_ok-add_row.ensures.fewer c.loop-place.invariant.adds row;
      fewer = omega (arith, c.in_ok-add_row.ensures.fewer, c.loop-place.invariant.fewer);
    }

pub returns-clause-adds : goal.returns-clause-adds
returns-clause-adds c =
    let sides = sides_facts c.args.sides.now in
    let same = length-map c.args.sides.now.before.now rule_facts in
    let end : c.loop-place.place ≡ length (map rule_facts c.args.sides.now.before.now) + 1 = omega (arith, same, c.loop-place-test.false, c.loop-place.auto.place-end) in
    all_rows sides c.loop-place.tests _ _
    (subst (λ (n : ℕ). AddsDifferences (IsDifferenceOf sides c.loop-place.tests) (IsBeforeRow sides n) c.args.all.now.items c.loop-place.all.items) end c.loop-place.invariant.adds)
