use Rattle.std.proofs.Common.{◌≡◌, arith, sym, ◌∙◌, None, Some}
use Rattle.std.proofs.lemmas.Grind.{pow_more}
use Rattle.acl_policy.specs.inner.WordReading.Numerals.{cut_in, group_in}
use Rattle.acl_policy.specs.inner.WordReading.Prefixes.{groups_after}
use Rattle.acl_policy.proofs.GroupLemmas.{groups-fit, groups_in-none, groups_in-some, no_group_left, one_group}
use Rattle.acl_policy.proofs.address.groups_of.Goals as goal

pub overflow_mul-result : goal.overflow_mul-result
overflow_mul-result c = omega (arith, groups-fit c.loop-count.number 0 c.loop-count.count (omega arith) (omega arith) (omega arith))

pub overflow_add-result : goal.overflow_add-result
overflow_add-result c = omega (arith, groups-fit c.loop-count.number c.from.result c.loop-count.count (omega arith) (omega arith) (omega arith))

pub overflow_mul-number : goal.overflow_mul-number
overflow_mul-number c = omega (arith, groups-fit c.loop-count.number 0 c.loop-count.count (omega arith) (omega arith) (omega arith))

pub overflow_add-number : goal.overflow_add-number
overflow_add-number c = omega (arith, groups-fit c.loop-count.number c.from-in-loop-count.result c.loop-count.count (omega arith) (omega arith) (omega arith))

pub returns-in_err-group : goal.returns-in_err-group
returns-in_err-group c =
    let whole = groups_in-some c.args.text.now (sym c.is_empty.ensures ∙ c.if-is_empty.false) in
    let none : cut_in 58 c.loop-count.rest.now ≡ None = sym (rw c.in_default.is at c.cut_at.ensures) in
    let step = one_group c.loop-count.number c.loop-count.count c.loop-count.rest.now _ None (omega arith) c.loop-count.invariant.value none in
    let last : group_in c.loop-count.rest.now ≡ None = sym c.group_of.ensures ∙ c.in_err-group.was in
    rw c.from_residual.ensures ((rw last at step) ∙ sym whole)

pub returns-in_default : goal.returns-in_default
returns-in_default c =
    let whole = groups_in-some c.args.text.now (sym c.is_empty.ensures ∙ c.if-is_empty.false) in
    let none : cut_in 58 c.loop-count.rest.now ≡ None = sym (rw c.in_default.is at c.cut_at.ensures) in
    let step = one_group c.loop-count.number c.loop-count.count c.loop-count.rest.now _ None (omega arith) c.loop-count.invariant.value none in
    let last : group_in c.loop-count.rest.now ≡ Some c.in_ok-group.group = sym c.group_of.ensures ∙ c.in_ok-group.was in
    rw c.from.ensures ((rw last at step) ∙ sym whole)

pub returns-in_err-group-2 : goal.returns-in_err-group-2
returns-in_err-group-2 c =
    let whole = groups_in-some c.args.text.now (sym c.is_empty.ensures ∙ c.if-is_empty.false) in
    let cut : cut_in 58 c.loop-count.rest.now ≡ Some (c.in-Some.first.now, c.in-Some.more.now) = sym (rw c.in-Some.is at c.cut_at.ensures) in
    let step = one_group c.loop-count.number c.loop-count.count c.loop-count.rest.now _ (Some (c.in-Some.first.now, c.in-Some.more.now)) (omega arith) c.loop-count.invariant.value cut in
    let none : group_in c.in-Some.first.now ≡ None = sym c.group_of-in-loop-count.ensures ∙ c.in_err-group-2.was in
    rw c.from_residual-in_err-group-2.ensures ((rw none at step) ∙ sym whole)

pub loop-count-preserved : goal.loop-count-preserved
loop-count-preserved c =
    let cut : cut_in 58 c.loop-count.rest.now ≡ Some (c.in-Some.first.now, c.in-Some.more.now) = sym (rw c.in-Some.is at c.cut_at.ensures) in
    let step = one_group c.loop-count.number c.loop-count.count c.loop-count.rest.now _ (Some (c.in-Some.first.now, c.in-Some.more.now)) (omega arith) c.loop-count.invariant.value cut in
    let group : group_in c.in-Some.first.now ≡ Some c.in_ok-group-2.group = sym c.group_of-in-loop-count.ensures ∙ c.in_ok-group-2.was in
    record { fits = rw (pow_more 65536 c.loop-count.count) (omega arith); value = rw c.from-in-loop-count.ensures (rw group at step) }

pub returns-then-is_empty : goal.returns-then-is_empty
returns-then-is_empty c = sym (groups_in-none c.args.text.now (sym c.is_empty.ensures ∙ c.if-is_empty.true))

pub returns : goal.returns
returns c =
    let whole = groups_in-some c.args.text.now (sym c.is_empty.ensures ∙ c.if-is_empty.false) in
    let all : c.loop-count.count ≡ 8 = omega arith in
    let none : groups_after 8 0 0 c.args.text.now ≡ None = sym c.loop-count.invariant.value ∙ rw all (no_group_left c.loop-count.number c.loop-count.rest.now) in
    sym (whole ∙ none)
