use Rattle.std.proofs.Common.{◌≤◌, ◌-◌, arith, lit<}
use Rattle.std.proofs.Math.Nat.{pow-le-pow_right}
use Rattle.acl_policy.proofs.GroupLemmas.{spread-fits}
use Rattle.acl_policy.proofs.address.spread.Goals as goal

pub pow-requires : goal.pow-requires
pow-requires c =
    let few : 8 - c.args.front.count ≤ 7 = omega arith in
    omega (arith, pow-le-pow_right {n = 65536} (lit< tt) few)

pub overflow_mul-result : goal.overflow_mul-result
overflow_mul-result c =
    rw c.pow.ensures (omega (arith, spread-fits c.args.front.number c.args.back.number c.args.front.count c.args.back.count (omega arith) (omega arith) (omega arith)))

pub overflow_add-result : goal.overflow_add-result
overflow_add-result c =
    rw c.pow.ensures (omega (arith, spread-fits c.args.front.number c.args.back.number c.args.front.count c.args.back.count (omega arith) (omega arith) (omega arith)))
