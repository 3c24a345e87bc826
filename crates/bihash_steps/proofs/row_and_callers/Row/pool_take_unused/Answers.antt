use Rattle.std.proofs.Common.{rules, arith, ◌≡◌, ◌+◌, ◌*◌, ◌^◌, ◌%◌, ℕ}
use Rattle.bihash_words.specs.Sizes.{sizes_of}
use Rattle.bihash_steps.specs.StoreSteps.{MayTakeUnused}
use Rattle.bihash_steps.proofs.Bounds.{some_front}
use Rattle.bihash_steps.proofs.SeatCounts.{can_act, counted_unused, of_seat}
use Rattle.bihash_steps.proofs.pool_steps.PoolTake.{takes_unused_block}
use Rattle.bihash_steps.proofs.row_and_callers.Row.pool_take_unused.Goals as goal

pub store-requires : goal.store-requires
store-requires g c =
    let may = of_seat (λ v. MayTakeUnused (sizes_of g.S.Shape) v c.args.log2 c.args.used) c.caller.view_is c.requires.may in
    let left = c.requires.may.left in
    let few = c.self.invariant.sound.few_pages in
    let x : ℕ = 2 ^ c.args.log2 in
    let number : c.args.used + 1 * x % 18446744073709551616 ≡ c.args.used + x = omega arith in (
      search rules,
      rw c.self.invariant.wide (some_front _).1,
      takes_unused_block _ _ _ _ _ _ _ may number (can_act _ _ c.caller.invariant.1),
    )

pub invariant_of-caller : goal.invariant_of-caller
invariant_of-caller g c =
    let may = of_seat (λ v. MayTakeUnused (sizes_of g.S.Shape) v c.args.log2 c.args.used) c.caller.view_is c.requires.may in
    let left = c.requires.may.left in
    let few = c.self.invariant.sound.few_pages in
    let x : ℕ = 2 ^ c.args.log2 in
    let number : c.args.used + 1 * x % 18446744073709551616 ≡ c.args.used + x = omega arith in
    counted_unused (sizes_of g.S.Shape) _ _ _ c.caller.inside.seat.me _ _ _ may number c.store.ensures.2 c.caller.invariant
