use Rattle.std.proofs.Common.{◌∙◌, ap}
use Rattle.bihash_words.specs.Sizes.{sizes_of}
use Rattle.bihash_steps.specs.Seats.{CallerState}
use Rattle.bihash_rule.specs.declared.view.View.{View}
use Rattle.bihash_table.proofs.BlockExchange.{locked_on, looked, looked_same, store_held, taken}
use Rattle.bihash_table.proofs.SameCallers.{own_through, same_through}
use Rattle.bihash_table.proofs.Tries.{looked_notes, unlocked_notes}
use Rattle.bihash_table.proofs.shrinking.try_take_block.Goals as goal

pub returns-then-not-pool_lock : goal.returns-then-not-pool_lock
returns-then-not-pool_lock g c = record {
  same = c.pool_lock.ensures.same;
  taken = tt;
  none = unlocked_notes c.args.seat.now.view c.pool_lock.new.caller.view (c.pool_lock.ensures.not c.if-not-pool_lock.true);
}

pub take_block-requires : goal.take_block-requires
take_block-requires g c =
    let locks = c.pool_lock.ensures.taken c.if-not-pool_lock.false in record {
      own = own_through c.args.seat.now _ _ c.pool_lock.ensures.same c.requires.own;
      sound = c.is_sound.ensures;
      store = (
        locked_on locks.store,
        store_held g.S.Shape c.args.seat.now c.pool_lock.new.caller c.pool_lock.ensures.same locks c.requires.bare 0 c.args.log2,
      );
      small = c.requires.small;
    }

pub returns-in-Ok : goal.returns-in-Ok
returns-in-Ok g c =
    let locks = c.pool_lock.ensures.taken c.if-not-pool_lock.false in record {
      same = same_through c.args.seat.now c.pool_lock.new.caller c.take_block.new.seat _ c.pool_lock.ensures.same c.in-Ok.ensures.same;
      taken = taken g.S.Shape c.args.seat.now c.pool_lock.new.caller c.pool_lock.ensures.same locks c.requires.bare c.in-Ok.page
          c.args.log2 c.take_block.new.seat c.in-Ok.ensures.same c.in-Ok.ensures.taken;
      none = tt;
    }

pub pool_unlock-requires-clause-own : goal.pool_unlock-requires-clause-own
pool_unlock-requires-clause-own g c = ap (λ (s : CallerState). s.row) c.in-Err.ensures.refused.0
    ∙ own_through c.args.seat.now _ _ c.pool_lock.ensures.same c.requires.own

pub pool_unlock-requires-clause-may : goal.pool_unlock-requires-clause-may
pool_unlock-requires-clause-may g c =
    let locks = c.pool_lock.ensures.taken c.if-not-pool_lock.false in let same = c.in-Err.ensures.refused.0 in record {
      locked = locked_on locks.store;
      held = ap (λ (s : CallerState). s.view.holds.store) same ∙ ap (λ (x : View). x.holds.store) locks.is;
      settled = locks.settled;
      returned = ap (λ (s : CallerState). s.view.holds.block) same ∙ ap (λ (x : View). x.holds.block) locks.is ∙ c.requires.bare;
    }

pub returns-in-Err : goal.returns-in-Err
returns-in-Err g c =
    let z = sizes_of g.S.Shape in
    let locks = c.pool_lock.ensures.taken c.if-not-pool_lock.false in record {
      same = looked_same z c.args.seat.now c.pool_lock.new.caller c.take_block.new.seat c.pool_unlock.new.caller
          c.pool_lock.ensures.same locks c.in-Err.ensures.refused.0 c.pool_unlock.ensures;
      taken = tt;
      none = looked_notes c.args.seat.now.view c.pool_unlock.new.caller.view locks.store c.requires.open_store
          (looked z c.args.seat.now c.pool_lock.new.caller c.take_block.new.seat c.pool_unlock.new.caller
          c.pool_lock.ensures.same locks c.in-Err.ensures.refused.0 c.pool_unlock.ensures);
    }
