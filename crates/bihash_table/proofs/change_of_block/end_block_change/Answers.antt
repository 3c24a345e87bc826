use Rattle.std.proofs.Common.{◌∙◌, ap}
use Rattle.bihash_steps.specs.Seats.{CallerState}
use Rattle.bihash_table.proofs.StoreLemmas.{released}
use Rattle.bihash_table.proofs.change_of_block.end_block_change.Goals as goal

pub give_back_old-requires : goal.give_back_old-requires
give_back_old-requires g c = c.requires

pub pool_unlock-requires-clause-own : goal.pool_unlock-requires-clause-own
pool_unlock-requires-clause-own g c = ap (λ (s : CallerState). s.row) c.give_back_old.ensures.is ∙ c.requires.own

pub pool_unlock-requires-clause-may : goal.pool_unlock-requires-clause-may
pool_unlock-requires-clause-may g c = let given = c.give_back_old.ensures in record {
  locked = given.locked;
  held = ap (λ (s : CallerState). s.view.holds.store) given.is;
  settled = given.settled;
  returned = ap (λ (s : CallerState). s.view.holds.block) given.is;
}

pub returns-clause-same : goal.returns-clause-same
returns-clause-same g c =
    (released c.args.seat.now c.give_back_old.new.seat c.pool_unlock.new.caller c.give_back_old.ensures c.pool_unlock.ensures).0

pub returns-clause-left : goal.returns-clause-left
returns-clause-left g c =
    (released c.args.seat.now c.give_back_old.new.seat c.pool_unlock.new.caller c.give_back_old.ensures c.pool_unlock.ensures).1
