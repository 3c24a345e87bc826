use Rattle.std.proofs.Common.{rules, ◌∙◌, ap}
use Rattle.bihash_rule.specs.declared.view.Holdings.{Holdings}
use Rattle.bihash_steps.specs.Seats.{CallerState}
use Rattle.bihash_steps.proofs.Addresses.{locks_at}
use Rattle.bihash_steps.proofs.SeatCounts.{can_act, counted_locks, tried_lock}
use Rattle.bihash_steps.proofs.row_and_callers.Row.lock_from.Goals as goal

pub compare_exchange-requires : goal.compare_exchange-requires
compare_exchange-requires g c =
    let may = c.requires.may in (
      search rules,
      search rules,
      locks_at _ _ _ _ _ _ _ may.bucket _ c.bucket_at-at.ensures.place c.requires.at.inside (can_act _ _ c.caller.invariant.1)
          (ap (λ (k : CallerState). k.view.holds.bucket) c.caller.view_is ∙ ap (λ (h : Holdings). h.bucket) may.free) may.fits
          (c.to_word-open.ensures ∙ may.stood) may.unlocked
          (c.to_word-locked.ensures ∙ c.with_lock.ensures may.bucket may.fits may.stood),
    )

pub invariant_of-caller : goal.invariant_of-caller
invariant_of-caller g c =
    counted_locks _ _ _ c.caller.inside.seat.me _ _ _ _ (c.compare_exchange.ensures.2 _ c.requires.at.inside c.bucket_at-at.ensures.place) c.caller.invariant

pub returns : goal.returns
returns g c = tried_lock _ _ _ _ _ _ _ _ _ c.caller.inside.seat.me _ _ c.compare_exchange.ensures.0 c.compare_exchange.ensures.1 c.to_word-open.ensures
    c.caller.view_is (c.compare_exchange.ensures.2 _ c.requires.at.inside c.bucket_at-at.ensures.place)
