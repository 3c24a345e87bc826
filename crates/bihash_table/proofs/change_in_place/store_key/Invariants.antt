use Rattle.std.proofs.Common.{◌≡◌}
use Rattle.bihash_words.specs.Sizes.{sizes_of}
use Rattle.bihash_rule.specs.declared.view.LockedBucket.{LockedBucket}
use Rattle.bihash_steps.specs.Seats.{with_view}
use Rattle.bihash_table.specs.inner.Locked.{HasLock}
use Rattle.bihash_table.specs.inner.Stores.{HasStored}
use Rattle.bihash_table.proofs.change_in_place.store_key.Given as goal

-- the words so far are stored
abbrev pub invariant-loop-i : goal.invariant-loop-i
invariant-loop-i g l = (l.seat ≡ with_view l.fn.seat l.seat.view)
    × ((lock : LockedBucket) → HasLock (sizes_of g.S.Shape) l.fn.seat.view l.seen.hashed.bucket l.seen.word lock
    → HasStored (sizes_of g.S.Shape) l.fn.seat.view l.seat.view lock l.place (g.S.Shape.words_of l.seen.hashed.key.now) l.i)
