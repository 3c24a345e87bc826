use Rattle.std.proofs.Common.{Some, Ok, Err, sym}
use Rattle.bihash_words.specs.Sizes.{sizes_of}
use Rattle.bihash_words.specs.declared.patch.Change.TheVariants.{Remove}
use Rattle.bihash_table.proofs.SameCallers.{own_through}
use Rattle.bihash_table.proofs.OpenReadLemmas.{may_read}
use Rattle.bihash_table.proofs.SeenBuckets.{seen_more}
use Rattle.bihash_table.proofs.Tries.{beside, tried_locked, tried_not, tried_read, under_lock, unworn_read}
use Rattle.bihash_table.proofs.change_in_place.remove.Goals as goal

pub has_other_in_open_bucket-other-requires : goal.has_other_in_open_bucket-other-requires
has_other_in_open_bucket-other-requires g c = may_read c.requires.own c.requires.seen.seen

pub lock_if_unchanged-requires-clause-own : goal.lock_if_unchanged-requires-clause-own
lock_if_unchanged-requires-clause-own g c = own_through c.args.seat.now _ _ c.has_other_in_open_bucket-other.ensures.same c.requires.own

pub lock_if_unchanged-requires-clause-seen : goal.lock_if_unchanged-requires-clause-seen
lock_if_unchanged-requires-clause-seen g c = (seen_more (sizes_of g.S.Shape) _ _ _ _ c.has_other_in_open_bucket-other.ensures.saw c.requires.seen).seen

pub returns-then-not-lock_if_unchanged-clause-told : goal.returns-then-not-lock_if_unchanged-clause-told
returns-then-not-lock_if_unchanged-clause-told g c = let hashed = c.args.seen.now.hashed in
    tried_read g.S.Shape c.args.seat.now c.has_other_in_open_bucket-other.new.seat c.lock_if_unchanged.new.seat hashed.bucket hashed.key.now (Some c.args.pair.1)
    Remove c.has_other_in_open_bucket-other.ensures (sym hashed.home) (Err _)
    (tried_not g.S.Shape _ _ _ _ _ _ (sym hashed.home) _ c.lock_if_unchanged.ensures c.if-not-lock_if_unchanged.true)

pub remove_last-requires : goal.remove_last-requires
remove_last-requires g c =
    let z = sizes_of g.S.Shape in
    let read = c.has_other_in_open_bucket-other.ensures in
    under_lock g.S.Shape c.has_other_in_open_bucket-other.new.seat _ c.args.seen.now Remove (own_through c.args.seat.now _ _ read.same c.requires.own)
    (unworn_read g.S.Shape c.args.seat.now _ _ read c.requires.unworn) tt (seen_more z _ _ _ _ read.saw c.requires.seen) c.lock_if_unchanged.ensures
    c.if-not-lock_if_unchanged.false
    (λ told. beside z (g.S.Shape.words_of c.args.seen.now.hashed.key.now) c.args.pair c.if-not-other.true _ _ told)

pub returns-then-not-other-clause-told : goal.returns-then-not-other-clause-told
returns-then-not-other-clause-told g c = let hashed = c.args.seen.now.hashed in
    tried_read g.S.Shape c.args.seat.now c.has_other_in_open_bucket-other.new.seat c.remove_last.new.seat hashed.bucket hashed.key.now
    (Some c.args.pair.1) Remove c.has_other_in_open_bucket-other.ensures (sym hashed.home) c.remove_last.result
    (tried_locked g.S.Shape c.has_other_in_open_bucket-other.new.seat c.lock_if_unchanged.new.seat c.remove_last.new.seat hashed.bucket c.args.seen.now.word
    hashed.key.now _ _ c.lock_if_unchanged.ensures c.if-not-lock_if_unchanged.false (sym hashed.home) c.remove_last.result c.remove_last.ensures.told)

pub vacate-requires : goal.vacate-requires
vacate-requires g c =
    let z = sizes_of g.S.Shape in
    let read = c.has_other_in_open_bucket-other.ensures in
    under_lock g.S.Shape c.has_other_in_open_bucket-other.new.seat _ c.args.seen.now Remove (own_through c.args.seat.now _ _ read.same c.requires.own)
    (unworn_read g.S.Shape c.args.seat.now _ _ read c.requires.unworn) tt (seen_more z _ _ _ _ read.saw c.requires.seen) c.lock_if_unchanged.ensures
    c.if-not-lock_if_unchanged.false
    (λ told. beside z (g.S.Shape.words_of c.args.seen.now.hashed.key.now) c.args.pair c.if-not-other.false _ _ told)

pub returns-clause-told : goal.returns-clause-told
returns-clause-told g c = let hashed = c.args.seen.now.hashed in
    tried_read g.S.Shape c.args.seat.now c.has_other_in_open_bucket-other.new.seat c.vacate.new.seat hashed.bucket
    hashed.key.now (Some c.args.pair.1) Remove c.has_other_in_open_bucket-other.ensures (sym hashed.home) (Ok c.vacate.result)
    (tried_locked g.S.Shape c.has_other_in_open_bucket-other.new.seat c.lock_if_unchanged.new.seat c.vacate.new.seat hashed.bucket c.args.seen.now.word hashed.key.now _ _
    c.lock_if_unchanged.ensures c.if-not-lock_if_unchanged.false (sym hashed.home) (Ok c.vacate.result) c.vacate.ensures.told)
