use Rattle.std.proofs.Common.{None, Ok, Err, subst, sym}
use Rattle.bihash_words.specs.Sizes.{sizes_of}
use Rattle.bihash_words.specs.declared.patch.Change.{Change}
use Rattle.bihash_table.specs.inner.Seen.{WantsChange}
use Rattle.bihash_table.specs.Tries.{Tried, TriedOver}
use Rattle.bihash_table.proofs.SameCallers.{own_through}
use Rattle.bihash_table.proofs.OpenReadLemmas.{may_read}
use Rattle.bihash_table.proofs.SeenBuckets.{seen_more}
use Rattle.bihash_table.proofs.Tries.{over, over_read, tried_locked, tried_not, tried_read, under_lock, unworn_read}
use Rattle.bihash_table.proofs.try_update.enter_new.Goals as goal

pub room_in_open_bucket-requires : goal.room_in_open_bucket-requires
room_in_open_bucket-requires g c = may_read c.requires.own c.requires.seen.seen

pub lock_if_unchanged-requires-clause-own : goal.lock_if_unchanged-requires-clause-own
lock_if_unchanged-requires-clause-own g c = own_through c.args.caller.now.seat _ _ c.room_in_open_bucket.ensures.same c.requires.own

pub lock_if_unchanged-requires-clause-seen : goal.lock_if_unchanged-requires-clause-seen
lock_if_unchanged-requires-clause-seen g c = (seen_more (sizes_of g.S.Shape) _ _ _ _ c.in-Some.ensures.saw c.requires.seen).seen

pub returns-then-not-lock_if_unchanged-clause-told : goal.returns-then-not-lock_if_unchanged-clause-told
returns-then-not-lock_if_unchanged-clause-told g c = let hashed = c.args.seen.now.hashed in
    over g.S.Shape _ _ _ _ _ _ (Err _) (tried_read g.S.Shape c.args.caller.now.seat c.room_in_open_bucket.new.seat c.lock_if_unchanged.new.seat hashed.bucket hashed.key.now None c.args.change
    c.in-Some.ensures (sym hashed.home) (Err _)
    (tried_not g.S.Shape _ _ _ _ _ _ (sym hashed.home) _ c.lock_if_unchanged.ensures c.if-not-lock_if_unchanged.true))

pub fill-requires : goal.fill-requires
fill-requires g c =
    let h = subst (λ (d : Change). WantsChange g.S.Shape c.args.table.now.row c.args.caller.now.seat c.args.seen.now None d) c.in-Set.is c.requires in
    let read = c.in-Some.ensures in
    under_lock g.S.Shape c.room_in_open_bucket.new.seat _ c.args.seen.now _ (own_through c.args.caller.now.seat _ _ read.same h.own)
    (unworn_read g.S.Shape c.args.caller.now.seat _ _ read h.unworn) h.storable (seen_more (sizes_of g.S.Shape) _ _ _ _ read.saw h.seen)
    c.lock_if_unchanged.ensures c.if-not-lock_if_unchanged.false (λ told. (told.0, told.1.0))

pub returns-else-not-lock_if_unchanged-clause-told : goal.returns-else-not-lock_if_unchanged-clause-told
returns-else-not-lock_if_unchanged-clause-told g c = let hashed = c.args.seen.now.hashed in
    over g.S.Shape _ _ _ _ _ _ (Ok c.fill.result)
    (subst (λ (d : Change). Tried g.S.Shape c.args.caller.now.seat c.fill.new.seat hashed.key.now None d (Ok c.fill.result))
    (sym c.in-Set.is)
    (tried_read g.S.Shape c.args.caller.now.seat c.room_in_open_bucket.new.seat c.fill.new.seat hashed.bucket hashed.key.now None _
    c.in-Some.ensures (sym hashed.home) (Ok c.fill.result)
    (tried_locked g.S.Shape c.room_in_open_bucket.new.seat c.lock_if_unchanged.new.seat c.fill.new.seat hashed.bucket c.args.seen.now.word hashed.key.now _ _
    c.lock_if_unchanged.ensures c.if-not-lock_if_unchanged.false (sym hashed.home) (Ok c.fill.result) c.fill.ensures.told)))

pub enter_larger-requires : goal.enter_larger-requires
enter_larger-requires g c =
    let h = subst (λ (d : Change). WantsChange g.S.Shape c.args.table.now.row c.args.caller.now.seat c.args.seen.now None d) c.in-Set.is c.requires in
    let read = c.in-None.ensures in record {
      own = own_through c.args.caller.now.seat _ _ read.same h.own;
      seen = seen_more (sizes_of g.S.Shape) _ _ _ _ read.saw h.seen;
      unworn = unworn_read g.S.Shape c.args.caller.now.seat _ _ read h.unworn;
      storable = h.storable;
    }

pub returns-in-None-clause-told : goal.returns-in-None-clause-told
returns-in-None-clause-told g c = let hashed = c.args.seen.now.hashed in
    subst (λ (d : Change). TriedOver g.S.Shape c.args.caller.now.seat c.enter_larger.new.caller.seat hashed.key.now None d
    (g.E.Expiry.is_expired c.args.expiry.now) c.enter_larger.result) (sym c.in-Set.is)
    (over_read g.S.Shape c.args.caller.now.seat c.room_in_open_bucket.new.seat c.enter_larger.new.caller.seat hashed.bucket hashed.key.now None _
    (g.E.Expiry.is_expired c.args.expiry.now)
    c.in-None.ensures (sym hashed.home) c.enter_larger.result c.enter_larger.ensures.told)
