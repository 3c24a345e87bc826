use Rattle.std.proofs.Common.{◌≡◌, ◌∙◌, ◌*◌, ◌^◌, ℕ, false, true≢false, Some, None, ap, arith, refl, subst, sym}
use Rattle.bihash_words.specs.Sizes.{sizes_of}
use Rattle.bihash_words.specs.declared.patch.Change.TheVariants.{Set}
use Rattle.bihash_words.specs.declared.patch.Reply.{Reply}
use Rattle.bihash_words.specs.declared.patch.Reply.TheVariants.{Changed, NoPages}
use Rattle.bihash_steps.specs.BucketSteps.{call_of, map_now, without_lock}
use Rattle.bihash_steps.specs.Seats.{CallerState, with_view}
use Rattle.bihash_rule.specs.declared.view.HeldBlock.{HeldBlock}
use Rattle.bihash_rule.specs.declared.view.Holdings.{Holdings}
use Rattle.bihash_rule.specs.declared.view.PageStore.{PageStore}
use Rattle.bihash_rule.specs.declared.view.View.{View}
use Rattle.bihash_steps.specs.BucketCalls.{event}
use Rattle.bihash_table.specs.Answers.{locks_of}
use Rattle.bihash_table.specs.OutOfPages.{HasNoLarger, IsOutOfPages}
use Rattle.bihash_table.proofs.NewPairs.{looked_at}
use Rattle.bihash_table.proofs.Copies.{same_block}
use Rattle.bihash_table.proofs.PairReads.{pair_value}
use Rattle.bihash_table.proofs.LockCounts.{locks_pushed}
use Rattle.bihash_table.proofs.OpenPlaces.{some_places, word_tells}
use Rattle.bihash_table.proofs.BlockPlans.{is_shortage}
use Rattle.bihash_table.proofs.BlockExchange.{answered_log, block_held, block_of, is_ready, locked_on, looked, looked_same, may_enter, may_refuse, published, published_log, ready_same, same_through, seen_same, store_held, was_answered}
use Rattle.bihash_table.proofs.SameCallers.{entered_as, own_through}
use Rattle.bihash_table.proofs.StoreLemmas.{bears_noted, holds_old, left_answered, left_written, still_lawful, contended}
use Rattle.bihash_table.proofs.Tries.{finished, finished_away, finished_write}
use Rattle.bihash_table.proofs.change_of_block.enter_in_new_block.Goals as goal

pub returns-then-not-pool_lock-clause-told : goal.returns-then-not-pool_lock-clause-told
returns-then-not-pool_lock-clause-told g c =
    let hashed = c.args.seen.now.hashed in
    let s = c.args.seat.now in
    let h = c.requires.held in
    let not = c.pool_lock.ensures.not c.if-not-pool_lock.true in
    finished_away g.S.Shape s c.release.new.caller hashed.key.now None (Set c.args.value)
    (seen_same s c.release.new.caller (c.release.ensures.view ∙ ap (λ (k : CallerState). with_view k (without_lock k.view)) c.pool_lock.ensures.same))
    c.release.ensures.lawful (ap (λ (k : CallerState). locks_of k.view.records) c.release.ensures.view ∙ ap (λ (v : View). locks_of v.records) not)
    _ hashed.bucket (sym hashed.home)
    (contended (sizes_of g.S.Shape) s.view c.pool_lock.new.caller.view c.release.new.caller.view hashed.bucket c.args.seen.now.word h.lock h.has
    not (ap (λ (k : CallerState). k.view) c.release.ensures.view))
    (λ lone. true≢false (sym (c.pool_lock.ensures.lone lone (ap (λ (k : Holdings). k.store) h.has.held)) ∙ c.if-not-pool_lock.true))

pub take_block-requires : goal.take_block-requires
take_block-requires g c =
    let locks = c.pool_lock.ensures.taken c.if-not-pool_lock.false in record {
      own = own_through c.args.seat.now _ _ c.pool_lock.ensures.same c.requires.held.own;
      sound = c.is_sound.ensures;
      store = (
        locked_on locks.store,
        store_held g.S.Shape c.args.seat.now c.pool_lock.new.caller c.pool_lock.ensures.same locks
            (ap (λ (h : Holdings). h.block) c.requires.held.has.held) 0 c.args.size.log2,
      );
      small = c.requires.small;
    }

pub pool_unlock-requires-clause-own : goal.pool_unlock-requires-clause-own
pool_unlock-requires-clause-own g c = ap (λ (s : CallerState). s.row) c.in-Err.ensures.refused.0
    ∙ own_through c.args.seat.now _ _ c.pool_lock.ensures.same c.requires.held.own

pub write_block-requires-clause-held : goal.write_block-requires-clause-held
write_block-requires-clause-held g c =
    let locks = c.pool_lock.ensures.taken c.if-not-pool_lock.false in
    let held = block_held g.S.Shape c.args.seat.now c.pool_lock.new.caller c.pool_lock.ensures.same locks
    (ap (λ (h : Holdings). h.block) c.requires.held.has.held) c.in-Ok.page c.args.size.log2 c.take_block.new.seat
    c.in-Ok.ensures.same c.in-Ok.ensures.taken in record {
      own = own_through c.pool_lock.new.caller _ _ c.in-Ok.ensures.same (own_through c.args.seat.now _ _ c.pool_lock.ensures.same c.requires.held.own);
      sound = c.is_sound.ensures;
      block = held.0;
      has = held.1;
      inside = omega arith;
    }

pub write_block-requires-clause-whole : goal.write_block-requires-clause-whole
write_block-requires-clause-whole g c = λ h has.
    let locks = c.pool_lock.ensures.taken c.if-not-pool_lock.false in
    let held = block_held g.S.Shape c.args.seat.now c.pool_lock.new.caller c.pool_lock.ensures.same locks
    (ap (λ (h : Holdings). h.block) c.requires.held.has.held) c.in-Ok.page c.args.size.log2 c.take_block.new.seat
    c.in-Ok.ensures.same c.in-Ok.ensures.taken in
    let some = held.1.some_page in
    c.requires.sized ∙ ap (λ n. 4 * 2 ^ n) (sym held.2 ∙ ap (λ (b : HeldBlock). b.log2) (same_block held.1 has))
    ∙ sym (some_places c.in-Ok.page h.log2 (λ none. absurd (omega arith)))

pub publish_block-requires-clause-at : goal.publish_block-requires-clause-at
publish_block-requires-clause-at g c =
    let locks = c.pool_lock.ensures.taken c.if-not-pool_lock.false in
    let ready = is_ready g.S.Shape c.args.seat.now c.pool_lock.new.caller c.pool_lock.ensures.same locks
    (ap (λ (h : Holdings). h.block) c.requires.held.has.held) c.in-Ok.page c.args.size.log2 c.take_block.new.seat
    c.in-Ok.ensures.same c.in-Ok.ensures.taken c.args.block.now c.write_block.new.seat c.write_block.ensures in
    record { own = ap (λ (s : CallerState). s.row) ready.is ∙ c.requires.held.own; inside = c.requires.held.has.inside }

pub publish_block-requires-clause-may : goal.publish_block-requires-clause-may
publish_block-requires-clause-may g c =
    let z = sizes_of g.S.Shape in
    let locks = c.pool_lock.ensures.taken c.if-not-pool_lock.false in
    let ready = is_ready g.S.Shape c.args.seat.now c.pool_lock.new.caller c.pool_lock.ensures.same locks
    (ap (λ (h : Holdings). h.block) c.requires.held.has.held) c.in-Ok.page c.args.size.log2 c.take_block.new.seat
    c.in-Ok.ensures.same c.in-Ok.ensures.taken c.args.block.now c.write_block.new.seat c.write_block.ensures in
    may_enter z c.args.seat.now.view c.args.seen.now.hashed.bucket c.args.seen.now.word c.requires.held.lock (g.S.Shape.words_of c.args.seen.now.hashed.key.now)
    c.requires.held.has (record { long = c.args.seen.now.hashed.counted; home = sym c.args.seen.now.hashed.home }) c.requires.held.unworn c.args.value
    (locked_on ready.left) c.in-Ok.page c.args.size ready.words c.requires.held.storable c.requires.room
    (sym (pair_value (sizes_of g.S.Shape) c.requires.held.lock.extent c.requires.held.lock.now (g.S.Shape.words_of c.args.seen.now.hashed.key.now)
    (map_now c.args.seat.now.view c.args.seen.now.hashed.bucket) None c.requires.held.told c.requires.held.has.pairs)) ready.near (c.requires.laid c.in-Ok.page ready.words ready.some_page ready.places)
    c.write_block.new.seat.view (ap (λ (s : CallerState). s.view) ready.is)

pub end_block_change-requires : goal.end_block_change-requires
end_block_change-requires g c =
    let z = sizes_of g.S.Shape in let s = c.args.seat.now in let hashed = c.args.seen.now.hashed in
    let key = g.S.Shape.words_of hashed.key.now in
    let h = c.requires.held in
    let locks = c.pool_lock.ensures.taken c.if-not-pool_lock.false in
    let ready = is_ready g.S.Shape c.args.seat.now c.pool_lock.new.caller c.pool_lock.ensures.same locks
    (ap (λ (h : Holdings). h.block) c.requires.held.has.held) c.in-Ok.page c.args.size.log2 c.take_block.new.seat
    c.in-Ok.ensures.same c.in-Ok.ensures.taken c.args.block.now c.write_block.new.seat c.write_block.ensures in
    let n = locked_on ready.left in
    let block = Some (block_of c.in-Ok.page c.args.size.log2 ready.words) in
    let done = published s c.write_block.new.seat c.publish_block.new.caller n block hashed.bucket key None (Set c.args.value)
    ready.is (entered_as c.publish_block.ensures) in record {
      own = own_through c.write_block.new.seat _ _ (entered_as c.publish_block.ensures) (own_through s _ _ ready.is h.own);
      sound = c.is_sound.ensures;
      store = record n { store = record n.store { unpublished = false } };
      extent = h.lock.extent;
      words = h.lock.now;
      names = word_tells z s.view hashed.bucket c.args.seen.now.word h.lock h.has;
      holds = holds_old z s.view c.publish_block.new.caller.view hashed.bucket c.args.seen.now.word h.lock n block
          (call_of s.view hashed.bucket 1 (event key None (Set c.args.value) (Changed None))) h.has done;
    }

pub returns-in-Ok-clause-told : goal.returns-in-Ok-clause-told
returns-in-Ok-clause-told g c =
    let z = sizes_of g.S.Shape in let s = c.args.seat.now in let hashed = c.args.seen.now.hashed in
    let key = g.S.Shape.words_of hashed.key.now in
    let h = c.requires.held in
    let locks = c.pool_lock.ensures.taken c.if-not-pool_lock.false in
    let ready = is_ready g.S.Shape c.args.seat.now c.pool_lock.new.caller c.pool_lock.ensures.same locks
    (ap (λ (h : Holdings). h.block) c.requires.held.has.held) c.in-Ok.page c.args.size.log2 c.take_block.new.seat
    c.in-Ok.ensures.same c.in-Ok.ensures.taken c.args.block.now c.write_block.new.seat c.write_block.ensures in
    let n = locked_on ready.left in
    let block = Some (block_of c.in-Ok.page c.args.size.log2 ready.words) in
    let done = published s c.write_block.new.seat c.publish_block.new.caller n block hashed.bucket key None (Set c.args.value)
    ready.is (entered_as c.publish_block.ensures) in
    finished_write g.S.Shape s c.end_block_change.new.seat hashed.key.now None (Set c.args.value)
    (same_through s c.write_block.new.seat c.publish_block.new.caller c.end_block_change.new.seat
    (ready_same g.S.Shape s c.write_block.new.seat c.in-Ok.page c.args.size.log2 c.args.block.now ready)
    (seen_same c.write_block.new.seat c.publish_block.new.caller (entered_as c.publish_block.ensures)) c.end_block_change.ensures.same)
    (still_lawful z c.publish_block.new.caller.view c.end_block_change.new.seat.view c.end_block_change.ensures.left c.publish_block.ensures.lawful)
    (ap (λ (v : View). locks_of v.records) c.end_block_change.ensures.left.is
    ∙ (locks_pushed _ _ _ (ap (λ (s : CallerState). s.view.records) (entered_as c.publish_block.ensures))
    ∙ ap (λ (s : CallerState). locks_of s.view.records) ready.is))
    (left_written z s.view c.publish_block.new.caller.view c.end_block_change.new.seat.view hashed.bucket c.args.seen.now.word h.lock n block
    (event key None (Set c.args.value) (Changed None)) h.has (sym hashed.home) refl done c.end_block_change.ensures.left
    (published_log z s c.write_block.new.seat c.publish_block.new.caller n block hashed.bucket key None (Set c.args.value)
    ready.is c.publish_block.ensures.entered))

pub pool_unlock-requires-clause-may : goal.pool_unlock-requires-clause-may
pool_unlock-requires-clause-may g c =
    let locks = c.pool_lock.ensures.taken c.if-not-pool_lock.false in let same = c.in-Err.ensures.refused.0 in record {
      locked = locked_on locks.store;
      held = ap (λ (s : CallerState). s.view.holds.store) same ∙ ap (λ (x : View). x.holds.store) locks.is;
      settled = locks.settled;
      returned = ap (λ (s : CallerState). s.view.holds.block) same ∙ ap (λ (x : View). x.holds.block) locks.is
          ∙ ap (λ (h : Holdings). h.block) c.requires.held.has.held;
    }

pub release-requires-clause-at : goal.release-requires-clause-at
release-requires-clause-at g c = let h = c.requires.held in
    record { own = own_through c.args.seat.now _ _ c.pool_lock.ensures.same h.own; inside = h.has.inside }

pub cancel-requires-clause-at : goal.cancel-requires-clause-at
cancel-requires-clause-at g c =
    let h = c.requires.held in
    let locks = c.pool_lock.ensures.taken c.if-not-pool_lock.false in
    let opened = looked_same (sizes_of g.S.Shape) c.args.seat.now c.pool_lock.new.caller c.take_block.new.seat c.pool_unlock.new.caller
    c.pool_lock.ensures.same locks c.in-Err.ensures.refused.0 c.pool_unlock.ensures in
    record { own = own_through c.args.seat.now _ _ opened h.own; inside = h.has.inside }

pub cancel-requires-clause-may : goal.cancel-requires-clause-may
cancel-requires-clause-may g c =
    let z = sizes_of g.S.Shape in
    let locks = c.pool_lock.ensures.taken c.if-not-pool_lock.false in
    let store = store_held g.S.Shape c.args.seat.now c.pool_lock.new.caller c.pool_lock.ensures.same locks
    (ap (λ (h : Holdings). h.block) c.requires.held.has.held) 0 c.args.size.log2 in
    may_refuse z c.args.seat.now.view c.pool_unlock.new.caller.view c.args.seen.now.hashed.bucket c.args.seen.now.word c.requires.held.lock
    (g.S.Shape.words_of c.args.seen.now.hashed.key.now) c.args.value c.args.size.log2 c.in-Err.left locks.store c.requires.held.has
    (record { long = c.args.seen.now.hashed.counted; home = sym c.args.seen.now.hashed.home }) c.requires.held.unworn c.requires.room (sym (pair_value (sizes_of g.S.Shape) c.requires.held.lock.extent c.requires.held.lock.now (g.S.Shape.words_of c.args.seen.now.hashed.key.now)
    (map_now c.args.seat.now.view c.args.seen.now.hashed.bucket) None c.requires.held.told c.requires.held.has.pairs))
    c.requires.small (c.in-Err.ensures.refused.1 (locked_on locks.store) store)
    (looked z c.args.seat.now c.pool_lock.new.caller c.take_block.new.seat c.pool_unlock.new.caller
    c.pool_lock.ensures.same locks c.in-Err.ensures.refused.0 c.pool_unlock.ensures)

pub returns-in-Err-clause-told : goal.returns-in-Err-clause-told
returns-in-Err-clause-told g c =
    let z = sizes_of g.S.Shape in let s = c.args.seat.now in let hashed = c.args.seen.now.hashed in
    let key = g.S.Shape.words_of hashed.key.now in
    let h = c.requires.held in
    let locks = c.pool_lock.ensures.taken c.if-not-pool_lock.false in
    let store = store_held g.S.Shape s c.pool_lock.new.caller c.pool_lock.ensures.same locks
    (ap (λ (k : Holdings). k.block) h.has.held) 0 c.args.size.log2 in
    let opened = looked z s c.pool_lock.new.caller c.take_block.new.seat c.pool_unlock.new.caller
    c.pool_lock.ensures.same locks c.in-Err.ensures.refused.0 c.pool_unlock.ensures in
    let reply : Reply = NoPages c.args.size.log2 c.in-Err.left in
    let refused = was_answered c.pool_unlock.new.caller c.cancel.new.caller hashed.bucket key None (Set c.args.value) reply
    (looked_at s.view locks.store) opened (entered_as c.cancel.ensures) in
    let t = c.cancel.new.caller in
    finished g.S.Shape s t hashed.key.now None (Set c.args.value)
    (seen_same c.pool_unlock.new.caller t (entered_as c.cancel.ensures) ∙ ap (λ (k : CallerState). with_view k t.view)
    (looked_same z s c.pool_lock.new.caller c.take_block.new.seat c.pool_unlock.new.caller c.pool_lock.ensures.same locks
    c.in-Err.ensures.refused.0 c.pool_unlock.ensures))
    c.cancel.ensures.lawful
    (locks_pushed _ s.view.records _ (ap (λ (v : View). v.records) refused))
    reply
    (left_answered z s.view t.view hashed.bucket c.args.seen.now.word h.lock locks.store (event key None (Set c.args.value) reply)
    h.has (sym hashed.home) refused
    (answered_log z c.pool_unlock.new.caller t hashed.bucket (event key None (Set c.args.value) reply)
    (looked_at s.view locks.store) opened refl c.cancel.ensures.entered))
    (λ wanted left e.
    let size : c.args.size.log2 ≡ wanted = cc in
    let few : c.in-Err.left ≡ left = cc in
    subst (λ (b : ℕ). IsOutOfPages g.S.Shape t.view b hashed.key.now wanted left) hashed.home
    (subst (λ (x : ℕ × ℕ). IsOutOfPages g.S.Shape t.view hashed.bucket hashed.key.now x.0 x.1) (λ i. (size i, few i))
    (is_shortage g.S.Shape _ hashed.key.now t.view hashed.bucket (ap (λ (x : View). map_now x hashed.bucket) refused) c.args.size c.in-Err.left
    locks.store c.requires.planned (c.in-Err.ensures.refused.1 (locked_on locks.store) store)
    (bears_noted s.view t.view hashed.bucket locks.store key None (Set c.args.value) c.args.size.log2 c.in-Err.left refused))))
    refl

pub returns-in-Err-clause-no_larger : goal.returns-in-Err-clause-no_larger
returns-in-Err-clause-no_larger g c = λ cuts wanted left e k store last is.
    let z = sizes_of g.S.Shape in let s = c.args.seat.now in let hashed = c.args.seen.now.hashed in
    let key = g.S.Shape.words_of hashed.key.now in
    let locks = c.pool_lock.ensures.taken c.if-not-pool_lock.false in
    let held = store_held g.S.Shape s c.pool_lock.new.caller c.pool_lock.ensures.same locks
    (ap (λ (k : Holdings). k.block) c.requires.held.has.held) 0 c.args.size.log2 in
    let opened = looked z s c.pool_lock.new.caller c.take_block.new.seat c.pool_unlock.new.caller
    c.pool_lock.ensures.same locks c.in-Err.ensures.refused.0 c.pool_unlock.ensures in
    let refused = was_answered c.pool_unlock.new.caller c.cancel.new.caller hashed.bucket key None (Set c.args.value)
    (NoPages c.args.size.log2 c.in-Err.left) (looked_at s.view locks.store) opened (entered_as c.cancel.ensures) in
    let bears = bears_noted s.view c.cancel.new.caller.view hashed.bucket locks.store key None (Set c.args.value) c.args.size.log2 c.in-Err.left refused in
    let borne = (bears k last).1 in
    let size : c.args.size.log2 ≡ wanted = cc in
    let same : locks.store ≡ store = cc in
    subst (λ (x : PageStore × ℕ). HasNoLarger z x.0 x.1) (λ i. (same i, size i)) (c.in-Err.ensures.no_larger cuts (locked_on locks.store) held)
