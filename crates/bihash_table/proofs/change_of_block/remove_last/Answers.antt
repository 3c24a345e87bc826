use Rattle.std.proofs.Common.{◌∙◌, false, true≢false, Some, None, ap, refl, sym}
use Rattle.bihash_words.specs.Sizes.{sizes_of}
use Rattle.bihash_words.specs.declared.patch.Change.TheVariants.{Remove}
use Rattle.bihash_words.specs.declared.patch.Reply.TheVariants.{Changed}
use Rattle.bihash_steps.specs.BucketSteps.{call_of, map_now, without_lock}
use Rattle.bihash_steps.specs.Seats.{CallerState, with_view}
use Rattle.bihash_rule.specs.declared.view.Holdings.{Holdings}
use Rattle.bihash_rule.specs.declared.view.View.{View}
use Rattle.bihash_steps.specs.BucketCalls.{event}
use Rattle.bihash_table.specs.Answers.{locks_of}
use Rattle.bihash_table.proofs.LockCounts.{locks_pushed}
use Rattle.bihash_table.proofs.OpenPlaces.{word_tells}
use Rattle.bihash_table.proofs.BlockExchange.{emptied, locked_on, may_empty, published, published_log, same_through, seen_same, store_only}
use Rattle.bihash_table.proofs.SameCallers.{entered_as, own_through}
use Rattle.bihash_table.proofs.StoreLemmas.{holds_old, left_written, still_lawful, contended}
use Rattle.bihash_table.proofs.Tries.{finished_away, finished_write}
use Rattle.bihash_table.proofs.change_of_block.remove_last.Goals as goal

pub returns-then-not-pool_lock-clause-told : goal.returns-then-not-pool_lock-clause-told
returns-then-not-pool_lock-clause-told g c =
    let hashed = c.args.seen.now.hashed in
    let s = c.args.seat.now in
    let h = c.requires in
    let not = c.pool_lock.ensures.not c.if-not-pool_lock.true in
    finished_away g.S.Shape s c.release.new.caller hashed.key.now (Some c.args.pair.1) Remove
    (seen_same s c.release.new.caller (c.release.ensures.view ∙ ap (λ (k : CallerState). with_view k (without_lock k.view)) c.pool_lock.ensures.same))
    c.release.ensures.lawful (ap (λ (k : CallerState). locks_of k.view.records) c.release.ensures.view ∙ ap (λ (v : View). locks_of v.records) not)
    _ hashed.bucket (sym hashed.home)
    (contended (sizes_of g.S.Shape) s.view c.pool_lock.new.caller.view c.release.new.caller.view hashed.bucket c.args.seen.now.word h.lock h.has
    not (ap (λ (k : CallerState). k.view) c.release.ensures.view))
    (λ lone. true≢false (sym (c.pool_lock.ensures.lone lone (ap (λ (k : Holdings). k.store) h.has.held)) ∙ c.if-not-pool_lock.true))

pub release-requires-clause-at : goal.release-requires-clause-at
release-requires-clause-at g c = let h = c.requires in
    record { own = own_through c.args.seat.now _ _ c.pool_lock.ensures.same h.own; inside = h.has.inside }

pub publish_block-requires-clause-at : goal.publish_block-requires-clause-at
publish_block-requires-clause-at g c = let h = c.requires in
    record { own = own_through c.args.seat.now _ _ c.pool_lock.ensures.same h.own; inside = h.has.inside }

pub publish_block-requires-clause-may : goal.publish_block-requires-clause-may
publish_block-requires-clause-may g c =
    let z = sizes_of g.S.Shape in let s = c.args.seat.now in let hashed = c.args.seen.now.hashed in
    let key = g.S.Shape.words_of hashed.key.now in
    let h = c.requires in
    let locks = c.pool_lock.ensures.taken c.if-not-pool_lock.false in
    let n = locked_on locks.store in
    may_empty z s.view hashed.bucket c.args.seen.now.word h.lock key h.has (record { long = hashed.counted; home = sym hashed.home }) h.unworn n
    c.args.pair.1
    (h.has.pairs.map.mapped key c.args.pair.1 c.args.pair.0 h.told.0)
    c.is_sound.ensures.some_page
    (emptied z h.lock.extent h.lock.now key (map_now s.view hashed.bucket) c.args.pair.1 c.args.pair.0 h.has.pairs h.told.0 h.told.1)
    c.pool_lock.new.caller.view (store_only z s.view c.pool_lock.new.caller.view hashed.bucket c.args.seen.now.word h.lock h.has locks)

pub end_block_change-requires : goal.end_block_change-requires
end_block_change-requires g c =
    let z = sizes_of g.S.Shape in let s = c.args.seat.now in let hashed = c.args.seen.now.hashed in
    let key = g.S.Shape.words_of hashed.key.now in
    let h = c.requires in
    let locks = c.pool_lock.ensures.taken c.if-not-pool_lock.false in
    let n = locked_on locks.store in
    let done = published s c.pool_lock.new.caller c.publish_block.new.caller n None hashed.bucket key (Some c.args.pair.1) Remove
    (c.pool_lock.ensures.same ∙ ap (with_view s) (store_only z s.view c.pool_lock.new.caller.view hashed.bucket c.args.seen.now.word h.lock h.has locks))
    (entered_as c.publish_block.ensures) in record {
      own = own_through c.pool_lock.new.caller _ _ (entered_as c.publish_block.ensures) (own_through s _ _ c.pool_lock.ensures.same h.own);
      sound = c.is_sound.ensures;
      store = record n { store = record n.store { unpublished = false } };
      extent = h.lock.extent;
      words = h.lock.now;
      names = word_tells z s.view hashed.bucket c.args.seen.now.word h.lock h.has;
      holds = holds_old z s.view c.publish_block.new.caller.view hashed.bucket c.args.seen.now.word h.lock n None
          (call_of s.view hashed.bucket 1 (event key (Some c.args.pair.1) Remove (Changed (Some c.args.pair.1)))) h.has done;
    }

pub returns-clause-told : goal.returns-clause-told
returns-clause-told g c =
    let z = sizes_of g.S.Shape in let s = c.args.seat.now in let hashed = c.args.seen.now.hashed in
    let key = g.S.Shape.words_of hashed.key.now in
    let h = c.requires in
    let locks = c.pool_lock.ensures.taken c.if-not-pool_lock.false in
    let n = locked_on locks.store in
    let done = published s c.pool_lock.new.caller c.publish_block.new.caller n None hashed.bucket key (Some c.args.pair.1) Remove
    (c.pool_lock.ensures.same ∙ ap (with_view s) (store_only z s.view c.pool_lock.new.caller.view hashed.bucket c.args.seen.now.word h.lock h.has locks))
    (entered_as c.publish_block.ensures) in
    finished_write g.S.Shape s c.end_block_change.new.seat hashed.key.now (Some c.args.pair.1) Remove
    (same_through s c.pool_lock.new.caller c.publish_block.new.caller c.end_block_change.new.seat c.pool_lock.ensures.same
    (seen_same c.pool_lock.new.caller c.publish_block.new.caller (entered_as c.publish_block.ensures)) c.end_block_change.ensures.same)
    (still_lawful z c.publish_block.new.caller.view c.end_block_change.new.seat.view c.end_block_change.ensures.left c.publish_block.ensures.lawful)
    (ap (λ (v : View). locks_of v.records) c.end_block_change.ensures.left.is
    ∙ (locks_pushed _ _ _ (ap (λ (s : CallerState). s.view.records) (entered_as c.publish_block.ensures))
    ∙ ap (λ (v : View). locks_of v.records) locks.is))
    (left_written z s.view c.publish_block.new.caller.view c.end_block_change.new.seat.view hashed.bucket c.args.seen.now.word h.lock n None
    (event key (Some c.args.pair.1) Remove (Changed (Some c.args.pair.1))) h.has (sym hashed.home) refl done c.end_block_change.ensures.left
    (published_log z s c.pool_lock.new.caller c.publish_block.new.caller n None hashed.bucket key (Some c.args.pair.1) Remove
    (c.pool_lock.ensures.same ∙ ap (with_view s) (store_only z s.view c.pool_lock.new.caller.view hashed.bucket c.args.seen.now.word h.lock h.has locks))
    c.publish_block.ensures.entered))
