use Rattle.std.proofs.Common.{◌∙◌, ap, subst, sym}
use Rattle.bihash_words.specs.Sizes.{sizes_of}
use Rattle.bihash_table.specs.Answers.{locks_of}
use Rattle.bihash_table.specs.Tries.{TriedOver}
use Rattle.bihash_table.specs.inner.OpenReads.{value_of}
use Rattle.bihash_table.proofs.SameCallers.{own_through, same_through}
use Rattle.bihash_table.proofs.OpenReadLemmas.{may_read}
use Rattle.bihash_table.proofs.SeenBuckets.{seen_ahead, seen_first, seen_records}
use Rattle.bihash_table.proofs.Tries.{over_seen, update_answered_over}
use Rattle.bihash_table.proofs.shared_table.Sessions.try_add_or_recycle.Goals as goal

pub pair_in_open_bucket-pair-requires : goal.pair_in_open_bucket-pair-requires
pair_in_open_bucket-pair-requires g c = may_read (own_through c.args.caller.now.seat _ _ c.load_unlocked.ensures.same c.requires.own) c.in-Some.ensures.opened.has

pub make_tried_change-requires-clause-found : goal.make_tried_change-requires-clause-found
make_tried_change-requires-clause-found g c = record {
  own = own_through c.load_unlocked.new.seat _ _ c.pair_in_open_bucket-pair.ensures.same (own_through c.args.caller.now.seat _ _ c.load_unlocked.ensures.same c.requires.own);
  seen = seen_first (sizes_of g.S.Shape) _ _ _ _ c.pair_in_open_bucket-pair.ensures.saw c.in-Some.ensures.opened.has;
}

pub returns-clause-told : goal.returns-clause-told
returns-clause-told g c =
    let z = sizes_of g.S.Shape in
    let s = c.args.caller.now.seat in
    let x = c.load_unlocked.new.seat in
    let y = c.pair_in_open_bucket-pair.new.seat in
    let t = c.make_tried_change.new.caller.seat in
    let hashed = c.with_hash-hashed.result in
    let found = value_of c.pair_in_open_bucket-pair.result in
    let change = c.decide-change.result in
    let r = c.make_tried_change.result in
    let same = same_through s x y _ c.load_unlocked.ensures.same c.pair_in_open_bucket-pair.ensures.same in
    let ahead = seen_ahead z s.view x.view y.view hashed.bucket c.in-Some.word c.in-Some.ensures.opened c.pair_in_open_bucket-pair.ensures.saw in
    let locks = ap locks_of (seen_records z s.view x.view y.view hashed.bucket c.in-Some.word c.in-Some.ensures.opened c.pair_in_open_bucket-pair.ensures.saw) in
    let is_expired = g.E.Expiry.is_expired c.args.expiry.now in
    let all : TriedOver g.S.Shape s t hashed.key.now found change is_expired r
    = over_seen g.S.Shape s y t hashed.bucket hashed.key.now found change is_expired same ahead (sym hashed.home) locks r c.make_tried_change.ensures.told in
    let key = c.args.known.now.key.now in
    let tried : TriedOver g.S.Shape s t key found change is_expired r
    = subst (λ k. TriedOver g.S.Shape s t k found change is_expired r) c.with_hash-hashed.ensures.key all in
    record {
      same = tried.same;
      answered = update_answered_over g.S.Shape s t key found change (g.P.Patch.decision c.args.patch.now) is_expired
          (c.decide-change.ensures.decision ∙ ap (g.P.Patch.decision c.args.patch.now) c.value_found-found.ensures) r tried;
      no_pages = tried.no_pages;
      locks = tried.locks;
      contended = tried.contended;
      lone = tried.lone;
      lawful = tried.lawful;
    }
