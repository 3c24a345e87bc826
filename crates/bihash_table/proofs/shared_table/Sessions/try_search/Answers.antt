use Rattle.std.proofs.Common.{refl, true≢false, sym, ap, ◌∙◌, subst}
use Rattle.bihash_words.specs.Sizes.{sizes_of}
use Rattle.bihash_steps.specs.Seats.{CallerState}
use Rattle.bihash_steps.specs.BucketSteps.{map_now}
use Rattle.bihash_rule.specs.declared.view.View.{View}
use Rattle.bihash_table.specs.Answers.{locks_of, search_of}
use Rattle.bihash_table.specs.Promise.{IsAnswered}
use Rattle.bihash_table.proofs.CallChains.{ahead_answered, ahead_contended}
use Rattle.bihash_table.proofs.LocklessCalls.{is_read, lost_at, not_taken}
use Rattle.bihash_table.proofs.SameCallers.{own_through, same_through}
use Rattle.bihash_table.proofs.OpenReadLemmas.{may_read}
use Rattle.bihash_table.proofs.SeenBuckets.{answer_locks, answer_seen, seen_ahead, seen_answer, seen_first, seen_records}
use Rattle.bihash_table.proofs.Tries.{value_seen}
use Rattle.bihash_table.proofs.shared_table.Sessions.try_search.Goals as goal

pub pair_in_open_bucket-pair-requires : goal.pair_in_open_bucket-pair-requires
pair_in_open_bucket-pair-requires g c = may_read (own_through c.args.caller.now.seat _ _ c.load_unlocked.ensures.same c.requires.own) c.in-Some.ensures.opened.has

pub validate-requires-clause-may : goal.validate-requires-clause-may
validate-requires-clause-may g c =
    let z = sizes_of g.S.Shape in
    let hashed = c.of-hashed.result in
    let key = g.S.Shape.words_of hashed.key.now in
    let found = c.value_found-found.result in
    let h = value_seen z _ _ _ key c.pair_in_open_bucket-pair.result found c.value_found-found.ensures
    (seen_first z _ _ _ _ c.pair_in_open_bucket-pair.ensures.saw c.in-Some.ensures.opened.has) in
    let v = c.pair_in_open_bucket-pair.new.seat.view in
    seen_answer z _ _ _ h (search_of key found) (record { long = hashed.counted; home = sym hashed.home }) refl (λ log2 left e. absurd cc)
    (λ told. is_read z key found (map_now v hashed.bucket) _ (told (map_now v hashed.bucket) h.seen.pairs))

pub returns-in_default : goal.returns-in_default
returns-in_default g c = let told = c.in_default.ensures in record {
  same = told.same;
  answered = tt;
  contended = lost_at (sizes_of g.S.Shape) (g.S.Shape.words_of c.args.key.now) _ _ _ c.of-hashed.ensures.home told.contended;
  no_lock = ap locks_of told.no_lock;
  lone = λ lone. told.lone lone;
  lawful = told.lawful;
}

pub returns-then-validate : goal.returns-then-validate
returns-then-validate g c =
    let z = sizes_of g.S.Shape in
    let s = c.args.caller.now.seat in
    let hashed = c.of-hashed.result in
    let key = g.S.Shape.words_of hashed.key.now in
    let found = c.value_found-found.result in
    let opened = c.in-Some.ensures.opened in
    let read = c.pair_in_open_bucket-pair.ensures in
    let h = value_seen z _ _ _ key c.pair_in_open_bucket-pair.result found c.value_found-found.ensures (seen_first z _ _ _ _ read.saw opened.has) in
    let ahead = seen_ahead z _ _ _ _ _ opened read.saw in
    let entered = c.validate.ensures.valid c.if-validate.true in
    let w = c.validate.new.caller.view in record {
      same = same_through s c.pair_in_open_bucket-pair.new.seat c.validate.new.caller _
          (same_through s c.load_unlocked.new.seat c.pair_in_open_bucket-pair.new.seat _ c.load_unlocked.ensures.same read.same) c.validate.ensures.same;
      answered = subst (λ k. IsAnswered z s.view w (search_of (g.S.Shape.words_of k) found)) c.of-hashed.ensures.key
          (ahead_answered z _ _ w hashed.bucket (search_of key found) (sym hashed.home) ahead
          (answer_seen z _ _ _ h (search_of key found) w entered (sym hashed.home) refl));
      contended = tt;
      no_lock = answer_locks z _ _ _ h (search_of key found) w entered
          ∙ ap locks_of (seen_records z _ _ _ _ _ opened read.saw);
      lone = λ lone. refl;
      lawful = c.validate.ensures.lawful;
    }

pub returns : goal.returns
returns g c =
    let z = sizes_of g.S.Shape in
    let s = c.args.caller.now.seat in
    let hashed = c.of-hashed.result in
    let opened = c.in-Some.ensures.opened in
    let read = c.pair_in_open_bucket-pair.ensures in
    let ahead = seen_ahead z _ _ _ _ _ opened read.saw in
    let h = seen_first z _ _ _ _ read.saw opened.has in
    let told = c.validate.ensures.not c.if-validate.false in record {
      same = same_through s c.pair_in_open_bucket-pair.new.seat c.validate.new.caller _
          (same_through s c.load_unlocked.new.seat c.pair_in_open_bucket-pair.new.seat _ c.load_unlocked.ensures.same read.same) told;
      answered = tt;
      contended = lost_at z (g.S.Shape.words_of c.args.key.now) _ _ _ c.of-hashed.ensures.home (ahead_contended z _ _ _ hashed.bucket ahead
          (not_taken z _ _ _ h.seen.held (ap (λ (k : CallerState). k.view) told)));
      no_lock = ap (λ (k : CallerState). locks_of k.view.records) told ∙ ap locks_of (seen_records z _ _ _ _ _ opened read.saw);
      lone = λ lone. absurd (true≢false (sym (c.validate.ensures.lone (ap (λ (v : View). v.lone) ahead.is ∙ lone)) ∙ c.if-validate.false));
      lawful = c.validate.ensures.lawful;
    }
