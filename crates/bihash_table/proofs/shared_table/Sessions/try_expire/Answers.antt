use Rattle.std.proofs.Common.{ap}
use Rattle.bihash_words.specs.Sizes.{sizes_of}
use Rattle.bihash_table.specs.Answers.{locks_of}
use Rattle.bihash_table.proofs.ExpiredReads.{expired_ahead, lawful_read}
use Rattle.bihash_table.proofs.SameCallers.{own_through, same_through}
use Rattle.bihash_table.proofs.SeenBuckets.{seen_ahead, seen_first, seen_records}
use Rattle.bihash_table.proofs.shared_table.Sessions.try_expire.Goals as goal

pub remove_expired-requires : goal.remove_expired-requires
remove_expired-requires g c =
    let z = sizes_of g.S.Shape in
    let read = c.in-Some-expired_in_open_bucket.ensures.read in record {
      own = own_through c.load_unlocked.new.seat _ _ read.same (own_through c.args.caller.now.seat _ _ c.load_unlocked.ensures.same c.requires.idle.own);
      seen = seen_first z _ _ _ _ read.saw c.in-Some.ensures.opened.has;
      expired = c.in-Some-expired_in_open_bucket.ensures.expired;
      lawful = lawful_read z _ _ read.saw c.load_unlocked.ensures.lawful;
    }

pub returns-in-Some-expired_in_open_bucket : goal.returns-in-Some-expired_in_open_bucket
returns-in-Some-expired_in_open_bucket g c =
    let z = sizes_of g.S.Shape in
    let opened = c.in-Some.ensures.opened in
    let read = c.expired_in_open_bucket.ensures.read in
    expired_ahead z _ _ _ _ _ (same_through c.args.caller.now.seat _ _ _ c.load_unlocked.ensures.same read.same)
    (seen_ahead z _ _ _ _ _ opened read.saw) (ap locks_of (seen_records z _ _ _ _ _ opened read.saw)) c.remove_expired.result c.remove_expired.ensures

pub find_none_expired-requires : goal.find_none_expired-requires
find_none_expired-requires g c =
    let z = sizes_of g.S.Shape in
    let read = c.in-None.ensures.read in record {
      own = own_through c.load_unlocked.new.seat _ _ read.same (own_through c.args.caller.now.seat _ _ c.load_unlocked.ensures.same c.requires.idle.own);
      seen = seen_first z _ _ _ _ read.saw c.in-Some.ensures.opened.has;
      expired = tt;
      lawful = lawful_read z _ _ read.saw c.load_unlocked.ensures.lawful;
    }

pub returns-in-None : goal.returns-in-None
returns-in-None g c =
    let z = sizes_of g.S.Shape in
    let opened = c.in-Some.ensures.opened in
    let read = c.expired_in_open_bucket.ensures.read in
    expired_ahead z _ _ _ _ _ (same_through c.args.caller.now.seat _ _ _ c.load_unlocked.ensures.same read.same)
    (seen_ahead z _ _ _ _ _ opened read.saw) (ap locks_of (seen_records z _ _ _ _ _ opened read.saw)) c.find_none_expired.result
    c.find_none_expired.ensures
