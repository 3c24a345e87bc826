use Rattle.std.proofs.Common.{rules, ◌≡◌, ◌∙◌, length, true, false, ap, refl}
use Rattle.bihash_rule.specs.Buckets.{word_of}
use Rattle.bihash_rule.specs.declared.view.View.{View}
use Rattle.bihash_steps.specs.BucketSteps.{locked_on}
use Rattle.bihash_table.proofs.CallChains.{sees_open}
use Rattle.bihash_tests.proofs.tests.table.threads.a_search_outlasts_a_lock.Goals as goal

pub lock_from-requires-clause-may : goal.lock_from-requires-clause-may
lock_from-requires-clause-may g c =
    let no : c.locked.result ≡ false = search rules in
    let open_there = sees_open _ _ _ _ _ _ c.locked.ensures no c.load_bucket-word.ensures.seen in record {
      free = ap (λ (v : View). v.holds) open_there.is ∙ c.first_wrong.ensures.free;
      bucket = word_of open_there.extent false (length open_there.history);
      fits = open_there.found.fits;
      stood = open_there.found.stood;
      unlocked = refl;
    }

pub search_under_lock-found-requires-clause-locked : goal.search_under_lock-found-requires-clause-locked
search_under_lock-found-requires-clause-locked g c κs =
    let yes : c.lock_from.result ≡ true = search rules in
    let taken = c.lock_from.ensures.taken yes in record {
      lock = locked_on 0 (length taken.history) taken.extent taken.block;
      held = ap (λ (v : View). v.holds.bucket) taken.is;
      bucket = refl;
      stood = taken.found.stood;
      clean = refl;
    }
