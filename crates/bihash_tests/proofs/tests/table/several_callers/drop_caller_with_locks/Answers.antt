use Rattle.std.proofs.Common.{rules, false, length, refl}
use Rattle.bihash_rule.specs.Buckets.{word_of}
use Rattle.bihash_table.proofs.CallChains.{sees_open}
use Rattle.bihash_tests.proofs.tests.table.several_callers.drop_caller_with_locks.Goals as goal

-- the bucket was found open
pub lock_from-requires-clause-may : goal.lock_from-requires-clause-may
lock_from-requires-clause-may c =
    let s = sees_open _ _ _ _ _ _ c.locked.ensures c.if-locked.false c.load_bucket-word.ensures.seen in record {
      free = search rules;
      bucket = word_of s.extent false (length s.history);
      fits = s.found.fits;
      stood = s.found.stood;
      unlocked = refl;
    }
