use Rattle.std.proofs.Common.{false, refl, ap}
use Rattle.bihash_words.specs.Sizes.{sizes_of}
use Rattle.bihash_rule.specs.Buckets.{word_of}
use Rattle.bihash_rule.specs.declared.view.View.{View}
use Rattle.bihash_table.proofs.LocklessCalls.{open_word_is, not_taken}
use Rattle.bihash_table.proofs.SeenBuckets.{locks_seen}
use Rattle.bihash_table.proofs.bucket_lock.lock_if_unchanged.Goals as goal

pub lock_from-requires-clause-at : goal.lock_from-requires-clause-at
lock_from-requires-clause-at g c = record { own = c.requires.own; inside = c.requires.seen.inside }

pub lock_from-requires-clause-may : goal.lock_from-requires-clause-may
lock_from-requires-clause-may g c = let h = c.requires.seen in record {
  free = h.held;
  bucket = word_of h.extent false h.block.open_bucket.version;
  fits = h.block.fits;
  stood = h.block.stood;
  unlocked = refl;
}

pub returns : goal.returns
returns g c = let h = c.requires.seen in let told = c.lock_from.ensures in record {
  same = told.same;
  locked = λ won. locks_seen (sizes_of g.S.Shape) _ _ _ _ h (told.taken won)
      (told.rests won h.block.open_bucket h.block.noted h.bucket (open_word_is (sizes_of g.S.Shape) _ _ _ h));
  contended = λ lost. not_taken (sizes_of g.S.Shape) _ _ _ h.held (told.not lost);
  no_lock = λ lost. ap (λ (v : View). v.records) (told.not lost);
  lone = λ lone. told.lone lone h.block.open_bucket h.block.noted h.bucket (open_word_is (sizes_of g.S.Shape) _ _ _ h);
  lawful = told.lawful;
}
