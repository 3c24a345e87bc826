use Rattle.bihash_words.specs.Sizes.{sizes_of}
use Rattle.bihash_steps.proofs.SeatCounts.{seen_records}
use Rattle.bihash_rule.specs.declared.view.Holdings.{Holdings}
use Rattle.std.proofs.Common.{ap, refl}
use Rattle.bihash_table.proofs.CallChains.{sees_open, sees_locked, open_not_locked, locked_turns_away}
use Rattle.bihash_table.proofs.LocklessCalls.{opened}
use Rattle.bihash_table.proofs.bucket_lock.load_unlocked.Goals as goal

pub returns-then-locked : goal.returns-then-locked
returns-then-locked g c = record {
  same = c.load_bucket-word.ensures.same;
  opened = tt;
  contended = locked_turns_away (sizes_of g.S.Shape) _ _ _ _ c.requires.idle.free
      (sees_locked _ _ _ _ _ _ c.locked.ensures c.if-locked.true c.load_bucket-word.ensures.seen);
  no_lock = seen_records (sizes_of g.S.Shape) _ _ _ _ c.load_bucket-word.ensures.seen;
  lone = λ lone. absurd (open_not_locked _ _ _ _ _ _ c.locked.ensures c.if-locked.true
      (c.load_bucket-word.ensures.lone lone (ap (λ (h : Holdings). h.bucket) c.requires.idle.free)));
  lawful = c.load_bucket-word.ensures.lawful;
}

pub returns : goal.returns
returns g c = record {
  same = c.load_bucket-word.ensures.same;
  opened = opened (sizes_of g.S.Shape) _ _ _ _ c.requires.inside c.requires.idle.free
      (sees_open _ _ _ _ _ _ c.locked.ensures c.if-locked.false c.load_bucket-word.ensures.seen) c.load_bucket-word.ensures.whole;
  contended = tt;
  no_lock = tt;
  lone = λ lone. refl;
  lawful = c.load_bucket-word.ensures.lawful;
}
