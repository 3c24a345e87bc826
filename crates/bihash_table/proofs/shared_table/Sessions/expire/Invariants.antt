use Rattle.std.proofs.Common.{◌≡◌, ℕ, true}
use Rattle.bihash_words.specs.Sizes.{sizes_of}
use Rattle.bihash_steps.specs.Seats.{with_view}
use Rattle.bihash_table.specs.Promise.{IsContended}
use Rattle.bihash_table.specs.Tries.{TookAtMost}
use Rattle.bihash_table.proofs.shared_table.Sessions.expire.Given as goal

-- each try so far was contended and took one lock at most, and there was none where the caller is lone
abbrev pub invariant-loop : goal.invariant-loop
invariant-loop g l = record {
  next : (goal.iterator-loop g).can_next l.iterator';
  finite : (goal.iterator-loop g).is_finite l.iterator';
  same : l.caller.seat ≡ with_view l.initial.caller.seat l.caller.seat.view;
  tried : IsContended (sizes_of g.S.Shape) l.initial.caller.seat.view l.caller.seat.view l.bucket;
  tries : (tries : ℕ) × TookAtMost l.initial.caller.seat.view l.caller.seat.view tries
      × (l.initial.caller.seat.view.lone ≡ true → tries ≡ 0);
  lone : l.initial.caller.seat.view.lone ≡ true → l.caller.seat.view ≡ l.initial.caller.seat.view;
}
