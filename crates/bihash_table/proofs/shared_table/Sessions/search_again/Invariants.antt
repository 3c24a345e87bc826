use Rattle.std.proofs.Common.{◌≡◌}
use Rattle.bihash_words.specs.Sizes.{sizes_of}
use Rattle.bihash_rule.specs.Histories.{bucket_of}
use Rattle.bihash_steps.specs.Seats.{with_view}
use Rattle.bihash_table.specs.Answers.{locks_of}
use Rattle.bihash_table.specs.Promise.{IsContended}
use Rattle.bihash_table.proofs.shared_table.Sessions.search_again.Given as goal

-- each try so far was contended
abbrev pub invariant-loop : goal.invariant-loop
invariant-loop g l = record {
  next : (goal.iterator-loop g).can_next l.iterator';
  finite : (goal.iterator-loop g).is_finite l.iterator';
  same : l.caller.seat ≡ with_view l.initial.caller.seat l.caller.seat.view;
  tried : IsContended (sizes_of g.S.Shape) l.initial.caller.seat.view l.caller.seat.view
      (bucket_of (sizes_of g.S.Shape) (g.S.Shape.words_of l.key));
  no_lock : locks_of l.caller.seat.view.records ≡ locks_of l.initial.caller.seat.view.records;
}
