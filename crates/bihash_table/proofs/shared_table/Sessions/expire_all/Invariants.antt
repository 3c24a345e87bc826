use Rattle.bihash_words.specs.Sizes.{sizes_of}
use Rattle.bihash_table.proofs.LooksInTurn.{Removals}
use Rattle.bihash_table.proofs.shared_table.Sessions.expire_all.Given as goal

-- each look so far removed a pair
abbrev pub invariant-loop : goal.invariant-loop
invariant-loop g l = record {
  next : (goal.iterator-loop g).can_next l.iterator';
  finite : (goal.iterator-loop g).is_finite l.iterator';
  removals : Removals (sizes_of g.S.Shape) l.initial.caller.seat l.caller.seat l.bucket (g.E.Expiry.is_expired l.expiry) l.went;
}
