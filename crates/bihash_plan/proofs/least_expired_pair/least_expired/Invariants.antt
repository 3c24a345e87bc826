use Rattle.bihash_plan.specs.inner.LeastPairs.{IsBound, IsLeastAmong}
use Rattle.bihash_plan.proofs.least_expired_pair.least_expired.Given as goal

-- it is the least among the places so far
abbrev pub invariant-loop-i : goal.invariant-loop-i
invariant-loop-i g l = record {
  least : IsLeastAmong g.S.Shape.words_of (g.E.Expiry.is_expired l.expiry) l.places l.i l.least.place;
  bound : IsBound g.S.Shape.words_of l.places l.least;
}
