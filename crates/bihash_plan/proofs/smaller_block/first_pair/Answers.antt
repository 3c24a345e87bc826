use Rattle.bihash_plan.proofs.FirstPairs.{first_found, first_more, first_none}
use Rattle.bihash_plan.proofs.smaller_block.first_pair.Goals as goal

pub returns-then-not-is_free : goal.returns-then-not-is_free
returns-then-not-is_free g c = record {
  found = first_found _ _ _ c.is_free.ensures c.if-not-is_free.true c.loop-i-test.true c.loop-i.invariant;
  none = tt;
}

pub loop-i-preserved : goal.loop-i-preserved
loop-i-preserved g c = first_more _ _ _ c.is_free.ensures c.if-not-is_free.false c.loop-i.invariant

pub returns : goal.returns
returns g c = record { found = tt; none = first_none _ _ c.loop-i-test.false c.loop-i.invariant }
