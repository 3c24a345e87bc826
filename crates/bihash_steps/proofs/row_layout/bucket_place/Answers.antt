use Rattle.bihash_steps.proofs.BucketPlaces.{place_of_few, place_of_many}
use Rattle.bihash_steps.proofs.row_layout.bucket_place.Goals as goal
use Rattle.std.proofs.Common.{arith}

pub returns-then-LOG2_BUCKETS-lt4-clause-place : goal.returns-then-LOG2_BUCKETS-lt4-clause-place
returns-then-LOG2_BUCKETS-lt4-clause-place g c =
    place_of_few _ _ _ c.LOG2_BUCKETS.ensures (let t = c.if-LOG2_BUCKETS-lt4.true in omega arith) c.requires.one

pub returns-clause-place : goal.returns-clause-place
returns-clause-place g c =
    place_of_many _ _ _ c.requires.sound c.LOG2_BUCKETS-2.ensures
    (let f = c.if-LOG2_BUCKETS-lt4.false in let a = c.LOG2_BUCKETS.ensures in let b = c.LOG2_BUCKETS-2.ensures in omega arith) c.requires.one
