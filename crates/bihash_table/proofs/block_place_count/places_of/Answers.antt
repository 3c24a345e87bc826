use Rattle.std.proofs.Common.{◌≤◌, ◌^◌, pow_mono, arith}
use Rattle.bihash_table.proofs.block_place_count.places_of.Goals as goal

pub returns : goal.returns
returns c = let few : 2 ^ c.args.log2 ≤ 2 ^ 24 = pow_mono c.requires in omega arith
