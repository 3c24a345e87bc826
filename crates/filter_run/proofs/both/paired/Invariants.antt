use Rattle.std.proofs.Common.{take}
use Rattle.filter_run.specs.Both.{ArePaired}
use Rattle.filter_run.proofs.both.paired.Given as goal

-- the first ones are paired
abbrev pub invariant-pairing : goal.invariant-pairing
invariant-pairing g l = ArePaired (take l.i l.ones) (take l.i l.others) l.pairs.items
