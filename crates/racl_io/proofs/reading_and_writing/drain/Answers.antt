use Rattle.std.proofs.Common.{◌++◌, take, arith}
use Rattle.std.proofs.lemmas.Grind.{common_steps}
use Rattle.std.proofs.KnownBytes.{Consumes-trans}
use Rattle.racl_io.proofs.reading_and_writing.drain.Goals as goal

pub reading-preserved : goal.reading-preserved
reading-preserved g c =
    let inv = c.reading.invariant in
    record {
      read = (inv.read.0 ++ take c.in-Ok.n c.read.new.buf, Consumes-trans _ _ _ _ _ inv.read.1 c.in-Ok.ensures.bytes.0, grind (arith, common_steps, inv.read.2, c.in-Ok.ensures.bound));
      few = grind (arith, common_steps, c.in-Ok.ensures.bound);
      sound = grind (arith, common_steps, c.in-Ok.ensures.failures, inv.sound);
    }
