use Rattle.std.proofs.Common.{◌++◌, take, arith}
use Rattle.std.proofs.lemmas.Grind.{common_steps}
use Rattle.std.proofs.KnownBytes.{Appends-trans}
use Rattle.racl_io.proofs.reading_and_writing.write_all.Goals as goal

pub loop-rest-preserved : goal.loop-rest-preserved
loop-rest-preserved g c =
    let inv = c.loop-rest.invariant in
    record {
      written = (inv.written.0 ++ take c.in-Ok.n c.loop-rest.rest.now, grind (arith, common_steps, inv.written.1), Appends-trans _ _ _ _ _ inv.written.2 c.in-Ok.ensures.bytes);
      sound = grind (arith, common_steps, c.in-Ok.ensures.failures);
    }
