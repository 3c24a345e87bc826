use Rattle.std.proofs.Common.{◌+◌, ◌-◌, ◌≤◌, arith, length, take}
use Rattle.std.proofs.lemmas.Grind.{common_steps}
use Rattle.std.proofs.lemmas.Result.{err_from_is_err_and}
use Rattle.racl_io.proofs.TransferLemmas.{gave_more}
use Rattle.racl_io.proofs.reading_and_writing.read_until.Goals as goal

pub returns-in_err-keep_while_reading-clause-within : goal.returns-in_err-keep_while_reading-clause-within
returns-in_err-keep_while_reading-clause-within g c =
    let p = err_from_is_err_and c.from_residual.result c.from_residual.ensures.1 in
    let (read, consumed, appended) = c.reading.invariant.read in
    let part = take c.in-Ok.n c.read.new.buf in
    let few : length read + length part ≤ c.args.least - length c.args.all.now.items =
    grind (arith, common_steps, appended, c.reading.invariant.few, c.in-Ok.ensures.bound) in
    rw (p.1, p.2) (record {
      gave = gave_more _ _ _ read part _ few consumed c.in-Ok.ensures.bytes.0;
      failed = grind (arith, common_steps, c.in-Ok.ensures.failures, c.reading.invariant.sound);
    })
