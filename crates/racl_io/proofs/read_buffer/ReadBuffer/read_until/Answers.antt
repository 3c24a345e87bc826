use Rattle.std.proofs.Common.{Err, ◌+◌, ◌-◌, ◌≤◌, ◌∙◌, ap, arith, length}
use Rattle.std.proofs.lemmas.List.{length-append}
use Rattle.std.proofs.lemmas.Result.{err_from_is_err_and}
use Rattle.racl_io.specs.Buffers.{held_by}
use Rattle.racl_io.proofs.TransferLemmas.{gave_more, within_of_err}
use Rattle.racl_io.proofs.read_buffer.ReadBuffer.read_until.Goals as goal

pub returns-in_err-read_some-clause-within : goal.returns-in_err-read_some-clause-within
returns-in_err-read_some-clause-within g c =
    let p = err_from_is_err_and c.from_residual.result c.from_residual.ensures.1 in
    let (read, consumed, appended) = c.reading.invariant.read in
    let within = c.read_some.ensures.within in
    let (given, gone, few) = within.gave in
    let held = ap length appended ∙ length-append (held_by c.args.self.now) read in
    let all : length read + length given ≤ c.args.least - length (held_by c.args.self.now) =
    (let most = c.reading.invariant.few in let test = c.reading-test.true in let bytes = ap length c.bytes.ensures in omega arith) in
    within_of_err _ _ _ c.args.reader.now c.reading.reader _ c.read_some.result c.from_residual.result c.in_err-read_some.field-0.0
    (gave_more _ _ _ read given _ all consumed gone) c.reading.invariant.sound c.in_err-read_some.was (p.1 ∙ ap Err p.2) within.failed
