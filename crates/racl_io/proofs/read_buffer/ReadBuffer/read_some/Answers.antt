use Rattle.std.proofs.Common.{◌≡◌, ◌≤◌, ◌+◌, ◌++◌, ◌∙◌, ap, arith, length, rules, sym, take}
use Rattle.std.proofs.lemmas.List.{length-take-le}
use Rattle.std.proofs.lemmas.Grind.{common_steps}
use Rattle.racl_io.proofs.BufferLemmas.{room_read}
use Rattle.racl_io.proofs.read_buffer.ReadBuffer.read_some.Goals as goal

pub returns-clause-gained : goal.returns-clause-gained
returns-clause-gained g c =
    let buffer = c.make_room.new.self in
    let n = c.in-Ok.n in
    let part = c.read.new.buf in
    let items = c.deref_mut.result.now in
    let same = c.deref_mut.ensures.value in
    let within : buffer.count ≤ length items =
    (let long = ap length same in let all = buffer.room.ok.0 in let few = buffer.within in omega arith) in
    let bound = c.in-Ok.ensures.bound in
    let size : length (take n part) ≡ n = length-take-le n part bound in
    let kept = c.read.auto.buf in
    let fits : buffer.count + n ≤ buffer.room.len =
    (let asked = c.min.ensures in let part = c.min-2.ensures in let all = c.len.ensures in omega arith) in
    let held = c.in_ok-make_room.ensures.held in
    record {
      read = take n part;
      consumed = c.in-Ok.ensures.bytes.0;
      appended = room_read items part _ _ buffer.count n buffer.room.len within bound fits
          ∙ ap (λ bs. take buffer.count bs ++ take n part) same ∙ ap (λ bs. bs ++ take n part) held;
      size = sym size;
      few = grind (arith, common_steps, fits, bound, size, c.requires.some);
      ended = search rules;
    }
