use Rattle.std.proofs.Common.{◌≡◌, ◌≤◌, ◌+◌, ◌-◌, ◌++◌, ◌∙◌, ap, arith, drop, length, rules, sym, take}
use Rattle.std.proofs.lemmas.List.{length-append, length-drop, length-take-le}
use Rattle.racl_io.proofs.BufferLemmas.{room_read}
use Rattle.capture_stream.proofs.live_read_sizes.read_behind.Goals as goal

pub returns-clause-gained : goal.returns-clause-gained
returns-clause-gained g c =
    let held = c.args.held.now in
    let most = c.args.most in
    let room = c.in-Ok.room in
    let n = c.in-Ok-read.n in
    let part = c.read.new.buf in
    let items = c.deref_mut.result.now in
    let same = c.deref_mut.ensures.value in
    let all : length room.items ≡ length held + most = c.in-Ok.ensures.size in
    let long : length items ≡ length held + most = ap length same ∙ all in
    let within : length held ≤ length items = omega arith in
    let bound = c.in-Ok-read.ensures.bound in
    let tail = length-drop (length held) items in
    let cut = length-take-le (length held + most - length held) (drop (length held) items) (omega arith) in
    let few : n ≤ most = (let kept = c.read.auto.buf ∙ cut in omega arith) in
    let size : length (take n part) ≡ n = length-take-le n part bound in
    let fits : length held + n ≤ room.len = (let has = room.ok.0 in omega arith) in
    let appended = c.truncate.ensures.items ∙ room_read items part _ _ (length held) n room.len within bound fits
    ∙ ap (λ bs. take (length held) bs ++ take n part) same ∙ ap (λ bs. bs ++ take n part) c.in-Ok.ensures.held in
    record {
      read = take n part;
      consumed = c.in-Ok-read.ensures.bytes.0;
      appended = appended;
      size = sym size;
      few = let both = ap length appended ∙ length-append held (take n part) in omega arith;
      ended = search rules;
    }
