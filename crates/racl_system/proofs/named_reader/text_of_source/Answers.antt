use Rattle.std.proofs.Common.{◌<◌, ◌≤◌, arith, length}
use Rattle.racl_io.specs.Inputs.{most_bytes}
use Rattle.racl_system.proofs.ReaderLemmas.{text_of_front, unread_of_long}
use Rattle.racl_system.proofs.named_reader.text_of_source.Goals as goal

pub returns-then-len-gt-MOST_BYTES-clause-fault : goal.returns-then-len-gt-MOST_BYTES-clause-fault
returns-then-len-gt-MOST_BYTES-clause-fault g c =
    let long : most_bytes < length c.in-Ok.text.items = omega (arith, c.len.ensures, c.if-len-gt-MOST_BYTES.true) in
    unread_of_long _ c.in-Ok.text.items c.in-Ok.ensures.read long

pub returns-clause-text : goal.returns-clause-text
returns-clause-text g c =
    let few : length c.in-Ok.text.items ≤ most_bytes = omega (arith, c.len.ensures, c.if-len-gt-MOST_BYTES.false) in
    text_of_front _ c.in-Ok.text.items c.push.new.self.items c.in-Ok.ensures.read few c.in_ok-push.ensures.items
