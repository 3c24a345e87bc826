use Rattle.std.proofs.Common.{◌++◌, Option, refl, subst}
use Rattle.packet_view.specs.declared.capture.Order.{Order}
use Rattle.racl_io.specs.Buffers.{held_by}
use Rattle.filter_run.specs.inner.Lanes.{HasWaiting}
use Rattle.filter_run.proofs.LaneLemmas.{joined_waits}
use Rattle.filter_run.proofs.PartLemmas.{bytes_parted}
use Rattle.filter_run.proofs.coming_captures.take_bytes.Goals as goal

pub returns-in-Err : goal.returns-in-Err
returns-in-Err c = λ bytes records is.
    let lane = c.args.lane.now in
    let more = c.args.arrival.now.bytes.items in
    c.in-Err.ensures.fault (bytes ++ more) records
    (joined_waits lane.order bytes more (held_by lane.window) records c.in-Ok.all.items c.bytes.result.now c.deref.result.now is.waiting c.in-Ok.ensures c.bytes.ensures c.deref.ensures.value)

pub returns-in-Ok-part : goal.returns-in-Ok-part
returns-in-Ok-part c = λ bytes records is.
    let lane = c.args.lane.now in
    let arrival = c.args.arrival.now in
    let more = arrival.bytes.items in
    let rest = c.in-Ok-behind_header.waits.1 in
    let waits = subst (λ (o : Option Order). HasWaiting o (bytes ++ more) records rest.items) c.in-Some.is
    (c.in-Ok-behind_header.ensures.waits (bytes ++ more) records
    (joined_waits lane.order bytes more (held_by lane.window) records c.in-Ok.all.items c.bytes.result.now c.deref.result.now is.waiting c.in-Ok.ensures c.bytes.ensures c.deref.ensures.value)) in
    bytes_parted arrival (record { order = c.in-Some.order; interface = arrival.interface; bytes = rest }) refl bytes records c.args.others lane c.part.new.lane c.in-Ok-part.batch is.count waits
    c.in-Ok-part.ensures
