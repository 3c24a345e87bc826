use Rattle.std.proofs.Common.{◌∙◌, ◌-◌, List, None, ap, arith, drop, length, subst, sym, refl, ℕ}
use Rattle.std.proofs.lemmas.List.{length-drop, take_all}
use Rattle.packet_view.specs.Captures.{HasFileHeader}
use Rattle.capture_stream.specs.Found.{HaveFound}
use Rattle.filter_run.specs.declared.batch.Batch.{Batch}
use Rattle.filter_run.proofs.InTurnLemmas.{capture_read}
use Rattle.filter_run.proofs.captures_in_turn.batch_of.Goals as goal

pub returns : goal.returns
returns c =
    let capture = c.args.capture.now in
    let order = c.in_ok-order.order in
    let found = c.find_records-found.result in
    let batch : Batch = record { others = c.args.others; interface = capture.interface; order = order; numbers = None; bytes = c.hold.new.self; found = found } in
    let size = length-drop 24 c.deref-2.result.now in
    let held = c.in_ok-hold.ensures.held ∙ take_all (length c.deref-2.result.now - 24) (drop 24 c.deref-2.result.now) (omega arith)
    ∙ ap (drop 24) c.deref-2.ensures.value in
    let many = ap length c.bytes.ensures in
    capture_read capture batch (omega (arith, c.bytes.type_inv.1)) (let few = c.requires.few in omega arith) refl refl held
    (subst (λ (b : List ℕ). HaveFound order b found) c.bytes.ensures c.find_records-found.ensures)
    (λ other header. let reads = c.capture_header.ensures.accepts other (subst (HasFileHeader other) (sym c.deref.ensures.value) header) in let is = c.in_ok-order.was in cc)
