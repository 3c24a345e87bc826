use Rattle.std.proofs.Common.{◌∙◌, ap, arith, refl, subst}
use Rattle.racl_io.specs.Buffers.{held_by}
use Rattle.capture_stream.specs.Found.{HaveFound}
use Rattle.capture_stream.specs.Parting.{rest_in}
use Rattle.capture_stream.proofs.PartingLemmas.{behind_held, found_under, settled_found}
use Rattle.capture_stream.proofs.record_parting.RecordParting.settle.Goals as goal

pub overflow_add-self : goal.overflow_add-self
overflow_add-self c = let under = found_under c.args.self.now c.requires.found c.requires.few in omega arith

pub returns : goal.returns
returns c =
    let old = c.args.self.now in
    let behind = ap held_by c.swap.ensures.x_after ∙ c.in_ok-hold.ensures.held ∙ behind_held c.bytes-bytes.result.now (rest_in old) old.found c.bytes-bytes.ensures in
    settled_found old _ c.requires.found behind (ap held_by c.swap.ensures.y_after) refl refl refl
    (subst (λ b. HaveFound old.order b c.find_records-self.result) c.bytes.ensures c.find_records-self.ensures)
