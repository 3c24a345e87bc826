use Rattle.std.proofs.Common.{◌∙◌, arith, refl, subst}
use Rattle.capture_stream.specs.Found.{HaveFound}
use Rattle.capture_stream.proofs.PartingLemmas.{behind_held}
use Rattle.filter_run.proofs.PartLemmas.{found_few, lane_parted}
use Rattle.filter_run.proofs.coming_captures.part.Goals as goal

pub overflow_add-lane : goal.overflow_add-lane
overflow_add-lane c =
    let same = c.bytes-all.ensures ∙ c.new-bytes.ensures in
    let found = c.find_records-found.result in
    let few = found_few c.args.waiting.order c.args.waiting.bytes.items found (subst (λ b. HaveFound c.args.waiting.order b found) same c.find_records-found.ensures) in
    let short = c.requires.0 in
    let own = c.requires.1 in
    omega arith

pub returns : goal.returns
returns c =
    let same = c.bytes-all.ensures ∙ c.new-bytes.ensures in
    let found = c.find_records-found.result in
    lane_parted c.args.waiting c.args.others c.args.lane.now _ _ refl refl refl refl c.new-bytes.ensures
    (subst (λ b. HaveFound c.args.waiting.order b found) same c.find_records-found.ensures) c.requires.0
    (c.in_ok-hold.ensures.held ∙ behind_held c.bytes-all.result.now c.args.waiting.bytes.items found same) refl refl
