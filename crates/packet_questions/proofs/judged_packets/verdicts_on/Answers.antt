use Rattle.std.proofs.Common.{◌≡◌, ◌∙◌, ◌≤◌, List, ap, arith, length, map, refl, sym}
use Rattle.std.proofs.lemmas.List.{length-map}
use Rattle.std.proofs.lemmas.Slice.Zip.{AllZip-long}
use Rattle.packet_view.specs.Captures.{PacketFacts, packet_facts}
use Rattle.acl_policy.specs.Policies.{policy_facts}
use Rattle.bihash_words.specs.contracts.flow_shapes.ShapeV4Shape.TheImpl as four
use Rattle.bihash_words.specs.contracts.flow_shapes.ShapeV6Shape.TheImpl as six
use Rattle.flow_filter.specs.OneThread.{layout_of}
use Rattle.flow_filter.specs.Judged.{Judged, verdict_on}
use Rattle.flow_filter.specs.Readings.{IsReading}
use Rattle.flow_dealing.specs.Dealings.{Deal}
use Rattle.flow_dealing.specs.declared.worker_of_flow.Dealing.TheVariants.{Bucket}
use Rattle.packet_questions.proofs.FewLaws.{pages_for_64}
use Rattle.packet_questions.proofs.judged_packets.verdicts_on.Goals as goal

pub returns-in-Ok-clause-few : goal.returns-in-Ok-clause-few
returns-in-Ok-clause-few g c =
    let deal : Deal = record { layout = layout_of four.ghosts six.ghosts; dealing = Bucket; workers = 1 } in
    let packets : List PacketFacts = map packet_facts c.args.packets.now in
    λ count.
    let few : length packets ≤ 64 = omega (arith, count, length-map c.args.packets.now packet_facts) in
    pages_for_64 deal c.args.filter.now.times (policy_facts c.args.filter.now.policy) packets c.in-Ok.verdicts.items refl (omega arith) refl (omega arith)
    c.in-Ok.ensures.judged few

-- of each packet something was said
pub returns-in-Ok-clause-each : goal.returns-in-Ok-clause-each
returns-in-Ok-clause-each g c =
    let is = c.in-Ok.ensures.judged in
    let packets : List PacketFacts = map packet_facts c.args.packets.now in
    let said : length c.in-Ok.verdicts.items ≡ length is.judged = ap length is.said ∙ length-map is.judged verdict_on in
    let read : length (map (λ (j : Judged). j.reading) is.judged) ≡ length packets = AllZip-long (IsReading (policy_facts c.args.filter.now.policy)) packets (map (λ (j : Judged). j.reading) is.judged) is.read in
    said ∙ sym (length-map is.judged (λ (j : Judged). j.reading)) ∙ read ∙ length-map c.args.packets.now packet_facts
