use Rattle.std.proofs.Common.{◌∷◌, [], codes, map}
use Rattle.racl_views.specs.Entries.{entry_facts}
use Rattle.racl_views.specs.Objects.{number}
use Rattle.racl_views.specs.PacketObjects.{carried_fields, decided_fields, frame_way, verdict_fields}
use Rattle.racl_views.specs.RuleTexts.{shown_of}
use Rattle.racl_views.proofs.FieldLemmas.{added_both, line_done}
use Rattle.racl_views.proofs.json_objects.push_packet.Goals as goal

pub returns : goal.returns
returns c =
    let entry = entry_facts c.args.entry.now in
    let packet = number (codes "packet") c.args.number ∷ [] in
    let interface = number (codes "interface") entry.interface ∷ [] in
    let time = number (codes "time") entry.moment ∷ [] in
    let micros = number (codes "microsecond") entry.micros ∷ [] in
    let bytes = number (codes "bytes") entry.bytes ∷ [] in
    let kept = added_both _ _ _ bytes (carried_fields entry.view) c.in_ok-add_number-5.ensures c.in_ok-add_carried.ensures in
    let after = added_both _ _ _ micros _ (rw c.from-3.ensures at c.in_ok-add_number-4.ensures) kept in
    let carried = added_both _ _ _ time _ (rw c.from-2.ensures at c.in_ok-add_number-3.ensures) after in
    let way = added_both _ _ _ (frame_way entry.view) _ c.in_ok-add_frame_way.ensures carried in
    let seen = added_both _ _ _ interface _ (rw c.from.ensures at c.in_ok-add_number-2.ensures) way in
    let line = added_both _ _ _ (decided_fields (map shown_of c.args.texts.now) entry.line) _ c.in_ok-add_decided.ensures seen in
    let verdict = added_both _ _ _ (verdict_fields entry.verdict) _ c.in_ok-add_verdict.ensures line in
    line_done (λ v. v.items) _ _ _ _ _ c.in_ok-object.ensures (added_both _ _ _ packet _ c.in_ok-add_number.ensures verdict) c.end_json_object.ensures
