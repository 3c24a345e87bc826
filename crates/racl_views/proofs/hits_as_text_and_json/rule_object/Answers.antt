use Rattle.std.proofs.Common.{◌∷◌, [], codes, map}
use Rattle.racl_views.specs.Objects.{number}
use Rattle.racl_views.specs.PacketObjects.{line_fields, way_field}
use Rattle.racl_views.specs.RuleTexts.{shown_of}
use Rattle.racl_views.proofs.FieldLemmas.{added_both, line_done}
use Rattle.racl_views.proofs.hits_as_text_and_json.rule_object.Goals as goal

pub returns : goal.returns
returns c =
    let at = c.args.at in
    let interface = number (codes "interface") at.rule.interface ∷ [] in
    let rule = number (codes "rule") at.rule.number ∷ [] in
    let line = line_fields (map shown_of c.args.texts.now) at.line in
    let packets = number (codes "packets") c.args.count ∷ [] in
    let counted = added_both _ _ _ line packets c.in_ok-add_line.ensures c.in_ok-add_number-3.ensures in
    let named = added_both _ _ _ rule _ c.in_ok-add_number-2.ensures counted in
    let way = added_both _ _ _ (way_field at.rule.direction ∷ []) _ c.in_ok-add_way.ensures named in
    line_done (λ v. v.items) _ _ _ _ _ c.in_ok-object.ensures (added_both _ _ _ interface _ (rw c.from.ensures at c.in_ok-add_number.ensures) way) c.end_json_object.ensures
