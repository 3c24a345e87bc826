use Rattle.std.proofs.Common.{◌∷◌, [], codes, unwrap_or}
use Rattle.racl_views.specs.Objects.{number}
use Rattle.racl_views.proofs.FieldLemmas.{added_both, line_done}
use Rattle.racl_views.proofs.json_objects.push_truncation.Goals as goal

pub returns : goal.returns
returns c =
    let captured = c.args.captured.now in
    let interface = number (codes "interface") (unwrap_or captured.named 0) ∷ [] in
    let after = number (codes "truncated_after") captured.packets ∷ [] in
    let both = added_both _ _ _ interface after (rw c.object_interface.ensures at c.in_ok-add_number.ensures) c.in_ok-add_number-2.ensures in
    line_done (λ v. v.items) _ _ _ _ _ c.in_ok-object.ensures both c.end_json_object.ensures
