use Rattle.std.proofs.Common.{◌∷◌, [], codes}
use Rattle.racl_views.specs.Objects.{number}
use Rattle.racl_views.proofs.FieldLemmas.{added_both, line_done}
use Rattle.racl_views.proofs.json_objects.push_totals.Goals as goal

pub returns : goal.returns
returns c =
    let totals = c.args.totals.now in
    let packets = number (codes "packets") totals.packets ∷ [] in
    let pass = number (codes "pass") totals.passed ∷ [] in
    let drop = number (codes "drop") totals.dropped ∷ [] in
    let behind = added_both _ _ _ pass drop c.in_ok-add_number-2.ensures c.in_ok-add_number-3.ensures in
    line_done (λ v. v.items) _ _ _ _ _ c.in_ok-object.ensures (added_both _ _ _ packets _ c.in_ok-add_number.ensures behind) c.end_json_object.ensures
