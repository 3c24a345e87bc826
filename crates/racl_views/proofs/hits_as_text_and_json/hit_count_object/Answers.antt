use Rattle.std.proofs.Common.{◌∷◌, []}
use Rattle.racl_views.specs.Objects.{number}
use Rattle.racl_views.proofs.FieldLemmas.{line_done}
use Rattle.racl_views.proofs.hits_as_text_and_json.hit_count_object.Goals as goal

pub returns : goal.returns
returns c = line_done (λ v. v.items) _ _ _ (number c.args.key.now c.args.count ∷ []) _ c.in_ok-object.ensures c.in_ok-add_number.ensures c.end_json_object.ensures
