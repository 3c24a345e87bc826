use Rattle.std.proofs.Common.{◌∷◌, [], codes}
use Rattle.racl_views.specs.Hits.{word_of}
use Rattle.racl_views.specs.Objects.{number, string}
use Rattle.racl_views.proofs.FieldLemmas.{added_both, line_done}
use Rattle.racl_views.proofs.hits_as_text_and_json.reason_object.Goals as goal

pub returns : goal.returns
returns c =
    let reason = string (codes "reason") (word_of c.args.reason) ∷ [] in
    let packets = number (codes "packets") c.args.count ∷ [] in
    let both = added_both _ _ _ reason packets (rw c.word_of.ensures.word at c.in_ok-add_string.ensures) c.in_ok-add_number.ensures in
    line_done (λ v. v.items) _ _ _ _ _ c.in_ok-object.ensures both c.end_json_object.ensures
