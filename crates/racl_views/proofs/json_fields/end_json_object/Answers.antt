use Rattle.std.proofs.Common.{◌∙◌, ◌++◌, ℕ, List, ◌∷◌, [], ap, ap₂, append_assoc, codes, sym}
use Rattle.json.specs.Print.{print}
use Rattle.json.specs.Token.{Token, end_object}
use Rattle.racl_views.proofs.FieldLemmas.{object_tokens}
use Rattle.racl_views.proofs.json_fields.end_json_object.Goals as goal

pub returns : goal.returns
returns c = λ fields alone same.
    let text = c.args.text.items in
    let tokens = c.in_ok-end_object.ensures.ok ∙ ap (λ (ts : List Token). ts ++ end_object ∷ []) same ∙ sym (object_tokens fields) in
    let line = c.deref.ensures.value ∙ c.into_inner.ensures.items
    ∙ ap₂ (λ (b : List ℕ) (ts : List Token). b ++ print ts) (c.in_ok-end_object.ensures.room.0 ∙ alone) tokens in
    c.in_ok-push.ensures.items
    ∙ ap (λ (t : List ℕ). t ++ codes "\n") (c.in_ok-extend_from_slice.ensures.items ∙ ap (λ (t : List ℕ). text ++ t) line)
    ∙ append_assoc text _ (codes "\n")
