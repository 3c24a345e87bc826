-- Fields of objects that are written one after the other.
use Rattle.std.proofs.Common.{◌≡◌, ◌∙◌, ◌++◌, ℕ, List, [], ◌∷◌, Result, IfOk, ap, append_assoc, refl, sym}
use Rattle.json.specs.Token.{Token, begin_object, end_object}
use Rattle.json.specs.Tree.{json_tokens, members_tokens}
use Rattle.json.specs.Written.{Written}
use Rattle.racl_views.specs.Objects.{Field, members_of, object_line, object_of}
use Rattle.racl_views.specs.inner.Fields.{HasAdded, field_tokens, fields_tokens}

pub fields_tokens-append : (a b : List Field) → fields_tokens (a ++ b) ≡ fields_tokens a ++ fields_tokens b
fields_tokens-append [] b = refl
fields_tokens-append (field ∷ a) b =
    ap (λ (ts : List Token). field_tokens field ++ ts) (fields_tokens-append a b) ∙ sym (append_assoc (field_tokens field) (fields_tokens a) (fields_tokens b))

-- an object's tokens are those of its fields between its braces
pub members_tokens-fields : (fields : List Field) → members_tokens (members_of fields) ≡ fields_tokens fields ++ end_object ∷ []
members_tokens-fields [] = refl
members_tokens-fields (field ∷ fields) =
    ap (λ (ts : List Token). field_tokens field ++ ts) (members_tokens-fields fields) ∙ sym (append_assoc (field_tokens field) (fields_tokens fields) (end_object ∷ []))

pub object_tokens : (fields : List Field) → json_tokens (object_of fields) ≡ begin_object ∷ (fields_tokens fields ++ end_object ∷ [])
object_tokens fields = ap (λ (ts : List Token). begin_object ∷ ts) (members_tokens-fields fields)

-- one after the other
pub added_both : (old mid new : Written) (a b : List Field) → HasAdded old mid a → HasAdded mid new b → HasAdded old new (a ++ b)
added_both old mid new a b first second = record {
  before = second.before ∙ first.before;
  tokens_are = second.tokens_are ∙ ap (λ (ts : List Token). ts ++ fields_tokens b) first.tokens_are
      ∙ append_assoc old.tokens (fields_tokens a) (fields_tokens b) ∙ ap (λ (ts : List Token). old.tokens ++ ts) (sym (fields_tokens-append a b));
}

-- an object is done
pub line_done : {V E : Type 0} (items : V → List ℕ) (text : List ℕ) (old new : Written) (fields : List Field) (result : Result V E)
    → (old.before ≡ []) × (old.tokens ≡ begin_object ∷ []) → HasAdded old new fields
    → ((others : List Field) → new.before ≡ [] → new.tokens ≡ begin_object ∷ fields_tokens others → IfOk result (λ v. items v ≡ text ++ object_line (object_of others)))
    → IfOk result (λ v. items v ≡ text ++ object_line (object_of fields))
line_done items text old new fields result begins added ends =
    ends fields (added.before ∙ begins.0) (added.tokens_are ∙ ap (λ (ts : List Token). ts ++ fields_tokens fields) begins.1)
