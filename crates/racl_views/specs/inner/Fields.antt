-- What a writer of JSON got, as fields.
use Rattle.std.specs.Prelude.{◌≡◌, List, ◌∷◌, ◌++◌}
use Rattle.std.specs.List.{flat_map}
use Rattle.json.specs.Token.{Token, key}
use Rattle.json.specs.Tree.{json_tokens}
use Rattle.json.specs.Written.{Written}
use Rattle.racl_views.specs.Objects.{Field}

abbrev pub field_tokens : Field → List Token
field_tokens field = key field.0 ∷ json_tokens field.1

abbrev pub fields_tokens : List Field → List Token
fields_tokens fields = flat_map field_tokens fields

-- these fields were written behind the tokens that were, and what stands before them all is the same
pub record HasAdded (old new : Written) (fields : List Field) : Type 0 where
  pub before : new.before ≡ old.before
  pub tokens_are : new.tokens ≡ old.tokens ++ fields_tokens fields
