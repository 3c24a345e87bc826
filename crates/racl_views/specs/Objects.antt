-- Objects of JSON, one a line (RFC 8259).
use Rattle.std.specs.Prelude.{◌≡◌, ◌≢◌, ℕ, List, [], ◌∷◌, ◌++◌, Some, codes, decimal}
use Rattle.std.specs.List.{AllByRecursion, flat_map}
use Rattle.json.specs.Json as json
use Rattle.json.specs.Json.{Json, Members, document, member, no_members}
use Rattle.json.specs.Print.{print}
use Rattle.json.specs.Tree.{json_tokens}

-- a key, and its value
abbrev pub Field : Type 0
Field = List ℕ × Json

abbrev pub number : List ℕ → ℕ → Field
number key n = (key, json.number (decimal n))

abbrev pub string : List ℕ → List ℕ → Field
string key text = (key, json.string text)

abbrev pub members_of : List Field → Members
members_of [] = no_members
members_of (field ∷ fields) = member field.0 field.1 (members_of fields)

-- the object of these fields, in their order
abbrev pub object_of : List Field → Json
object_of fields = json.object (members_of fields)

-- its line
abbrev pub object_line : Json → List ℕ
object_line value = print (json_tokens value) ++ codes "\n"

-- the lines of several
abbrev pub object_lines : List Json → List ℕ
object_lines values = flat_map object_line values

-- no line feed is in it
abbrev pub IsOneLine : List ℕ → Type 0
IsOneLine text = AllByRecursion (λ byte. byte ≢ 10) text

-- what is printed of it is one line, and read back
abbrev pub ReadsBack : Json → Type 0
ReadsBack value = IsOneLine (print (json_tokens value)) × (document (print (json_tokens value)) ≡ Some value)
