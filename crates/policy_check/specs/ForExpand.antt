-- Lines of a form that `racl expand` takes, and no policy has (this project's profile).
use Rattle.std.specs.Prelude.{◌≡◌, ℕ, ◌+◌, ◌==◌, ◌&&◌, ◌||◌, Bool, false, List, [], ◌∷◌, Some, codes, length, nat_lt, position}
use Rattle.std.specs.List.{list_any}
use Rattle.std.specs.Str.{IsUtf8, bytes_eq}
use Rattle.std.specs.Str.Lines.{lines}
use Rattle.policy_check.specs.Complaints.{line_words}

-- a list of words has a comma, and the name of a set an @
abbrev pub is_list_sign : ℕ → Bool
is_list_sign byte = (byte == 44) || (byte == 64)

abbrev pub is_list : List ℕ → Bool
is_list word = list_any is_list_sign word

-- a set has a name, and words
abbrev pub is_set : List (List ℕ) → Bool
is_set [] = false
is_set (first ∷ []) = false
is_set (first ∷ name ∷ []) = false
is_set (first ∷ name ∷ word ∷ more) = bytes_eq first (codes "set")

-- a file is named
abbrev pub is_include : List (List ℕ) → Bool
is_include [] = false
is_include (first ∷ []) = false
is_include (first ∷ name ∷ []) = bytes_eq first (codes "include")
is_include (first ∷ name ∷ other ∷ more) = false

-- a rule for both families, or with a list or the name of a set behind its family, where its addresses stand
abbrev pub is_rule_of_several : List (List ℕ) → Bool
is_rule_of_several [] = false
is_rule_of_several (first ∷ []) = false
is_rule_of_several (first ∷ action ∷ []) = false
is_rule_of_several (first ∷ action ∷ family ∷ rest) =
    (bytes_eq first (codes "in") || bytes_eq first (codes "out"))
    && (nat_lt 1 (length rest) && (bytes_eq family (codes "ip") || list_any is_list rest))

abbrev pub is_for_expand : List (List ℕ) → Bool
is_for_expand words = is_set words || (is_include words || is_rule_of_several words)

-- the first of a text's lines that is so has this number
abbrev pub IsForExpandAt : List ℕ → ℕ → Type 0
IsForExpandAt text number =
    IsUtf8 text × ((place : ℕ) × (position (λ line. is_for_expand (line_words line)) (lines text) ≡ Some place) × (number ≡ place + 1))
