-- What a word of a written line stands for (this project's profile).
use Rattle.std.specs.Prelude.{◌≡◌, ◌⊎◌, ℕ, Bool, ◌==◌, List, [], ◌∷◌, ◌++◌, Option, Some, None, if◌then◌else◌}
use Rattle.std.specs.Str.{bytes_eq}
use Rattle.std.specs.List.{slice_split}
use Rattle.policy_expand.specs.declared.visible_word.Word.{Word}
use Rattle.policy_expand.specs.declared.set_lists.NamedSet.{NamedSet}
use Rattle.policy_expand.specs.Written.{word_text}

abbrev pub is_comma : ℕ → Bool
is_comma b = b == 44

-- the words of the set with this name
abbrev pub find_set : List ℕ → List NamedSet → Option (List Word)
find_set name [] = None
find_set name (set ∷ sets) = if bytes_eq (word_text set.name) name then Some set.list.words.items else find_set name sets

-- A piece of a list stands for the words of the set that it names behind '@', or for itself.
abbrev pub IsStoodFor : List NamedSet → List ℕ → List Word → Type 0
IsStoodFor sets piece words =
    ((name : List ℕ) × (piece ≡ 64 ∷ name) × (find_set name sets ≡ Some words))
    ⊎ (((name : List ℕ) → piece ≡ 64 ∷ name → ⊥) × ((word : Word) × (word_text word ≡ piece) × (words ≡ word ∷ [])))

-- Pieces stand for what each of them stands for, in their order.
abbrev pub AreStoodFor : List NamedSet → List (List ℕ) → List Word → Type 0
AreStoodFor sets [] words = words ≡ []
AreStoodFor sets (piece ∷ pieces) words =
    (first more : List Word) × (words ≡ first ++ more) × IsStoodFor sets piece first × AreStoodFor sets pieces more

-- A word stands for what the pieces between its commas stand for.
abbrev pub IsListOf : List NamedSet → Word → List Word → Type 0
IsListOf sets word words = AreStoodFor sets (slice_split is_comma (word_text word)) words

-- Each word stands for the list at its place.
abbrev pub AreListsOf : List NamedSet → List Word → List (List Word) → Type 0
AreListsOf sets [] lists = lists ≡ []
AreListsOf sets (word ∷ words) lists =
    (first : List Word) × (more : List (List Word)) × (lists ≡ first ∷ more) × IsListOf sets word first × AreListsOf sets words more

-- Words stand together for what each stands for, in their order.
abbrev pub IsUnionOf : List NamedSet → List Word → List Word → Type 0
IsUnionOf sets [] union = union ≡ []
IsUnionOf sets (word ∷ words) union =
    (first more : List Word) × (union ≡ first ++ more) × IsListOf sets word first × IsUnionOf sets words more
