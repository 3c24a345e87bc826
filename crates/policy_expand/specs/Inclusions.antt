-- What lines that include files stand for (this project's profile).
use Rattle.std.specs.Prelude.{◌≡◌, ◌⊎◌, ℕ, zero, suc, Bool, ◌==◌, List, [], ◌∷◌, ◌++◌, Option, Some, None, IsTrue, codes, if◌then◌else◌, not, string_bytes}
use Rattle.std.specs.List.{list_all}
use Rattle.std.specs.Str.{bytes_eq}
use Rattle.acl_policy.specs.Words.{without_comment, words_of}
use Rattle.policy_expand.specs.Sources.{SourceFacts, file_lines}
use Rattle.policy_expand.specs.declared.file_lines.PolicyFile.{PolicyFile}

-- a file as a value
pub record FileFacts : Type 0 where
  pub name : List ℕ
  pub text : List ℕ

abbrev pub file_facts : PolicyFile → FileFacts
file_facts source = record { name = string_bytes source.name; text = source.text.items }

-- the text of the first of these files that has this name
abbrev pub text_of : List ℕ → List FileFacts → Option (List ℕ)
text_of name [] = None
text_of name (file ∷ files) = if bytes_eq file.name name then Some file.text else text_of name files

abbrev pub is_no_slash : ℕ → Bool
is_no_slash b = not (b == 47)

-- A file's folder is its name up to the last `/`, with it.
abbrev pub IsFolder : List ℕ → List ℕ → Type 0
IsFolder file folder =
    (base : List ℕ) × (file ≡ folder ++ base) × IsTrue (list_all is_no_slash base)
    × ((folder ≡ []) ⊎ ((front : List ℕ) × (folder ≡ front ++ 47 ∷ [])))

-- What a word of a file names: itself where it begins with `/`, or else what has it behind the file's folder.
abbrev pub IsNamedIn : List ℕ → List ℕ → List ℕ → Type 0
IsNamedIn file word name =
    ((rest : List ℕ) × (word ≡ 47 ∷ rest) × (name ≡ word))
    ⊎ (((rest : List ℕ) → word ≡ 47 ∷ rest → ⊥) × ((folder : List ℕ) × IsFolder file folder × (name ≡ folder ++ word)))

-- The line includes the file with this name: it has the words `include` and one that names it.
abbrev pub Includes : SourceFacts → List ℕ → Type 0
Includes line name =
    (word : List ℕ) × (words_of (without_comment line.text) ≡ codes "include" ∷ word ∷ []) × IsNamedIn line.file word name

-- The line includes none: its first word is another.
abbrev pub IsOrdinary : SourceFacts → Type 0
IsOrdinary line = (more : List (List ℕ)) → words_of (without_comment line.text) ≡ codes "include" ∷ more → ⊥

-- Lines stand for what each of them stands for, in their order.
abbrev pub AllStand : (SourceFacts → List SourceFacts → Type 0) → List SourceFacts → List SourceFacts → Type 0
AllStand Stands [] whole = whole ≡ []
AllStand Stands (line ∷ lines) whole =
    (first rest : List SourceFacts) × (whole ≡ first ++ rest) × Stands line first × AllStand Stands lines rest

-- A line stands for itself, or for what the lines of the file stand for that it includes. They include at most so deep.
abbrev pub StandsFor : List FileFacts → ℕ → SourceFacts → List SourceFacts → Type 0
StandsFor files zero line whole = IsOrdinary line × (whole ≡ line ∷ [])
StandsFor files (suc depth) line whole =
    (IsOrdinary line × (whole ≡ line ∷ []))
    ⊎ ((name text : List ℕ) × Includes line name × (text_of name files ≡ Some text)
    × AllStand (StandsFor files depth) (file_lines name text) whole)

-- What a line stands for before the lines of the file that it includes are looked at.
abbrev pub StandsOnce : List FileFacts → SourceFacts → List SourceFacts → Type 0
StandsOnce files line lines =
    (IsOrdinary line × (lines ≡ line ∷ []))
    ⊎ ((name text : List ℕ) × Includes line name × (text_of name files ≡ Some text) × (lines ≡ file_lines name text))

-- None of the lines includes a file.
abbrev pub AreOrdinary : List SourceFacts → Type 0
AreOrdinary [] = Unit {0}
AreOrdinary (line ∷ lines) = IsOrdinary line × AreOrdinary lines

-- This is the whole text of lines, with those of included files in the places of the lines that include them.
abbrev pub IsWhole : List FileFacts → List SourceFacts → List SourceFacts → Type 0
IsWhole files lines whole = (depth : ℕ) × AllStand (StandsFor files depth) lines whole
