-- The whole text of a policy in files (this project's profile).
use Rattle.std.specs.Prelude.{◌≡◌, ◌⊎◌, List, [], ◌∷◌, map}
use Rattle.std.specs.Str.{IsUtf8}
use Rattle.policy_expand.specs.Inclusions.{AreOrdinary, FileFacts, IsWhole}
use Rattle.policy_expand.specs.Sources.{file_lines, source_facts}
use Rattle.policy_expand.specs.declared.whole_policies.Whole.{Whole}
use Rattle.policy_expand.specs.declared.whole_policies.Whole.TheVariants.{Faults, Lines}

-- Where lines are given, they are the whole text of the first of these files. Where faults are told, there is no file, or the first
-- isn't UTF-8, or one of its lines includes a file, or is to.
abbrev pub IsWholeOf : List FileFacts → Whole → Type 0
IsWholeOf files (Lines lines) =
    (first : FileFacts) × (others : List FileFacts) × (files ≡ first ∷ others)
    × IsWhole files (file_lines first.name first.text) (map source_facts lines.items)
IsWholeOf files (Faults message) =
    (files ≡ []) ⊎ ((first : FileFacts) × (others : List FileFacts) × (files ≡ first ∷ others)
    × ((IsUtf8 first.text → ⊥) ⊎ (AreOrdinary (file_lines first.name first.text) → ⊥)))
