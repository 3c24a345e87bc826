-- Which written line decides (this project's profile).
use Rattle.std.specs.Prelude.{◌≡◌, ◌⊎◌, ℕ, List, [], ◌∷◌, map}
use Rattle.std.specs.List.{flat_map}
use Rattle.packet_view.specs.Tuples.{TupleFacts}
use Rattle.packet_view.specs.declared.tuple.Direction.{Direction}
use Rattle.acl_policy.specs.declared.rule.Action.{Action}
use Rattle.acl_policy.specs.Words.{without_comment, words_of}
use Rattle.policy_expand.specs.Meaning.{MatchAlike, MatchesLine}
use Rattle.policy_expand.specs.Sections.{BeginAlike}
use Rattle.policy_expand.specs.Written.{LineWritten, word_text}
use Rattle.policy_expand.specs.declared.visible_word.Word.{Word}

-- Each written line has rows that match and begin sections as it does.
abbrev pub AreAlike : List LineWritten → List (List (List Word)) → Type 0
AreAlike [] plain = plain ≡ []
AreAlike (line ∷ lines) plain =
    (rows : List (List Word)) × (more : List (List (List Word))) × (plain ≡ rows ∷ more) × MatchAlike line rows × BeginAlike line rows × AreAlike lines more

-- the rows of all
abbrev pub joined : List (List (List Word)) → List (List Word)
joined plain = flat_map (λ (rows : List (List Word)). rows) plain

-- The lines have the words of the rows, one row each.
abbrev pub HaveWords : List (List ℕ) → List (List Word) → Type 0
HaveWords lines rows = map (λ (line : List ℕ). words_of (without_comment line)) lines ≡ map (map word_text) rows

-- The first of these written lines that is a rule of this direction that matches has this action.
abbrev pub DecidesFirst : List LineWritten → Direction → TupleFacts → Action → Type 0
DecidesFirst [] direction tuple action = ⊥
DecidesFirst (line ∷ lines) direction tuple action =
    MatchesLine line direction tuple action
    ⊎ (((other : Action) → MatchesLine line direction tuple other → ⊥) × DecidesFirst lines direction tuple action)
