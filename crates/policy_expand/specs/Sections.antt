-- The sections of a written policy (this project's profile).
use Rattle.std.specs.Prelude.{◌≡◌, ◌≢◌, ◌⊎◌, ℕ, List, [], ◌∷◌, map}
use Rattle.acl_policy.specs.Lines.{Begins, Say}
use Rattle.policy_expand.specs.Meaning.{IsOneOf}
use Rattle.policy_expand.specs.Written.{LineWritten, Nothing, Plain, Rule, word_text}
use Rattle.policy_expand.specs.declared.visible_word.Word.{Word}

-- A written line begins the section of the interface with this number: it is a plain line that does.
abbrev pub BeginsSection : LineWritten → ℕ → Type 0
BeginsSection Nothing number = ⊥
BeginsSection (Plain words) number = Say (map word_text words) (Begins number)
BeginsSection (Rule rule) number = ⊥

-- A written line that begins a section has one plain line, which begins it, and plain lines of others begin none.
pub record BeginAlike (line : LineWritten) (rows : List (List Word)) : Type 0 where
  pub sound : (row : List Word) (number : ℕ) → IsOneOf row rows → Say (map word_text row) (Begins number) → BeginsSection line number
  pub whole : (number : ℕ) → BeginsSection line number → (row : List Word) × (rows ≡ row ∷ []) × Say (map word_text row) (Begins number)

-- Of written lines in the section of one interface and behind it, these are in that of the interface with this number. A line
-- that begins a section is in none.
abbrev pub AreIn : ℕ → ℕ → List LineWritten → List LineWritten → Type 0
AreIn number current [] own = own ≡ []
AreIn number current (line ∷ lines) own =
    ((next : ℕ) × BeginsSection line next × AreIn number next lines own)
    ⊎ (((next : ℕ) → BeginsSection line next → ⊥)
    × (((current ≡ number) × ((more : List LineWritten) × (own ≡ line ∷ more) × AreIn number current lines more))
    ⊎ ((current ≢ number) × AreIn number current lines own)))

-- Of these written lines, those are in the section of the interface with this number: of 0 up to the first that begins one.
abbrev pub AreOfInterface : ℕ → List LineWritten → List LineWritten → Type 0
AreOfInterface number written own = AreIn number 0 written own
