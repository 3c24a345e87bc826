-- Written words and rules as values (this project's profile).
use Rattle.std.specs.Prelude.{◌≡◌, ◌≢◌, ◌⊎◌, ℕ, List, [], ◌∷◌, codes, map}
use Rattle.policy_expand.specs.declared.visible_word.Word.{Word}
use Rattle.policy_expand.specs.declared.visible_word.WordList.{WordList}

-- the bytes of a word
abbrev pub word_text : Word → List ℕ
word_text word = word.bytes.now

abbrev pub list_words : WordList → List Word
list_words list = list.words.items

-- The families that a word stands for: both, or itself.
abbrev pub AreFamilies : Word → List Word → Type 0
AreFamilies word families =
    ((word_text word ≡ codes "ip") × (map word_text families ≡ codes "ipv4" ∷ codes "ipv6" ∷ []))
    ⊎ ((word_text word ≢ codes "ip") × (families ≡ word ∷ []))

-- A rule of which each word behind the action stands for several.
pub record RuleWritten : Type 0 where
  pub direction : Word
  pub action : Word
  pub families : List Word
  pub sources : List Word
  pub dests : List Word
  pub rest : List (List Word)

-- What a written line says: nothing of its own, the words of a plain line, or a rule.
pub data LineWritten : Type 0 where
  Nothing : LineWritten
  Plain : List Word → LineWritten
  Rule : RuleWritten → LineWritten
