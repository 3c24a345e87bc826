-- The text of plain lines (this project's profile).
use Rattle.std.specs.Prelude.{ℕ, Bool, List, [], ◌∷◌, ◌++◌, ◌&&◌, drop, if◌then◌else◌, length, map, nat_lt}
use Rattle.std.specs.Fmt.{decimal}
use Rattle.std.specs.List.{flat_map}
use Rattle.acl_policy.specs.Words.{without_comment}
use Rattle.policy_expand.specs.Sources.{SourceFacts}
use Rattle.policy_expand.specs.Written.{word_text}
use Rattle.policy_expand.specs.declared.visible_word.Word.{Word}

abbrev pub is_printable : ℕ → Bool
is_printable b = nat_lt 31 b && nat_lt b 127

-- a byte as it is shown: itself where it is printable, or else `?`
abbrev pub shown : ℕ → ℕ
shown b = if is_printable b then b else 63

-- a line's own comment with its `#`, behind a space
abbrev pub spaced : List ℕ → List ℕ
spaced [] = []
spaced (first ∷ others) = 32 ∷ first ∷ others

abbrev pub own_comment : List ℕ → List ℕ
own_comment text = spaced (drop (length (without_comment text)) text)

-- the comment that names the place of a written line: its file and number, and behind them its own comment
abbrev pub place_mark : SourceFacts → List ℕ
place_mark line = map shown (32 ∷ (line.file ++ 58 ∷ (decimal line.number ++ own_comment line.text)))

-- words, each with a space behind it
abbrev pub spelt : List Word → List ℕ
spelt row = flat_map (λ (word : Word). word_text word ++ 32 ∷ []) row

-- a line of words with a comment, and its end
abbrev pub ended : List Word → List ℕ → List ℕ
ended row mark = spelt row ++ 35 ∷ (mark ++ 10 ∷ [])

-- a line for each row, each with this comment
abbrev pub plain_text : List ℕ → List (List Word) → List ℕ
plain_text mark rows = flat_map (λ (row : List Word). ended row mark) rows
