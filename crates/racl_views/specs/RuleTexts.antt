-- The text of a rule, as its line has it (this project's profile).
use Rattle.std.specs.Prelude.{ℕ, Bool, ◌&&◌, ◌||◌, ◌==◌, List, [], ◌∷◌, drop, nat_lt, take, map, not, option_map, position, unwrap_or, if◌then◌else◌}
use Rattle.std.specs.List.{list_all}
use Rattle.std.specs.Str.Lines as split
use Rattle.acl_policy.specs.Words.{is_blank, without_comment}
use Rattle.racl_views.specs.declared.rule_table.RuleText.{RuleText}

-- a text from its first word on
abbrev pub from_word : List ℕ → List ℕ
from_word text = unwrap_or (option_map (λ place. drop place text) (position (λ b. not (is_blank b)) text)) []

-- a byte before others: a blank before none is left out
abbrev pub before : ℕ → List ℕ → List ℕ
before byte [] = if is_blank byte then [] else byte ∷ []
before byte (other ∷ others) = byte ∷ other ∷ others

-- a text without the blanks at its end
abbrev pub without_end : List ℕ → List ℕ
without_end [] = []
without_end (byte ∷ bytes) = before byte (without_end bytes)

-- printable ASCII, or a tab
abbrev pub is_shown_byte : ℕ → Bool
is_shown_byte b = (nat_lt 31 b && nat_lt b 127) || (b == 9)

-- a text where all its bytes are shown, and else another
abbrev pub shown_or : List ℕ → List ℕ → List ℕ
shown_or other text = if list_all is_shown_byte text then text else other

-- what is shown of a line: all but the blanks at both ends, up to 200 bytes; without its comment where the line has a byte that
-- isn't shown, and nothing where one stands before the comment, as in no line of a policy
abbrev pub rule_text : List ℕ → List ℕ
rule_text line = take 200 (without_end (from_word (shown_or (shown_or [] (without_comment line)) line)))

-- of each line of a policy
abbrev pub rule_texts : List ℕ → List (List ℕ)
rule_texts text = map rule_text (split.lines text)

-- the bytes of a `RuleText`
abbrev pub shown_of : RuleText → List ℕ
shown_of text = text.text.now
