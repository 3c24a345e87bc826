-- What is shown of a line is ASCII.
use Rattle.std.proofs.Common.{◌≡◌, ◌<◌, ◌==◌, ◌&&◌, ℕ, suc, true, List, [], ◌∷◌, Option, None, Some, arith, drop, inl, inr, nat_lt, not, option_map, position, unwrap_or}
use Rattle.std.specs.List.{list_all}
use Rattle.std.specs.Str.{IsAscii, IsUtf8}
use Rattle.std.proofs.lemmas.Bool.{and_parts, cond_both, eqb-true, ltb-true, or_cases}
use Rattle.std.proofs.lemmas.Str.{IsAscii-drop, IsAscii-take, IsUtf8-from_ascii}
use Rattle.std.proofs.lemmas.Str.Ascii.{IsAscii-cons, IsAscii-nil}
use Rattle.acl_policy.specs.Words.{is_blank, without_comment}
use Rattle.racl_views.specs.RuleTexts.{before, from_word, is_shown_byte, rule_text, shown_or, without_end}

shown_byte : (byte : ℕ) → is_shown_byte byte ≡ true → byte < 128
shown_byte byte shown = elim (or_cases (nat_lt 31 byte && nat_lt byte 127) (byte == 9) shown) [
  | inl printable ↦ let below = ltb-true byte 127 (and_parts (nat_lt 31 byte) (nat_lt byte 127) printable).1 in omega arith
  | inr tab ↦ let same = eqb-true byte 9 tab in omega arith
]

pub shown_ascii : (text : List ℕ) → list_all is_shown_byte text ≡ true → IsAscii text
shown_ascii [] shown = IsAscii-nil
shown_ascii (byte ∷ text) shown =
    let parts = and_parts (is_shown_byte byte) (list_all is_shown_byte text) shown in
    IsAscii-cons byte text (shown_byte byte parts.0) (shown_ascii text parts.1)

either_ascii : (other text : List ℕ) → IsAscii other → IsAscii (shown_or other text)
either_ascii other text ascii = cond_both (list_all is_shown_byte text) text other IsAscii (shown_ascii text) (λ _. ascii)

word_ascii : (text : List ℕ) → IsAscii text → IsAscii (from_word text)
word_ascii text ascii = go (position (λ b. not (is_blank b)) text)
  where
    go : (place : Option ℕ) → IsAscii (unwrap_or (option_map (λ n. drop n text) place) [])
    go None = IsAscii-nil
    go (Some n) = IsAscii-drop text n ascii

end_ascii : (text : List ℕ) → IsAscii text → IsAscii (without_end text)
end_ascii [] ascii = IsAscii-nil
end_ascii (byte ∷ text) ascii = go (without_end text) (end_ascii text (λ n. ascii (suc n)))
  where
    go : (others : List ℕ) → IsAscii others → IsAscii (before byte others)
    go [] kept = cond_both (is_blank byte) [] (byte ∷ []) IsAscii (λ _. IsAscii-nil) (λ _. IsAscii-cons byte [] (ascii 0) IsAscii-nil)
    go (other ∷ others) kept = IsAscii-cons byte (other ∷ others) (ascii 0) kept

-- what is shown of a line can be a `str`
pub rule_text_utf8 : (line : List ℕ) → IsUtf8 (rule_text line)
rule_text_utf8 line =
    let whole = either_ascii (shown_or [] (without_comment line)) line (either_ascii [] (without_comment line) IsAscii-nil) in
    let shown = shown_or (shown_or [] (without_comment line)) line in
    let words = end_ascii (from_word shown) (word_ascii shown whole) in
    IsUtf8-from_ascii (rule_text line) (IsAscii-take (without_end (from_word shown)) 200 words)
