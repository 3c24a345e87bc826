-- The texts of lines, one after the other, and their ends.
use Rattle.std.proofs.Common.{◌≡◌, ◌∙◌, ◌++◌, ◌+◌, ◌<◌, ◌≤◌, ℕ, Bool, true, false, List, [], ◌∷◌, ap, cond, get_or, length, map, sym, take}
use Rattle.std.proofs.lemmas.Grind.{take_at_read}
use Rattle.std.proofs.lemmas.List.{map-append, take_all}
use Rattle.acl_policy.specs.Words.{is_blank}
use Rattle.racl_views.specs.RuleTexts.{before, rule_text, without_end}

-- a blank at the end is left out
pub without_end-blank : (text : List ℕ) (byte : ℕ) → is_blank byte ≡ true → without_end (text ++ byte ∷ []) ≡ without_end text
without_end-blank [] byte blank = ap (λ (b : Bool). cond b [] (byte ∷ [])) blank
without_end-blank (first ∷ others) byte blank = ap (before first) (without_end-blank others byte blank)

-- and a byte of a word is kept, with all before it
pub without_end-word : (text : List ℕ) (byte : ℕ) → is_blank byte ≡ false → without_end (text ++ byte ∷ []) ≡ text ++ byte ∷ []
without_end-word [] byte word = ap (λ (b : Bool). cond b [] (byte ∷ [])) word
without_end-word (first ∷ []) byte word = ap (before first) (without_end-word [] byte word)
without_end-word (first ∷ other ∷ others) byte word = ap (before first) (without_end-word (other ∷ others) byte word)

-- the texts of the lines so far, after one more
pub texts_more : (lines : List (List ℕ)) (k : ℕ) (line : List ℕ) (texts now : List (List ℕ)) → k < length lines → line ≡ get_or lines k line
    → texts ≡ map rule_text (take k lines) → now ≡ texts ++ rule_text line ∷ [] → now ≡ map rule_text (take (k + 1) lines)
texts_more lines k line texts now within there so_far more =
    more ∙ ap (λ (ts : List (List ℕ)). ts ++ rule_text line ∷ []) so_far ∙ sym (map-append rule_text (take k lines) (line ∷ []))
    ∙ ap (map rule_text) (ap (λ (l : List ℕ). take k lines ++ l ∷ []) there ∙ sym (take_at_read lines k line within).1)

-- after the last line
pub texts_done : (lines : List (List ℕ)) (k : ℕ) (texts : List (List ℕ)) → length lines ≤ k → texts ≡ map rule_text (take k lines) → texts ≡ map rule_text lines
texts_done lines k texts end so_far = so_far ∙ ap (map rule_text) (take_all k lines end)
