-- What is printed of tokens has no line feed.
use Rattle.std.proofs.Common.{◌≡◌, ◌∙◌, ◌≢◌, ◌++◌, ◌+◌, ◌<◌, ◌==◌, ◌&&◌, ◌||◌, ℕ, zero, suc, Bool, true, false, cond, not, List, [], ◌∷◌, Option, None, Some, ap, arith, drop, inl, inr, option_and_then, refl, subst, sym}
use Rattle.std.proofs.lemmas.Bool.{and_parts, cases_eq, cases_lt, true≢false}
use Rattle.std.specs.Char.{is_ascii_digit}
use Rattle.std.specs.List.{prefix_len}
use Rattle.json.specs.Print.{ArePrintable, IsNumber, IsPrintable, begins, ends, escape, escape_byte, print_from, quoted, separator, token_text}
use Rattle.json.specs.Token.{Token, bad, begin_array, begin_object, boolean, end_array, end_object, key, null, number, string}
use Rattle.json.specs.Word.{after_digits, after_exponent, after_fraction, after_minus, after_number, after_sign, after_whole, head}
use Rattle.json.proofs.Printed.Strings.{escape_byte_plain}
use Rattle.racl_views.specs.Objects.{IsOneLine}

both : (xs ys : List ℕ) → IsOneLine xs → IsOneLine ys → IsOneLine (xs ++ ys)
both [] ys first second = second
both (x ∷ xs) ys first second = (first.0, both xs ys first.1 second)

abbrev is_one_line : List ℕ → Bool
is_one_line [] = true
is_one_line (x ∷ xs) = not (x == 10) && is_one_line xs

tested : (xs : List ℕ) → is_one_line xs ≡ true → IsOneLine xs
tested [] passes = tt
tested (x ∷ xs) passes =
    let parts = and_parts _ _ passes in
    (λ feed. true≢false (sym parts.0 ∙ ap (λ y. not (y == 10)) feed), tested xs parts.1)

-- ---- strings

abbrev escapes_below : ℕ → Bool
escapes_below zero = true
escapes_below (suc n) = is_one_line (escape_byte n) && escapes_below n

escape_below : (n : ℕ) → escapes_below n ≡ true → (x : ℕ) → x < n → is_one_line (escape_byte x) ≡ true
escape_below zero passes x small = absurd (omega arith)
escape_below (suc n) passes x small =
    let parts = and_parts _ _ passes in
    elim (cases_eq x n) [ inl same ↦ rw same parts.0 | inr other ↦ escape_below n parts.1 x (omega arith) ]

low_escapes : escapes_below 128 ≡ true
unfolding escape_byte
low_escapes = refl

escaped_byte : (x : ℕ) → IsOneLine (escape_byte x)
escaped_byte x = elim (cases_lt x 128) [
  | inl small ↦ tested (escape_byte x) (escape_below 128 low_escapes x small)
  | inr large ↦ subst IsOneLine (sym (escape_byte_plain x (λ e. omega arith) (λ e. omega arith) (omega arith))) ((λ feed. omega arith), tt)
]

escaped : (text : List ℕ) → IsOneLine (escape text)
escaped [] = tt
escaped (x ∷ text) = both (escape_byte x) (escape text) (escaped_byte x) (escaped text)

quoted_line : (text : List ℕ) → IsOneLine (quoted text)
quoted_line text =
    let quote = tested (34 ∷ []) refl in
    both (34 ∷ []) (escape text ++ 34 ∷ []) quote (both (escape text) (34 ∷ []) (escaped text) quote)

-- ---- numbers

-- a part of the grammar leaves a text in which none is
abbrev LeavesOneLine : Option (List ℕ) → Type 0
LeavesOneLine None = ⊥
LeavesOneLine (Some rest) = IsOneLine rest

through : (part : List ℕ → Option (List ℕ)) → ((text : List ℕ) → LeavesOneLine (part text) → IsOneLine text) → (o : Option (List ℕ))
    → LeavesOneLine (option_and_then part o) → LeavesOneLine o
through part passes None left = left
through part passes (Some text) left = passes text left

one_more : (b : Bool) (text : List ℕ) → (b ≡ true → head text ≢ 10) → IsOneLine (cond b (drop 1 text) text) → IsOneLine text
one_more true [] first rest = tt
one_more true (x ∷ xs) first rest = (first refl, rest)
one_more false text first rest = rest

digit_more : (b : Bool) (x : ℕ) (xs : List ℕ) (n : ℕ) → is_ascii_digit x ≡ b → (IsOneLine (drop n xs) → IsOneLine xs)
    → IsOneLine (drop (cond b (1 + n) 0) (x ∷ xs)) → IsOneLine (x ∷ xs)
digit_more true x xs n digit more rest =
    let next : 1 + n ≡ suc n = omega arith in
    (λ feed. true≢false (sym digit ∙ ap is_ascii_digit feed), more (subst (λ (k : ℕ). IsOneLine (drop k (x ∷ xs))) next rest))
digit_more false x xs n digit more rest = rest

digits : (text : List ℕ) → IsOneLine (drop (prefix_len is_ascii_digit text) text) → IsOneLine text
digits [] rest = rest
digits (x ∷ xs) rest = digit_more (is_ascii_digit x) x xs (prefix_len is_ascii_digit xs) refl (digits xs) rest

some_digits : (none : Bool) (text : List ℕ) → LeavesOneLine (cond none None (Some (drop (prefix_len is_ascii_digit text) text))) → IsOneLine text
some_digits true text left = absurd left
some_digits false text left = digits text left

behind_digits : (text : List ℕ) → LeavesOneLine (after_digits text) → IsOneLine text
behind_digits text left = some_digits (prefix_len is_ascii_digit text == 0) text left

first_is : (test : ℕ → Bool) → test 10 ≡ false → (text : List ℕ) → test (head text) ≡ true → head text ≢ 10
first_is test refused text passes feed = true≢false (sym passes ∙ ap test feed ∙ refused)

behind_minus : (text : List ℕ) → IsOneLine (after_minus text) → IsOneLine text
behind_minus text rest = one_more (head text == 45) text (first_is (λ y. y == 45) refl text) rest

behind_sign : (text : List ℕ) → IsOneLine (after_sign text) → IsOneLine text
behind_sign text rest = one_more ((head text == 45) || (head text == 43)) text (first_is (λ y. (y == 45) || (y == 43)) refl text) rest

zero_or_digits : (b : Bool) (text : List ℕ) → (b ≡ true → head text ≢ 10) → LeavesOneLine (cond b (Some (drop 1 text)) (after_digits text)) → IsOneLine text
zero_or_digits true text first left = one_more true text first left
zero_or_digits false text first left = behind_digits text left

behind_whole : (text : List ℕ) → LeavesOneLine (after_whole text) → IsOneLine text
behind_whole text left = zero_or_digits (head text == 48) text (first_is (λ y. y == 48) refl text) left

dot_or_none : (b : Bool) (text : List ℕ) → (b ≡ true → head text ≢ 10) → LeavesOneLine (cond b (after_digits (drop 1 text)) (Some text)) → IsOneLine text
dot_or_none true text first left = one_more true text first (behind_digits (drop 1 text) left)
dot_or_none false text first left = left

behind_fraction : (text : List ℕ) → LeavesOneLine (after_fraction text) → IsOneLine text
behind_fraction text left = dot_or_none (head text == 46) text (first_is (λ y. y == 46) refl text) left

power_or_none : (b : Bool) (text : List ℕ) → (b ≡ true → head text ≢ 10) → LeavesOneLine (cond b (after_digits (after_sign (drop 1 text))) (Some text)) → IsOneLine text
power_or_none true text first left = one_more true text first (behind_sign (drop 1 text) (behind_digits (after_sign (drop 1 text)) left))
power_or_none false text first left = left

behind_exponent : (text : List ℕ) → LeavesOneLine (after_exponent text) → IsOneLine text
behind_exponent text left = power_or_none ((head text == 101) || (head text == 69)) text (first_is (λ y. (y == 101) || (y == 69)) refl text) left

number_line : (text : List ℕ) → IsNumber text → IsOneLine text
unfolding after_number
number_line text is =
    let left : LeavesOneLine (option_and_then after_exponent (option_and_then after_fraction (after_whole (after_minus text)))) = subst LeavesOneLine (sym is) tt in
    behind_minus text (behind_whole (after_minus text) (through after_fraction behind_fraction _ (through after_exponent behind_exponent _ left)))

-- ---- tokens

token_line : (t : Token) → IsPrintable t → IsOneLine (token_text t)
token_line begin_object printable = tested (token_text begin_object) refl
token_line end_object printable = tested (token_text end_object) refl
token_line begin_array printable = tested (token_text begin_array) refl
token_line end_array printable = tested (token_text end_array) refl
token_line (key text) printable = both (quoted text) (58 ∷ []) (quoted_line text) (tested (58 ∷ []) refl)
token_line (string text) printable = quoted_line text
token_line (number text) printable = number_line text printable
token_line (boolean true) printable = tested (token_text (boolean true)) refl
token_line (boolean false) printable = tested (token_text (boolean false)) refl
token_line null printable = tested (token_text null) refl
token_line bad printable = absurd printable

comma_line : (b : Bool) → IsOneLine (cond b (44 ∷ []) [])
comma_line true = tested (44 ∷ []) refl
comma_line false = tt

pub printed_line : (after_value : Bool) (ts : List Token) → ArePrintable ts → IsOneLine (print_from after_value ts)
unfolding print_from ArePrintable
printed_line after_value [] printable = tt
printed_line after_value (t ∷ ts) printable = both (separator after_value t) (token_text t ++ print_from (ends t) ts) (comma_line (after_value && begins t))
    (both (token_text t) (print_from (ends t) ts) (token_line t printable.0) (printed_line (ends t) ts printable.1))
