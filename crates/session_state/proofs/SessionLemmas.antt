-- A session and its word give each other back.
use Rattle.std.proofs.Common.{◌≡◌, ◌∙◌, ◌≤◌, ◌<◌, ◌+◌, ◌*◌, ◌/◌, ◌%◌, ◌^◌, ℕ, Bool, true, false, ap, ap₂, arith, sym, subst, refl, inl, inr, Some, None, if◌then◌else◌, ◌==◌, ◌&&◌, nat_lt}
use Rattle.std.proofs.lemmas.Bool.{eq-eqb, eqb-true, ltb-true}
use Rattle.std.proofs.lemmas.Bool.Decides.{eqb_tells}
use Rattle.std.proofs.lemmas.Nat.{and_le_r}
use Rattle.std.proofs.lemmas.Option.{cond_some}
use Rattle.bihash_words.specs.Patches.{free_mark}
use Rattle.session_state.specs.Flags.{IsKept, kept_flags}
use Rattle.session_state.specs.Sessions.{IsSession, SessionFacts, fields_of_word, is_session_word, session_of, session_word}

-- kept flags fit a byte
flags_fit : (flags : ℕ) → IsKept flags → flags < 2 ^ 8
flags_fit flags kept = omega (arith, and_le_r flags 23, kept)

-- the word with these numbers at its places
abbrev word_with : ℕ → ℕ → ℕ → ℕ → ℕ
word_with l f g k = l + f * 2 ^ 32 + g * 2 ^ 40 + k * 2 ^ 48

last_place : (l f g k : ℕ) → l < 2 ^ 32 → f < 2 ^ 8 → g < 2 ^ 8 → word_with l f g k % 2 ^ 32 ≡ l
last_place l f g k fits_l fits_f fits_g = omega arith

first_place : (l f g k : ℕ) → l < 2 ^ 32 → f < 2 ^ 8 → g < 2 ^ 8 → word_with l f g k / 2 ^ 32 % 2 ^ 8 ≡ f
first_place l f g k fits_l fits_f fits_g = omega arith

second_place : (l f g k : ℕ) → l < 2 ^ 32 → f < 2 ^ 8 → g < 2 ^ 8 → word_with l f g k / 2 ^ 40 % 2 ^ 8 ≡ g
second_place l f g k fits_l fits_f fits_g = omega arith

kind_place : (l f g k : ℕ) → l < 2 ^ 32 → f < 2 ^ 8 → g < 2 ^ 8 → word_with l f g k / 2 ^ 48 ≡ k
kind_place l f g k fits_l fits_f fits_g = omega arith

-- a word is made of what is at its places
places : (word : ℕ) → word / 2 ^ 48 < 2
    → word ≡ word_with (word % 2 ^ 32) (word / 2 ^ 32 % 2 ^ 8) (word / 2 ^ 40 % 2 ^ 8) (word / 2 ^ 48)
places word small = omega arith

same_session : (one other : SessionFacts) → one.last ≡ other.last → one.first_flags ≡ other.first_flags
    → one.second_flags ≡ other.second_flags → one.tcp ≡ other.tcp → one ≡ other
same_session one other last first second tcp =
    ap₂ (λ l f. let s : SessionFacts = record one { last = l; first_flags = f } in s) last first
    ∙ ap₂ (λ f t. let s : SessionFacts = record other { second_flags = f; tcp = t } in s) second tcp

kind_of_bit : (tcp : Bool) → ((if tcp then 1 else 0) == 1) ≡ tcp
kind_of_bit true = refl
kind_of_bit false = refl

small_bit : (tcp : Bool) → nat_lt (if tcp then 1 else 0) 2 ≡ true
small_bit true = refl
small_bit false = refl

-- what is in the word of a session
fields_of_session : (session : SessionFacts) → IsSession session → fields_of_word (session_word session) ≡ session
fields_of_session session fits =
    let bit : ℕ = if session.tcp then 1 else 0 in
    let first = flags_fit session.first_flags fits.first in
    let second = flags_fit session.second_flags fits.second in
    same_session _ session
    (last_place session.last session.first_flags session.second_flags bit fits.moment first second)
    (first_place session.last session.first_flags session.second_flags bit fits.moment first second)
    (second_place session.last session.first_flags session.second_flags bit fits.moment first second)
    (ap (λ k. k == 1) (kind_place session.last session.first_flags session.second_flags bit fits.moment first second)
    ∙ kind_of_bit session.tcp)

-- the word of a session is one
is_word : (session : SessionFacts) → IsSession session → is_session_word (session_word session) ≡ true
is_word session fits =
    let bit : ℕ = if session.tcp then 1 else 0 in
    let first = flags_fit session.first_flags fits.first in
    let second = flags_fit session.second_flags fits.second in
    let kind : session_word session / 2 ^ 48 ≡ bit =
    kind_place session.last session.first_flags session.second_flags bit fits.moment first second in
    let test : Bool → SessionFacts → Bool = λ small s.
    small && ((kept_flags s.first_flags == s.first_flags) && (kept_flags s.second_flags == s.second_flags)) in
    ap₂ test (ap (λ k. nat_lt k 2) kind ∙ small_bit session.tcp) (fields_of_session session fits)
    ∙ ap₂ (λ a b. true && (a && b)) (eq-eqb _ _ fits.first) (eq-eqb _ _ fits.second)

bit_fits : (tcp : Bool) → (if tcp then 1 else 0) ≤ 1
bit_fits true = omega arith
bit_fits false = omega arith

-- the word of a session may be stored
pub word_is_storable : (session : SessionFacts) → IsSession session → session_word session < free_mark
word_is_storable session fits =
    omega (
      arith,
      fits.moment,
      flags_fit session.first_flags fits.first,
      flags_fit session.second_flags fits.second,
      bit_fits session.tcp,
    )

-- a session is the session of its word
pub session_of_word : (session : SessionFacts) → IsSession session → session_of (session_word session) ≡ Some session
session_of_word session fits =
    ap (λ b. if b then Some (fields_of_word (session_word session)) else None) (is_word session fits)
    ∙ ap Some (fields_of_session session fits)

bit_of_kind : (kind : ℕ) → kind < 2 → (if kind == 1 then 1 else 0) ≡ kind
bit_of_kind kind small =
    elim (eqb_tells kind 1) [
      | inl (test, one) ↦ ap (λ b. if b then 1 else 0) test ∙ sym one
      | inr (test, other) ↦ ap (λ b. if b then 1 else 0) test ∙ omega (arith, small, other)
    ]

both_true : (x y : Bool) → (x && y) ≡ true → (x ≡ true) × (y ≡ true)
both_true true true both = (refl, refl)
both_true true false both = cc
both_true false y both = cc

-- a word that is one of a session is the word of its places
word_fits : (word : ℕ) → is_session_word word ≡ true
    → IsSession (fields_of_word word) × (session_word (fields_of_word word) ≡ word)
word_fits word test =
    let parts = both_true _ _ test in
    let flags = both_true _ _ parts.1 in
    let small : word / 2 ^ 48 < 2 = ltb-true (word / 2 ^ 48) 2 parts.0 in (
      record { moment = omega arith; first = eqb-true _ _ flags.0; second = eqb-true _ _ flags.1 },
      ap (word_with (word % 2 ^ 32) (word / 2 ^ 32 % 2 ^ 8) (word / 2 ^ 40 % 2 ^ 8))
          (bit_of_kind (word / 2 ^ 48) small) ∙ sym (places word small),
    )

-- the session of a word has that word
pub word_of_session : (word : ℕ) (session : SessionFacts) → session_of word ≡ Some session
    → IsSession session × (session_word session ≡ word)
word_of_session word session same =
    let found = cond_some (is_session_word word) (fields_of_word word) session same in
    subst (λ s. IsSession s × (session_word s ≡ word)) found.1 (word_fits word found.0)
