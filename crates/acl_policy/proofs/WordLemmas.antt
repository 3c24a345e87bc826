-- The words of a text begin with the first one.
use Rattle.std.proofs.Common.{◌≡◌, ℕ, suc, Bool, true, false, not, List, [], ◌∷◌, length, take, drop, Option, Some, None, refl, sym, ap, ◌∙◌, arith, inl, inr}
use Rattle.std.specs.Prelude.{filter, option_map, position, unwrap_or}
use Rattle.std.specs.List.{onto_first, position_or_len, slice_split}
use Rattle.std.proofs.lemmas.Bool.{cases_Bool}
use Rattle.std.proofs.lemmas.List.Splits.{slice_split-cons_yes, slice_split-cons_no}
use Rattle.acl_policy.specs.inner.WordReading.{next_in}
use Rattle.acl_policy.specs.Words.{is_blank, is_word, words_of}
use Rattle.acl_policy.proofs.PlaceLemmas.{position-here, position-past, unwrap_or-position}

abbrev pub is_ink : ℕ → Bool
is_ink b = not (is_blank b)

words_of-blank : (b : ℕ) (bs : List ℕ) → is_blank b ≡ true → words_of (b ∷ bs) ≡ words_of bs
unfolding words_of
words_of-blank b bs blank = ap (filter is_word) (slice_split-cons_yes is_blank b bs blank)

-- the part of a text up to its first blank, and the parts after it
part_and_rest : (bs : List ℕ) → (parts : List (List ℕ)) × (slice_split is_blank bs ≡ take (position_or_len is_blank bs) bs ∷ parts)
    × (filter is_word parts ≡ words_of (drop (position_or_len is_blank bs) bs))
unfolding words_of
part_and_rest [] = ([], refl, refl)
part_and_rest (b ∷ bs) = elim (cases_Bool (is_blank b)) [
  | inl blank ↦
      let none : position_or_len is_blank (b ∷ bs) ≡ 0 = rw blank refl in (
        slice_split is_blank bs,
        slice_split-cons_yes is_blank b bs blank ∙ ap (λ (n : ℕ). take n (b ∷ bs) ∷ slice_split is_blank bs) (sym none),
        sym (words_of-blank b bs blank) ∙ ap (λ (n : ℕ). words_of (drop n (b ∷ bs))) (sym none),
      )
  | inr ink ↦
      let one_more : position_or_len is_blank (b ∷ bs) ≡ suc (position_or_len is_blank bs) = rw ink (omega arith) in
      let rest = part_and_rest bs in (
        rest.0,
        slice_split-cons_no is_blank b bs ink ∙ ap (onto_first b) rest.1 ∙ ap (λ (n : ℕ). take n (b ∷ bs) ∷ rest.0) (sym one_more),
        rest.2 ∙ ap (λ (n : ℕ). words_of (drop n (b ∷ bs))) (sym one_more),
      )
]

-- the words of a text that begins with one
words_of-ink : (b : ℕ) (bs : List ℕ) → is_blank b ≡ false
    → next_in (words_of (b ∷ bs)) ≡ Some (take (position_or_len is_blank (b ∷ bs)) (b ∷ bs), words_of (drop (position_or_len is_blank (b ∷ bs)) (b ∷ bs)))
unfolding words_of
words_of-ink b bs ink =
    let one_more : position_or_len is_blank (b ∷ bs) ≡ suc (position_or_len is_blank bs) = rw ink (omega arith) in
    let whole = part_and_rest (b ∷ bs) in
    let first : take (position_or_len is_blank (b ∷ bs)) (b ∷ bs) ≡ b ∷ take (position_or_len is_blank bs) bs = ap (λ (n : ℕ). take n (b ∷ bs)) one_more in
    let found : words_of (b ∷ bs) ≡ (b ∷ take (position_or_len is_blank bs) bs) ∷ words_of (drop (position_or_len is_blank (b ∷ bs)) (b ∷ bs)) =
    ap (filter is_word) (whole.1 ∙ ap (λ (part : List ℕ). part ∷ whole.0) first) ∙ ap (λ (ws : List (List ℕ)). (b ∷ take (position_or_len is_blank bs) bs) ∷ ws) whole.2 in
    ap next_in found ∙ ap (λ (part : List ℕ). Some (part, words_of (drop (position_or_len is_blank (b ∷ bs)) (b ∷ bs)))) (sym first)

nothing_more : (o : Option ℕ) → option_map suc o ≡ None → o ≡ None
nothing_more None h = refl
nothing_more (Some n) h = cc

one_less : (o : Option ℕ) (i : ℕ) → option_map suc o ≡ Some i → (j : ℕ) × (o ≡ Some j) × (i ≡ suc j)
one_less None i h = absurd (cc)
one_less (Some n) i h = (n, refl, cc)

-- a text without a word
pub no_words : (text : List ℕ) → position is_ink text ≡ None → next_in (words_of text) ≡ None
unfolding words_of
no_words [] none = refl
no_words (b ∷ bs) none = elim (cases_Bool (is_blank b)) [
  | inl blank ↦
      let past : position is_ink (b ∷ bs) ≡ option_map suc (position is_ink bs) = position-past is_ink b bs (rw blank refl) in
      ap next_in (words_of-blank b bs blank) ∙ no_words bs (nothing_more (position is_ink bs) (sym past ∙ none))
  | inr ink ↦
      let here : position is_ink (b ∷ bs) ≡ Some 0 = position-here is_ink b bs (rw ink refl) in
      cc
]

-- the first word that begins at a place of a text, and the words after it
abbrev pub word_from : ℕ → List ℕ → Option (List ℕ × List (List ℕ))
word_from i text =
    let rest = drop i text in
    let n = unwrap_or (position is_blank rest) (length rest) in
    Some (take n rest, words_of (drop n rest))

pub first_word : (text : List ℕ) (i : ℕ) → position is_ink text ≡ Some i → next_in (words_of text) ≡ word_from i text
first_word [] i found = cc
first_word (b ∷ bs) i found = elim (cases_Bool (is_blank b)) [
  | inl blank ↦
      let past : position is_ink (b ∷ bs) ≡ option_map suc (position is_ink bs) = position-past is_ink b bs (rw blank refl) in
      let later = one_less (position is_ink bs) i (sym past ∙ found) in
      ap next_in (words_of-blank b bs blank) ∙ first_word bs later.0 later.1 ∙ ap (λ (k : ℕ). word_from k (b ∷ bs)) (sym later.2)
  | inr ink ↦
      let here : position is_ink (b ∷ bs) ≡ Some 0 = position-here is_ink b bs (rw ink refl) in
      let zero_is : 0 ≡ i = cc in
      words_of-ink b bs ink ∙ ap (λ (n : ℕ). Some (take n (b ∷ bs), words_of (drop n (b ∷ bs)))) (sym (unwrap_or-position is_blank (b ∷ bs)))
      ∙ ap (λ (k : ℕ). word_from k (b ∷ bs)) zero_is
]
