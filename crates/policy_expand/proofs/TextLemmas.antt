-- The lines of a text that spells rows have these words.
use Rattle.std.proofs.Common.{◌≡◌, ◌≢◌, ◌<◌, ◌-◌, ℕ, suc, List, [], ◌∷◌, ◌++◌, length, map, get_or, take, Bool, true, false, not, refl, sym, ap, ◌∙◌, subst, arith, inl, inr}
use Rattle.std.specs.Prelude.{◌&&◌, ◌==◌, filter, nat_lt}
use Rattle.std.specs.Fmt.{decimal}
use Rattle.std.specs.List.{All, before_first, list_all, position_or_len, onto_first, slice_split}
use Rattle.std.specs.Str.Lines.{lines, lines_of_parts, strip_carriage_return}
use Rattle.std.proofs.lemmas.Bool.{cases_Bool, cases_lt, lt-ltb, ltb-true, ne_eqb, not-true}
use Rattle.std.proofs.lemmas.List.{append_assoc, get_or_past, map-append}
use Rattle.std.proofs.lemmas.List.Splits.{slice_split_at, slice_split-cons_no, slice_split-cons_yes}
use Rattle.std.proofs.lemmas.List.Sums.{AllPass-from_list_all}
use Rattle.acl_policy.specs.Words.{is_blank, is_hash, is_word, without_comment, words_of}
use Rattle.policy_expand.specs.Expansions.{AreExpanded}
use Rattle.policy_expand.specs.FirstMatch.{AreAlike, HaveWords, joined}
use Rattle.policy_expand.specs.Sources.{SourceFacts}
use Rattle.policy_expand.specs.Texts.{ended, is_printable, own_comment, place_mark, plain_text, shown, spelt}
use Rattle.policy_expand.specs.Visible.{is_ink}
use Rattle.policy_expand.specs.Written.{LineWritten, word_text}
use Rattle.policy_expand.specs.declared.set_lists.NamedSet.{NamedSet}
use Rattle.policy_expand.specs.declared.visible_word.Word.{Word}

both_true : (a b : Bool) → a && b ≡ true → (a ≡ true) × (b ≡ true)
both_true true b h = (refl, h)
both_true false b h = absurd (cc)

and_true : (a b : Bool) → a ≡ true → b ≡ true → a && b ≡ true
and_true a b p q = rw p q

pub all_append : (p : ℕ → Bool) (xs ys : List ℕ) → list_all p xs ≡ true → list_all p ys ≡ true → list_all p (xs ++ ys) ≡ true
all_append p [] ys front back = back
all_append p (x ∷ xs) ys front back =
    let one = both_true (p x) (list_all p xs) front in
    and_true (p x) (list_all p (xs ++ ys)) one.0 (all_append p xs ys one.1 back)

weaker : (p q : ℕ → Bool) → ((b : ℕ) → p b ≡ true → q b ≡ true) → (xs : List ℕ) → list_all p xs ≡ true → list_all q xs ≡ true
weaker p q goes [] h = refl
weaker p q goes (x ∷ xs) h =
    let one = both_true (p x) (list_all p xs) h in
    and_true (q x) (list_all q xs) (goes x one.0) (weaker p q goes xs one.1)

-- what a byte of a word is
ink_above : (b : ℕ) → is_ink b ≡ true → (32 < b) × (b < 127) × (not (b == 35) ≡ true)
ink_above b h =
    let one = both_true (nat_lt 32 b) (nat_lt b 127 && not (b == 35)) h in
    let two = both_true (nat_lt b 127) (not (b == 35)) one.1 in
    (ltb-true 32 b one.0, ltb-true b 127 two.0, two.1)

ink_printable : (b : ℕ) → is_ink b ≡ true → is_printable b ≡ true
ink_printable b h =
    let is = ink_above b h in
    and_true (nat_lt 31 b) (nat_lt b 127) (lt-ltb 31 b (omega (arith, is.0))) (lt-ltb b 127 is.1)

no_blank : (b : ℕ) → is_ink b ≡ true → is_blank b ≡ false
no_blank b h =
    let is = ink_above b h in
    let space : b == 32 ≡ false = ne_eqb b 32 (λ e. omega (arith, is.0, e)) in
    let tab : b == 9 ≡ false = ne_eqb b 9 (λ e. omega (arith, is.0, e)) in
    rw space tab

no_hash : (b : ℕ) → is_ink b ≡ true → is_hash b ≡ false
no_hash b h = not-true (b == 35) (ink_above b h).2

printable_above : (b : ℕ) → is_printable b ≡ true → 31 < b
printable_above b h = ltb-true 31 b (both_true (nat_lt 31 b) (nat_lt b 127) h).0

-- a test that fails at each byte of a word, or of what is printable
fails_all : (p q : ℕ → Bool) → ((b : ℕ) → p b ≡ true → q b ≡ false) → (xs : List ℕ) → list_all p xs ≡ true → All (λ b. q b ≡ false) xs
fails_all p q fails xs h k d small = fails (get_or xs k d) (AllPass-from_list_all p xs h k d small)

-- ---- words
word_ink : (w : Word) → list_all is_ink (word_text w) ≡ true
word_ink w = (both_true (not (length (word_text w) == 0)) (list_all is_ink (word_text w)) w.visible).1

some_word : (xs : List ℕ) → not (length xs == 0) ≡ true → is_word xs ≡ true
some_word [] h = h
some_word (x ∷ xs) h = refl

word_some : (w : Word) → is_word (word_text w) ≡ true
word_some w = some_word (word_text w) (both_true (not (length (word_text w) == 0)) (list_all is_ink (word_text w)) w.visible).0

spelt_printable : (row : List Word) → list_all is_printable (spelt row) ≡ true
spelt_printable [] = refl
spelt_printable (w ∷ row) =
    all_append is_printable (word_text w ++ 32 ∷ []) (spelt row)
    (all_append is_printable (word_text w) (32 ∷ []) (weaker is_ink is_printable ink_printable (word_text w) (word_ink w)) refl) (spelt_printable row)

one_word : (text : List ℕ) (rest : List ℕ) → is_word text ≡ true → list_all is_ink text ≡ true → words_of (text ++ 32 ∷ rest) ≡ text ∷ words_of rest
unfolding words_of
one_word text rest some ink =
    let cut : slice_split is_blank (text ++ 32 ∷ rest) ≡ text ∷ slice_split is_blank rest =
    slice_split_at is_blank text 32 rest (fails_all is_ink is_blank no_blank text ink) refl in
    ap (filter is_word) cut ∙ rw some refl

spelt_words : (row : List Word) → words_of (spelt row) ≡ map word_text row
unfolding words_of
spelt_words [] = refl
spelt_words (w ∷ row) =
    ap words_of (append_assoc (word_text w) (32 ∷ []) (spelt row)) ∙ one_word (word_text w) (spelt row) (word_some w) (word_ink w)
    ∙ ap (λ (ws : List (List ℕ)). word_text w ∷ ws) (spelt_words row)

-- ---- comments
before_hash : (xs ys : List ℕ) → All (λ b. is_hash b ≡ false) xs → before_first is_hash (xs ++ 35 ∷ ys) ≡ xs
before_hash [] ys none = refl
before_hash (x ∷ xs) ys none =
    let here : is_hash x ≡ false = none 0 x (omega arith) in
    let rest : All (λ b. is_hash b ≡ false) xs = λ k d small. none (suc k) d (omega (arith, small)) in
    let one_more : position_or_len is_hash (x ∷ (xs ++ 35 ∷ ys)) ≡ suc (position_or_len is_hash (xs ++ 35 ∷ ys)) = rw here (omega arith) in
    ap (λ (n : ℕ). take n (x ∷ (xs ++ 35 ∷ ys))) one_more ∙ ap (λ (bs : List ℕ). x ∷ bs) (before_hash xs ys rest)

spelt_no_hash : (row : List Word) → All (λ b. is_hash b ≡ false) (spelt row)
spelt_no_hash row k d small =
    not-true (is_hash (get_or (spelt row) k d)) (AllPass-from_list_all (λ b. not (is_hash b)) (spelt row) (go row) k d small)
  where
    go : (r : List Word) → list_all (λ b. not (is_hash b)) (spelt r) ≡ true
    go [] = refl
    go (w ∷ r) =
        all_append (λ b. not (is_hash b)) (word_text w ++ 32 ∷ []) (spelt r)
        (all_append (λ b. not (is_hash b)) (word_text w) (32 ∷ [])
        (weaker is_ink (λ b. not (is_hash b)) (λ b h. (ink_above b h).2) (word_text w) (word_ink w)) refl) (go r)

line_has_words : (row : List Word) (mark : List ℕ) → words_of (without_comment (spelt row ++ 35 ∷ mark)) ≡ map word_text row
unfolding without_comment
line_has_words row mark = ap words_of (before_hash (spelt row) mark (spelt_no_hash row)) ∙ spelt_words row

-- ---- lines
some_part : (p : ℕ → Bool) (xs : List ℕ) → (x : List ℕ) × (more : List (List ℕ)) × (slice_split p xs ≡ x ∷ more)
some_part p [] = ([], [], refl)
some_part p (x ∷ xs) = elim (cases_Bool (p x)) [
  | inl passes ↦ ([], slice_split p xs, slice_split-cons_yes p x xs passes)
  | inr fails ↦
      let (part, more, split) = some_part p xs in
      (x ∷ part, more, slice_split-cons_no p x xs fails ∙ ap (λ (parts : List (List ℕ)). onto_first x parts) split)
]

no_return : (line : List ℕ) → list_all is_printable line ≡ true → strip_carriage_return line ≡ line
no_return line shown =
    let last : get_or line (length line - 1) 0 ≢ 13 = elim (cases_lt (length line - 1) (length line)) [
      | inl small ↦ λ e.
          let above : 31 < get_or line (length line - 1) 0 =
          printable_above (get_or line (length line - 1) 0) (AllPass-from_list_all is_printable line shown (length line - 1) 0 small) in
          omega (arith, above, e)
      | inr past ↦ λ e.
          let zero_there : get_or line (length line - 1) 0 ≡ 0 = get_or_past line (length line - 1) 0 past in
          omega (arith, zero_there, e)
    ] in
    let other : get_or line (length line - 1) 0 == 13 ≡ false = ne_eqb (get_or line (length line - 1) 0) 13 last in
    rw other refl

one_line : (line rest : List ℕ) → list_all is_printable line ≡ true → lines (line ++ 10 ∷ rest) ≡ line ∷ lines rest
one_line line rest shown =
    let no_end : All (λ b. (b == 10) ≡ false) line =
    fails_all is_printable (λ b. b == 10) (λ b h. ne_eqb b 10 (λ e. omega (arith, printable_above b h, e))) line shown in
    let cut : slice_split (λ b. b == 10) (line ++ 10 ∷ rest) ≡ line ∷ slice_split (λ b. b == 10) rest = slice_split_at (λ b. b == 10) line 10 rest no_end refl in
    let (part, more, split) = some_part (λ b. b == 10) rest in
    ap lines_of_parts (cut ∙ ap (λ (parts : List (List ℕ)). line ∷ parts) split)
    ∙ ap (λ (l : List ℕ). l ∷ lines_of_parts (part ∷ more)) (no_return line shown)
    ∙ ap (λ (parts : List (List ℕ)). line ∷ lines_of_parts parts) (sym split)

abbrev line_words : List ℕ → List (List ℕ)
line_words line = words_of (without_comment line)

-- the lines of rows have their words, whatever lines follow
spelt_lines : (rows : List (List Word)) (mark rest : List ℕ) → list_all is_printable mark ≡ true
    → map line_words (lines (plain_text mark rows ++ rest)) ≡ map (map word_text) rows ++ map line_words (lines rest)
spelt_lines [] mark rest printable = refl
spelt_lines (row ∷ rows) mark rest printable =
    let line : List ℕ = spelt row ++ 35 ∷ mark in
    let behind : List ℕ = plain_text mark rows ++ rest in
    let seen : list_all is_printable line ≡ true = all_append is_printable (spelt row) (35 ∷ mark) (spelt_printable row) printable in
    let front : ended row mark ++ behind ≡ line ++ 10 ∷ behind =
    append_assoc (spelt row) (35 ∷ (mark ++ 10 ∷ [])) behind
    ∙ ap (λ (t : List ℕ). spelt row ++ 35 ∷ t) (append_assoc mark (10 ∷ []) behind)
    ∙ sym (append_assoc (spelt row) (35 ∷ mark) (10 ∷ behind)) in
    ap (λ (t : List ℕ). map line_words (lines t)) (append_assoc (ended row mark) (plain_text mark rows) rest ∙ front)
    ∙ ap (map line_words) (one_line line behind seen)
    ∙ ap (λ (words : List (List ℕ)). words ∷ map line_words (lines behind)) (line_has_words row mark)
    ∙ ap (λ (all : List (List (List ℕ))). map word_text row ∷ all) (spelt_lines rows mark rest printable)

shown_printable : (b : ℕ) → is_printable (shown b) ≡ true
shown_printable b = elim (cases_Bool (is_printable b)) [
  | inl seen ↦ let e : shown b ≡ b = rw seen refl in ap is_printable e ∙ seen
  | inr hidden ↦ let e : shown b ≡ 63 = rw hidden refl in ap is_printable e
]

all_shown : (bytes : List ℕ) → list_all is_printable (map shown bytes) ≡ true
all_shown [] = refl
all_shown (b ∷ bytes) = and_true (is_printable (shown b)) (list_all is_printable (map shown bytes)) (shown_printable b) (all_shown bytes)

pub expanded_lines : (sets : List NamedSet) (texts : List SourceFacts) (news : List NamedSet) (written : List LineWritten) (plain : List (List (List Word)))
    (text : List ℕ) → AreExpanded sets texts news written plain text → AreAlike written plain × HaveWords (lines text) (joined plain)
expanded_lines sets [] news written plain text (same, no_written, no_plain, no_text) = (
  subst (λ (ws : List LineWritten). AreAlike ws plain) (sym no_written) no_plain,
  subst (λ (ps : List (List (List Word))). HaveWords (lines text) (joined ps)) (sym no_plain) (ap (λ (t : List ℕ). map line_words (lines t)) no_text),
)
expanded_lines sets (line ∷ texts) news written plain text
    (mid, first, others, rows, more, added, rest, written_split, plain_split, split, one, later) =
    let behind = expanded_lines mid texts news others more rest later in
    let mark : List ℕ = place_mark line in (
      subst (λ (ws : List LineWritten). AreAlike ws plain) (sym written_split) (rows, more, plain_split, one.alike, one.begin, behind.0),
      subst (λ (ps : List (List (List Word))). HaveWords (lines text) (joined ps)) (sym plain_split)
          (ap (λ (t : List ℕ). map line_words (lines t)) (split ∙ ap (λ (a : List ℕ). a ++ rest) one.spells)
          ∙ spelt_lines rows mark rest (all_shown (32 ∷ (line.file ++ 58 ∷ (decimal line.number ++ own_comment line.text))))
          ∙ ap (λ (all : List (List (List ℕ))). map (map word_text) rows ++ all) behind.1
          ∙ sym (map-append (map word_text) rows (joined more))),
    )
