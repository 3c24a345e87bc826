-- What words of a place tell of the pair of a key.
use Rattle.std.proofs.Common.{◌≡◌, ◌≢◌, ℕ, ◌+◌, ◌-◌, ◌*◌, ◌<◌, ◌≤◌, eqb, Bool, true, false, true≢false, List, length, refl, sym, ap, ◌∙◌, subst, inl, inr, arith, eq-eqb, Option, Some, None}
use Rattle.std.proofs.lemmas.Bool.{eqb-true, cases_lt}
use Rattle.std.specs.Prelude.{slice_index}
use Rattle.std.specs.FinMap.{get}
use Rattle.bihash_words.specs.Sizes.{Sizes}
use Rattle.bihash_words.specs.Maps.{Pairs}
use Rattle.bihash_rule.specs.Words.{place_words, block_words}
use Rattle.bihash_rule.specs.Blocks.{HasPair, places, value_in, free, IsBlockOf}
use Rattle.bihash_rule.specs.declared.view.Extent.{Extent}
use Rattle.bihash_rule.specs.declared.view.OpenBucket.{OpenBucket}
use Rattle.bihash_steps.specs.Seats.{CallerState}
use Rattle.bihash_rule.specs.Places.{HasPairOf}
use Rattle.bihash_table.specs.inner.Scans.{AreOpenTo}
use Rattle.bihash_table.specs.inner.OpenReads.{NotesBlock, HasRead, LastWordTells, AreMarks, first_set, later_set, set_count, IsValueAt, TellsValue, IsPairAmong, IsPairIn, IsFirstFreeIn, OtherPairTells, value_of}
use Rattle.bihash_table.proofs.PlaceReads.{SameTo, word_of_key, all_same}
use Rattle.bihash_table.proofs.OpenReadLemmas.{read_as, read_both, read_nothing, read_then, note_extent}

module _ (z : Sizes) (e : Extent) (block key : List ℕ) (i : ℕ) where
  -- a word of the place of a pair is that of its key
  pair_word : (k : ℕ) → k < z.key_words → HasPairOf z e block key i → slice_index block (i * place_words z + k) ≡ slice_index key k
  pair_word k low h = sym (word_of_key z block key i k low) ∙ ap (λ (l : List ℕ). slice_index l k) h.stands

  pub other_word : (k n m : ℕ) → k < z.key_words → n ≡ slice_index block (i * place_words z + k) → m ≡ slice_index key k → n ≢ m
      → HasPairOf z e block key i → ⊥
  other_word k n m low here there differ h = differ (here ∙ (pair_word k low h ∙ sym there))

  pub last_tells : (k n m : ℕ) → k ≡ z.key_words - 1 → 1 ≤ z.key_words → n ≡ slice_index block (i * place_words z + k)
      → m ≡ slice_index key (z.key_words - 1) → LastWordTells z key i (eqb n m) e block
  last_tells k n m is some here there = go (eqb n m) refl
    where
      at : n ≡ slice_index block (i * place_words z + (z.key_words - 1))
      at = here ∙ ap (λ (j : ℕ). slice_index block (i * place_words z + j)) is

      go : (t : Bool) → eqb n m ≡ t → LastWordTells z key i t e block
      go true same = sym at ∙ (eqb-true n m same ∙ there)
      go false differ = other_word (z.key_words - 1) n m (omega arith) at there (λ same. true≢false (sym (eq-eqb n m same) ∙ differ))

  pub free_value : (n : ℕ) → n ≡ value_in z block i → n ≡ free → IsValueAt z key i None e block
  free_value n here is h = h.pair.1 (sym here ∙ is)

  -- the words but the last, the last one and the value
  pub found_value : (n k : ℕ) → k ≡ z.key_words - 1 → length block ≡ block_words z e.page e.size.log2 → i < places e.page e.size.log2 → length key ≡ z.key_words
      → SameTo z block i key k → n ≡ value_in z block i → n ≢ free → LastWordTells z key i true e block → IsValueAt z key i (Some n) e block
  found_value n k is size inside long same here pair last = record {
    pair = (inside, λ h. pair (here ∙ h));
    stands = all_same z block key i e.page e.size.log2 size inside long (λ j low. elim (cases_lt j k) [
      | inl before ↦ same j before
      | inr behind ↦ let at : j ≡ z.key_words - 1 = omega arith in
          subst (λ (j : ℕ). slice_index block (i * place_words z + j) ≡ slice_index key j) (sym at) last
    ]);
    has = sym here;
  }

module _ (z : Sizes) (e : Extent) (block key : List ℕ) where
  pub same_more : (i k n m : ℕ) → SameTo z block i key k → n ≡ slice_index block (i * place_words z + k) → m ≡ slice_index key k → n ≡ m
      → SameTo z block i key (k + 1)
  same_more i k n m same here there is j low = elim (cases_lt j k) [
    | inl before ↦ same j before
    | inr behind ↦ let at : j ≡ k = omega arith in
        subst (λ (j : ℕ). slice_index block (i * place_words z + j) ≡ slice_index key j) (sym at) (sym here ∙ (is ∙ there))
  ]

-- ---- The four places of a page

pub all_marks : (z : Sizes) (key : List ℕ) (first : ℕ) (a b c d : Bool) (s t u v w : CallerState)
    → HasRead s t (LastWordTells z key first a) → HasRead t u (LastWordTells z key (first + 1) b)
    → HasRead u v (LastWordTells z key (first + 2) c) → HasRead v w (LastWordTells z key (first + 3) d)
    → HasRead s w (AreMarks z key first (a, b, c, d))
all_marks z key first a b c d s t u v w at bt ct dt = read_then s t w (λ o noted x y. (x, y.0, y.1.0, y.1.1)) at
    (read_both t u w bt (read_both u v w ct dt))

module _ (z : Sizes) (key : List ℕ) (first : ℕ) where
  -- what the marks tell is of the page
  abbrev pub Marked : Bool × Bool × Bool × Bool → Extent → List ℕ → Type 0
  Marked marks e block = AreMarks z key first marks e block

  -- the last word of the key is at the first mark
  first_tells : (e : Extent) (block : List ℕ) (marks : Bool × Bool × Bool × Bool) → set_count marks ≢ 0 → Marked marks e block
      → LastWordTells z key (first + first_set marks) true e block
  first_tells e block (true, b, c, d) some are = let at : first ≡ first + 0 = omega arith in
      subst (λ (p : ℕ). LastWordTells z key p true e block) at are.0
  first_tells e block (false, true, c, d) some are = are.1
  first_tells e block (false, false, true, d) some are = are.2
  first_tells e block (false, false, false, true) some are = are.3
  first_tells e block (false, false, false, false) some are = absurd (some refl)

  -- where the pair isn't at the first mark, the others tell as much
  later_tell : (e : Extent) (block : List ℕ) (marks : Bool × Bool × Bool × Bool) → set_count marks ≢ 0 → Marked marks e block
      → (HasPairOf z e block key (first + first_set marks) → ⊥) → Marked (later_set marks) e block
  later_tell e block (true, b, c, d) some are none = let at : first ≡ first + 0 = omega arith in
      ((λ h. none (subst (HasPairOf z e block key) at h)), are.1, are.2, are.3)
  later_tell e block (false, true, c, d) some are none = (are.0, none, are.2, are.3)
  later_tell e block (false, false, true, d) some are none = (are.0, are.1, none, are.3)
  later_tell e block (false, false, false, true) some are none = (are.0, are.1, are.2, none)
  later_tell e block (false, false, false, false) some are none = absurd (some refl)

  none_left : (e : Extent) (block : List ℕ) (marks : Bool × Bool × Bool × Bool) → set_count marks ≡ 0 → Marked marks e block
      → (i : ℕ) → first ≤ i → i < first + 4 → HasPairOf z e block key i → ⊥
  none_left e block (false, false, false, false) none are i low high h = elim (cases_lt i (first + 1)) [
    | inl less ↦ let at : i ≡ first = omega arith in are.0 (subst (HasPairOf z e block key) at h)
    | inr more ↦ elim (cases_lt i (first + 2)) [
      | inl less ↦ let at : i ≡ first + 1 = omega arith in are.1 (subst (HasPairOf z e block key) at h)
      | inr more' ↦ elim (cases_lt i (first + 3)) [
        | inl less ↦ let at : i ≡ first + 2 = omega arith in are.2 (subst (HasPairOf z e block key) at h)
        | inr more'' ↦ let at : i ≡ first + 3 = omega arith in are.3 (subst (HasPairOf z e block key) at h)
      ]
    ]
  ]
  none_left e block (true, b, c, d) none are i low high h = absurd (omega arith)
  none_left e block (false, true, c, d) none are i low high h = absurd (omega arith)
  none_left e block (false, false, true, d) none are i low high h = absurd (omega arith)
  none_left e block (false, false, false, true) none are i low high h = absurd (omega arith)

  module _ (u v w : CallerState) (marks : Bool × Bool × Bool × Bool) (place : ℕ) (some : set_count marks ≢ 0) (at : place ≡ first + first_set marks)
      (before : HasRead u v (Marked marks)) where
    here_tells : (e : Extent) (block : List ℕ) → Marked marks e block → LastWordTells z key place true e block
    here_tells e block are = subst (λ (p : ℕ). LastWordTells z key p true e block) (sym at) (first_tells e block marks some are)

    pub pair_marked : (from to value : ℕ) → HasRead v w (TellsValue z key place (Some value))
        → HasRead u w (IsPairAmong z key from to (Some (place, value)))
    pair_marked from to value = read_then u v w (λ o noted are here. here (here_tells o.extent o.block are)) before

    pub later_marked : (later : Bool × Bool × Bool × Bool) → later ≡ later_set marks
        → HasRead v w (TellsValue z key place None) → HasRead u w (Marked later)
    later_marked later is = read_then u v w (λ o noted are here. subst (λ (m : Bool × Bool × Bool × Bool). Marked m o.extent o.block) (sym is)
        (later_tell o.extent o.block marks some are (subst (λ (p : ℕ). HasPairOf z o.extent o.block key p → ⊥) at (here (here_tells o.extent o.block are)))))
        before

  -- where no mark is left, the pair isn't in the page
  pub no_marks : (marks : Bool × Bool × Bool × Bool) (from to : ℕ) (u v : CallerState) → set_count marks ≡ 0 → from ≡ first → to ≡ first + 4
      → HasRead u v (Marked marks) → HasRead u v (IsPairAmong z key from to None)
  no_marks marks from to u v none is end = read_as u v (λ o noted are i low high.
      none_left o.extent o.block marks none are i (omega arith) (omega arith))

-- ---- All pages

module _ (z : Sizes) (key : List ℕ) where
  -- no pair of the key stands from one place to before another
  abbrev pub NoneAmong : ℕ → ℕ → Extent → List ℕ → Type 0
  NoneAmong from to e block = (i : ℕ) → from ≤ i → i < to → HasPairOf z e block key i → ⊥

  module _ (u v w : CallerState) (from middle to : ℕ) (before : HasRead u v (NoneAmong from middle)) where
    pub none_among : HasRead v w (IsPairAmong z key middle to None) → HasRead u w (NoneAmong from to)
    none_among now = read_then u v w (λ o noted seen here i low high. elim (cases_lt i middle) [
      | inl less ↦ seen i low less
      | inr more ↦ here i more high
    ]) before now

    pub pair_among : (pair : ℕ × ℕ) → HasRead v w (IsPairAmong z key middle to (Some pair))
        → HasRead u w (IsPairIn z key (Some pair))
    pair_among pair now = read_then u v w (λ o noted seen here. here) before now

  -- from a place to before itself there is none
  pub nothing_among : (u : CallerState) (from to : ℕ) → from ≡ to → HasRead u u (IsPairAmong z key from to None)
  nothing_among u from to same = read_nothing u (λ e block i low high. absurd (omega arith))

  -- the places that are open to the key are those from one to before another
  pub open_there : (u : CallerState) (word from to : ℕ) (e : Extent) (o : OpenBucket) → NotesBlock z u.view word e → u.view.notes.open_bucket ≡ Some o
      → AreOpenTo z e key from to → AreOpenTo z o.extent key from to
  open_there u word from to e o h noted = subst (λ (x : Extent). AreOpenTo z x key from to) (sym (note_extent z u.view word e o h noted))

  pub absent_among : (u v : CallerState) (word from to end : ℕ) (e : Extent) → NotesBlock z u.view word e → AreOpenTo z e key from to → to ≤ end
      → HasRead u v (NoneAmong from end) → HasRead u v (IsPairIn z key None)
  absent_among u v word from to end e h open_to all = read_as u v (λ o noted none i reached pair.
      let among = ((open_there u word from to e o h noted open_to).exact i pair.pair.0).1 reached in
      none i among.0 (let high = among.1 in omega arith) pair)

  -- what was found among all places that are open to the key
  pub pair_among_open : (u v : CallerState) (word from to : ℕ) (e : Extent) → NotesBlock z u.view word e → AreOpenTo z e key from to
      → (found : Option (ℕ × ℕ)) → HasRead u v (IsPairAmong z key from to found) → HasRead u v (IsPairIn z key found)
  pair_among_open u v word from to e h open_to (Some pair) read = read
  pair_among_open u v word from to e h open_to None read = absent_among u v word from to to e h open_to (omega arith) read

-- ---- Free places, and other pairs

module _ (z : Sizes) where
  -- the value word of a place was read
  pub read_value : (v w : CallerState) (i n words : ℕ) → words ≡ z.key_words → HasRead v w (λ _ block. n ≡ slice_index block (i * place_words z + words))
      → HasRead v w (λ _ block. n ≡ value_in z block i)
  read_value v w i n words is = read_as v w (λ o noted seen. seen ∙ ap (λ (k : ℕ). slice_index o.block (i * place_words z + k)) is)

  -- no place is free from one to before another
  abbrev pub NoneFree : ℕ → ℕ → Extent → List ℕ → Type 0
  NoneFree from to e block = (i : ℕ) → from ≤ i → i < to → value_in z block i ≡ free → ⊥

  pub none_free_yet : (from to : ℕ) (v : CallerState) → to ≤ from → HasRead v v (NoneFree from to)
  none_free_yet from to v is = read_nothing v (λ e block i low high. absurd (omega arith))

  module _ (u v w : CallerState) (from at n : ℕ) (before : HasRead u v (NoneFree from at)) (now : HasRead v w (λ _ block. n ≡ value_in z block at)) where
    pub none_free_more : n ≢ free → HasRead u w (NoneFree from (at + 1))
    none_free_more taken = read_then {Q = λ _ block. n ≡ value_in z block at} u v w (λ o noted seen here i low high is. elim (cases_lt i at) [
      | inl less ↦ seen i low less is
      | inr not ↦ let same : at ≡ i = omega arith in taken (here ∙ (ap (value_in z o.block) same ∙ is))
    ]) before now

    pub first_free : (key : List ℕ) (word to : ℕ) (e : Extent) → NotesBlock z u.view word e → AreOpenTo z e key from to → from ≤ at → at < to → n ≡ free
        → HasRead u w (IsFirstFreeIn z key (Some at))
    first_free key word to e h open_to low high is = read_then u v w (λ o noted seen here.
        let there = open_there z key u word from to e o h noted open_to in
        let room = there.within in
        let inside : at < places o.extent.page o.extent.size.log2 = omega arith in (
          record { inside = inside; free = sym here ∙ is; reached = (there.exact at inside).0 (low, high) },
          λ k less h. seen k ((there.exact k h.inside).1 h.reached).0 less h.free,
        )) before now

  pub all_taken : (u v : CallerState) (key : List ℕ) (word from to end : ℕ) (e : Extent) → NotesBlock z u.view word e → AreOpenTo z e key from to → to ≤ end
      → HasRead u v (NoneFree from end) → HasRead u v (IsFirstFreeIn z key None)
  all_taken u v key word from to end e h open_to all = read_as u v (λ o noted none i there.
      let among = ((open_there z key u word from to e o h noted open_to).exact i there.inside).1 there.reached in
      none i among.0 (let high = among.1 in omega arith) there.free)

  -- no place before another has a pair, but place i
  abbrev pub NoOther : ℕ → ℕ → Extent → List ℕ → Type 0
  NoOther i to e block = (k : ℕ) → k < to → HasPair z e block k → k ≡ i

  pub no_other_yet : (i : ℕ) (v : CallerState) → HasRead v v (NoOther i 0)
  no_other_yet i v = read_nothing v (λ e block k low. absurd (omega arith))

  pub no_other_here : (i at : ℕ) (u v : CallerState) → at ≡ i → HasRead u v (NoOther i at) → HasRead u v (NoOther i (at + 1))
  no_other_here i at u v is = read_as u v (λ o noted seen k low pair. elim (cases_lt k at) [
    | inl less ↦ seen k less pair
    | inr not ↦ omega arith
  ])

  module _ (u v w : CallerState) (i at n : ℕ) (before : HasRead u v (NoOther i at)) (now : HasRead v w (λ _ block. n ≡ value_in z block at)) where
    pub no_other_free : n ≡ free → HasRead u w (NoOther i (at + 1))
    no_other_free is = read_then {Q = λ _ block. n ≡ value_in z block at} u v w (λ o noted seen here k low pair. elim (cases_lt k at) [
      | inl less ↦ seen k less pair
      | inr not ↦ let same : k ≡ at = omega arith in absurd (pair.1 (ap (value_in z o.block) same ∙ (sym here ∙ is)))
    ]) before now

    pub other_there : (word : ℕ) (e : Extent) → NotesBlock z u.view word e → at < places e.page e.size.log2 → at ≢ i → n ≢ free
        → HasRead u w (OtherPairTells z i true)
    other_there word e h inside differ taken = read_then u v w (λ o noted seen here. (
      at,
      differ,
      (subst (λ (x : Extent). at < places x.page x.size.log2) (sym (note_extent z u.view word e o h noted)) inside, λ is. taken (here ∙ is)),
    )) before now

  pub no_other : (u v : CallerState) (i word to : ℕ) (e : Extent) → NotesBlock z u.view word e → places e.page e.size.log2 ≤ to → HasRead u v (NoOther i to)
      → HasRead u v (OtherPairTells z i false)
  no_other u v i word to e h all = read_as u v (λ o noted seen k pair. seen k
      (let room : places o.extent.page o.extent.size.log2 ≤ to = subst (λ (x : Extent). places x.page x.size.log2 ≤ to) (sym (note_extent z u.view word e o h noted)) all in
      let inside = pair.0 in omega arith) pair)

-- what a look for a pair found tells the map of a lawful block
pub pair_value : (z : Sizes) (e : Extent) (block key : List ℕ) (m : Pairs) (found : Option (ℕ × ℕ)) → IsPairIn z key found e block → IsBlockOf z e block m
    → value_of found ≡ get m key
pair_value z e block key m (Some pair) told ok = sym (ok.map.mapped key pair.1 pair.0 told)
pair_value z e block key m None told ok = go (get m key) refl
  where
    go : (found : Option ℕ) → get m key ≡ found → None ≡ found
    go None is = refl
    go (Some value) is =
        let at = ok.map.found key value is in
        absurd (told at.0 (ok.rule.paged key value at.0 at.1) (record { pair = at.1.pair; stands = at.1.stands; has = refl }))
