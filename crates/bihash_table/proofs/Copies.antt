-- Copies of a block's words, word by word and place by place.
use Rattle.std.proofs.Common.{◌≡◌, ◌≢◌, ◌∙◌, ◌<◌, ◌≤◌, ◌+◌, ◌*◌, ℕ, zero, suc, List, Some, ap, arith, length, mul-le-mul_right, refl, set, slice_index, subst, sym, ⊎_elim}
use Rattle.std.specs.Prelude.{slice_get}
use Rattle.std.proofs.Math.ListN.{drop}
use Rattle.std.proofs.lemmas.Bool.{cases_eq}
use Rattle.std.proofs.lemmas.List.{get_or-set_other, get_or-set_same, length-drop, length-set, length-take}
use Rattle.std.proofs.lemmas.Option.{same_Some, slice_get_within}
use Rattle.bihash_words.specs.Sizes.{Sizes, sizes_of}
use Rattle.bihash_words.specs.declared.shape.Shape.{Ghosts}
use Rattle.bihash_plan.proofs.Places.{get_after}
use Rattle.bihash_rule.specs.Words.{block_words, place_words}
use Rattle.bihash_rule.specs.Blocks.{free, key_in, places, value_in}
use Rattle.bihash_steps.specs.StoreSteps.{IsHeldWord, holding, stored_at}
use Rattle.bihash_steps.specs.Seats.{CallerState, with_view}
use Rattle.bihash_rule.specs.declared.view.HeldBlock.{HeldBlock}
use Rattle.bihash_rule.specs.declared.view.View.{View}
use Rattle.bihash_table.specs.inner.Copying.{HasBlock, IsPlaced, with_words}
use Rattle.bihash_rule.specs.Places.{ArePlaces}
use Rattle.bihash_table.proofs.PlaceReads.{all_same, place_inside, word_of_key}

pub words_counted : (z : Sizes) (page log2 : ℕ) → block_words z page log2 ≡ places page log2 * place_words z
words_counted z zero log2 = omega arith
words_counted z (suc page) log2 = omega arith

-- a place whose words are the same in another block has the same key
pub same_place_key : (z : Sizes) (page log2 : ℕ) (block other : List ℕ) (place : ℕ)
    → length block ≡ block_words z page log2 → length other ≡ length block → place < places page log2
    → ((k : ℕ) → k < place_words z → slice_index other (place * place_words z + k)
    ≡ slice_index block (place * place_words z + k))
    → key_in z other place ≡ key_in z block place
same_place_key z page log2 block other place size long inside same =
    let first : ℕ = place * place_words z in
    let last : first + z.key_words < block_words z page log2 = place_inside z page log2 place z.key_words inside (omega arith) in
    let counted : length (key_in z block place) ≡ z.key_words =
    omega (arith, length-take z.key_words (drop first block), length-drop first block, size) in
    all_same z other (key_in z block place) place page log2 (long ∙ size) inside counted
    (λ k below. same k (omega arith) ∙ sym (word_of_key z block (key_in z block place) place k below))

-- ---- A block that is read

-- one more word was read
pub read_more : (block words : List ℕ) (first i word : ℕ)
    → i < length words → ((k : ℕ) → k < i → slice_index words k ≡ slice_index block (first + k))
    → word ≡ slice_index block (first + i)
    → (k : ℕ) → k < i + 1 → slice_index (set words i word) k ≡ slice_index block (first + k)
read_more block words first i word inside before is k less = ⊎_elim
    (λ (here : k ≡ i). ap (λ n. slice_index (set words i word) n) here ∙ get_or-set_same words i word 0 inside
    ∙ is ∙ ap (λ n. slice_index block (first + n)) (sym here))
    (λ (there : k ≢ i). get_or-set_other words i k word 0 there ∙ before k (omega arith))
    (cases_eq k i)

-- the first places have the values of the words and, where they aren't free, the keys
pub record AreRead {A K : Type 0} (g : Ghosts A K) (ps : List (K × ℕ)) (i : ℕ) (block : List ℕ) : Type 0 where
  pub key : (j : ℕ) (p : K × ℕ) → j < i → slice_get ps j ≡ Some p → p.1 ≢ free
      → key_in (sizes_of g) block j ≡ g.words_of p.0
  pub value : (j : ℕ) (p : K × ℕ) → j < i → slice_get ps j ≡ Some p → value_in (sizes_of g) block j ≡ p.1

pub read_none : {A K : Type 0} (g : Ghosts A K) (ps : List (K × ℕ)) (block : List ℕ) → AreRead g ps 0 block
read_none g ps block = record {
  key = λ j p none. absurd (omega arith);
  value = λ j p none. absurd (omega arith);
}

-- one more place was read
pub read_place_more : {A K : Type 0} (g : Ghosts A K) (ps : List (K × ℕ)) (i : ℕ) (block : List ℕ) (pair : K × ℕ)
    → i < length ps → AreRead g ps i block → key_in (sizes_of g) block i ≡ g.words_of pair.0
    → value_in (sizes_of g) block i ≡ pair.1 → AreRead g (set ps i pair) (i + 1) block
read_place_more {K = K} g ps i block pair inside so_far key_is value_is = record {
  key = λ j p less at taken. ⊎_elim
      (λ (here : (j ≡ i) × (pair ≡ p)). ap (key_in (sizes_of g) block) here.0 ∙ key_is
      ∙ ap (λ q. g.words_of q.0) here.1)
      (λ (there : (j ≢ i) × (slice_get ps j ≡ Some p)). so_far.key j p (omega (arith, less, there.0)) there.1 taken)
      (get_after ps i j pair p inside at);
  value = λ j p less at. ⊎_elim
      (λ (here : (j ≡ i) × (pair ≡ p)). ap (value_in (sizes_of g) block) here.0 ∙ value_is ∙ ap (λ q. q.1) here.1)
      (λ (there : (j ≢ i) × (slice_get ps j ≡ Some p)). so_far.value j p (omega (arith, less, there.0)) there.1)
      (get_after ps i j pair p inside at);
}

-- ---- A block that is held

pub same_block : {z : Sizes} {v : View} {page page' : ℕ} {h k : HeldBlock}
    → HasBlock z v page h → HasBlock z v page' k → h ≡ k
same_block {h = h} {k = k} a b = same_Some h k (sym a.held ∙ b.held)

-- a caller that stored no word yet
pub nothing_stored : (z : Sizes) (s : CallerState) (page : ℕ) (h : HeldBlock)
    → HasBlock z s.view page h → s ≡ with_view s (with_words s.view h h.words)
nothing_stored z s page h has = λ i. record s {
  view = record s.view {
    holds = record { bucket = s.view.holds.bucket; store = s.view.holds.store; block = has.held i };
    notes = has.plain i;
  };
}

-- the caller that has stored these words holds the block still
pub still_held : (z : Sizes) (s t : CallerState) (page : ℕ) (h : HeldBlock) (words : List ℕ)
    → HasBlock z s.view page h → t ≡ with_view s (with_words s.view h words) → length words ≡ length h.words
    → HasBlock z t.view page (record h { words = words })
still_held z s t page h words has is long = record {
  held = ap (λ (c : CallerState). c.view.holds.block) is;
  first = has.first;
  some_page = has.some_page;
  near = has.near;
  size = long ∙ has.size;
  plain = ap (λ (c : CallerState). c.view.notes) is;
}

pub held_word : (z : Sizes) (v : View) (page place words k : ℕ) (h : HeldBlock)
    → HasBlock z v page h → place < places page h.log2 → words ≡ z.key_words → k ≤ words
    → IsHeldWord z v page (place * (words + 1) + k)
held_word z v page place words k h has inside is few = record {
  block = h;
  held = has.held;
  first = has.first;
  near = has.near;
  inside = subst (λ n. place * (n + 1) + k < block_words z page h.log2) (sym is)
      (place_inside z page h.log2 place k inside (omega arith));
}

-- the first words of a key were stored from this word of the held block on, and none before it
pub record IsStored (s t : CallerState) (h : HeldBlock) (key : List ℕ) (first i : ℕ) : Type 0 where
  pub words : List ℕ
  pub is : t ≡ with_view s (with_words s.view h words)
  pub long : length words ≡ length h.words
  pub read : (k : ℕ) → k < i → slice_index words (first + k) ≡ slice_index key k
  pub before : (k : ℕ) → k < first → slice_index words k ≡ slice_index h.words k

pub stored_none : (z : Sizes) (s : CallerState) (page : ℕ) (h : HeldBlock) (key : List ℕ) (first : ℕ)
    → HasBlock z s.view page h → IsStored s s h key first 0
stored_none z s page h key first has = record {
  words = h.words;
  is = nothing_stored z s page h has;
  long = refl;
  read = λ k none. absurd (omega arith);
  before = λ k less. refl;
}

-- what a store of word k says of its caller
abbrev pub Stores : CallerState → CallerState → ℕ → ℕ → Type 0
Stores t u k word = (h : HeldBlock) → t.view.holds.block ≡ Some h
    → u ≡ with_view t (holding t.view t.view.holds.store (Some (stored_at h k word)))

-- one more word was stored
store_is : (s t u : CallerState) (h : HeldBlock) (words : List ℕ) (k word : ℕ)
    → t ≡ with_view s (with_words s.view h words) → Stores t u k word
    → u ≡ with_view s (with_words s.view h (set words k word))
store_is s t u h words k word is stores =
    stores (record h { words = words }) (ap (λ (c : CallerState). c.view.holds.block) is)
    ∙ ap (λ (c : CallerState). with_view c (holding c.view c.view.holds.store
    (Some (record h { words = set words k word })))) is

pub stored_more : (s t u : CallerState) (h : HeldBlock) (key : List ℕ) (first i word : ℕ)
    → IsStored s t h key first i → first + i < length h.words → word ≡ slice_index key i
    → Stores t u (first + i) word → IsStored s u h key first (i + 1)
stored_more s t u h key first i word so_far inside is stores = record {
  words = set so_far.words (first + i) word;
  is = store_is s t u h so_far.words (first + i) word so_far.is stores;
  long = length-set so_far.words (first + i) word ∙ so_far.long;
  read = λ k less. ⊎_elim
      (λ (here : k ≡ i). ap (λ n. slice_index (set so_far.words (first + i) word) (first + n)) here
      ∙ get_or-set_same so_far.words (first + i) word 0 (omega (arith, so_far.long)) ∙ is
      ∙ ap (slice_index key) (sym here))
      (λ (there : k ≢ i). get_or-set_other so_far.words (first + i) (first + k) word 0 (λ e. there (omega arith))
      ∙ so_far.read k (omega arith))
      (cases_eq k i);
  before = λ k less. get_or-set_other so_far.words (first + i) k word 0 (omega arith) ∙ so_far.before k less;
}

pub stored_inside : (z : Sizes) (v : View) (page place words k : ℕ) (b h : HeldBlock)
    → HasBlock z v page b → HasBlock z v page h → place < places page b.log2 → words ≡ z.key_words → k ≤ words
    → place * (words + 1) + k < length h.words
stored_inside z v page place words k b h one has inside is few =
    let there : place < places page h.log2 = subst (λ (x : HeldBlock). place < places page x.log2) (same_block one has) inside in
    let at : place * place_words z + k < block_words z page h.log2 = place_inside z page h.log2 place k there (omega arith) in
    subst (λ n. place * (n + 1) + k < length h.words) (sym is)
    (subst (λ n. place * place_words z + k < n) (sym has.size) at)

-- the next word may be stored
pub next_word : (z : Sizes) (s t : CallerState) (page place words i k : ℕ) (h : HeldBlock) (key : List ℕ)
    → HasBlock z s.view page h → place < places page h.log2 → words ≡ z.key_words → k ≤ words
    → IsStored s t h key (place * (words + 1)) i → IsHeldWord z t.view page (place * (words + 1) + k)
next_word z s t page place words i k h key has inside is few stored =
    held_word z t.view page place words k (record h { words = stored.words })
    (still_held z s t page h stored.words has stored.is stored.long) inside is few

pub placed : {A K : Type 0} (g : Ghosts A K) (s t u : CallerState) (page place words count i value : ℕ) (h : HeldBlock)
    (key : K)
    → HasBlock (sizes_of g) s.view page h → place < places page h.log2
    → words ≡ g.WORDS → count ≡ g.WORDS → (value ≢ free → g.WORDS ≤ i)
    → (value ≢ free → length (g.words_of key) ≡ g.WORDS)
    → IsStored s t h (g.words_of key) (place * (words + 1)) i
    → Stores t u (place * (words + 1) + count) value
    → IsPlaced g s u h place key value
placed g s t u page place words count i value h key has inside is same past long stored stores =
    let z : Sizes = sizes_of g in
    let first : ℕ = place * place_words z in
    let first_is : place * (words + 1) ≡ first = ap (λ n. place * (n + 1)) is in
    let at : ℕ = first + g.WORDS in
    let at_is : place * (words + 1) + count ≡ at = omega (arith, first_is) in
    let last : at < block_words z page h.log2 = place_inside z page h.log2 place g.WORDS inside (omega arith) in
    let xs : List ℕ = stored.words in
    let ys : List ℕ = set xs at value in
    let wide : length ys ≡ length xs = length-set xs at value in
    record {
      words = ys;
      is = store_is s t u h xs at value stored.is (subst (λ n. Stores t u n value) at_is stores);
      long = wide ∙ stored.long;
      key_is = λ taken. all_same z ys (g.words_of key) place page h.log2 (wide ∙ stored.long ∙ has.size) inside (long taken) (λ k below.
          get_or-set_other xs at (first + k) value 0 (omega arith)
          ∙ ap (λ n. slice_index xs (n + k)) (sym first_is) ∙ stored.read k (let all = past taken in omega arith));
      value_is = get_or-set_same xs at value 0 (omega (arith, last, has.size, stored.long));
      before = λ k less. get_or-set_other xs at k value 0 (omega arith)
          ∙ stored.before k (omega (arith, first_is));
    }

-- the first places of a block were stored
pub record ArePlaced {A K : Type 0} (g : Ghosts A K) (s t : CallerState) (h : HeldBlock) (ps : List (K × ℕ))
    (i : ℕ) : Type 0 where
  pub words : List ℕ
  pub is : t ≡ with_view s (with_words s.view h words)
  pub long : length words ≡ length h.words
  pub read : AreRead g ps i words

pub placed_none : {A K : Type 0} (g : Ghosts A K) (s : CallerState) (page : ℕ) (h : HeldBlock) (ps : List (K × ℕ))
    → HasBlock (sizes_of g) s.view page h → ArePlaced g s s h ps 0
placed_none g s page h ps has = record {
  words = h.words;
  is = nothing_stored (sizes_of g) s page h has;
  long = refl;
  read = read_none g ps h.words;
}

-- one more place was stored
pub placed_more : {A K : Type 0} (g : Ghosts A K) (s t u : CallerState) (page i : ℕ) (h : HeldBlock)
    (ps : List (K × ℕ)) (pair : K × ℕ)
    → HasBlock (sizes_of g) s.view page h → i < places page h.log2 → slice_get ps i ≡ Some pair
    → (so_far : ArePlaced g s t h ps i)
    → IsPlaced g t u (record h { words = so_far.words }) i pair.0 pair.1 → ArePlaced g s u h ps (i + 1)
placed_more {K = K} g s t u page i h ps pair has inside at so_far more = record {
  words = more.words;
  is = more.is ∙ ap (λ (c : CallerState). with_view c (with_words c.view h more.words)) so_far.is;
  long = more.long ∙ so_far.long;
  read = record {
    key = λ j p less there taken. ⊎_elim
        (λ (here : j ≡ i). ap (key_in (sizes_of g) more.words) here
        ∙ more.key_is (λ vacant. taken (sym (ap (λ q. q.1) (one j p here there)) ∙ vacant))
        ∙ ap (λ q. g.words_of q.0) (one j p here there))
        (λ (before : j ≢ i). same_place_key (sizes_of g) page h.log2 so_far.words more.words j
        (so_far.long ∙ has.size) more.long (omega arith)
        (λ k few. more.before (j * place_words (sizes_of g) + k) (earlier j k (omega arith) few))
        ∙ so_far.read.key j p (omega arith) there taken)
        (cases_eq j i);
    value = λ j p less there. ⊎_elim
        (λ (here : j ≡ i). ap (value_in (sizes_of g) more.words) here ∙ more.value_is
        ∙ ap (λ q. q.1) (one j p here there))
        (λ (before : j ≢ i).
        more.before (j * place_words (sizes_of g) + g.WORDS) (earlier j g.WORDS (omega arith) (omega arith))
        ∙ so_far.read.value j p (omega arith) there)
        (cases_eq j i);
  };
}
  where
    one : (j : ℕ) (p : K × ℕ) → j ≡ i → slice_get ps j ≡ Some p → pair ≡ p
    one j p here there = same_Some pair p (sym at ∙ ap (slice_get ps) (sym here) ∙ there)

    earlier : (j k : ℕ) → j < i → k < place_words (sizes_of g)
        → j * place_words (sizes_of g) + k < i * place_words (sizes_of g)
    earlier j k less few =
        let step : (j + 1) * place_words (sizes_of g) ≤ i * place_words (sizes_of g) =
        mul-le-mul_right (place_words (sizes_of g)) (omega arith) in omega arith

-- all places were stored
pub all_placed : {A K : Type 0} (g : Ghosts A K) (s t : CallerState) (page i : ℕ) (h : HeldBlock) (ps : List (K × ℕ))
    → HasBlock (sizes_of g) s.view page h → length ps ≡ places page h.log2 → length ps ≤ i
    → ArePlaced g s t h ps i
    → (words : List ℕ) × (t ≡ with_view s (with_words s.view h words)) × ArePlaces g ps words
all_placed g s t page i h ps has count past stored = (
  stored.words,
  stored.is,
  record {
    count = stored.long ∙ has.size ∙ words_counted (sizes_of g) page h.log2
        ∙ ap (λ n. n * place_words (sizes_of g)) (sym count);
    key = λ j p at. stored.read.key j p (omega (arith, slice_get_within ps j p at)) at;
    value = λ j p at. stored.read.value j p (omega (arith, slice_get_within ps j p at)) at;
  },
)
