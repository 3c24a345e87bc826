-- What calls wanted that were refused for want of a block stays known, and a new call of a caller is told of it.
use Rattle.std.proofs.Common.{◌≡◌, ◌≤◌, ◌⊎◌, ◌∙◌, ℕ, zero, suc, Bool, true, false, cond, List, [], ◌∷◌, ◌++◌, length, map, Option, Some, Result, Ok, Err, IfOk, All, get_or, ap, arith, inl, inr, pow_pos, refl, sym, subst}
use Rattle.std.specs.Prelude.{slice_get, slice_set, count_by, if◌then◌else◌, ◌==◌}
use Rattle.std.specs.FinMap.{get}
use Rattle.std.proofs.Math.Nat.{mod-lt}
use Rattle.std.proofs.lemmas.Bool.{cases_eq}
use Rattle.std.proofs.lemmas.List.{length-map}
use Rattle.std.proofs.lemmas.List.Elements.{All-append, All-cons, All-head, All-nil, All-push, All-tail, All-weaker}
use Rattle.bihash_words.specs.Blocks.{HoldsMap}
use Rattle.bihash_words.specs.Maps.{Answers, Bounds, Event, OldKey, Pairs, WornOut}
use Rattle.bihash_words.specs.Pages.{page_of, paging_of, word_paging}
use Rattle.bihash_words.specs.Patches.{free_mark}
use Rattle.bihash_words.specs.Sizes.{Sizes, bucket_of, sizes_of}
use Rattle.bihash_words.specs.declared.patch.Change.{Change}
use Rattle.bihash_words.specs.declared.patch.Change.TheVariants.{Remove}
use Rattle.bihash_words.specs.declared.patch.Reply.{Reply}
use Rattle.bihash_words.specs.declared.patch.Reply.TheVariants.{NoPages}
use Rattle.bihash_words.specs.declared.shape.Shape.{Ghosts}
use Rattle.bihash_words.proofs.BlockLemmas.{lawful_as}
use Rattle.bihash_plan.specs.Blocks.{HasKey, HasPairAt, IsFree, IsLawfulBlock, IsSized, is_taken, pairs}
use Rattle.bihash_plan.specs.Plans.{HasRoom, IsGrowth, IsLinearSize, IsPlan, IsSplit, NeedsLinear, keys_of}
use Rattle.bihash_plan.specs.declared.plan_answer.Plan.TheVariants.{Grow}
use Rattle.bihash_plan.proofs.Pairs.{count_by-map}
use Rattle.bihash_steps.specs.BucketCalls.{event}
use Rattle.bihash_steps.specs.BucketSteps.{last_call, map_now, push_call}
use Rattle.bihash_rule.specs.Callers.{IsConsistent, IsLawfulCaller, known_at, opening_at, opening_in}
use Rattle.bihash_rule.specs.Histories.{IsPrefix, after, is_changed}
use Rattle.bihash_steps.specs.Steps.{longer, longer_each, view_after_join}
use Rattle.bihash_rule.specs.Views.{empty_record}
use Rattle.bihash_rule.specs.declared.view.Call.{Call}
use Rattle.bihash_rule.specs.declared.view.Known.{Known}
use Rattle.bihash_rule.specs.declared.view.Openings.{Openings}
use Rattle.bihash_rule.specs.declared.view.Record.{Record}
use Rattle.bihash_rule.specs.declared.view.View.{View}
use Rattle.bihash_rule.specs.declared.view.Write.{Write}
use Rattle.bihash_steps.proofs.Homes.{after_home}
use Rattle.bihash_steps.proofs.Prefixes.{after_longer, longer_known, prefix_length, prefix_refl}
use Rattle.bihash_table.specs.Answers.{entry_of, with_locks}
use Rattle.bihash_plan.specs.Wants.{IsPlanned}
use Rattle.bihash_table.specs.OutOfPages.{IsOutOfPages}
use Rattle.bihash_table.specs.Promise.{IsAnswered, IsContended, IsUpdatedOver}
use Rattle.bihash_laws.specs.CallRuns.{IsLawfulAnswer}
use Rattle.bihash_laws.proofs.AnsweredCalls.{continues, legal, openings_same, others_known}
use Rattle.flow_dealing.specs.Wanted.{HasWanted, HaveWanted, WantsBlock}
use Rattle.flow_workers.specs.inner.Fresh.{IsFreshView}
use Rattle.flow_workers.proofs.ShortPackets.{pushed_last}

-- ---- A plan, in words

module _ {A K : Type 0} (g : Ghosts A K) (back : (key : K) → g.key_of (g.words_of key) ≡ key)
    (there : (words : List ℕ) → length words ≡ g.WORDS → g.words_of (g.key_of words) ≡ words) where
  -- a place with the words of its key
  abbrev place_words : K × ℕ → List ℕ × ℕ
  place_words place = (g.words_of place.0, place.1)

  abbrev in_words : List (K × ℕ) → List (List ℕ × ℕ)
  in_words places = map place_words places

  word_at : (places : List (K × ℕ)) (words : List ℕ) (v i : ℕ) → slice_get (in_words places) i ≡ Some (words, v)
      → (key : K) × (slice_get places i ≡ Some (key, v)) × (g.words_of key ≡ words)
  word_at [] words v i at = absurd (let f : ⊥ = cc in f)
  word_at (place ∷ places) words v zero at =
      let mine : List ℕ × ℕ = place_words place in
      let same : mine ≡ (words, v) = cc in
      (place.0, ap (λ n. Some (place.0, n)) (ap (λ p. p.1) same), ap (λ p. p.0) same)
  word_at (place ∷ places) words v (suc i) at = word_at places words v i at

  key_at : (places : List (K × ℕ)) (key : K) (v i : ℕ) → slice_get places i ≡ Some (key, v)
      → slice_get (in_words places) i ≡ Some (g.words_of key, v)
  key_at [] key v i at = absurd (let f : ⊥ = cc in f)
  key_at (place ∷ places) key v zero at =
      let same : place ≡ (key, v) = cc in ap (λ p. Some (place_words p)) same
  key_at (place ∷ places) key v (suc i) at = key_at places key v i at

  -- a pair of words is one of the key of these words
  pair_of_words : (places : List (K × ℕ)) (words : List ℕ) (v i : ℕ) → HasPairAt (in_words places) words v i
      → HasPairAt places (g.key_of words) v i × (g.words_of (g.key_of words) ≡ words)
  pair_of_words places words v i h =
      let k = word_at places words v i h.at in
      let same : k.0 ≡ g.key_of words = sym (back k.0) ∙ ap g.key_of k.2 in (
        record { at = k.1 ∙ ap (λ key. Some (key, v)) same; taken = h.taken },
        ap g.words_of (sym same) ∙ k.2,
      )

  words_of_pair : (places : List (K × ℕ)) (key : K) (v i : ℕ) → HasPairAt places key v i
      → HasPairAt (in_words places) (g.words_of key) v i
  words_of_pair places key v i h = record { at = key_at places key v i h.at; taken = h.taken }

  free_of_words : (places : List (K × ℕ)) (i : ℕ) → IsFree (in_words places) i → IsFree places i
  free_of_words places i h = let k = word_at places h.key free_mark i h.at in record { key = k.0; at = k.1 }

  words_of_free : (places : List (K × ℕ)) (i : ℕ) → IsFree places i → IsFree (in_words places) i
  words_of_free places i h = record { key = g.words_of h.key; at = key_at places h.key free_mark i h.at }

  key_of_words : (places : List (K × ℕ)) (key : K) (i : ℕ) → HasKey (in_words places) (g.words_of key) i
      → HasKey places key i
  key_of_words places key i h = record {
    value = h.value;
    pair = subst (λ (k : K). HasPairAt places k h.value i) (back key)
        (pair_of_words places (g.words_of key) h.value i h.pair).0;
  }

  block_in_words : (log2 : ℕ) (linear : Bool) (places : List (K × ℕ)) → IsLawfulBlock (paging_of g) log2 linear places
      → IsLawfulBlock (word_paging (sizes_of g)) log2 linear (in_words places)
  block_in_words log2 linear places lawful = record {
    sized = subst (IsSized log2) (sym (length-map places place_words)) lawful.sized;
    rule = lawful_as g.key_of lawful.rule lawful.rule.small (λ words v i h.
        let p = pair_of_words places words v i h in
        (p.0, ap (page_of (word_paging (sizes_of g)) log2) p.1));
  }

  map_in_words : (m : Pairs) (places : List (K × ℕ))
      → ((words : List ℕ) (v : ℕ) → get m words ≡ Some v → length words ≡ g.WORDS)
      → HoldsMap g.words_of (HasPairAt places) m → HoldsMap (λ words. words) (HasPairAt (in_words places)) m
  map_in_words m places long holds = record {
    mapped = λ words v i h. let p = pair_of_words places words v i h in
        subst (λ w. get m w ≡ Some v) p.1 (holds.mapped (g.key_of words) v i p.0);
    found = λ words v is.
        let same = there words (long words v is) in
        let f = holds.found (g.key_of words) v (ap (get m) same ∙ is) in
        (f.0, subst (λ w. HasPairAt (in_words places) w v f.0) same (words_of_pair places (g.key_of words) v f.0 f.1));
  }

  keys_in_words : (places : List (K × ℕ)) → keys_of (in_words places) ≡ map g.words_of (keys_of places)
  keys_in_words [] = refl
  keys_in_words (place ∷ places) = go (is_taken place) (keys_in_words places)
    where
      go : (t : Bool) → keys_of (in_words places) ≡ map g.words_of (keys_of places)
          → map (λ p. p.0) (cond t (place_words place ∷ pairs (in_words places)) (pairs (in_words places)))
          ≡ map g.words_of (map (λ p. p.0) (cond t (place ∷ pairs places) (pairs places)))
      go true rest = ap (λ ks. g.words_of place.0 ∷ ks) rest
      go false rest = rest

  -- how many of the keys name a page
  named_in_words : (log2 page : ℕ) (keys : List K)
      → count_by (λ w. page_of (word_paging (sizes_of g)) log2 w == page) (map g.words_of keys)
      ≡ count_by (λ k. page_of (paging_of g) log2 k == page) keys
  named_in_words log2 page keys = count_by-map g.words_of (λ w. page_of (word_paging (sizes_of g)) log2 w == page) keys

  module _ (keys : List K) (words : List (List ℕ)) (same : words ≡ map g.words_of keys) where
    room_in_words : (log2 : ℕ) → HasRoom (paging_of g) keys log2 → HasRoom (word_paging (sizes_of g)) words log2
    room_in_words log2 room = (
      room.0,
      record {
        few = λ page. subst (λ ws. count_by (λ w. page_of (word_paging (sizes_of g)) log2 w == page) ws ≤ 4)
            (sym same) (subst (λ n. n ≤ 4) (sym (named_in_words log2 page keys)) (room.1.few page));
      },
    )

    room_of_words : (log2 : ℕ) → HasRoom (word_paging (sizes_of g)) words log2 → HasRoom (paging_of g) keys log2
    room_of_words log2 room = (
      room.0,
      record {
        few = λ page. subst (λ n. n ≤ 4) (named_in_words log2 page keys)
            (subst (λ ws. count_by (λ w. page_of (word_paging (sizes_of g)) log2 w == page) ws ≤ 4) same
            (room.1.few page));
      },
    )

    split_in_words : (log2 size : ℕ) → IsSplit (paging_of g) log2 keys size
        → IsSplit (word_paging (sizes_of g)) log2 words size
    split_in_words log2 size split = (
      room_in_words size split.0,
      elim split.1 [
        | inl twice ↦ inl twice
        | inr more ↦ inr (more.0, λ room. more.1 (room_of_words _ room))
      ],
    )

    linear_in_words : (log2 : ℕ) → NeedsLinear (paging_of g) log2 keys → NeedsLinear (word_paging (sizes_of g)) log2 words
    linear_in_words log2 needs = (λ room. needs.0 (room_of_words _ room), λ room. needs.1 (room_of_words _ room))

  linear_size_in_words : (log2 : ℕ) (linear : Bool) (places : List (K × ℕ)) (size : ℕ)
      → IsLinearSize (paging_of g) log2 linear places size
      → IsLinearSize (word_paging (sizes_of g)) log2 linear (in_words places) size
  linear_size_in_words log2 linear places size is = elim is [
    | inl twice ↦ inl twice
    | inr most ↦ inr (most.0, (most.1.0, most.1.1, (most.1.2.0, words_of_free places most.1.2.0 most.1.2.1)))
  ]

  growth_in_words : (log2 : ℕ) (linear : Bool) (places : List (K × ℕ)) (key : K) (size : ℕ) (mark : Bool)
      → IsGrowth (paging_of g) log2 linear places key size mark
      → IsGrowth (word_paging (sizes_of g)) log2 linear (in_words places) (g.words_of key) size mark
  growth_in_words log2 linear [] key size mark growth = growth
  growth_in_words log2 linear (place ∷ places) key size false growth =
      split_in_words (key ∷ keys_of (place ∷ places)) _
      (ap (λ ws. g.words_of key ∷ ws) (keys_in_words (place ∷ places))) log2 size growth
  growth_in_words log2 linear (place ∷ places) key size true growth = (
    linear_in_words (key ∷ keys_of (place ∷ places)) _
        (ap (λ ws. g.words_of key ∷ ws) (keys_in_words (place ∷ places))) log2 growth.0,
    linear_size_in_words log2 linear (place ∷ places) size growth.1,
  )

  -- a key that was planned a block wants it
  wants_planned : (m : Pairs) (key : K) (words : List ℕ) (log2 : ℕ) (linear : Bool) → g.words_of key ≡ words
      → ((w : List ℕ) (v : ℕ) → get m w ≡ Some v → length w ≡ g.WORDS)
      → IsPlanned g m key (record { log2 = log2; linear = linear }) → WantsBlock (sizes_of g) m words log2
  wants_planned m key words log2 linear same long p = record {
    places = in_words p.places;
    was = p.was;
    linear = linear;
    lawful = block_in_words p.was.log2 p.was.linear p.places p.lawful;
    map = map_in_words m p.places long p.map;
    plan = subst (λ w. IsPlan (word_paging (sizes_of g)) p.was.log2 p.was.linear (in_words p.places) w
        (Grow (record { log2 = log2; linear = linear }))) same (
          (λ i has. p.plan.0 i (key_of_words p.places key i has)),
          (λ i reached vacant. p.plan.1 i reached (free_of_words p.places i vacant)),
          growth_in_words p.was.log2 p.was.linear p.places key log2 linear p.plan.2,
        );
  }

-- ---- More is known

-- the same beginnings, and as many writes of each bucket or more
record Grows (k m : Known) : Type 0 where
  openings : m.openings ≡ k.openings
  each : (b : ℕ) → IsPrefix (known_at k b) (known_at m b)

still_wanted : (z : Sizes) (k m : Known) → Grows k m → (c : Call) → HasWanted z k c → HasWanted z m c
still_wanted z k m grows c had log2 left is = let at = had log2 left is in (
  (let few = at.0 in let more = prefix_length _ _ (grows.each c.bucket) in omega arith),
  subst (λ x. WantsBlock z x c.key log2)
      (sym (ap (λ (o : Openings). after (opening_in o c.bucket) (known_at m c.bucket) c.stamp) grows.openings
      ∙ after_longer (opening_at k c.bucket) _ _ c.stamp (grows.each c.bucket) at.0)) at.1,
)

all_still : (z : Sizes) (k m : Known) → Grows k m → (rs : List Record)
    → All (λ r. All (HasWanted z k) r.calls) rs → All (λ r. All (HasWanted z m) r.calls) rs
all_still z k m grows rs had =
    All-weaker _ _ (λ (r : Record) calls. All-weaker _ _ (λ c is. still_wanted z k m grows c is) r.calls calls) rs had

-- ---- Callers that begin, and that are joined

pub fresh_wanted : (z : Sizes) (v : View) → IsFreshView v → HaveWanted z v
fresh_wanted z v fresh = subst (All (λ r. All (HasWanted z v.known) r.calls)) (sym fresh.records)
    (All-cons (λ r. All (HasWanted z v.known) r.calls) (empty_record fresh.number) []
    (All-nil (HasWanted z v.known)) (All-nil (λ r. All (HasWanted z v.known) r.calls)))

-- the longer of two lists of which the one begins the other continues both
longer_continues : (xs ys : List Write) → IsPrefix xs ys ⊎ IsPrefix ys xs
    → IsPrefix xs (longer xs ys) × IsPrefix ys (longer xs ys)
longer_continues xs ys (inl begins) =
    let l = longer_known (xs ∷ []) (ys ∷ []) 0 ys refl begins (prefix_refl ys) in (l.0, l.1)
longer_continues xs ys (inr begins) =
    let l = longer_known (xs ∷ []) (ys ∷ []) 0 xs refl (prefix_refl xs) begins in (l.0, l.1)

longer_each_continues : (xss yss : List (List Write)) (b : ℕ)
    → IsPrefix (get_or xss b []) (get_or yss b []) ⊎ IsPrefix (get_or yss b []) (get_or xss b [])
    → IsPrefix (get_or xss b []) (get_or (longer_each xss yss) b [])
    × IsPrefix (get_or yss b []) (get_or (longer_each xss yss) b [])
longer_each_continues [] yss b one = (record { rest = get_or yss b []; whole = refl }, prefix_refl (get_or yss b []))
longer_each_continues (xs ∷ xss) [] b one =
    (prefix_refl (get_or (xs ∷ xss) b []), record { rest = get_or (xs ∷ xss) b []; whole = refl })
longer_each_continues (xs ∷ xss) (ys ∷ yss) zero one = longer_continues xs ys one
longer_each_continues (xs ∷ xss) (ys ∷ yss) (suc b) one = longer_each_continues xss yss b one

pub joined_wanted : (z : Sizes) (v w : View) → IsConsistent v.known w.known → HaveWanted z v → HaveWanted z w
    → HaveWanted z (view_after_join v w)
joined_wanted z v w agree one other =
    All-append (λ r. All (HasWanted z (view_after_join v w).known) r.calls) v.records w.records
    (all_still z v.known (view_after_join v w).known (record {
      openings = refl;
      each = λ b. (longer_each_continues v.known.writes w.known.writes b (agree.1 b)).0;
    }) v.records one)
    (all_still z w.known (view_after_join v w).known (record {
      openings = agree.0;
      each = λ b. (longer_each_continues v.known.writes w.known.writes b (agree.1 b)).1;
    }) w.records other)

-- ---- One call more

all_pushed : (P : Call → Type 0) (c : Call) (locks : ℕ) (rs : List Record) → All (λ r. All P r.calls) rs → P c
    → All (λ r. All P r.calls) (push_call c (with_locks locks rs))
all_pushed P c locks [] all one = All-nil (λ r. All P r.calls)
all_pushed P c locks (r ∷ rs) all one =
    All-cons (λ r. All P r.calls) (record r { calls = r.calls ++ c ∷ []; locks = locks }) rs
    (All-push P r.calls c (All-head (λ r. All P r.calls) r rs all) one) (All-tail (λ r. All P r.calls) r rs all)

answered_grows : (z : Sizes) (v w : View) (e : Event) → IsAnswered z v w e → IsLawfulCaller z w
    → Grows v.known w.known
answered_grows z v w e answered lawful = record {
  openings = openings_same z (bucket_of z e.key) v w e is;
  each = λ b. elim (cases_eq b (bucket_of z e.key)) [
    | inl here ↦ subst (λ c. IsPrefix (known_at v.known c) (known_at w.known c)) (sym here)
        (continues z (bucket_of z e.key) v w e is)
    | inr other ↦ subst (λ ws. IsPrefix (known_at v.known b) ws)
        (sym (others_known z (bucket_of z e.key) v w e is b other)) (prefix_refl (known_at v.known b))
  ];
}
  where
    is : IsLawfulAnswer z (bucket_of z e.key) v w e
    is = record { home = refl; answered = answered; lawful = lawful }

-- a call was answered, and wanted the block if it was refused for want of one
push_wanted : (z : Sizes) (v w : View) (e : Event) (answered : IsAnswered z v w e) → IsLawfulCaller z w
    → HasWanted z w.known (entry_of z (length answered.history) e answered.noted) → HaveWanted z v → HaveWanted z w
push_wanted z v w e answered lawful wanted had =
    subst (All (λ r. All (HasWanted z w.known) r.calls)) (sym answered.records)
    (all_pushed (HasWanted z w.known) (entry_of z (length answered.history) e answered.noted) answered.locks v.records
    (all_still z v.known w.known (answered_grows z v w e answered lawful) v.records had) wanted)

-- the call of a key was answered so, and its caller is lawful then
keep_wanted : {A K : Type 0} (g : Ghosts A K) → ((key : K) → g.key_of (g.words_of key) ≡ key)
    → ((words : List ℕ) → length words ≡ g.WORDS → g.words_of (g.key_of words) ≡ words)
    → (v w : View) (e : Event) (key : K) → g.words_of key ≡ e.key → IsAnswered (sizes_of g) v w e
    → IsLawfulCaller (sizes_of g) w
    → ((log2 left : ℕ) → e.reply ≡ NoPages log2 left
    → IsOutOfPages g w (bucket_of (sizes_of g) (g.words_of key)) key log2 left)
    → HaveWanted (sizes_of g) v → HaveWanted (sizes_of g) w
keep_wanted g back there v w e key same answered lawful short had = push_wanted z v w e answered lawful wanted had
  where
    z : Sizes
    z = sizes_of g

    entry : Call
    entry = entry_of z (length answered.history) e answered.noted

    b : ℕ
    b = bucket_of z e.key

    long : (words : List ℕ) (value : ℕ) → get (map_now w b) words ≡ Some value → length words ≡ g.WORDS
    long words value stands =
        (after_home z b (opening_at w.known b) (known_at w.known b) words value
        (lawful.lists b (mod-lt (z.hash e.key) (let p = pow_pos z.log2_buckets in omega arith))) stands).long

    wanted : HasWanted z w.known entry
    wanted log2 left is =
        let o : IsOutOfPages g w b key log2 left =
        subst (λ words. IsOutOfPages g w (bucket_of z words) key log2 left) same (short log2 left is) in
        let last = ap last_call answered.records
        ∙ pushed_last entry (with_locks answered.locks v.records)
        (subst (λ rs. 1 ≤ length rs) answered.records lawful.acts) in
        let stamp : entry.stamp ≡ length (known_at w.known b) = (o.bears entry last).0 in (
          omega arith,
          subst (λ n. WantsBlock z (after (opening_at w.known b) (known_at w.known b) n) e.key log2) (sym stamp)
              (wants_planned g back there (map_now w b) key e.key log2 o.linear same long o.planned),
        )

-- a removal was answered, which is never refused for want of a block
pub removal_keeps_wanted : (z : Sizes) (v w : View) (key : List ℕ) (value : ℕ) (reply : Reply)
    → IsAnswered z v w (event key (Some value) Remove reply) → IsLawfulCaller z w → HaveWanted z v → HaveWanted z w
removal_keeps_wanted z v w key value reply answered lawful had =
    push_wanted z v w e answered lawful (λ log2 left refused. absurd (never log2 left refused)) had
  where
    e : Event
    e = event key (Some value) Remove reply

    is : IsLawfulAnswer z (bucket_of z key) v w e
    is = record { home = refl; answered = answered; lawful = lawful }

    none : (b : Bounds) (m m' : Pairs) (log2 left : ℕ) → reply ≡ NoPages log2 left → (t : Bool)
        → Answers (if t then OldKey else WornOut) b m e m' → ⊥
    none b m m' log2 left refused true answers = let told = answers.0 in cc
    none b m m' log2 left refused false answers = let told = answers.0 in cc

    never : (log2 left : ℕ) → reply ≡ NoPages log2 left → ⊥
    never log2 left refused =
        let answer = (legal z (bucket_of z key) v w e is).other (ap is_changed refused) in
        none _ _ answer.0 log2 left refused _ answer.1.answers

-- a look was answered without an entry: more may be known of a bucket's writes
learned_grows : (z : Sizes) (v w : View) (b : ℕ) → IsContended z v w b → Grows v.known w.known
learned_grows z v w b learned = record {
  openings = ap (λ (k : Known). k.openings) learned.known;
  each = λ c. subst (λ (k : Known). IsPrefix (known_at v.known c) (known_at k c)) (sym learned.known)
      (set_continues v.known.writes b c learned.history learned.begins);
}
  where
    set_continues : (xss : List (List Write)) (at other : ℕ) (ys : List Write) → IsPrefix (get_or xss at []) ys
        → IsPrefix (get_or xss other []) (get_or (slice_set xss at ys) other [])
    set_continues [] at other ys begins = prefix_refl []
    set_continues (xs ∷ xss) zero zero ys begins = begins
    set_continues (xs ∷ xss) zero (suc other) ys begins = prefix_refl (get_or xss other [])
    set_continues (xs ∷ xss) (suc at) zero ys begins = prefix_refl xs
    set_continues (xs ∷ xss) (suc at) (suc other) ys begins = set_continues xss at other ys begins

pub look_keeps_wanted : (z : Sizes) (v w : View) (b : ℕ) → IsContended z v w b → HaveWanted z v → HaveWanted z w
look_keeps_wanted z v w b learned had =
    subst (All (λ r. All (HasWanted z w.known) r.calls)) (sym learned.records)
    (locked v.records (all_still z v.known w.known (learned_grows z v w b learned) v.records had))
  where
    locked : (rs : List Record) → All (λ r. All (HasWanted z w.known) r.calls) rs
        → All (λ r. All (HasWanted z w.known) r.calls) (with_locks learned.locks rs)
    locked [] all = all
    locked (r ∷ rs) all = All-cons (λ r. All (HasWanted z w.known) r.calls) (record r { locks = learned.locks }) rs
        (All-head (λ r. All (HasWanted z w.known) r.calls) r rs all) (All-tail (λ r. All (HasWanted z w.known) r.calls) r rs all)

-- an update was answered so
pub update_keeps_wanted : {A K : Type 0} (g : Ghosts A K) → ((key : K) → g.key_of (g.words_of key) ≡ key)
    → ((words : List ℕ) → length words ≡ g.WORDS → g.words_of (g.key_of words) ≡ words)
    → (v w : View) (key : K) (decision : Option ℕ → Change) (is_expired : ℕ → Bool) (reply : Reply)
    → IsUpdatedOver (sizes_of g) v w (g.words_of key) decision is_expired reply → IsLawfulCaller (sizes_of g) w
    → ((log2 left : ℕ) → reply ≡ NoPages log2 left
    → IsOutOfPages g w (bucket_of (sizes_of g) (g.words_of key)) key log2 left)
    → HaveWanted (sizes_of g) v → HaveWanted (sizes_of g) w
update_keeps_wanted g back there v w key decision is_expired reply updated lawful short =
    keep_wanted g back there v w _ key refl updated.answered.answered lawful short

-- what two clauses of an answered try tell together
pub if_both : {T E : Type 0} (P Q R : T → Type 0) (r : Result T E) → ((x : T) → P x → Q x → R x) → IfOk r P → IfOk r Q
    → IfOk r R
if_both P Q R (Ok x) f p q = f x p q
if_both P Q R (Err e) f p q = tt
