-- Lists of pairs: what one more pair makes of them, and what the places of a block do.
use Rattle.std.proofs.Common.{◌≡◌, ◌∙◌, ◌⊎◌, ℕ, ◌+◌, ◌<◌, Bool, false, List, [], ◌∷◌, ◌++◌, length, get_or, arith, sym, ap, subst, inl, inr, Some}
use lib.ListN.{length-map}
use Rattle.std.proofs.lemmas.Bool.{cases_lt}
use Rattle.std.proofs.lemmas.List.{get_or-map, map-append}
use Rattle.std.proofs.lemmas.List.Elements.{Contains-append_left, Contains-get_or, Contains-push, Contains-push_cases, recursion_from_All}
use Rattle.std.proofs.lemmas.List.Sorted.{Contains-permutation, IsPermutation-map, IsPermutation-sym, IsPermutation-to_front}
use Rattle.std.proofs.lemmas.Map.Keys.{IsDistinct-IsPermutation, IsDistinct-cons}
use Rattle.std.specs.Cmp.{eq_by_cmp_equiv}
use Rattle.std.specs.Cmp.Lexicographic.{nat_list_cmp_total, slice_cmp}
use Rattle.std.specs.FinMap.{get}
use Rattle.std.specs.List.{Contains, IsDistinct}
use Rattle.std.specs.List.Sorted.{IsPermutation, IsSortedBy}
use Rattle.std.specs.Ordering.{eq_by_cmp, is_lt, nat_cmp}
use Rattle.bihash_words.specs.Sizes.{Sizes, sizes_of}
use Rattle.bihash_words.specs.declared.shape.Shape.{Ghosts}
use Rattle.bihash_words.proofs.MapValues.{apart}
use Rattle.bihash_rule.specs.Words.{buckets}
use Rattle.bihash_rule.specs.Histories.{bucket_of}
use Rattle.bihash_rule.specs.Callers.{known_at, opening_at}
use Rattle.bihash_rule.specs.Blocks.{HoldsPair, free, key_in, places, value_in}
use Rattle.bihash_rule.specs.declared.view.Known.{Known}
use Rattle.bihash_rule.specs.declared.view.Extent.{Extent}
use Rattle.bihash_table.specs.Closing.{ArePairsOf, keys_of, map_in}
use Rattle.bihash_table.specs.inner.PairLists.{InBucketsBelow, InPart, InPlacesBelow, IsBlockIn, ListsBuckets, ListsPairs}
use Rattle.bihash_steps.proofs.Homes.{key_home}
use Rattle.bihash_table.proofs.SortedPairs.{sorted_strictly}

-- ---- Any list

abbrev Same : List ℕ → List ℕ → Bool
Same = eq_by_cmp (slice_cmp nat_cmp)

-- one key more, which none of them is
distinct_push : (keys : List (List ℕ)) (key : List ℕ) → IsDistinct Same keys
    → ((i : ℕ) (d : List ℕ) → i < length keys → Same key (get_or keys i d) ≡ false) → IsDistinct Same (keys ++ key ∷ [])
distinct_push keys key once other =
    IsDistinct-IsPermutation Same (eq_by_cmp_equiv nat_list_cmp_total).symm (key ∷ keys) (keys ++ key ∷ [])
    (IsPermutation-sym (keys ++ key ∷ []) (key ∷ keys) (IsPermutation-to_front keys key))
    (IsDistinct-cons Same key keys (recursion_from_All (λ (y : List ℕ). Same key y ≡ false) keys other) once)

module _ {A K : Type 0} (g : Ghosts A K) where
  abbrev sizes : Sizes
  sizes = sizes_of g

  pub lists_none : (has : List ℕ → ℕ → Type 0) → ((key : List ℕ) (value : ℕ) → has key value → ⊥) → ListsPairs g [] has
  unfolding IsDistinct
  lists_none has none = record {
    each = λ p h. absurd (let l = h.1 in omega arith);
    all = λ key value h. absurd (none key value h);
    once = tt;
  }

  lists_same : (ps : List (K × ℕ)) (has has' : List ℕ → ℕ → Type 0)
      → ((key : List ℕ) (value : ℕ) → has key value → has' key value)
      → ((key : List ℕ) (value : ℕ) → has' key value → has key value) → ListsPairs g ps has → ListsPairs g ps has'
  lists_same ps has has' to back l = record {
    each = λ p h. to (g.words_of p.0) p.1 (l.each p h);
    all = λ key value h. l.all key value (back key value h);
    once = l.once;
  }

  -- one pair more, whose key none of them has
  abbrev With : (K × ℕ) → (List ℕ → ℕ → Type 0) → List ℕ → ℕ → Type 0
  With p has key value = has key value ⊎ ((g.words_of p.0 ≡ key) × (p.1 ≡ value))

  no_other : (ps : List (K × ℕ)) (has : List ℕ → ℕ → Type 0) (p q : K × ℕ) → ListsPairs g ps has
      → ((value : ℕ) → has (g.words_of p.0) value → ⊥) → Contains ps q → Same (g.words_of p.0) (g.words_of q.0) ≡ false
  no_other ps has p q l new at = apart (g.words_of p.0) (g.words_of q.0)
      (λ same. new q.1 (subst (λ (key : List ℕ). has key q.1) (sym same) (l.each q at)))

  lists_more : (ps : List (K × ℕ)) (has : List ℕ → ℕ → Type 0) (p : K × ℕ) → ListsPairs g ps has
      → ((value : ℕ) → has (g.words_of p.0) value → ⊥) → ListsPairs g (ps ++ p ∷ []) (With p has)
  lists_more ps has p l new = record {
    each = λ q h. elim (Contains-push_cases ps p q h) [
      | inl old ↦ inl (l.each q old)
      | inr same ↦ inr (ap (λ (x : K × ℕ). g.words_of x.0) same, ap (λ (x : K × ℕ). x.1) same)
    ];
    all = λ key value h. elim h [
      | inl old ↦ let f = l.all key value old in (f.0, Contains-append_left ps (p ∷ []) f.0 f.1, f.2, f.3)
      | inr same ↦ (p, Contains-push ps p, same.0, same.1)
    ];
    once = subst (IsDistinct Same) (sym (map-append (λ (x : K × ℕ). g.words_of x.0) ps (p ∷ [])))
        (distinct_push (keys_of g ps) (g.words_of p.0) l.once (λ i d within.
        let long = length-map ps (λ (x : K × ℕ). g.words_of x.0) in let inside : i < length ps = omega arith in
        subst (λ (key : List ℕ). Same (g.words_of p.0) key ≡ false) (sym (get_or-map (λ (x : K × ℕ). g.words_of x.0) ps i p d inside))
        (no_other ps has p (get_or ps i p) l new (Contains-get_or ps i p inside))));
  }

  -- ---- The places of a block

  module _ (known : Known) (b : ℕ) (e : Extent) (block : List ℕ) where
    pub part_none : (ps : List (K × ℕ)) → ListsPairs g ps (InBucketsBelow sizes known b)
        → ListsPairs g ps (InPart sizes known b e block 0)
    part_none ps = lists_same ps (InBucketsBelow sizes known b) (InPart sizes known b e block 0)
        (λ key value h. inl h) (λ key value h. elim h [ inl low ↦ low | inr here ↦ absurd (let no = here.below in omega arith) ])

    further : (n : ℕ) (key : List ℕ) (value : ℕ) → InPlacesBelow sizes e block n key value
        → InPlacesBelow sizes e block (n + 1) key value
    further n key value here = record {
      place = here.place;
      below = let low = here.below in omega arith;
      at = here.at;
    }

    -- below n, or at n
    before : (n : ℕ) (key : List ℕ) (value : ℕ) → InPlacesBelow sizes e block (n + 1) key value
        → InPlacesBelow sizes e block n key value ⊎ ((here : InPlacesBelow sizes e block (n + 1) key value) × (here.place ≡ n))
    before n key value here = elim (cases_lt here.place n) [
      | inl low ↦ inl (record { place = here.place; below = low; at = here.at })
      | inr high ↦ inr (here, let low = here.below in omega arith)
    ]

    pub part_free : (n : ℕ) (ps : List (K × ℕ)) → value_in sizes block n ≡ free
        → ListsPairs g ps (InPart sizes known b e block n) → ListsPairs g ps (InPart sizes known b e block (n + 1))
    part_free n ps empty = lists_same ps (InPart sizes known b e block n) (InPart sizes known b e block (n + 1))
        (λ key value h. elim h [ inl low ↦ inl low | inr here ↦ inr (further n key value here) ])
        (λ key value h. elim h [
          | inl low ↦ inl low
          | inr here ↦ elim (before n key value here) [
            | inl low ↦ inr low
            | inr (at, is) ↦ absurd (at.at.pair.1 (ap (value_in sizes block) is ∙ empty))
          ]
        ])

    module _ (has : IsBlockIn sizes known b e block) where
      here_home : (key : List ℕ) (value : ℕ) → get (map_in known b) key ≡ Some value → bucket_of sizes key ≡ b
      here_home key value h = key_home sizes b (opening_at known b) (known_at known b) key value has.writes h

      -- no pair so far has the key of the next place
      is_new : (n : ℕ) (p : K × ℕ) → HoldsPair sizes e block (g.words_of p.0) p.1 n → (value : ℕ)
          → InPart sizes known b e block n (g.words_of p.0) value → ⊥
      is_new n p at value (inl low) =
          let here = here_home (g.words_of p.0) p.1 (has.pairs.map.mapped (g.words_of p.0) p.1 n at) in
          let other = low.0 in omega arith
      is_new n p at value (inr here) =
          let same = has.pairs.rule.once (g.words_of p.0) value p.1 here.place n here.at at in let low = here.below in omega arith

      pub part_more : (n : ℕ) (p : K × ℕ) (ps : List (K × ℕ)) → HoldsPair sizes e block (g.words_of p.0) p.1 n
          → ListsPairs g ps (InPart sizes known b e block n) → ListsPairs g (ps ++ p ∷ []) (InPart sizes known b e block (n + 1))
      part_more n p ps at so_far =
          lists_same (ps ++ p ∷ []) (With p (InPart sizes known b e block n)) (InPart sizes known b e block (n + 1))
          (λ key value h. elim h [
            | inl (inl low) ↦ inl low
            | inl (inr here) ↦ inr (further n key value here)
            | inr same ↦ inr (record {
              place = n;
              below = omega arith;
              at = record { pair = at.pair; stands = at.stands ∙ same.0; has = at.has ∙ same.1 };
            })
          ])
          (λ key value h. elim h [
            | inl low ↦ inl (inl low)
            | inr here ↦ elim (before n key value here) [
              | inl low ↦ inl (inr low)
              | inr (late, is) ↦ inr (
                sym at.stands ∙ ap (key_in sizes block) (sym is) ∙ late.at.stands,
                sym at.has ∙ ap (value_in sizes block) (sym is) ∙ late.at.has,
              )
            ]
          ])
          (lists_more ps (InPart sizes known b e block n) p so_far (is_new n p at))

      -- all places of the block give the bucket
      pub part_all : (ps : List (K × ℕ)) → ((c : ℕ) (key : List ℕ) (value : ℕ) → c < b → get (map_in known c) key ≡ Some value
          → bucket_of sizes key ≡ c) → ListsPairs g ps (InPart sizes known b e block (places e.page e.size.log2))
          → ListsBuckets g known (b + 1) ps
      part_all ps homes so_far = record {
        pairs = lists_same ps (InPart sizes known b e block (places e.page e.size.log2)) (InBucketsBelow sizes known (b + 1))
            (λ key value h. elim h [
              | inl low ↦ (let l = low.0 in omega arith, low.1)
              | inr here ↦ in_bucket key value (has.pairs.map.mapped key value here.place here.at)
            ])
            (λ key value h. elim (cases_lt (bucket_of sizes key) b) [
              | inl low ↦ inl (low, h.1)
              | inr high ↦ inr (in_place key value (let l = h.0 in let is : bucket_of sizes key ≡ b = omega arith in
                  subst (λ (c : ℕ). get (map_in known c) key ≡ Some value) is h.1))
            ])
            so_far;
        home = λ c key value low h. elim (cases_lt c b) [
          | inl less ↦ homes c key value less h
          | inr high ↦ let is : c ≡ b = omega arith in
              here_home key value (subst (λ (n : ℕ). get (map_in known n) key ≡ Some value) is h) ∙ sym is
        ];
      }
        where
          in_bucket : (key : List ℕ) (value : ℕ) → get (map_in known b) key ≡ Some value → InBucketsBelow sizes known (b + 1) key value
          in_bucket key value h = let home = here_home key value h in
              (omega arith, subst (λ (c : ℕ). get (map_in known c) key ≡ Some value) (sym home) h)

          in_place : (key : List ℕ) (value : ℕ) → get (map_in known b) key ≡ Some value
              → InPlacesBelow sizes e block (places e.page e.size.log2) key value
          in_place key value h = let found = has.pairs.map.found key value h in
              record { place = found.0; below = found.1.pair.0; at = found.1 }

  -- ---- All buckets

  pub buckets_none : (known : Known) → ListsBuckets g known 0 []
  buckets_none known = record {
    pairs = lists_none (InBucketsBelow sizes known 0) (λ key value h. let l = h.0 in omega arith);
    home = λ b key value low h. absurd (omega arith);
  }

  pub sorted_pairs : (known : Known) (ps qs : List (K × ℕ)) → ListsBuckets g known (buckets sizes) ps → IsPermutation ps qs
      → IsSortedBy (λ p q. is_lt (slice_cmp nat_cmp (g.words_of p.0) (g.words_of q.0))) qs → ArePairsOf g known qs
  sorted_pairs known ps qs l same up = record {
    ascending = sorted_strictly nat_list_cmp_total (λ (p : K × ℕ). g.words_of p.0) qs up
        (IsDistinct-IsPermutation Same (eq_by_cmp_equiv nat_list_cmp_total).symm (keys_of g ps) (keys_of g qs)
        (IsPermutation-map (λ (p : K × ℕ). g.words_of p.0) ps qs same) l.pairs.once);
    stored = λ p at. (l.pairs.each p (Contains-permutation qs ps p (IsPermutation-sym ps qs same) at)).1;
    all = λ b key value inside h.
        let home = l.home b key value inside h in
        let f = l.pairs.all key value (
          subst (λ (c : ℕ). c < buckets sizes) (sym home) inside,
          subst (λ (c : ℕ). get (map_in known c) key ≡ Some value) (sym home) h,
        ) in
        (f.0, Contains-permutation ps qs f.0 same f.1, f.2, f.3);
  }
