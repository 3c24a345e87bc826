-- How one rule after the other is left out.
use Rattle.std.proofs.Common.{◌≡◌, ◌≢◌, ◌≤◌, ◌<◌, ◌⊎◌, ◌∙◌, ℕ, zero, suc, ◌+◌, Bool, List, [], ◌∷◌, ◌++◌, Global, Option, Some, None, Vec, All, below_more, length, map, take, get_or, arith, refl, sym, ap, subst, inl, inr}
use Rattle.std.specs.Prelude.{Contains, option_map, slice_get}
use Rattle.std.proofs.lemmas.Bool.{cases_lt}
use Rattle.std.proofs.lemmas.List.{length-take, length_push, map_more, map_push, take-append-le, take_all}
use Rattle.std.proofs.lemmas.List.Elements.{All-cons, All-contains, All-nil, All-pop, All-push, All-weaker, Contains-append_cases, Contains-append_left, Contains-append_right, Contains-get_or, Contains-push, Contains-push_cases}
use Rattle.std.proofs.lemmas.Option.{get_or_from_slice_get, none-some, same_Some, slice_get-get_or, slice_get-map, slice_get_within}
use Rattle.packet_view.specs.Tuples.{TupleFacts, tuple_facts}
use Rattle.acl_policy.specs.Rules.{RuleFacts}
use Rattle.rule_cover.specs.Covers.{IsCover, IsLeft, IsMarked, IsNeeded, IsTakenByMarked}
use Rattle.rule_cover.specs.declared.uncovered_packets.Cover.{Cover}
use Rattle.rule_cover.specs.declared.uncovered_packets.Cover.TheVariants.{Left, Taken, Unknown}
use Rattle.rule_cover.specs.inner.Takers.{AreAt, AreMarkedIn, AreTried}

-- an element is at a place, and what is at a place is an element
at_of : {X : Type 0} (xs : List X) (x : X) → Contains xs x → (i : ℕ) × (slice_get xs i ≡ Some x)
at_of xs x (i, within, same) = (i, slice_get-get_or xs i x within ∙ ap (λ y. Some y) same)

pub of_at : {X : Type 0} (xs : List X) (i : ℕ) (x : X) → slice_get xs i ≡ Some x → Contains xs x
of_at xs i x is = (i, slice_get_within xs i x is, get_or_from_slice_get xs i x x is)

all_of : {X : Type 0} (P : X → Type 0) (xs : List X) → ((x : X) → Contains xs x → P x) → All P xs
all_of P xs each = λ i d within. each (get_or xs i d) (Contains-get_or xs i d within)

-- the last element stands first
to_first : {X : Type 0} (xs : List X) (x y : X) → Contains (xs ++ x ∷ []) y → Contains (x ∷ xs) y
to_first xs x y is = elim (Contains-append_cases xs (x ∷ []) y is) [
  | inl before ↦ Contains-append_right (x ∷ []) xs y before
  | inr last ↦ Contains-append_left (x ∷ []) xs y last
]

to_last : {X : Type 0} (xs : List X) (x y : X) → Contains (x ∷ xs) y → Contains (xs ++ x ∷ []) y
to_last xs x y is = elim (Contains-append_cases (x ∷ []) xs y is) [
  | inl first ↦ Contains-append_right xs (x ∷ []) y first
  | inr behind ↦ Contains-append_left xs (x ∷ []) y behind
]

-- the rules at places
at_place : (rules : List RuleFacts) (places : List ℕ) (others : List RuleFacts) (i : ℕ) (rule : RuleFacts) → AreAt rules places others → slice_get others i ≡ Some rule
    → (k : ℕ) × (slice_get places i ≡ Some k) × (slice_get rules k ≡ Some rule)
at_place rules places others i rule are at =
    go (slice_get places i) refl
    (sym (slice_get-map (slice_get rules) places i) ∙ ap (λ (xs : List _). slice_get xs i) (sym are.same) ∙ slice_get-map (λ (r : RuleFacts). Some r) others i
    ∙ ap (option_map (λ (r : RuleFacts). Some r)) at)
  where
    go : (o : Option ℕ) → slice_get places i ≡ o → option_map (slice_get rules) o ≡ Some (Some rule) → (k : ℕ) × (slice_get places i ≡ Some k) × (slice_get rules k ≡ Some rule)
    go None is same = absurd (none-some _ same)
    go (Some k) is same = (k, is, same_Some _ _ same)

other_there : (rules : List RuleFacts) (places : List ℕ) (others : List RuleFacts) (k : ℕ) (rule : RuleFacts) → AreAt rules places others → Contains places k
    → slice_get rules k ≡ Some rule → (i : ℕ) × (slice_get others i ≡ Some rule)
other_there rules places others k rule are in_them at =
    let there = at_of places k in_them in
    go there.0 (slice_get others there.0) refl
    (sym (slice_get-map (λ (r : RuleFacts). Some r) others there.0) ∙ ap (λ (xs : List _). slice_get xs there.0) are.same ∙ slice_get-map (slice_get rules) places there.0
    ∙ ap (option_map (slice_get rules)) there.1 ∙ ap (λ o. Some o) at)
  where
    go : (i : ℕ) (o : Option RuleFacts) → slice_get others i ≡ o → option_map (λ (r : RuleFacts). Some r) o ≡ Some (Some rule) → (i : ℕ) × (slice_get others i ≡ Some rule)
    go i None is same = absurd (none-some _ same)
    go i (Some r) is same = (i, is ∙ same_Some _ _ same)

pub at_none : (rules : List RuleFacts) (others : List RuleFacts) → others ≡ [] → AreAt rules [] others
at_none rules others none = record { same = ap (map (λ (r : RuleFacts). Some r)) none }

pub at_more : (rules : List RuleFacts) (places : List ℕ) (i : ℕ) (others : List RuleFacts) (rule : RuleFacts) → i < length places
    → slice_get rules (get_or places i 0) ≡ Some rule → AreAt rules (take i places) others → AreAt rules (take (i + 1) places) (others ++ rule ∷ [])
at_more rules places i others rule within at are = record {
  same = map_push (λ (r : RuleFacts). Some r) others rule
      ∙ ap (λ (xs : List (Option RuleFacts)). xs ++ Some rule ∷ []) are.same
      ∙ ap (λ (o : Option RuleFacts). map (slice_get rules) (take i places) ++ o ∷ []) (sym at)
      ∙ sym (map_more (slice_get rules) places i 0 within);
}

-- places that stay
pub stay_none : (first : ℕ) (marks : List Bool) (stay : List ℕ) → stay ≡ [] → AreMarkedIn [] first marks stay
stay_none first marks stay none = record {
  front = ap (take first) none;
  fewer = omega (arith, ap length none);
  only = λ k in_it. subst (λ (xs : List ℕ). Contains xs k) none in_it;
  every = λ i k marked at. absurd (none-some _ at);
}

push_cases : (xs : List ℕ) (x i k : ℕ) → slice_get (xs ++ x ∷ []) i ≡ Some k → (slice_get xs i ≡ Some k) ⊎ ((i ≡ length xs) × (x ≡ k))
push_cases [] x zero k at = inr (refl, same_Some _ _ at)
push_cases [] x (suc i) k at = absurd (none-some _ at)
push_cases (y ∷ ys) x zero k at = inl at
push_cases (y ∷ ys) x (suc i) k at = elim (push_cases ys x i k at) [ inl before ↦ inl before | inr last ↦ inr (omega (arith, last.0), last.1) ]

front_pushed : (places : List ℕ) (first : ℕ) (stay : List ℕ) (x : ℕ) → take first stay ≡ take first places → length stay ≤ length places
    → take first (stay ++ x ∷ []) ≡ take first (places ++ x ∷ [])
front_pushed places first stay x front fewer = elim (cases_lt (length stay) first) [
  | inl short ↦
      let all : stay ≡ take first places = sym (take_all first stay (omega arith)) ∙ front in
      let sizes = ap length all ∙ length-take first places in
      let whole : take first places ≡ places = take_all first places (omega arith) in
      ap (λ (xs : List ℕ). take first (xs ++ x ∷ [])) (all ∙ whole)
  | inr long ↦ take-append-le first stay (x ∷ []) long ∙ front ∙ sym (take-append-le first places (x ∷ []) (omega arith))
]

pub stay_pushed : (places : List ℕ) (first : ℕ) (marks : List Bool) (stay : List ℕ) (x : ℕ) → AreMarkedIn places first marks stay
    → AreMarkedIn (places ++ x ∷ []) first marks (stay ++ x ∷ [])
stay_pushed places first marks stay x are = record {
  front = front_pushed places first stay x are.front are.fewer;
  fewer = omega (arith, are.fewer, length_push stay x, length_push places x);
  only = λ k in_it. elim (Contains-push_cases stay x k in_it) [
    | inl before ↦ Contains-append_left places (x ∷ []) k (are.only k before)
    | inr last ↦ subst (Contains (places ++ x ∷ [])) last (Contains-push places x)
  ];
  every = λ i k marked at. elim (push_cases places x i k at) [
    | inl before ↦ Contains-append_left stay (x ∷ []) k (are.every i k marked before)
    | inr last ↦ subst (Contains (stay ++ x ∷ [])) last.1 (Contains-push stay x)
  ];
}

pub stay_without : (places : List ℕ) (first : ℕ) (marks : List Bool) (stay : List ℕ) (x : ℕ) → AreMarkedIn places first marks stay → first ≤ length places
    → (IsMarked marks (length places) → ⊥) → AreMarkedIn (places ++ x ∷ []) first marks stay
stay_without places first marks stay x are within not = record {
  front = are.front ∙ sym (take-append-le first places (x ∷ []) within);
  fewer = omega (arith, are.fewer, length_push places x);
  only = λ k in_it. Contains-append_left places (x ∷ []) k (are.only k in_it);
  every = λ i k marked at. elim (push_cases places x i k at) [
    | inl before ↦ are.every i k marked before
    | inr last ↦ absurd (not (subst (IsMarked marks) last.0 marked))
  ];
}

-- the marked places, up to one more
pub marked_passed : (marks : List Bool) (places : List ℕ) (place : ℕ) → (IsMarked marks place → ⊥) → ((k : ℕ) → k < place → IsMarked marks k → Contains places k)
    → (k : ℕ) → k < place + 1 → IsMarked marks k → Contains places k
marked_passed marks places place not every = below_more (λ (k : ℕ). IsMarked marks k → Contains places k) place every (λ marked. absurd (not marked))

pub marked_pushed : (marks : List Bool) (old new : List ℕ) (place : ℕ) → place < length marks → All (λ k. k < length marks) old
    → ((k : ℕ) → k < place → IsMarked marks k → Contains old k) → new ≡ old ++ place ∷ []
    → All (λ k. k < length marks) new × ((k : ℕ) → k < place + 1 → IsMarked marks k → Contains new k)
marked_pushed marks old new place within each every same = (
  subst (All (λ k. k < length marks)) (sym same) (All-push (λ k. k < length marks) old place each within),
  below_more (λ (k : ℕ). IsMarked marks k → Contains new k) place
      (λ k less marked. subst (λ (xs : List ℕ). Contains xs k) (sym same) (Contains-append_left old (place ∷ []) k (every k less marked)))
      (λ marked. subst (λ (xs : List ℕ). Contains xs place) (sym same) (Contains-push old place)),
)

-- a rule that is needed among some is needed among fewer
needed_of : (rule : RuleFacts) (rules : List RuleFacts) (old new : List ℕ) → ((k : ℕ) → Contains new k → Contains old k)
    → (place : ℕ) → IsNeeded rule rules old place → IsNeeded rule rules new place
needed_of rule rules old new only place needed = record {
  tuple = needed.tuple;
  packet = needed.packet;
  is = needed.is;
  alone = λ k other in_it not at. needed.alone k other (only k in_it) not at;
}

-- a packet is left where a rule is left out
pub left_needs : (rule : RuleFacts) (rules : List RuleFacts) (places : List ℕ) (place : ℕ) (others : List RuleFacts) (tuple : TupleFacts) → AreAt rules places others
    → IsLeft rule rule others tuple → IsNeeded rule rules (place ∷ places) place
left_needs rule rules places place others tuple are left = record {
  tuple = tuple;
  packet = left.packet;
  is = left.one;
  alone = λ k other in_it not at. elim (Contains-append_cases (place ∷ []) places k in_it) [
    | inl first ↦ elim (Contains-push_cases [] place k first) [
      | inl nothing ↦ absurd (omega (arith, nothing.1))
      | inr same ↦ absurd (not (sym same))
    ]
    | inr behind ↦ let it = other_there rules places others k other are behind at in left.none it.0 other it.1
  ];
}

-- so the rule is needed where the others weren't found to take all, and a test is left
pub is_needed : (rule : RuleFacts) (rules : List RuleFacts) (places : List ℕ) (place : ℕ) (others : List RuleFacts) (cover : Cover) (tests : ℕ)
    → AreAt rules places others → IsCover rule rule others cover → ((marks : Vec Bool Global) → cover ≡ Taken marks → ⊥) → (cover ≡ Unknown → tests ≡ 0)
    → tests ≢ 0 → IsNeeded rule rules (place ∷ places) place
is_needed rule rules places place others (Left tuple) tests are is not none left = left_needs rule rules places place others (tuple_facts tuple) are is
is_needed rule rules places place others (Taken marks) tests are is not none left = absurd (not marks refl)
is_needed rule rules places place others Unknown tests are is not none left = absurd (left (none refl))

-- the last rule is put first
pub put_first : (rule : RuleFacts) (rules : List RuleFacts) (tests fewer : ℕ) (old places : List ℕ) (place tried : ℕ) → old ≡ places ++ place ∷ []
    → tried < length old → fewer ≤ tests → AreTried rule rules tests old tried → (fewer ≢ 0 → IsNeeded rule rules (place ∷ places) place)
    → (length (place ∷ places) ≡ length old) × AreTried rule rules fewer (place ∷ places) (tried + 1)
put_first rule rules tests fewer old places place tried same some less are needed =
    let sizes = ap length same ∙ length_push places place in
    let parts = All-pop (λ k. k < length rules) old places (Some place) same are.within in
    let into : (k : ℕ) → Contains old k → Contains (place ∷ places) k = λ k in_it. to_first places place k (subst (λ (xs : List ℕ). Contains xs k) same in_it) in
    let back : (k : ℕ) → Contains (place ∷ places) k → Contains old k = λ k in_it. subst (λ (xs : List ℕ). Contains xs k) (sym same) (to_last places place k in_it) in
    let front : take tried old ≡ take tried places = ap (take tried) same ∙ take-append-le tried places (place ∷ []) (omega arith) in (
      omega arith,
      record {
        within = All-cons (λ k. k < length rules) place places parts.1 parts.0;
        taken = λ tuple packet one two. let it = are.taken tuple packet one two in (it.0, it.1, into it.0 it.2, it.3, it.4);
        count = omega arith;
        needed = λ left.
            let N = IsNeeded rule rules (place ∷ places) in
            let before = All-weaker (IsNeeded rule rules old) N (needed_of rule rules old (place ∷ places) back) (take tried old) (are.needed (λ none. left (omega arith))) in
            let first : take (tried + 1) (place ∷ places) ≡ place ∷ take tried places = let e : tried + 1 ≡ suc tried = omega arith in ap (λ n. take n (place ∷ places)) e in
            subst (All N) (sym first) (All-cons N place (take tried places) (needed left) (subst (All N) front before));
      },
    )

-- rules are left out
pub left_out : (rule : RuleFacts) (rules : List RuleFacts) (tests fewer : ℕ) (old places : List ℕ) (place tried : ℕ) (others : List RuleFacts) (marks : List Bool) (new : List ℕ)
    → old ≡ places ++ place ∷ [] → tried < length old → fewer ≤ tests → AreTried rule rules tests old tried → AreAt rules places others
    → IsTakenByMarked rule rule others marks → AreMarkedIn places tried marks new
    → (length new < length old) × AreTried rule rules fewer new tried
left_out rule rules tests fewer old places place tried others marks new same some less are at taken stay =
    let sizes = ap length same ∙ length_push places place in
    let parts = All-pop (λ k. k < length rules) old places (Some place) same are.within in
    let front : take tried new ≡ take tried old = stay.front ∙ sym (ap (take tried) same ∙ take-append-le tried places (place ∷ []) (omega arith)) in
    let counts = sym (length-take tried new) ∙ ap length stay.front ∙ length-take tried places in
    let back : (k : ℕ) → Contains new k → Contains old k =
    λ k in_it. subst (λ (xs : List ℕ). Contains xs k) (sym same) (Contains-append_left places (place ∷ []) k (stay.only k in_it)) in (
      omega (arith, stay.fewer, sizes),
      record {
        within = all_of (λ k. k < length rules) new (λ k in_it. All-contains (λ k. k < length rules) places k parts.0 (stay.only k in_it));
        taken = λ tuple packet one two.
            let it = taken.taken tuple packet one two in
            let there = at_place rules places others it.0 it.1 at it.3 in
            (there.0, it.1, stay.every it.0 there.0 it.2 there.1, there.2, it.4);
        count = omega arith;
        needed = λ left.
            let N = IsNeeded rule rules new in
            subst (All N) (sym front)
            (All-weaker (IsNeeded rule rules old) N (needed_of rule rules old new back) (take tried old) (are.needed (λ none. left (omega arith))));
      },
    )

-- marked rules take all, and none was tried
pub none_tried : (rule : RuleFacts) (rules : List RuleFacts) (tests : ℕ) (marks : List Bool) (places : List ℕ) → IsTakenByMarked rule rule rules marks
    → All (λ k. k < length marks) places → ((k : ℕ) → IsMarked marks k → Contains places k) → AreTried rule rules tests places 0
none_tried rule rules tests marks places taken within every = record {
  within = All-weaker (λ k. k < length marks) (λ k. k < length rules) (λ k less. omega (arith, taken.size, less)) places within;
  taken = λ tuple packet one two. let it = taken.taken tuple packet one two in (it.0, it.1, every it.0 it.2, it.3, it.4);
  count = omega arith;
  needed = λ left. All-nil (IsNeeded rule rules places);
}

-- all were tried
pub all_tried : (rule : RuleFacts) (rules : List RuleFacts) (tests : ℕ) (places : List ℕ) (tried : ℕ) → AreTried rule rules tests places tried → length places ≤ tried
    → tests ≢ 0 → All (IsNeeded rule rules places) places
all_tried rule rules tests places tried are all left = subst (All (IsNeeded rule rules places)) (take_all tried places all) (are.needed left)
