-- Lemmas on the order in which pairs stand in a block that is laid out.
use Rattle.std.proofs.Common.{◌≡◌, ◌<◌, ◌≤◌, ◌+◌, ◌-◌, ◌*◌, ◌/◌, ◌^◌, ◌==◌, ◌⊎◌, ℕ, Bool, true, false, cond, List, [], ◌∷◌, ◌++◌, length, get_or, set, take, drop, arith, ap, subst, refl, sym, ◌∙◌, ⊎_elim}
use Rattle.std.specs.Prelude.{filter}
use Rattle.std.specs.List.{All}
use Rattle.std.proofs.Math.Seq.{take-set-lt}
use Rattle.std.proofs.lemmas.Bool.{both_ways, cases_eq, cases_lt, cases_order, eq-eqb, eqb-true, ne_eqb, not-false}
use Rattle.std.proofs.lemmas.List.{append-nil, append_assoc, drop-set-add, drop-set-lt, get_or-drop, get_or-take, get_or_append_left, get_or_at, length-append, length-drop, length-take, set_at, take-set-le}
use Rattle.std.proofs.lemmas.List.Elements.{All-drop, All-filter, All-head, All-tail, All-take, filter-append}
use Rattle.bihash_words.specs.Patches.{free_mark}
use Rattle.bihash_words.specs.Pages.{Paging, page_of}
use Rattle.bihash_plan.specs.Blocks.{IsFirstFree, IsFree, is_taken, pairs}
use Rattle.bihash_plan.specs.Layouts.{AreInOrder, AreLaidOut}
use Rattle.bihash_plan.specs.inner.LaidPairs.{AllFree}
use Rattle.bihash_plan.proofs.Pairs.{is_taken-free}
use Rattle.bihash_plan.proofs.Places.{free_at, free_inside, free_value_at}

-- each place holds a pair
abbrev pub AllTaken : {K : Type 0} → List (K × ℕ) → Type 0
AllTaken places = All (λ place. is_taken place ≡ true) places

cons_not_nil : {X : Type 0} (x : X) (xs : List X) → x ∷ xs ≡ [] → ⊥
cons_not_nil x xs e = cc

-- places without a pair: the first is free, and so are the others
no_pairs : {K : Type 0} (place : K × ℕ) (more : List (K × ℕ))
    → pairs (place ∷ more) ≡ [] → (place.1 ≡ free_mark) × (pairs more ≡ [])
no_pairs place more = by_taken (is_taken place) refl
  where
    by_taken : (taken : Bool)
        → is_taken place ≡ taken → cond taken (place ∷ pairs more) (pairs more) ≡ []
        → (place.1 ≡ free_mark) × (pairs more ≡ [])
    by_taken true is none = absurd (cons_not_nil place (pairs more) none)
    by_taken false is none = (eqb-true _ _ (not-false _ is), none)

-- a place that holds a pair isn't free
front_taken : {K : Type 0} (ps rest : List (K × ℕ)) (n : ℕ)
    → AllTaken ps → n < length ps → IsFree (ps ++ rest) n → ⊥
front_taken {K} ps rest n taken inside vacant =
    let d : K × ℕ = (vacant.key, free_mark) in
    let value : (get_or ps n d).1 ≡ free_mark = ap (λ place. place.1) (sym (get_or_append_left ps rest d n inside))
    ∙ free_value_at d vacant in
    both_ways _ (is_taken-free (get_or ps n d) value) (taken n d inside)

-- a pair that goes to the first free place follows the others
in_order_put : {K : Type 0} (ps places : List (K × ℕ)) (n : ℕ) (pair : K × ℕ)
    → AllTaken ps → AreInOrder ps places → IsFree places n → ((j : ℕ) → j < n → IsFree places j → ⊥)
    → AreInOrder (ps ++ pair ∷ []) (set places n pair)
in_order_put {K} ps places n pair taken ([], same, none) vacant first =
    let at : IsFree (ps ++ []) n = subst (λ (xs : List (K × ℕ)). IsFree xs n) same vacant in
    let none_left : List (K × ℕ) = [] in
    absurd (front_taken ps [] n taken (omega (arith, free_inside at, length-append ps none_left)) at)
in_order_put {K} ps places n pair taken (place ∷ more, same, none) vacant first =
    let empty = no_pairs place more none in
    let at : IsFree (ps ++ place ∷ more) n = subst (λ (xs : List (K × ℕ)). IsFree xs n) same vacant in
    let inside : length ps < length (ps ++ place ∷ more) = omega (arith, length-append ps (place ∷ more)) in
    let behind : IsFree places (length ps) = subst (λ (xs : List (K × ℕ)). IsFree xs (length ps)) (sym same)
    (free_at (ps ++ place ∷ more) (length ps) place inside
    (ap (λ p. p.1) (get_or_at ps place more place (length ps) refl) ∙ empty.0)) in
    let here : length ps ≡ n = ⊎_elim
    (λ (e : length ps ≡ n). e)
    (λ (apart : (length ps < n) ⊎ (n < length ps)). ⊎_elim
    (λ (less : length ps < n). absurd (first (length ps) less behind))
    (λ (more_than : n < length ps). absurd (front_taken ps (place ∷ more) n taken more_than at))
    apart)
    (cases_order (length ps) n) in (
      more,
      ap (λ xs. set xs n pair) same ∙ set_at ps place more pair n here
          ∙ sym (append_assoc ps (pair ∷ []) more),
      empty.1,
    )

-- the places of one page
abbrev run : {K : Type 0} → ℕ → List (K × ℕ) → List (K × ℕ)
run page places = take 4 (drop (4 * page) places)

get_or-run : {K : Type 0} (page : ℕ) (places : List (K × ℕ)) (n : ℕ) (d : K × ℕ)
    → n < 4 → get_or (run page places) n d ≡ get_or places (4 * page + n) d
get_or-run page places n d few = get_or-take 4 (drop (4 * page) places) n d few
    ∙ get_or-drop (4 * page) places n d

free_in_run : {K : Type 0} (page : ℕ) (places : List (K × ℕ)) (n : ℕ)
    → n < 4 → IsFree places (4 * page + n) → IsFree (run page places) n
free_in_run {K} page places n few vacant =
    let d : K × ℕ = (vacant.key, free_mark) in
    free_at (run page places) n d (omega (
      arith,
      free_inside vacant,
      length-take 4 (drop (4 * page) places),
      length-drop (4 * page) places,
    )) (ap (λ place. place.1) (get_or-run page places n d few)
    ∙ free_value_at d vacant)

free_of_run : {K : Type 0} (page : ℕ) (places : List (K × ℕ)) (n : ℕ)
    → IsFree (run page places) n → (n < 4) × IsFree places (4 * page + n)
free_of_run {K} page places n vacant =
    let d : K × ℕ = (vacant.key, free_mark) in
    let few : n < 4 = omega (arith, free_inside vacant, length-take 4 (drop (4 * page) places)) in (
      few,
      free_at places (4 * page + n) d (omega (
        arith,
        free_inside vacant,
        length-take 4 (drop (4 * page) places),
        length-drop (4 * page) places,
      )) (ap (λ place. place.1) (sym (get_or-run page places n d few))
          ∙ free_value_at d vacant),
    )

-- a pair that is put in a page changes that page's places alone
run-set : {K : Type 0} (page : ℕ) (places : List (K × ℕ)) (n : ℕ) (pair : K × ℕ)
    → n < 4 → run page (set places (4 * page + n) pair) ≡ set (run page places) n pair
run-set page places n pair few = ap (take 4) (drop-set-add (4 * page) places n pair)
    ∙ take-set-lt 4 (drop (4 * page) places) n pair few

run-set_other : {K : Type 0} (page : ℕ) (places : List (K × ℕ)) (i : ℕ) (pair : K × ℕ)
    → (i / 4 ≡ page → ⊥) → run page (set places i pair) ≡ run page places
run-set_other page places i pair apart = ⊎_elim
    (λ (low : i < 4 * page). ap (take 4) (drop-set-lt (4 * page) places i pair low))
    (λ (high : 4 * page ≤ i).
    let n : ℕ = i - 4 * page in
    let split : i ≡ 4 * page + n = omega arith in
    let far : 4 ≤ n = ⊎_elim (λ (near : n < 4). absurd (apart (omega arith))) (λ (far : 4 ≤ n). far)
    (cases_lt n 4) in
    ap (λ k. take 4 (drop (4 * page) (set places k pair))) split
    ∙ ap (take 4) (drop-set-add (4 * page) places n pair)
    ∙ take-set-le 4 (drop (4 * page) places) n pair far)
    (cases_lt i (4 * page))

-- one more pair in order, as each page sees it
page_put : {K : Type 0} (paging : Paging K) (log2 : ℕ) (ps places : List (K × ℕ)) (i : ℕ) (pair : K × ℕ)
    → AllTaken ps → AreLaidOut paging log2 false ps places
    → IsFirstFree false (page_of paging log2 pair.0) places i → (page : ℕ) → page < 2 ^ log2
    → AreInOrder (filter (λ other. page_of paging log2 other.0 == page) (ps ++ pair ∷ []))
    (run page (set places i pair))
page_put {K} paging log2 ps places i pair taken laid first page inside = ⊎_elim here there
    (cases_eq (page_of paging log2 pair.0) page)
  where
    names : K × ℕ → Bool
    names other = page_of paging log2 other.0 == page

    here : page_of paging log2 pair.0 ≡ page
        → AreInOrder (filter names (ps ++ pair ∷ [])) (run page (set places i pair))
    here e =
        let at : i / 4 ≡ page = first.reached ∙ e in
        let n : ℕ = i - 4 * page in
        let split : i ≡ 4 * page + n = omega arith in
        let few : n < 4 = omega arith in
        let kept : filter names (ps ++ pair ∷ []) ≡ filter names ps ++ pair ∷ [] =
        filter-append names ps (pair ∷ [])
        ∙ ap (λ t. filter names ps ++ cond t (pair ∷ []) []) (eq-eqb _ _ e) in
        let changed : run page (set places i pair) ≡ set (run page places) n pair =
        ap (λ k. run page (set places k pair)) split ∙ run-set page places n pair few in
        let vacant : IsFree (run page places) n =
        free_in_run page places n few (subst (IsFree places) split first.vacant) in
        let all_taken : AllTaken (filter names ps) = All-filter names (λ place. is_taken place ≡ true) ps taken in
        let before : (j : ℕ) → j < n → IsFree (run page places) j → ⊥ = λ j less h.
        let was = free_of_run page places j h in
        first.first (4 * page + j) (omega arith) (omega (arith, e, was.0)) was.1 in
        let put : AreInOrder (filter names ps ++ pair ∷ []) (set (run page places) n pair) =
        in_order_put (filter names ps) (run page places) n pair all_taken (laid page inside) vacant before in
        let P : List (K × ℕ) → Type 0 = λ qs. AreInOrder qs (run page (set places i pair)) in
        let Q : List (K × ℕ) → Type 0 = λ qs. AreInOrder (filter names ps ++ pair ∷ []) qs in
        subst P (sym kept) (subst Q (sym changed) put)

    there : (page_of paging log2 pair.0 ≡ page → ⊥)
        → AreInOrder (filter names (ps ++ pair ∷ [])) (run page (set places i pair))
    there apart =
        let kept : filter names (ps ++ pair ∷ []) ≡ filter names ps =
        filter-append names ps (pair ∷ [])
        ∙ ap (λ t. filter names ps ++ cond t (pair ∷ []) []) (ne_eqb _ _ apart)
        ∙ append-nil (filter names ps) in
        let same : run page (set places i pair) ≡ run page places =
        run-set_other page places i pair (λ e. apart (sym first.reached ∙ e)) in
        let P : List (K × ℕ) → Type 0 = λ qs. AreInOrder qs (run page (set places i pair)) in
        subst P (sym kept) (subst (AreInOrder (filter names ps)) (sym same) (laid page inside))

-- one more pair in order
pub laid_out_put : {K : Type 0} (paging : Paging K) (log2 : ℕ) (linear : Bool) (ps places : List (K × ℕ))
    (i : ℕ) (pair : K × ℕ)
    → AllTaken ps → AreLaidOut paging log2 linear ps places
    → IsFirstFree linear (page_of paging log2 pair.0) places i
    → AreLaidOut paging log2 linear (ps ++ pair ∷ []) (set places i pair)
laid_out_put paging log2 true ps places i pair taken laid first =
    in_order_put ps places i pair taken laid first.vacant (λ j less h. first.first j less tt h)
laid_out_put paging log2 false ps places i pair taken laid first =
    page_put paging log2 ps places i pair taken laid first

pub none_taken : {K : Type 0} (places : List (K × ℕ)) → AllFree places → pairs places ≡ []
none_taken {K} [] all_free = refl
none_taken {K} (place ∷ places) all_free =
    let is_free : K × ℕ → Type 0 = λ p. is_taken p ≡ false in
    ap (λ t. cond t (place ∷ pairs places) (pairs places)) (All-head is_free place places all_free)
    ∙ none_taken places (All-tail is_free place places all_free)

-- no pair, in a block of free places
pub laid_out_none : {K : Type 0} (paging : Paging K) (log2 : ℕ) (linear : Bool) (places : List (K × ℕ))
    → AllFree places → AreLaidOut paging log2 linear [] places
laid_out_none {K} paging log2 true places all_free = (places, refl, none_taken places all_free)
laid_out_none {K} paging log2 false places all_free = λ page inside.
    let is_free : K × ℕ → Type 0 = λ place. is_taken place ≡ false in
    let behind = All-drop is_free (4 * page) places all_free in
    (run page places, refl, none_taken (run page places) (All-take is_free 4 (drop (4 * page) places) behind))
