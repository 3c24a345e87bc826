-- Lemmas on how many elements of a list pass a test, from where those elements stand.
use Rattle.std.proofs.Common.{◌≡◌, ◌<◌, ◌≤◌, ◌+◌, ◌-◌, ◌*◌, ◌/◌, ℕ, zero, suc, Bool, true, false, List, ◌++◌, length, cond, get_or, take, drop, arith, add-one, ap, sym, ◌∙◌, ⊎_elim}
use Rattle.std.specs.Prelude.{count_by}
use Rattle.std.proofs.lemmas.Bool.{both_ways, cases_Bool, cases_eq, cond-false}
use Rattle.std.proofs.lemmas.List.{length-append, length-drop, length-take, take_all}
use Rattle.std.proofs.lemmas.List.Sums.{count_by-le-length, count_by_more_no, count_by_more_yes, sum_by-remove, sum_by-take-le}

-- how many of the first n elements pass a test that only elements of one page of four pass
record InPage (p n passed : ℕ) : Type 0 where
  below : passed ≤ n - 4 * p
  four : passed ≤ 4

count_in_page : {X : Type 0} (test : X → Bool) (xs : List X) (p : ℕ) (d : X)
    → ((i : ℕ) → i < length xs → test (get_or xs i d) ≡ true → i / 4 ≡ p) → (n : ℕ) → n ≤ length xs
    → InPage p n (count_by test (take n xs))
count_in_page test xs p d only zero within = record { below = omega arith; four = omega arith }
count_in_page test xs p d only (suc n) within =
    let so_far = count_in_page test xs p d only n (omega arith) in
    let inside : n < length xs = omega arith in
    ⊎_elim
    (λ (yes : test (get_or xs n d) ≡ true).
    let here : n / 4 ≡ p = only n inside yes in
    let more = ap (λ m. count_by test (take m xs)) (sym (add-one n))
    ∙ count_by_more_yes test xs n d inside yes in
    record { below = omega (arith, more, so_far.below); four = omega (arith, more, so_far.below) })
    (λ (no : test (get_or xs n d) ≡ false).
    let same = ap (λ m. count_by test (take m xs)) (sym (add-one n)) ∙ count_by_more_no test xs n d inside no in
    record { below = omega (arith, same, so_far.below); four = omega (arith, same, so_far.four) })
    (cases_Bool (test (get_or xs n d)))

-- the same where one element of the page fails
record MissesOne (p i n passed : ℕ) : Type 0 where
  page : InPage p n passed
  below : i < n → passed + 1 ≤ n - 4 * p
  three : i < n → passed ≤ 3

count_missing_one : {X : Type 0} (test : X → Bool) (xs : List X) (p : ℕ) (d : X) (i : ℕ)
    → ((k : ℕ) → k < length xs → test (get_or xs k d) ≡ true → k / 4 ≡ p) → i / 4 ≡ p
    → test (get_or xs i d) ≡ false → (n : ℕ) → n ≤ length xs → MissesOne p i n (count_by test (take n xs))
count_missing_one test xs p d i only here fails zero within = record { page = count_in_page test xs p d only zero within; below = λ h. omega arith; three = λ h. omega arith }
count_missing_one test xs p d i only here fails (suc n) within =
    let so_far = count_missing_one test xs p d i only here fails n (omega arith) in
    let page = count_in_page test xs p d only (suc n) within in
    let inside : n < length xs = omega arith in
    ⊎_elim
    (λ (yes : test (get_or xs n d) ≡ true).
    let there : n / 4 ≡ p = only n inside yes in
    let other : (n ≡ i → ⊥) = λ e. both_ways _ (ap (λ k. test (get_or xs k d)) e ∙ fails) yes in
    let more = ap (λ m. count_by test (take m xs)) (sym (add-one n))
    ∙ count_by_more_yes test xs n d inside yes in
    record {
      page = page;
      below = λ h. omega (
        arith,
        more,
        so_far.below (omega arith),
      );
      three = λ h. omega (arith, more, so_far.below (omega arith));
    })
    (λ (no : test (get_or xs n d) ≡ false).
    let same = ap (λ m. count_by test (take m xs)) (sym (add-one n)) ∙ count_by_more_no test xs n d inside no in
    ⊎_elim
    (λ (e : n ≡ i). record {
      page = page;
      below = λ h. omega (
        arith,
        same,
        so_far.page.below,
      );
      three = λ h. omega (arith, same, so_far.page.below);
    })
    (λ (other : n ≡ i
    → ⊥). record {
      page = page;
      below = λ h. omega (
        arith,
        same,
        so_far.below (omega arith),
      );
      three = λ h. omega (arith, same, so_far.three (omega arith));
    })
    (cases_eq n i))
    (cases_Bool (test (get_or xs n d)))

-- a test that only elements of one page of four pass is passed by four at most
pub count_by-page-le : {X : Type 0} (test : X → Bool) (xs : List X) (p : ℕ) (d : X)
    → ((i : ℕ) → i < length xs → test (get_or xs i d) ≡ true → i / 4 ≡ p) → count_by test xs ≤ 4
count_by-page-le test xs p d only =
    omega (
      arith,
      ap (count_by test) (take_all (length xs) xs (omega arith)),
      (count_in_page test xs p d only (length xs) (omega arith)).four,
    )

pub count_by-page-missing : {X : Type 0} (test : X → Bool) (xs : List X) (p : ℕ) (d : X) (i : ℕ)
    → ((k : ℕ) → k < length xs → test (get_or xs k d) ≡ true → k / 4 ≡ p) → i / 4 ≡ p → i < length xs
    → test (get_or xs i d) ≡ false → count_by test xs ≤ 3
count_by-page-missing test xs p d i only here inside fails =
    omega (
      arith,
      ap (count_by test) (take_all (length xs) xs (omega arith)),
      (count_missing_one test xs p d i only here fails (length xs) (omega arith)).three inside,
    )

-- each of the elements from one on passes
passes_from : {X : Type 0} (test : X → Bool) (xs : List X) (from : ℕ) (d : X) (m : ℕ)
    → from + m ≤ length xs → ((i : ℕ) → from ≤ i → i < from + m → test (get_or xs i d) ≡ true)
    → m ≤ count_by test (take (from + m) xs)
passes_from test xs from d zero within each = omega arith
passes_from test xs from d (suc m) within each =
    let so_far = passes_from test xs from d m (omega arith) (λ i low high. each i low (omega arith)) in
    let next : from + m + 1 ≡ from + suc m = omega arith in
    let more = count_by_more_yes test xs (from + m) d (omega arith)
    (each (from + m) (omega arith) (omega arith)) in
    omega (arith, so_far, more, ap (λ n. count_by test (take n xs)) next)

pub le-count_by-from : {X : Type 0} (test : X → Bool) (xs : List X) (from m : ℕ) (d : X)
    → from + m ≤ length xs → ((i : ℕ) → from ≤ i → i < from + m → test (get_or xs i d) ≡ true)
    → m ≤ count_by test xs
le-count_by-from test xs from m d within each =
    omega (
      arith,
      passes_from test xs from d m within each,
      sum_by-take-le (λ x. cond (test x) 1 0) xs (from + m),
    )

-- where each element passes the count is the length, and else it is less
pub count_by-all : {X : Type 0} (test : X → Bool) (xs : List X) (d : X)
    → ((i : ℕ) → i < length xs → test (get_or xs i d) ≡ true) → count_by test xs ≡ length xs
count_by-all test xs d each =
    omega (
      arith,
      le-count_by-from test xs 0 (length xs) d (omega arith) (λ i low high. each i (omega arith)),
      count_by-le-length test xs,
    )

pub count_by-missing : {X : Type 0} (test : X → Bool) (xs : List X) (d : X) (i : ℕ)
    → i < length xs → test (get_or xs i d) ≡ false → count_by test xs < length xs
count_by-missing test xs d i inside fails =
    let one : ℕ = 1 in
    let out : cond (test (get_or xs i d)) one 0 ≡ 0 = cond-false _ one 0 fails in
    omega (
      arith,
      sum_by-remove (λ x. cond (test x) 1 0) xs i d inside,
      out,
      count_by-le-length test (take i xs ++ drop (suc i) xs),
      length-append (take i xs) (drop (suc i) xs),
      length-take i xs,
      length-drop (suc i) xs,
    )
