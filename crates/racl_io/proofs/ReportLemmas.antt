-- The report on verdicts is that on the first of them, and after it that on the others.
use Rattle.std.proofs.Common.{◌≡◌, ◌∙◌, ◌+◌, ◌-◌, ◌++◌, ℕ, Bool, true, false, not, cond, List, [], ◌∷◌, Option, length, arith, append_assoc, refl, sym, ap, ap₂}
use Rattle.std.proofs.KnownBytes.{Appends-trans}
use Rattle.std.specs.Io.KnownBytes.{Appends}
use Rattle.std.proofs.lemmas.List.Sums.{sum_by-append, sum_by-cons}
use Rattle.session_state.specs.Passes.{passes}
use Rattle.session_state.specs.declared.verdict.Verdict.{Verdict}
use Rattle.racl_io.specs.Reports.{dropped, is_truncated, lacks_pages, line_of, lines_from, passed, totals_of, without_pages}
use Rattle.racl_io.specs.Sinks.{GotFront}
use Rattle.racl_io.specs.declared.totals_and_truncation.Captured.{Captured}
use Rattle.racl_io.specs.declared.totals_and_truncation.Totals.{Totals}

pub lines_of_both : (named : Option ℕ) (n m : ℕ) (xs ys : List Verdict) → m ≡ n + length xs
    → lines_from named n (xs ++ ys) ≡ lines_from named n xs ++ lines_from named m ys
lines_of_both named n m [] ys e = let same : m ≡ n = omega (arith, e) in rw same refl
lines_of_both named n m (x ∷ xs) ys e =
    ap (λ l. line_of named n x ++ l) (lines_of_both named (n + 1) m xs ys (omega (arith, e)))
    ∙ sym (append_assoc (line_of named n x) (lines_from named (n + 1) xs) (lines_from named m ys))

pub passed_of_both : (xs ys : List Verdict) → passed (xs ++ ys) ≡ passed xs + passed ys
passed_of_both xs ys = sum_by-append (λ v. cond (passes v) 1 0) xs ys

pub without_pages_of_both : (xs ys : List Verdict) → without_pages (xs ++ ys) ≡ without_pages xs + without_pages ys
without_pages_of_both xs ys = sum_by-append (λ v. cond (lacks_pages v) 1 0) xs ys

yes_or_no : (b : Bool) → cond b 1 0 + cond (not b) 1 0 ≡ 1
yes_or_no true = refl
yes_or_no false = refl

pub passed_or_dropped : (xs : List Verdict) → passed xs + dropped xs ≡ length xs
passed_or_dropped [] = refl
passed_or_dropped (x ∷ xs) =
    omega (arith, sum_by-cons (λ v. cond (passes v) 1 0) x xs, sum_by-cons (λ v. cond (not (passes v)) 1 0) x xs, yes_or_no (passes x), passed_or_dropped xs)

-- what is written where a further part of the lines is
pub more_lines : (named : Option ℕ) (front piece lines : List ℕ) (n m : ℕ) (rest xs ys : List Verdict) → front ++ lines_from named n rest ≡ lines → rest ≡ xs ++ ys
    → piece ≡ lines_from named n xs → m ≡ n + length xs → (front ++ piece) ++ lines_from named m ys ≡ lines
more_lines named front piece lines n m rest xs ys told parted is e =
    append_assoc front piece (lines_from named m ys)
    ∙ ap (λ l. front ++ l) (ap (λ p. p ++ lines_from named m ys) is ∙ sym (lines_of_both named n m xs ys e) ∙ ap (lines_from named n) (sym parted)) ∙ told

-- where a front of a further piece was written, a front of all was
pub cut_at : (a b c : Option (List ℕ)) (front piece behind text : List ℕ) → (front ++ piece) ++ behind ≡ text → Appends a b front → GotFront b c piece
    → GotFront a c text
cut_at a b c front piece behind text whole wrote (part, rest, same, got) = (
  front ++ part,
  rest ++ behind,
  sym whole ∙ ap (λ p. (front ++ p) ++ behind) same ∙ ap (λ p. p ++ behind) (sym (append_assoc front part rest))
      ∙ append_assoc (front ++ part) rest behind,
  Appends-trans a b c front part wrote got,
)

abbrev totals_with : List Verdict → Bool → ℕ → ℕ → ℕ → Totals
totals_with verdicts truncated lacking passing dropping =
    record { packets = length verdicts; passed = passing; dropped = dropping; without_pages = lacking; truncated = truncated }

-- those that don't pass are dropped
pub totals_counted : (n lacking : ℕ) (verdicts : List Verdict) (captures : List Captured) (truncated : Bool) → n ≡ passed verdicts
    → lacking ≡ without_pages verdicts → truncated ≡ is_truncated captures
    → totals_with verdicts truncated lacking n (length verdicts - n) ≡ totals_of verdicts captures
totals_counted n lacking verdicts captures truncated e lack cut =
    let others : length verdicts - n ≡ dropped verdicts = omega (arith, e, passed_or_dropped verdicts) in
    ap₂ (totals_with verdicts truncated lacking) e others
    ∙ ap₂ (λ t l. totals_with verdicts t l (passed verdicts) (dropped verdicts)) cut lack
