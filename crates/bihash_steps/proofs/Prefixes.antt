-- Beginnings of histories.
use Rattle.std.proofs.Common.{◌≡◌, ◌⊎◌, ℕ, zero, suc, ◌<◌, ◌≤◌, cond, nat_le, Bool, true, false, List, [], ◌∷◌, ◌++◌, length, get_or, refl, sym, ap, ◌∙◌, inl, inr, arith, length-append, append-nil}
use mathlib.Core.Logic.{dite}
use mathlib.Core.Option.{some}
use native.Mathlib.Decide.{dec_le}
use lib.ListN.{get_elem?}
use Rattle.std.proofs.lemmas.Bool.Decides.{nat_tests}
use Rattle.std.proofs.lemmas.List.{take-append-le}
use Rattle.atomic_table.proofs.Lists.{at_longer}
use Rattle.bihash_words.specs.Maps.{Pairs}
use Rattle.bihash_rule.specs.Histories.{IsPrefix, replay, after}
use Rattle.bihash_steps.specs.Steps.{longer, longer_each}
use Rattle.bihash_rule.specs.declared.view.Write.{Write}

pub prefix_refl : (h : List Write) → IsPrefix h h
prefix_refl h = record { rest = []; whole = sym (append-nil h) }

pub prefix_length : (xs ys : List Write) → IsPrefix xs ys → length xs ≤ length ys
prefix_length xs ys p = let e = ap length p.whole in let a = length-append xs p.rest in omega arith

-- an element of a beginning is in the whole at its place
pub prefix_at : (xs ys : List Write) (n : ℕ) (w : Write) → IsPrefix xs ys → get_elem? xs n ≡ some w → get_elem? ys n ≡ some w
prefix_at xs ys n w p e = ap (λ (l : List Write). get_elem? l n) p.whole ∙ at_longer xs p.rest n w e

-- an element of the whole below its length is in the beginning
pub prefix_below : (xs ys : List Write) (n : ℕ) (w : Write) → IsPrefix xs ys → n < length xs → get_elem? ys n ≡ some w
    → get_elem? xs n ≡ some w
prefix_below xs ys n w p l e = go xs n l (ap (λ (l : List Write). get_elem? l n) (sym p.whole) ∙ e)
  where
    go : (xs : List Write) (n : ℕ) → n < length xs → get_elem? (xs ++ p.rest) n ≡ some w → get_elem? xs n ≡ some w
    go [] n l e = absurd (omega arith)
    go (x ∷ xs) zero l e = e
    go (x ∷ xs) (suc n) l e = go xs n (omega arith) e

-- the shorter of two beginnings begins the longer
pub prefix_of_prefix : (xs ys H : List Write) → IsPrefix xs H → IsPrefix ys H → length xs ≤ length ys → IsPrefix xs ys
prefix_of_prefix xs ys H a b le = go xs ys a.rest b.rest (sym a.whole ∙ b.whole) le
  where
    go : (xs ys rs qs : List Write) → xs ++ rs ≡ ys ++ qs → length xs ≤ length ys → IsPrefix xs ys
    go [] ys rs qs e le = record { rest = ys; whole = refl }
    go (x ∷ xs) [] rs qs e le = absurd (omega arith)
    go (x ∷ xs) (y ∷ ys) rs qs e le = let tail : xs ++ rs ≡ ys ++ qs = cc in let head : x ≡ y = cc in
        let h = go xs ys rs qs tail (omega arith) in record { rest = h.rest; whole = λ i. sym head i ∷ h.whole i }

pub one_begins : (xs ys H : List Write) → IsPrefix xs H → IsPrefix ys H → IsPrefix xs ys ⊎ IsPrefix ys xs
one_begins xs ys H a b = dite (dec_le (length xs) (length ys)) (λ l. inl (prefix_of_prefix xs ys H a b l))
    (λ l. inr (prefix_of_prefix ys xs H b a (omega arith)))

-- the map after writes that are known is the map after them in the whole history
pub after_longer : (opening : Pairs) (K H : List Write) (n : ℕ) → IsPrefix K H → n ≤ length K → after opening H n ≡ after opening K n
after_longer opening K H n p l = ap (λ (h : List Write). after opening h n) p.whole ∙ ap (replay opening) (take-append-le n K p.rest l)

-- ---- The longer of two beginnings

longer_at : (xss yss : List (List Write)) (b : ℕ) → length xss ≡ length yss
    → get_or (longer_each xss yss) b [] ≡ longer (get_or xss b []) (get_or yss b [])
longer_at [] [] b e = refl
longer_at [] (y ∷ yss) b e = absurd (omega arith)
longer_at (x ∷ xss) [] b e = absurd (omega arith)
longer_at (x ∷ xss) (y ∷ yss) zero e = refl
longer_at (x ∷ xss) (y ∷ yss) (suc b) e = longer_at xss yss b (omega arith)

pub longer_length : (xss yss : List (List Write)) → length xss ≡ length yss → length (longer_each xss yss) ≡ length xss
longer_length [] [] e = refl
longer_length [] (y ∷ yss) e = absurd (omega arith)
longer_length (x ∷ xss) [] e = absurd (omega arith)
longer_length (x ∷ xss) (y ∷ yss) e = ap suc (longer_length xss yss (omega arith))

longer_begins : (xs ys H : List Write) → IsPrefix xs H → IsPrefix ys H → IsPrefix xs (longer xs ys) × IsPrefix ys (longer xs ys)
    × IsPrefix (longer xs ys) H
longer_begins xs ys H a b = go (nat_le (length ys) (length xs)) refl
  where
    go : (t : Bool) → nat_le (length ys) (length xs) ≡ t → IsPrefix xs (cond t xs ys) × IsPrefix ys (cond t xs ys)
        × IsPrefix (cond t xs ys) H
    go true e = (prefix_refl xs, prefix_of_prefix ys xs H b a (grind (arith, nat_tests, e)), a)
    go false e = (prefix_of_prefix xs ys H a b (grind (arith, nat_tests, e)), prefix_refl ys, b)

-- of each bucket the longer of two known lists continues both, and begins the history
pub longer_known : (xss yss : List (List Write)) (b : ℕ) (H : List Write) → length xss ≡ length yss → IsPrefix (get_or xss b []) H
    → IsPrefix (get_or yss b []) H
    → IsPrefix (get_or xss b []) (get_or (longer_each xss yss) b []) × IsPrefix (get_or yss b []) (get_or (longer_each xss yss) b [])
    × IsPrefix (get_or (longer_each xss yss) b []) H
longer_known xss yss b H same p q = rw (longer_at xss yss b same) (longer_begins (get_or xss b []) (get_or yss b []) H p q)
