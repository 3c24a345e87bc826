-- The values and the number of pairs of a map, after one key was set or removed.
use Rattle.std.proofs.Common.{◌≡◌, ◌≢◌, ◌⊎◌, ◌∙◌, ◌-◌, ℕ, true, false, cond, ap, sym, refl, inl, inr, List, Some, None}
use Rattle.std.specs.Cmp.Lexicographic.{nat_list_cmp_total, slice_cmp}
use Rattle.std.specs.FinMap.{get, get-insert, get-remove, insert, len, len-remove, nat_cmp-IsAntisymmetric, remove, slice_cmp-IsAntisymmetric}
use Rattle.std.specs.Cmp.{eq_by_cmp_equiv}
use Rattle.std.specs.Ordering.{eq_by_cmp, is_eq, nat_cmp}
use Rattle.std.specs.Prelude.{is_some}
use Rattle.std.specs.declared.cmp.Ordering.TheVariants.{Less, Equal, Greater}
use Rattle.bihash_words.specs.Maps.{Pairs}

-- two different lists of words are apart in the order of the keys
pub apart : (a b : List ℕ) → a ≢ b → eq_by_cmp (slice_cmp nat_cmp) a b ≡ false
apart a b differ =
    elim (slice_cmp nat_cmp a b) as (λ r. slice_cmp nat_cmp a b ≡ r → is_eq r ≡ false) [
      | Less ↦ λ is. refl
      | Equal ↦ λ is. absurd (differ (slice_cmp-IsAntisymmetric nat_cmp-IsAntisymmetric a b is))
      | Greater ↦ λ is. refl
    ] refl

alike : (a : List ℕ) → eq_by_cmp (slice_cmp nat_cmp) a a ≡ true
alike a = (eq_by_cmp_equiv nat_list_cmp_total).refl a

-- lists that are apart in the order are different
differ_of : (a b : List ℕ) → eq_by_cmp (slice_cmp nat_cmp) a b ≡ false → a ≢ b
differ_of a b is e =
    let clash = sym (alike b) ∙ ap (λ w. eq_by_cmp (slice_cmp nat_cmp) w b) (sym e) ∙ is in cc

pub same_or_other : (a b : List ℕ) → (a ≡ b) ⊎ (a ≢ b)
same_or_other a b =
    elim (slice_cmp nat_cmp a b) as (λ r. slice_cmp nat_cmp a b ≡ r → (a ≡ b) ⊎ (a ≢ b)) [
      | Less ↦ λ is. inr (differ_of a b (ap is_eq is))
      | Equal ↦ λ is. inl (slice_cmp-IsAntisymmetric nat_cmp-IsAntisymmetric a b is)
      | Greater ↦ λ is. inr (differ_of a b (ap is_eq is))
    ] refl

pub get_set : (m : Pairs) (words : List ℕ) (value : ℕ) → get (insert m words value) words ≡ Some value
get_set m words value = get-insert nat_list_cmp_total m words value words
    ∙ ap (λ b. cond b (Some value) (get m words)) (alike words)

pub get_other : (m : Pairs) (words : List ℕ) (value : ℕ) (other : List ℕ)
    → other ≢ words → get (insert m words value) other ≡ get m other
get_other m words value other differ = get-insert nat_list_cmp_total m words value other
    ∙ ap (λ b. cond b (Some value) (get m other)) (apart other words differ)

pub get_removed : (m : Pairs) (words : List ℕ) → get (remove m words) words ≡ None
get_removed m words = get-remove nat_list_cmp_total m words words
    ∙ ap (λ b. cond b None (get m words)) (alike words)

pub get_left : (m : Pairs) (words other : List ℕ) → other ≢ words → get (remove m words) other ≡ get m other
get_left m words other differ = get-remove nat_list_cmp_total m words other
    ∙ ap (λ b. cond b None (get m other)) (apart other words differ)

pub len_less : (m : Pairs) (words : List ℕ) (old : ℕ)
    → get m words ≡ Some old → len (remove m words) ≡ len m - 1
len_less m words old there = len-remove nat_list_cmp_total m words
    ∙ ap (λ o. cond (is_some o) (len m - 1) (len m)) there
