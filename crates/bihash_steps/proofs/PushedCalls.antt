-- The acting record with one call more, or one lock more: it keeps its number, and the others stay as they are.
use Rattle.std.proofs.Common.{◌≡◌, ◌≢◌, ◌⊎◌, ℕ, zero, suc, ◌+◌, ◌≤◌, List, [], ◌∷◌, ◌++◌, length, refl, sym, ap, ◌∙◌, subst, inl, inr, arith}
use mathlib.Core.Option.{some, some-ne-none, some-injective}
use lib.ListN.{get_elem?}
use Rattle.bihash_words.specs.Sizes.{Sizes}
use Rattle.bihash_words.specs.declared.patch.Reply.TheVariants.{NoPages}
use Rattle.bihash_rule.specs.Callers.{HasNumbers, HasNumber, IsWhole, MayFollow, Rises}
use Rattle.bihash_rule.specs.PageStores.{HasCall, BearsOutOfPages, BearOutOfPages}
use Rattle.bihash_steps.specs.BucketSteps.{acting, push_call, lock_counted}
use Rattle.bihash_rule.specs.declared.view.Call.{Call}
use Rattle.bihash_rule.specs.declared.view.Record.{Record}
use Rattle.bihash_steps.proofs.Lists.{within, at_end}

-- ---- The same numbers

-- each record of qs bears the number of the one at its place in rs
abbrev pub Renumbers : List Record → List Record → Type 0
Renumbers rs qs = (i : ℕ) (q : Record) → get_elem? qs i ≡ some q → (r : Record) × (get_elem? rs i ≡ some r) × (r.number ≡ q.number)

module _ (rs qs : List Record) (same : Renumbers rs qs) where
  pub same_numbers : (seen : ℕ) → HasNumbers seen rs → HasNumbers seen qs
  same_numbers seen has = record {
    range = λ i q e. let o = same i q e in subst (λ (n : ℕ). (1 ≤ n) × (n ≤ seen)) o.2 (has.range i o.0 o.1);
    once = λ i k q p ne e f. let a = same i q e in let b = same k p f in λ h. has.once i k a.0 b.0 ne a.1 b.1 (a.2 ∙ (h ∙ sym b.2));
  }

  pub same_number : (n : ℕ) → HasNumber qs n → HasNumber rs n
  same_number n h = let o = same h.0 h.1 h.2 in (h.0, o.0, o.1, o.2 ∙ h.3)

  pub same_whole : (count : ℕ) → IsWhole qs count → IsWhole rs count
  same_whole count whole n low high = same_number n (whole n low high)

-- ---- One call more

-- r is the acting record of rs with the call c at its end
pub record IsPushed (c : Call) (rs : List Record) (i : ℕ) (r : Record) : Type 0 where
  pub first : i ≡ 0
  pub was : Record
  pub at : get_elem? rs i ≡ some was
  pub is : r ≡ record was { calls = was.calls ++ c ∷ [] }

pub push_at : (c : Call) (rs : List Record) (i : ℕ) (r : Record) → get_elem? (push_call c rs) i ≡ some r
    → IsPushed c rs i r ⊎ ((i ≢ 0) × (get_elem? rs i ≡ some r))
push_at c [] i r e = absurd (some-ne-none r (sym e))
push_at c (q ∷ qs) zero r e = inl record { first = refl; was = q; at = refl; is = sym (some-injective _ r e) }
push_at c (q ∷ qs) (suc i) r e = inr ((λ h. omega arith), e)

pub push-length : (c : Call) (rs : List Record) → length (push_call c rs) ≡ length rs
push-length c [] = refl
push-length c (r ∷ rs) = refl

pub acting_is : (rs : List Record) (i : ℕ) (r : Record) → i ≡ 0 → get_elem? rs i ≡ some r → acting rs ≡ r.number
acting_is [] i r z e = absurd (some-ne-none r (sym e))
acting_is (q ∷ qs) zero r z e = ap (λ (x : Record). x.number) (some-injective q r e)
acting_is (q ∷ qs) (suc i) r z e = absurd (omega arith)

-- the calls of a pushed record
pub pushed_calls : (c : Call) (rs : List Record) (i k : ℕ) (r : Record) (d : Call) (p : IsPushed c rs i r) → get_elem? r.calls k ≡ some d
    → (get_elem? p.was.calls k ≡ some d) ⊎ ((k ≡ length p.was.calls) × (c ≡ d))
pushed_calls c rs i k r d p e = at_end p.was.calls c d k (ap (λ (x : Record). get_elem? x.calls k) (sym p.is) ∙ e)

pub push_renumbers : (c : Call) (rs : List Record) → Renumbers rs (push_call c rs)
push_renumbers c rs i q e = elim (push_at c rs i q e) [
  | inl p ↦ (p.was, p.at, ap (λ (x : Record). x.number) (sym p.is))
  | inr o ↦ (q, o.1, refl)
]

pub renumbers_push : (c : Call) (rs : List Record) → Renumbers (push_call c rs) rs
renumbers_push c [] i r e = absurd (some-ne-none r (sym e))
renumbers_push c (q ∷ qs) zero r e = (record q { calls = q.calls ++ c ∷ [] }, refl, ap (λ (x : Record). x.number) (some-injective q r e))
renumbers_push c (q ∷ qs) (suc i) r e = (r, e, refl)

pub push_numbers : (seen : ℕ) (c : Call) (rs : List Record) → HasNumbers seen rs → HasNumbers seen (push_call c rs)
push_numbers seen c rs = same_numbers rs (push_call c rs) (push_renumbers c rs) seen

pub push_whole : (count : ℕ) (c : Call) (rs : List Record) → IsWhole rs count → IsWhole (push_call c rs) count
push_whole count c rs = same_whole (push_call c rs) rs (renumbers_push c rs) count

pub push_number : (n : ℕ) (c : Call) (rs : List Record) → HasNumber (push_call c rs) n → HasNumber rs n
push_number n c rs = same_number rs (push_call c rs) (push_renumbers c rs) n

pub push_has : (c d : Call) (rs : List Record) → HasCall (push_call c rs) d → HasCall rs d ⊎ (c ≡ d)
push_has c d rs h = elim (push_at c rs h.0 h.2 h.3) [
  | inl p ↦ elim (pushed_calls c rs h.0 h.1 h.2 d p h.4) [ inl o ↦ inl (h.0, h.1, p.was, p.at, o) | inr o ↦ inr o.1 ]
  | inr o ↦ inl (h.0, h.1, h.2, o.1, h.4)
]

pub push_short : (z : Sizes) (writes : ℕ) (c : Call) (rs : List Record) → ((log2 left : ℕ) → c.reply ≡ NoPages log2 left → BearsOutOfPages z writes c log2 left)
    → BearOutOfPages z writes rs → BearOutOfPages z writes (push_call c rs)
push_short z writes c rs new short d h log2 left e = elim (push_has c d rs h) [
  | inl o ↦ short d o log2 left e
  | inr o ↦ subst (λ (y : Call). BearsOutOfPages z writes y log2 left) o (new log2 left (ap (λ (y : Call). y.reply) o ∙ e))
]

-- stamps rise where the last call may follow each before it
pub rises_more : (calls : List Call) (c : Call) → Rises calls → ((k : ℕ) (d : Call) → get_elem? calls k ≡ some d → MayFollow d c)
    → Rises (calls ++ c ∷ [])
rises_more calls c rises last i j a b lt e f = elim (at_end calls c b j f) [
  | inl h ↦ let l = within calls j b h in elim (at_end calls c a i e) [
    | inl g ↦ rises i j a b lt g h
    | inr g ↦ absurd (let n = g.0 in omega arith)
  ]
  | inr h ↦ elim (at_end calls c a i e) [
    | inl g ↦ subst (MayFollow a) h.1 (last i a g)
    | inr g ↦ absurd (let n = g.0 in let m = h.0 in omega arith)
  ]
]

-- ---- One lock more

pub counted-length : (rs : List Record) → length (lock_counted rs) ≡ length rs
counted-length [] = refl
counted-length (r ∷ rs) = refl

-- each record with a lock counted has the number and the calls of the one at its place
pub counted_at : (rs : List Record) (i : ℕ) (q : Record) → get_elem? (lock_counted rs) i ≡ some q
    → (r : Record) × (get_elem? rs i ≡ some r) × (r.number ≡ q.number) × (r.calls ≡ q.calls)
counted_at [] i q e = absurd (some-ne-none q (sym e))
counted_at (r ∷ rs) zero q e = let same = some-injective _ q e in (r, refl, ap (λ (x : Record). x.number) same, ap (λ (x : Record). x.calls) same)
counted_at (r ∷ rs) (suc i) q e = (q, e, refl, refl)

counted_renumbers : (rs : List Record) → Renumbers rs (lock_counted rs)
counted_renumbers rs i q e = let o = counted_at rs i q e in (o.0, o.1, o.2)

pub renumbers_counted : (rs : List Record) → Renumbers (lock_counted rs) rs
renumbers_counted [] i r e = absurd (some-ne-none r (sym e))
renumbers_counted (q ∷ qs) zero r e = (record q { locks = q.locks + 1 }, refl, ap (λ (x : Record). x.number) (some-injective q r e))
renumbers_counted (q ∷ qs) (suc i) r e = (r, e, refl)

pub counted_numbers : (seen : ℕ) (rs : List Record) → HasNumbers seen rs → HasNumbers seen (lock_counted rs)
counted_numbers seen rs = same_numbers rs (lock_counted rs) (counted_renumbers rs) seen

pub counted_whole : (count : ℕ) (rs : List Record) → IsWhole rs count → IsWhole (lock_counted rs) count
counted_whole count rs = same_whole (lock_counted rs) rs (renumbers_counted rs) count

pub counted_number : (n : ℕ) (rs : List Record) → HasNumber (lock_counted rs) n → HasNumber rs n
counted_number n rs = same_number rs (lock_counted rs) (counted_renumbers rs) n

pub counted_has : (d : Call) (rs : List Record) → HasCall (lock_counted rs) d → HasCall rs d
counted_has d rs h = let o = counted_at rs h.0 h.2 h.3 in (h.0, h.1, o.0, o.1, ap (λ (calls : List Call). get_elem? calls h.1) o.3 ∙ h.4)

pub counted_short : (z : Sizes) (writes : ℕ) (rs : List Record) → BearOutOfPages z writes rs → BearOutOfPages z writes (lock_counted rs)
counted_short z writes rs short d h = short d (counted_has d rs h)
