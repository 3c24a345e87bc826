-- The calls that a log has under a number and on a bucket, and their stamps.
use Rattle.std.proofs.Common.{◌≡◌, ◌≢◌, ◌⊎◌, ◌∙◌, ◌≤◌, ℕ, zero, suc, Bool, true, false, cond, eqb, true≢false, List, [], ◌∷◌, ◌++◌, length, ap, append_assoc, arith, eq-eqb, length-append, refl, sym, subst, inl, inr}
use Rattle.std.proofs.lemmas.Bool.Decides.{eqb_tells}
use lib.ListN.{get_elem?}
use mathlib.Core.Option.{some, some-ne-none, some-injective}
use Rattle.bihash_words.specs.Sizes.{Sizes}
use Rattle.bihash_rule.specs.Histories.{is_changed, write_of}
use Rattle.bihash_rule.specs.Logs.{FollowEach, call_if, calls_by, write_if, writes_on}
use Rattle.bihash_rule.specs.declared.view.Call.{Call}
use Rattle.bihash_rule.specs.declared.view.Entry.{Entry}
use Rattle.bihash_rule.specs.declared.view.Openings.{Openings}
use Rattle.bihash_steps.proofs.LogLemmas.{writes_on-append}
use Rattle.bihash_laws.specs.CallRuns.{calls_on}

-- ---- Under a number

in_if : (t : Bool) (c : Call) (cs : List Call) (j : ℕ) (d : Call) → get_elem? cs j ≡ some d → (i : ℕ) × (get_elem? (call_if t c cs) i ≡ some d)
in_if true c cs j d at = (suc j, at)
in_if false c cs j d at = (j, at)

of_if : (t : Bool) (c : Call) (cs : List Call) (i : ℕ) (d : Call) → get_elem? (call_if t c cs) i ≡ some d
    → ((t ≡ true) × (c ≡ d)) ⊎ ((j : ℕ) × (get_elem? cs j ≡ some d))
of_if true c cs zero d at = inl (refl, some-injective c d at)
of_if true c cs (suc i) d at = inr (i, at)
of_if false c cs i d at = inr (i, at)

-- an entry's call is one of those under its number
pub called_in : (n k : ℕ) (es : List Entry) (e : Entry) → get_elem? es k ≡ some e → e.by ≡ n
    → (j : ℕ) × (get_elem? (calls_by n es) j ≡ some e.call)
called_in n k [] e at by = absurd (some-ne-none e (sym at))
called_in n zero (x ∷ xs) e at by = let is : x ≡ e = some-injective x e at in (
  0,
  ap (λ (t : Bool). get_elem? (call_if t x.call (calls_by n xs)) 0) (eq-eqb x.by n (ap (λ (y : Entry). y.by) is ∙ by))
      ∙ ap (λ (y : Entry). some y.call) is,
)
called_in n (suc k) (x ∷ xs) e at by =
    let h = called_in n k xs e at by in in_if (eqb x.by n) x.call (calls_by n xs) h.0 e.call h.1

-- the entry of a call under a number
pub record HasEntry (n : ℕ) (es : List Entry) (c : Call) : Type 0 where
  pub place : ℕ
  pub entry : Entry
  pub at : get_elem? es place ≡ some entry
  pub by : entry.by ≡ n
  pub is : entry.call ≡ c

pub entry_of_call : (n j : ℕ) (es : List Entry) (c : Call) → get_elem? (calls_by n es) j ≡ some c → HasEntry n es c
entry_of_call n j [] c at = absurd (some-ne-none c (sym at))
entry_of_call n j (x ∷ xs) c at = elim (of_if (eqb x.by n) x.call (calls_by n xs) j c at) [
  | inl h ↦ record {
    place = 0;
    entry = x;
    at = refl;
    by = elim (eqb_tells x.by n) [ inl (test, is) ↦ is | inr (test, is_not) ↦ absurd (true≢false (sym h.0 ∙ test)) ];
    is = h.1;
  }
  | inr h ↦ (let r = entry_of_call n h.0 xs c h.1 in record { place = suc r.place; entry = r.entry; at = r.at; by = r.by; is = r.is })
]

-- ---- On a bucket

pub on_if-here : (b : ℕ) (t : Bool) (c : Call) (cs : List Call) → eqb c.bucket b ≡ true → calls_on b (call_if t c cs) ≡ call_if t c (calls_on b cs)
on_if-here b true c cs home = ap (λ (s : Bool). cond s (c ∷ calls_on b cs) (calls_on b cs)) home
on_if-here b false c cs home = refl

pub on_if-else : (b : ℕ) (t : Bool) (c : Call) (cs : List Call) → eqb c.bucket b ≡ false → calls_on b (call_if t c cs) ≡ calls_on b cs
on_if-else b true c cs other = ap (λ (s : Bool). cond s (c ∷ calls_on b cs) (calls_on b cs)) other
on_if-else b false c cs other = refl

-- none of the entries under a number is on the bucket
pub none_on : (b n : ℕ) (es : List Entry) → ((k : ℕ) (e : Entry) → get_elem? es k ≡ some e → e.by ≡ n → e.call.bucket ≢ b)
    → calls_on b (calls_by n es) ≡ []
none_on b n [] none = refl
none_on b n (e ∷ es) none = go (eqb e.by n) refl ∙ none_on b n es (λ k x at. none (suc k) x at)
  where
    go : (t : Bool) → eqb e.by n ≡ t → calls_on b (call_if (eqb e.by n) e.call (calls_by n es)) ≡ calls_on b (calls_by n es)
    go true mine = elim (eqb_tells e.by n) [
      | inl (test, is) ↦ elim (eqb_tells e.call.bucket b) [
        | inl (at, home) ↦ absurd (none 0 e refl is home)
        | inr (at, other) ↦ on_if-else b (eqb e.by n) e.call (calls_by n es) at
      ]
      | inr (test, is_not) ↦ absurd (true≢false (sym mine ∙ test))
    ]
    go false other = ap (λ (t : Bool). calls_on b (call_if t e.call (calls_by n es))) other

-- the writes there with one entry more before them
pub more_here : (b : ℕ) (e : Entry) (es : List Entry) → is_changed e.call.reply ≡ true → eqb e.call.bucket b ≡ true
    → writes_on b (e ∷ es) ≡ write_of e.by e.call ∷ writes_on b es
more_here b e es wrote home = ap (λ (a : Bool). write_if a (eqb e.call.bucket b) (write_of e.by e.call) (writes_on b es)) wrote
    ∙ ap (λ (a : Bool). write_if true a (write_of e.by e.call) (writes_on b es)) home

pub more_read : (b : ℕ) (e : Entry) (es : List Entry) → is_changed e.call.reply ≡ false → writes_on b (e ∷ es) ≡ writes_on b es
more_read b e es kept = ap (λ (a : Bool). write_if a (eqb e.call.bucket b) (write_of e.by e.call) (writes_on b es)) kept

pub more_else : (b : ℕ) (e : Entry) (es : List Entry) → eqb e.call.bucket b ≡ false → writes_on b (e ∷ es) ≡ writes_on b es
more_else b e es other = go (is_changed e.call.reply)
  where
    go : (t : Bool) → write_if t (eqb e.call.bucket b) (write_of e.by e.call) (writes_on b es) ≡ writes_on b es
    go true = ap (λ (a : Bool). write_if true a (write_of e.by e.call) (writes_on b es)) other
    go false = refl

-- ---- Stamps

fewer_writes : (b : ℕ) (xs ys : List Entry) → length (writes_on b xs) ≤ length (writes_on b (xs ++ ys))
fewer_writes b xs ys = let e = ap length (writes_on-append b xs ys) in let f = length-append (writes_on b xs) (writes_on b ys) in omega arith

module _ (z : Sizes) (openings : Openings) where
  -- an entry's stamp lies between the writes of its bucket before it, and all of them
  pub record IsStamped (before all : List Entry) (e : Entry) : Type 0 where
    pub least : length (writes_on e.call.bucket before) ≤ e.call.stamp
    pub most : e.call.stamp ≤ length (writes_on e.call.bucket all)

  pub stamped : (before es : List Entry) → FollowEach z openings before es → (k : ℕ) (x : Entry) → get_elem? es k ≡ some x
      → IsStamped before (before ++ es) x
  stamped before [] each k x at = absurd (some-ne-none x (sym at))
  stamped before (e ∷ es) each zero x at = subst (IsStamped before (before ++ e ∷ es)) (some-injective e x at) (
      let now = each.0.now in
      let more = fewer_writes e.call.bucket before (e ∷ []) in
      let behind = fewer_writes e.call.bucket (before ++ e ∷ []) es in
      let same = ap (λ (l : List Entry). length (writes_on e.call.bucket l)) (append_assoc before (e ∷ []) es) in
      record { least = omega arith; most = omega arith })
  stamped before (e ∷ es) each (suc k) x at =
      let r = stamped (before ++ e ∷ []) es each.1 k x at in
      let least = r.least in
      let most = r.most in
      let more = fewer_writes x.call.bucket before (e ∷ []) in
      let same = ap (λ (l : List Entry). length (writes_on x.call.bucket l)) (append_assoc before (e ∷ []) es) in
      record { least = omega arith; most = omega arith }
