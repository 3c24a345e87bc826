-- Lists of entries: what they hold of a number and of a bucket, and their beginnings.
use Rattle.std.proofs.Common.{◌≡◌, ◌≢◌, ◌⊎◌, ℕ, zero, suc, ◌<◌, ◌≤◌, eqb, cond, nat_le, Bool, true, false, List, [], ◌∷◌, ◌++◌, length, refl, sym, ap, ◌∙◌, subst, inl, inr, arith, append-nil, append_assoc, le_refl, eq-eqb, ne_eqb}
use mathlib.Core.Logic.{dite}
use native.Mathlib.Decide.{dec_le}
use mathlib.Core.Option.{some, some-ne-none, some-injective}
use lib.ListN.{get_elem?}
use Rattle.std.proofs.lemmas.Bool.Decides.{nat_tests}
use Rattle.atomic_table.proofs.Lists.{at_longer}
use Rattle.bihash_words.specs.Sizes.{Sizes}
use Rattle.bihash_rule.specs.Histories.{is_changed, write_of}
use Rattle.bihash_rule.specs.declared.view.Openings.{Openings}
use Rattle.bihash_rule.specs.Logs.{call_if, calls_by, write_if, writes_on, Begins, Follows, FollowEach}
use Rattle.bihash_steps.specs.Steps.{longer_log}
use Rattle.bihash_rule.specs.declared.view.Write.{Write}
use Rattle.bihash_rule.specs.declared.view.Call.{Call}
use Rattle.bihash_rule.specs.declared.view.Entry.{Entry}
use Rattle.bihash_steps.proofs.Lists.{within}

-- ---- Under a number, and on a bucket

call_if-append : (b : Bool) (c : Call) (xs ys zs : List Call) → zs ≡ xs ++ ys → call_if b c zs ≡ call_if b c xs ++ ys
call_if-append true c xs ys zs e = ap (λ (l : List Call). c ∷ l) e
call_if-append false c xs ys zs e = e

pub calls_by-append : (n : ℕ) (xs ys : List Entry) → calls_by n (xs ++ ys) ≡ calls_by n xs ++ calls_by n ys
calls_by-append n [] ys = refl
calls_by-append n (x ∷ xs) ys = call_if-append (eqb x.by n) x.call (calls_by n xs) (calls_by n ys) (calls_by n (xs ++ ys)) (calls_by-append n xs ys)

write_if-append : (a b : Bool) (w : Write) (xs ys zs : List Write) → zs ≡ xs ++ ys → write_if a b w zs ≡ write_if a b w xs ++ ys
write_if-append true true w xs ys zs e = ap (λ (l : List Write). w ∷ l) e
write_if-append true false w xs ys zs e = e
write_if-append false b w xs ys zs e = e

pub writes_on-append : (b : ℕ) (xs ys : List Entry) → writes_on b (xs ++ ys) ≡ writes_on b xs ++ writes_on b ys
writes_on-append b [] ys = refl
writes_on-append b (x ∷ xs) ys = write_if-append (is_changed x.call.reply) (eqb x.call.bucket b) (write_of x.by x.call) (writes_on b xs) (writes_on b ys)
    (writes_on b (xs ++ ys)) (writes_on-append b xs ys)

-- none under a number that no entry bears
pub none_by : (n : ℕ) (es : List Entry) → ((k : ℕ) (e : Entry) → get_elem? es k ≡ some e → e.by ≢ n) → calls_by n es ≡ []
none_by n [] none = refl
none_by n (e ∷ es) none = ap (λ (b : Bool). call_if b e.call (calls_by n es)) (ne_eqb e.by n (none 0 e refl))
    ∙ none_by n es (λ k x at. none (suc k) x at)

pub one_by : (n : ℕ) (e : Entry) → e.by ≡ n → calls_by n (e ∷ []) ≡ e.call ∷ []
one_by n e is = ap (λ (b : Bool). call_if b e.call []) (eq-eqb e.by n is)

pub other_by : (n : ℕ) (e : Entry) → e.by ≢ n → calls_by n (e ∷ []) ≡ []
other_by n e ne = ap (λ (b : Bool). call_if b e.call []) (ne_eqb e.by n ne)

none_if : (b : Bool) (c : Call) (cs : List Call) → cs ≢ [] → call_if b c cs ≢ []
none_if true c cs ne h = cc
none_if false c cs ne h = ne h

-- an entry is among the calls under its number
pub some_by : (n k : ℕ) (es : List Entry) (e : Entry) → get_elem? es k ≡ some e → e.by ≡ n → calls_by n es ≢ []
some_by n k [] e at is h = absurd (some-ne-none e (sym at))
some_by n zero (x ∷ xs) e at is h =
    let t : eqb x.by n ≡ true = eq-eqb x.by n (ap (λ (y : Entry). y.by) (some-injective x e at) ∙ is) in
    let c : x.call ∷ calls_by n xs ≡ [] = sym (ap (λ (b : Bool). call_if b x.call (calls_by n xs)) t) ∙ h in cc
some_by n (suc k) (x ∷ xs) e at is h = none_if (eqb x.by n) x.call (calls_by n xs) (some_by n k xs e at is) h

pub read_writes : (b : ℕ) (e : Entry) → is_changed e.call.reply ≡ false → writes_on b (e ∷ []) ≡ []
read_writes b e reads = ap (λ (a : Bool). write_if a (eqb e.call.bucket b) (write_of e.by e.call) []) reads

pub write_here : (b : ℕ) (e : Entry) → is_changed e.call.reply ≡ true → e.call.bucket ≡ b → writes_on b (e ∷ []) ≡ write_of e.by e.call ∷ []
write_here b e writes is = ap (λ (a : Bool). write_if a (eqb e.call.bucket b) (write_of e.by e.call) []) writes
    ∙ ap (λ (a : Bool). write_if true a (write_of e.by e.call) []) (eq-eqb e.call.bucket b is)

pub write_else : (b : ℕ) (e : Entry) → is_changed e.call.reply ≡ true → e.call.bucket ≢ b → writes_on b (e ∷ []) ≡ []
write_else b e writes ne = ap (λ (a : Bool). write_if a (eqb e.call.bucket b) (write_of e.by e.call) []) writes
    ∙ ap (λ (a : Bool). write_if true a (write_of e.by e.call) []) (ne_eqb e.call.bucket b ne)

-- ---- Beginnings

pub begins_refl : (h : List Entry) → Begins h h
begins_refl h = record { rest = []; whole = sym (append-nil h) }

pub begins_more : (xs ys more : List Entry) → Begins xs ys → Begins xs (ys ++ more)
begins_more xs ys more p = record { rest = p.rest ++ more; whole = ap (λ (l : List Entry). l ++ more) p.whole ∙ append_assoc xs p.rest more }

pub begin_at : (xs ys : List Entry) (n : ℕ) (e : Entry) → Begins xs ys → get_elem? xs n ≡ some e → get_elem? ys n ≡ some e
begin_at xs ys n e p at = ap (λ (l : List Entry). get_elem? l n) p.whole ∙ at_longer xs p.rest n e at

pub begin_below : (xs ys : List Entry) (n : ℕ) (e : Entry) → Begins xs ys → n < length xs → get_elem? ys n ≡ some e → get_elem? xs n ≡ some e
begin_below xs ys n e p l at = go xs n l (ap (λ (l : List Entry). get_elem? l n) (sym p.whole) ∙ at)
  where
    go : (xs : List Entry) (n : ℕ) → n < length xs → get_elem? (xs ++ p.rest) n ≡ some e → get_elem? xs n ≡ some e
    go [] n l e = absurd (omega arith)
    go (x ∷ xs) zero l e = e
    go (x ∷ xs) (suc n) l e = go xs n (omega arith) e

-- a list that has each element of another at its place begins with it
pub begins_by_places : (xs ys : List Entry) → ((n : ℕ) (e : Entry) → get_elem? xs n ≡ some e → get_elem? ys n ≡ some e) → Begins xs ys
begins_by_places [] ys same = record { rest = ys; whole = refl }
begins_by_places (x ∷ xs) [] same = absurd (some-ne-none x (sym (same 0 x refl)))
begins_by_places (x ∷ xs) (y ∷ ys) same = let h = begins_by_places xs ys (λ n e at. same (suc n) e at) in
    let is : y ≡ x = some-injective y x (same 0 x refl) in record { rest = h.rest; whole = λ i. is i ∷ h.whole i }

-- ---- Entries that follow

pub follow_more : (z : Sizes) (openings : Openings) (before es : List Entry) (e : Entry) → FollowEach z openings before es
    → Follows z openings (before ++ es) e → FollowEach z openings before (es ++ e ∷ [])
follow_more z openings before [] e each last = (subst (λ (l : List Entry). Follows z openings l e) (append-nil before) last, tt)
follow_more z openings before (x ∷ xs) e each last = (
  each.0,
  follow_more z openings (before ++ x ∷ []) xs e each.1
      (subst (λ (l : List Entry). Follows z openings l e) (sym (append_assoc before (x ∷ []) xs)) last),
)

pub follow_fewer : (z : Sizes) (openings : Openings) (before es more : List Entry) → FollowEach z openings before (es ++ more)
    → FollowEach z openings before es
follow_fewer z openings before [] more each = tt
follow_fewer z openings before (x ∷ xs) more each = (each.0, follow_fewer z openings (before ++ x ∷ []) xs more each.1)

-- ---- The longer of two beginnings

-- the shorter of two beginnings begins the longer
pub begin_of_begin : (xs ys L : List Entry) → Begins xs L → Begins ys L → length xs ≤ length ys → Begins xs ys
begin_of_begin xs ys L a b le = begins_by_places xs ys (λ n e at. let in_xs = within xs n e at in
    begin_below ys L n e b (omega arith) (begin_at xs L n e a at))

pub one_begins_log : (xs ys L : List Entry) → Begins xs L → Begins ys L → Begins xs ys ⊎ Begins ys xs
one_begins_log xs ys L a b = dite (dec_le (length xs) (length ys)) (λ l. inl (begin_of_begin xs ys L a b l))
    (λ l. inr (begin_of_begin ys xs L b a (omega arith)))

pub longer_logs : (xs ys L : List Entry) → Begins xs L → Begins ys L
    → Begins (longer_log xs ys) L × (length xs ≤ length (longer_log xs ys)) × (length ys ≤ length (longer_log xs ys))
longer_logs xs ys L a b = go (nat_le (length ys) (length xs)) refl
  where
    go : (t : Bool) → nat_le (length ys) (length xs) ≡ t
        → Begins (cond t xs ys) L × (length xs ≤ length (cond t xs ys)) × (length ys ≤ length (cond t xs ys))
    go true e = (a, le_refl (length xs), grind (arith, nat_tests, e))
    go false e = (b, grind (arith, nat_tests, e), le_refl (length ys))
