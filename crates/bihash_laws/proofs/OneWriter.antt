-- To a caller that made each write that it knows of a bucket, the bucket is one bounded map.
use Rattle.std.proofs.Common.{◌≡◌, ◌≢◌, ◌∙◌, ◌+◌, ◌<◌, ◌≤◌, ℕ, zero, suc, Bool, true, false, cond, List, [], ◌∷◌, length, ap, arith, refl, sym, subst, inl, inr}
use Rattle.std.proofs.lemmas.Bool.Decides.{eqb_tells}
use Rattle.std.proofs.lemmas.Bool.{cases_lt}
use mathlib.Core.Option.{some, some-ne-none, some-injective}
use lib.ListN.{get_elem?}
use Rattle.bihash_words.specs.Maps.{Pairs}
use Rattle.bihash_words.specs.Sizes.{Sizes}
use Rattle.bihash_rule.specs.Words.{buckets}
use Rattle.bihash_rule.specs.Histories.{IsAnswer, IsLegal, write_of, after, bounds_of, event_of, is_changed}
use Rattle.bihash_rule.specs.Callers.{HasWrite, IsLawfulCaller, MayFollow, Rises, known_at, opening_at}
use Rattle.bihash_steps.specs.BucketSteps.{map_now}
use Rattle.bihash_rule.specs.declared.view.Write.{Write}
use Rattle.bihash_rule.specs.declared.view.Call.{Call}
use Rattle.bihash_rule.specs.declared.view.Record.{Record}
use Rattle.bihash_rule.specs.declared.view.View.{View}
use Rattle.bihash_steps.proofs.Lists.{there, within}
use Rattle.bihash_laws.specs.CallRuns.{IsOneWriter, IsCallRun, calls_on, writes_after}
use Rattle.bihash_laws.proofs.MapSteps.{after_next, no_more, one_more, step_changes, step_leaves}

module _ (z : Sizes) (b : ℕ) (opening : Pairs) (H : List Write) (by : ℕ) where
  -- The calls that are left when the first n writes stand: those on bucket b are legal and not of earlier
  -- stamps, and the other writes are among them.
  record AreLeft (n : ℕ) (calls : List Call) : Type 0 where
    passed : n ≤ length H
    legal : (k : ℕ) (c : Call) → get_elem? calls k ≡ some c → c.bucket ≡ b → IsLegal z opening H by c
    rises : Rises calls
    late : (k : ℕ) (c : Call) → get_elem? calls k ≡ some c → c.bucket ≡ b
        → (n ≤ c.stamp) × (is_changed c.reply ≡ true → n < c.stamp)
    has : (p : ℕ) → n ≤ p → p < length H → HasWrite calls b (p + 1)

  -- a write that isn't the first call is one after it
  behind : (c : Call) (cs : List Call) (number : ℕ) → HasWrite (c ∷ cs) b number
      → (c.bucket ≡ b → is_changed c.reply ≡ true → c.stamp ≡ number → ⊥) → HasWrite cs b number
  behind c cs number h other = go h.0 h.1 h.2 h.3 h.4 h.5
    where
      go : (k : ℕ) (d : Call) → get_elem? (c ∷ cs) k ≡ some d → d.bucket ≡ b → is_changed d.reply ≡ true → d.stamp ≡ number
          → HasWrite cs b number
      go zero d at home wrote stamp = let same : c ≡ d = some-injective c d at in
          absurd (other (ap (λ (x : Call). x.bucket) same ∙ home) (ap (λ (x : Call). is_changed x.reply) same ∙ wrote)
          (ap (λ (x : Call). x.stamp) same ∙ stamp))
      go (suc k) d at home wrote stamp = (k, d, at, home, wrote, stamp)

  -- the calls after the first, when m writes stand
  tail_left : (c : Call) (cs : List Call) (n m : ℕ) → AreLeft n (c ∷ cs) → n ≤ m → m ≤ length H
      → ((p : ℕ) → m ≤ p → c.bucket ≡ b → is_changed c.reply ≡ true → c.stamp ≡ p + 1 → ⊥)
      → ((k : ℕ) (d : Call) → get_elem? cs k ≡ some d → d.bucket ≡ b → (m ≤ d.stamp) × (is_changed d.reply ≡ true → m < d.stamp))
      → AreLeft m cs
  tail_left c cs n m left grows passed gone late = record {
    passed = passed;
    legal = λ k d at. left.legal (suc k) d at;
    rises = λ i j x y lt at_i at_j. left.rises (suc i) (suc j) x y (omega arith) at_i at_j;
    late = late;
    has = λ p from inside. behind c cs (p + 1) (left.has p (omega arith) inside) (gone p from);
  }

  -- a call on another bucket is passed over
  other_bucket : (c : Call) (cs : List Call) (n : ℕ) → AreLeft n (c ∷ cs) → c.bucket ≢ b → AreLeft n cs
  other_bucket c cs n left other = tail_left c cs n n left (omega arith) left.passed (λ p from home. absurd (other home))
      (λ k d at. left.late (suc k) d at)

  follows : (c : Call) (cs : List Call) (n : ℕ) → AreLeft n (c ∷ cs) → (k : ℕ) (d : Call) → get_elem? cs k ≡ some d → MayFollow c d
  follows c cs n left k d at = left.rises 0 (suc k) c d (omega arith) refl at

  -- a call that is no write follows n writes
  read_stamp : (c : Call) (cs : List Call) (n : ℕ) → AreLeft n (c ∷ cs) → c.bucket ≡ b → is_changed c.reply ≡ false → c.stamp ≡ n
  read_stamp c cs n left home read = elim (cases_lt n c.stamp) [
    | inl more ↦
        let seen = (left.legal 0 c refl home).seen in
        let next = behind c cs (n + 1) (left.has n (omega arith) (omega arith))
        (λ _ wrote _. let clash = sym read ∙ wrote in let f : ⊥ = cc in f) in
        let below : c.stamp < next.1.stamp = (follows c cs n left next.0 next.1 next.2 (home ∙ sym next.3)).1 next.4 in
        let stamp : next.1.stamp ≡ n + 1 = next.5 in
        omega arith
    | inr no_more ↦ let late = (left.late 0 c refl home).0 in omega arith
  ]

  -- a write is the next of the history
  write_place : (c : Call) (cs : List Call) (n p : ℕ) → AreLeft n (c ∷ cs) → c.bucket ≡ b → is_changed c.reply ≡ true
      → c.stamp ≡ p + 1 → p < length H → p ≡ n
  write_place c cs n p left home wrote is inside = elim (cases_lt n p) [
    | inl more ↦
        let next = behind c cs (n + 1) (left.has n (omega arith) (omega arith)) (λ _ _ stamp. omega arith) in
        let below : c.stamp < next.1.stamp = (follows c cs n left next.0 next.1 next.2 (home ∙ sym next.3)).1 next.4 in
        let stamp : next.1.stamp ≡ n + 1 = next.5 in
        omega arith
    | inr no_more ↦ let late = (left.late 0 c refl home).1 wrote in omega arith
  ]

  abbrev End : Pairs → ℕ → List Call → Type 0
  End m n calls = IsCallRun z m n calls (after opening H (length H)) (length H)

  -- a call on the bucket is a step, and the others go on from the map that it leaves
  one_call : (c : Call) (cs : List Call) (n : ℕ) → AreLeft n (c ∷ cs) → c.bucket ≡ b
      → ((m : ℕ) → AreLeft m cs → End (after opening H m) m (calls_on b cs)) → End (after opening H n) n (c ∷ calls_on b cs)
  one_call c cs n left home rest = go (is_changed c.reply) refl
    where
      legal : IsLegal z opening H by c
      legal = left.legal 0 c refl home

      later : (k : ℕ) (d : Call) → get_elem? cs k ≡ some d → d.bucket ≡ b
          → (c.stamp ≤ d.stamp) × (is_changed d.reply ≡ true → c.stamp < d.stamp)
      later k d at there = follows c cs n left k d at (home ∙ sym there)

      write : is_changed c.reply ≡ true → End (after opening H n) n (c ∷ calls_on b cs)
      write wrote =
          let o = legal.write wrote in
          let inside = within H o.0 (write_of by c) o.2 in
          let place : o.0 ≡ n = write_place c cs n o.0 left home wrote o.1 inside in
          let answer : IsAnswer z (after opening H n) n c = subst (λ p. IsAnswer z (after opening H p) p c) place o.3 in
          let at : get_elem? H n ≡ some (write_of by c) = ap (get_elem? H) (sym place) ∙ o.2 in
          let leaves : answer.0 ≡ after opening H (n + 1) =
          step_changes (bounds_of z) (after opening H n) answer.0 n (event_of c) answer.1 wrote ∙ sym (after_next opening H n (write_of by c) at) in
          let count : writes_after n c ≡ n + 1 = one_more c.reply n wrote in
          let stamp : c.stamp ≡ n + 1 = o.1 ∙ ap (λ (p : ℕ). p + 1) place in
          let tail : AreLeft (n + 1) cs = tail_left c cs n (n + 1) left (omega arith) (omega arith) (λ p from _ _ is. omega arith)
          (λ k d at there. subst (λ (s : ℕ). (s ≤ d.stamp) × (is_changed d.reply ≡ true → s < d.stamp)) stamp (later k d at there)) in (
            answer.0,
            answer.1,
            subst (λ (m : Pairs). End m (writes_after n c) (calls_on b cs)) (sym leaves)
                (subst (λ (k : ℕ). End (after opening H (n + 1)) k (calls_on b cs)) (sym count) (rest (n + 1) tail)),
          )

      read : is_changed c.reply ≡ false → End (after opening H n) n (c ∷ calls_on b cs)
      read kept =
          let stamp : c.stamp ≡ n = read_stamp c cs n left home kept in
          let answer : IsAnswer z (after opening H n) n c = subst (λ p. IsAnswer z (after opening H p) p c) stamp (legal.other kept) in
          let leaves : answer.0 ≡ after opening H n = step_leaves (bounds_of z) (after opening H n) answer.0 n (event_of c) answer.1 kept in
          let count : writes_after n c ≡ n = no_more c.reply n kept in
          let tail : AreLeft n cs = tail_left c cs n n left (omega arith) left.passed
          (λ p from _ wrote _. let clash = sym kept ∙ wrote in let f : ⊥ = cc in f) (λ k d at. left.late (suc k) d at) in (
            answer.0,
            answer.1,
            subst (λ (m : Pairs). End m (writes_after n c) (calls_on b cs)) (sym leaves)
                (subst (λ (k : ℕ). End (after opening H n) k (calls_on b cs)) (sym count) (rest n tail)),
          )

      go : (t : Bool) → is_changed c.reply ≡ t → End (after opening H n) n (c ∷ calls_on b cs)
      go true = write
      go false = read

  run : (calls : List Call) (n : ℕ) → AreLeft n calls → End (after opening H n) n (calls_on b calls)
  run [] n left = (ap (after opening H) all, all)
    where
      all : n ≡ length H
      all = elim (cases_lt n (length H)) [
        | inl more ↦ let h = left.has n (omega arith) more in absurd (some-ne-none h.1 (sym h.2))
        | inr no_more ↦ let passed = left.passed in omega arith
      ]
  run (c ∷ cs) n left = elim (eqb_tells c.bucket b) [
    | inl (test, home) ↦ subst (λ (t : Bool). End (after opening H n) n (cond t (c ∷ calls_on b cs) (calls_on b cs))) (sym test)
        (one_call c cs n left home (λ m h. run cs m h))
    | inr (test, other) ↦ subst (λ (t : Bool). End (after opening H n) n (cond t (c ∷ calls_on b cs) (calls_on b cs))) (sym test)
        (run cs n (other_bucket c cs n left other))
  ]

pub one_map : (z : Sizes) (v : View) (i b : ℕ) (r : Record) → IsLawfulCaller z v → get_elem? v.records i ≡ some r → b < buckets z
    → IsOneWriter v.known b r.number
    → IsCallRun z (opening_at v.known b) 0 (calls_on b r.calls) (map_now v b) (length (known_at v.known b))
one_map z v i b r caller at inside alone = run z b (opening_at v.known b) (known_at v.known b) r.number r.calls 0 record {
  passed = omega arith;
  legal = legal;
  rises = caller.lawful.rises i r at;
  late = λ k c at_k home. (omega arith, λ wrote. let stamp = ((legal k c at_k home).write wrote).1 in omega arith);
  has = λ p _ stands. let w = there (known_at v.known b) p stands in
      caller.lawful.own i b p r w.0 at inside w.1 (alone p w.0 w.1);
}
  where
    legal : (k : ℕ) (c : Call) → get_elem? r.calls k ≡ some c → c.bucket ≡ b
        → IsLegal z (opening_at v.known b) (known_at v.known b) r.number c
    legal k c at_k home = subst (λ (n : ℕ). IsLegal z (opening_at v.known n) (known_at v.known n) r.number c) home
        (caller.lawful.legal i k r c at at_k)
