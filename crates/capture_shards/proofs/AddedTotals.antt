-- Totals over the verdicts of all shards add up.
use Rattle.std.proofs.Common.{◌≡◌, ◌∙◌, ◌+◌, ◌<◌, ◌≤◌, ℕ, zero, suc, Bool, true, false, cond, List, [], ◌∷◌, length, None, ap, ap₂, arith, eq-eqb, inl, inr, not, refl, sym, true≢false}
use Rattle.std.specs.Prelude.{◌==◌, count_by}
use Rattle.std.proofs.lemmas.Bool.{cases_lt, eqb-true, ne_eqb}
use Rattle.std.proofs.lemmas.List.Sums.{sum_by-cons}
use Rattle.packet_view.specs.Captures.{PacketFacts}
use Rattle.packet_view.specs.Interfaces.{Interface}
use Rattle.packet_view.specs.inner.FrameSteps.{view_of}
use Rattle.packet_view.proofs.FrameLemmas.{view_shown}
use Rattle.session_state.specs.Passes.{passes}
use Rattle.session_state.specs.declared.verdict.Verdict.{Verdict}
use Rattle.flow_filter.specs.OneThread.{Layout}
use Rattle.flow_dealing.specs.Dealings.{flow_of_frame}
use Rattle.racl_io.specs.Reports.{lacks_pages}
use Rattle.capture_shards.specs.Shards.{AddUp, AreMerged, AreOwns, Own, over_shards, own_in, shard_of}
use Rattle.capture_shards.proofs.OneReport.{shard_within}

-- ---- Sums over shards

over_same : (count : ℕ) (f g : ℕ → ℕ) → ((shard : ℕ) → 1 ≤ shard → shard ≤ count → f shard ≡ g shard) → over_shards count f ≡ over_shards count g
over_same zero f g same = refl
over_same (suc count) f g same =
    ap₂ (λ a b. a + b) (over_same count f g (λ shard some few. same shard some (omega (arith, few)))) (same (suc count) (omega arith) (omega arith))

over_both : (count : ℕ) (f g : ℕ → ℕ) → over_shards count (λ shard. f shard + g shard) ≡ over_shards count f + over_shards count g
over_both zero f g = refl
over_both (suc count) f g = let rest = over_both count f g in omega (arith, rest)

over_nothing : (count : ℕ) → over_shards count (λ shard. 0) ≡ 0
over_nothing zero = refl
over_nothing (suc count) = let rest = over_nothing count in omega (arith, rest)

-- a shard's number is none of these
over_none : (count shard x : ℕ) → count < shard → over_shards count (λ other. cond (shard == other) x 0) ≡ 0
over_none zero shard x less = refl
over_none (suc count) shard x less =
    let rest = over_none count shard x (omega (arith, less)) in
    let apart : (shard == suc count) ≡ false = ne_eqb shard (suc count) (λ same. omega (arith, same, less)) in
    let here : cond (shard == suc count) x 0 ≡ 0 = ap (λ b. cond b x 0) apart in
    omega (arith, rest, here)

-- or one of them
over_one : (count shard x : ℕ) → 1 ≤ shard → shard ≤ count → over_shards count (λ other. cond (shard == other) x 0) ≡ x
over_one zero shard x some few = absurd (omega (arith, some, few))
over_one (suc count) shard x some few = go (shard == suc count) refl (λ less. over_one count shard x some less)
  where
    below : (shard == suc count) ≡ false → shard ≤ count
    below apart = elim (cases_lt shard (suc count)) [
      | inl less ↦ omega (arith, less)
      | inr more ↦ absurd (true≢false (sym (eq-eqb shard (suc count) (omega (arith, few, more))) ∙ apart))
    ]

    go : (b : Bool) → (shard == suc count) ≡ b → (shard ≤ count → over_shards count (λ other. cond (shard == other) x 0) ≡ x)
        → over_shards count (λ other. cond (shard == other) x 0) + cond (shard == suc count) x 0 ≡ x
    go true last rest =
        let same : shard ≡ suc count = eqb-true shard (suc count) last in
        let none = over_none count shard x (omega (arith, same)) in
        let here : cond (shard == suc count) x 0 ≡ x = ap (λ b. cond b x 0) last in
        omega (arith, none, here)
    go false other rest =
        let before = rest (below other) in
        let here : cond (shard == suc count) x 0 ≡ 0 = ap (λ b. cond b x 0) other in
        omega (arith, before, here)

-- ---- Weights of verdicts

abbrev weight_of : (Verdict → ℕ) → List Verdict → ℕ
weight_of w [] = 0
weight_of w (verdict ∷ verdicts) = w verdict + weight_of w verdicts

weight_length : (verdicts : List Verdict) → length verdicts ≡ weight_of (λ v. 1) verdicts
weight_length [] = refl
weight_length (v ∷ vs) = let rest = weight_length vs in omega (arith, rest)

weight_counted : (test : Verdict → Bool) (verdicts : List Verdict) → count_by test verdicts ≡ weight_of (λ v. cond (test v) 1 0) verdicts
weight_counted test [] = refl
weight_counted test (v ∷ vs) = sum_by-cons (λ (x : Verdict). cond (test x) 1 0) v vs ∙ ap (λ n. cond (test v) 1 0 + n) (weight_counted test vs)

-- the shard of a packet, and no other, has the packet
record HasOneOwner (count : ℕ) (owns : ℕ → Own) (n : ℕ) (p : PacketFacts) : Type 0 where
  shard : ℕ
  some : 1 ≤ shard
  few : shard ≤ count
  is : (other : ℕ) → 1 ≤ other → other ≤ count → owns other n p ≡ (shard == other)

one_owner : (l : Layout) (count : ℕ) (owns : ℕ → Own) → 1 ≤ count → AreOwns l count owns → (n : ℕ) (p : PacketFacts) → HasOneOwner count owns n p
one_owner l count owns some are n p =
    let at : Interface = record { number = p.interface; own = None } in
    let seen = view_of p.frame at in
    let flow = flow_of_frame seen in
    let few = shard_within l count n flow some in
    record {
      shard = shard_of l count n flow;
      some = few.0;
      few = few.1;
      is = λ other least most. are other least most n p None seen (view_shown p.frame at);
    }

weight_where : (w : Verdict → ℕ) (b : Bool) (v : Verdict) (vs : List Verdict) → weight_of w (cond b (v ∷ vs) vs) ≡ cond b (w v) 0 + weight_of w vs
weight_where w true v vs = refl
weight_where w false v vs = omega arith

module _ (count : ℕ) (owns : ℕ → Own) (w : Verdict → ℕ) where
  weight_more : (n : ℕ) (p : PacketFacts) (v : Verdict) (one : HasOneOwner count owns n p) (all : ℕ) (rest : ℕ → List Verdict)
      → all ≡ over_shards count (λ shard. weight_of w (rest shard))
      → w v + all ≡ over_shards count (λ shard. weight_of w (cond (owns shard n p) (v ∷ rest shard) (rest shard)))
  weight_more n p v one all rest is =
      ap₂ (λ a b. a + b) (sym (over_one count one.shard (w v) one.some one.few)) is
      ∙ sym (over_both count (λ shard. cond (one.shard == shard) (w v) 0) (λ shard. weight_of w (rest shard)))
      ∙ over_same count (λ shard. cond (one.shard == shard) (w v) 0 + weight_of w (rest shard))
      (λ shard. weight_of w (cond (owns shard n p) (v ∷ rest shard) (rest shard)))
      (λ shard least most. ap (λ b. cond b (w v) 0 + weight_of w (rest shard)) (sym (one.is shard least most))
      ∙ sym (weight_where w (owns shard n p) v (rest shard)))

module _ (l : Layout) (count : ℕ) (owns : ℕ → Own) (some : 1 ≤ count) (are : AreOwns l count owns) (w : Verdict → ℕ) where
  weights_add : (n : ℕ) (ps : List PacketFacts) (vs : List Verdict) → length vs ≡ length ps
      → weight_of w vs ≡ over_shards count (λ shard. weight_of w (own_in (owns shard) n ps vs))
  weights_add n [] [] each = sym (over_nothing count)
  weights_add n [] (v ∷ vs) each = absurd (omega (arith, each))
  weights_add n (p ∷ ps) [] each = absurd (omega (arith, each))
  weights_add n (p ∷ ps) (v ∷ vs) each =
      weight_more count owns w n p v (one_owner l count owns some are n p) (weight_of w vs) (λ shard. own_in (owns shard) (n + 1) ps vs)
      (weights_add (n + 1) ps vs (omega (arith, each)))

-- ---- Totals

module _ (l : Layout) (ps : List PacketFacts) (count : ℕ) (owns : ℕ → Own) (said : ℕ → List Verdict) (verdicts : List Verdict) (some : 1 ≤ count) (are : AreOwns l count owns)
    (merged : AreMerged ps count owns said verdicts) where
  added : (w : Verdict → ℕ) (f : List Verdict → ℕ) → ((vs : List Verdict) → f vs ≡ weight_of w vs) → f verdicts ≡ over_shards count (λ shard. f (said shard))
  added w f is =
      is verdicts ∙ weights_add l count owns some are w 1 ps verdicts merged.each
      ∙ over_same count (λ shard. weight_of w (own_in (owns shard) 1 ps verdicts)) (λ shard. f (said shard))
      (λ shard least most. ap (weight_of w) (merged.at_places shard least most) ∙ sym (is (said shard)))

  pub add_up : AddUp count said verdicts
  add_up = record {
    all = added (λ v. 1) length weight_length;
    passing = added (λ v. cond (passes v) 1 0) (count_by passes) (weight_counted passes);
    dropping = added (λ v. cond (not (passes v)) 1 0) (count_by (λ v. not (passes v))) (weight_counted (λ v. not (passes v)));
    lacking = added (λ v. cond (lacks_pages v) 1 0) (count_by lacks_pages) (weight_counted lacks_pages);
  }
