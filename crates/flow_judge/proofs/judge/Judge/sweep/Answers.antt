-- Each look is answered behind those before it, and the sweep ends where they end.
use Rattle.std.proofs.Common.{◌≡◌, ◌≤◌, ◌<◌, ◌+◌, ◌⊎◌, ℕ, zero, suc, Bool, true, false, true≢false, add-one, ap, arith, inl, inr, min, refl, subst, sym, if◌then◌else◌}
use Rattle.bihash_table.specs.Ageing.{is_removal}
use Rattle.flow_judge.specs.Sweeps.{AreLooks}
use Rattle.flow_judge.proofs.judge.Judge.sweep.Goals as goal

few_more : (gone : Bool) (went looks : ℕ) → went ≤ looks → (if gone then went + 1 else went) ≤ looks + 1
few_more true went looks few = omega arith
few_more false went looks few = omega arith

le_or_less : (a b : ℕ) → (a ≤ b) ⊎ (b < a)
le_or_less zero b = inl (omega arith)
le_or_less (suc a) zero = inr (omega arith)
le_or_less (suc a) (suc b) = elim (le_or_less a b) [
  | inl few ↦ inl (omega arith)
  | inr less ↦ inr (omega arith)
]

-- what isn't before the lesser of two is not before one of them
behind_one : (to count end next : ℕ) → end ≡ min to count → end ≤ next → (to ≤ next) ⊎ (count ≤ next)
behind_one to count end next least past = elim (le_or_less to next) [
  | inl few ↦ inl few
  | inr less ↦ inr (omega arith)
]

pub looks-preserved : goal.looks-preserved
looks-preserved g c =
    let so_far = c.looks.invariant in
    let found = c.in-Ok.found in
    let few = c.looks-test.true in
    let before = c.if-next-end.true in
    let least = c.min-end.ensures in
    let inside : c.looks.next < c.args.to = omega arith in
    let next = ap (λ (p : ℕ × ℕ). p.0) c.past.ensures in
    let went = ap (λ (p : ℕ × ℕ). p.1) c.past.ensures in
    let more = few_more (is_removal found) c.looks.went c.looks.looks so_far.gone in
    record {
      looked = subst (λ n. AreLooks g.A.Shape g.B.Shape c.args.family c.args.moment c.args.from c.args.to c.args.self.now n
          c.past.result.0 c.past.result.1 c.expire.new.self) (sym (add-one c.looks.looks))
          (c.looks.self, c.looks.next, c.looks.went, found, so_far.looked, inside, c.in-Ok.ensures, next, went);
      few = omega arith;
      gone = subst (λ n. n ≤ c.looks.looks + 1) (sym went) more;
    }

pub returns-in-Err : goal.returns-in-Err
returns-in-Err g c =
    let so_far = c.looks.invariant in
    let before = c.if-next-end.true in
    let least = c.min-end.ensures in
    let inside : c.looks.next < c.args.to = omega arith in
    record {
      looks = c.looks.looks;
      few = so_far.few;
      middle = c.looks.self;
      looked = so_far.looked;
      over = λ same. absurd (true≢false same);
      met = λ same. (_, inside, c.in-Err.ensures);
    }

pub returns-else-next-end : goal.returns-else-next-end
returns-else-next-end g c =
    let so_far = c.looks.invariant in
    let past = c.if-next-end.false in
    let passed : c.min-end.result ≤ c.looks.next = omega arith in
    let one = behind_one c.args.to c.bucket_count.result c.min-end.result c.looks.next c.min-end.ensures passed in
    record {
      looks = c.looks.looks;
      few = so_far.few;
      middle = c.looks.self;
      looked = so_far.looked;
      over = λ same. (
        refl,
        inr (elim one [
          | inl few ↦ inl few
          | inr few ↦ inr (subst (λ n. n ≤ c.looks.next) c.bucket_count.ensures few)
        ]),
      );
      met = λ same. absurd (true≢false (sym same));
    }

pub returns-after-looks : goal.returns-after-looks
returns-after-looks g c =
    let so_far = c.looks.invariant in
    let few = so_far.few in
    let done = c.looks-test.false in
    record {
      looks = c.looks.looks;
      few = few;
      middle = c.looks.self;
      looked = so_far.looked;
      over = λ same. (refl, inl (omega arith));
      met = λ same. absurd (true≢false (sym same));
    }
