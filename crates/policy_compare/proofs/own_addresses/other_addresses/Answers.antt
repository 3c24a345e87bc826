use Rattle.std.proofs.Common.{◌≡◌, ◌+◌, ◌++◌, ℕ, [], ◌∷◌, Global, Vec, refl, rules, subst, sym}
use Rattle.acl_policy.specs.Policies.{policy_facts}
use Rattle.policy_compare.specs.Comparisons.{OwnDiffer}
use Rattle.policy_compare.specs.inner.Found.{Adds, IsOtherBefore}
use Rattle.policy_compare.proofs.RowLemmas.{other_passed, other_pushed}
use Rattle.policy_compare.proofs.own_addresses.other_addresses.Goals as goal
use Rattle.policy_compare.proofs.own_addresses.other_addresses.Goals.{then-own_differ+in_ok-push, else-own_differ}

pub loop-number-preserved : goal.loop-number-preserved
loop-number-preserved c =
    let before = policy_facts c.args.before.now in
    let after = policy_facts c.args.after.now in
    let number = c.loop-number.number in
    elim c.if-own_differ.branch [
      | then-own_differ+in_ok-push w ↦
          (let items : w.push.new.self.items ≡ c.loop-number.all.items ++ number ∷ [] = search rules in
          subst (λ (v : Vec ℕ Global). Adds (λ n. n) (OwnDiffer before after) (IsOtherBefore before after (number + 1)) [] v.items) (sym w.all-is)
          (other_pushed before after number number c.loop-number.all.items w.push.new.self.items refl c.loop-number.invariant (c.own_differ.ensures.0 w.if-own_differ.true) items))
      | else-own_differ w ↦
          subst (λ (v : Vec ℕ Global). Adds (λ n. n) (OwnDiffer before after) (IsOtherBefore before after (number + 1)) [] v.items) (sym w.all-is)
          (other_passed before after number number c.loop-number.all.items refl c.loop-number.invariant
          (λ differ. let f : ⊥ = cc (c.own_differ.ensures.1 differ, w.if-own_differ.false) in f))
    ]
