use Rattle.std.proofs.Common.{◌≡◌, ◌∙◌, ℕ, Some, map, sym, subst, arith}
use Rattle.std.specs.Prelude.{slice_get}
use borrow.Author.Count.{below_more}
use Rattle.acl_policy.specs.Rules.{RuleFacts, rule_facts}
use Rattle.acl_policy.proofs.OptionLemmas.{same_some}
use Rattle.policy_check.specs.Remarks.{Covers, NoneCovers}
use Rattle.policy_check.proofs.RemarkLemmas.{rule_there}
use Rattle.policy_check.proofs.remarks_on_policy.taker.Goals as goal

pub loop-i-init : goal.loop-i-init
loop-i-init c = λ later is k below other. absurd (omega arith)

pub loop-i-preserved : goal.loop-i-preserved
loop-i-preserved c = λ later is.
    let rules = c.args.rules.now in
    let earlier = c.index-rules-i.result in
    let here = rule_there rules c.loop-i.i earlier (omega arith) c.index-rules-i.is in
    let there = rule_there rules c.args.place c.index-rules-place.result (omega arith) c.index-rules-place.is in
    let same : rule_facts c.index-rules-place.result ≡ later = same_some _ _ (sym there ∙ is) in
    below_more (λ (k : ℕ). (other : RuleFacts) → slice_get (map rule_facts rules) k ≡ Some other → Covers other later → ⊥) c.loop-i.i
    (c.loop-i.invariant later is)
    (λ other at covers.
    let found : rule_facts earlier ≡ other = same_some _ _ (sym here ∙ at) in
    let both : Covers (rule_facts earlier) (rule_facts c.index-rules-place.result) =
    subst (λ (r : RuleFacts). Covers (rule_facts earlier) r) (sym same) (subst (λ (r : RuleFacts). Covers r later) (sym found) covers) in
    let yes = c.takes_all.ensures.found.1 both in
    let no = c.if-takes_all.false in
    let f : ⊥ = cc in f)

pub returns-then-takes_all-clause-first : goal.returns-then-takes_all-clause-first
returns-then-takes_all-clause-first c =
    let rules = c.args.rules.now in
    let earlier = c.index-rules-i.result in
    let later = c.index-rules-place.result in
    let there = rule_there rules c.args.place later (omega arith) c.index-rules-place.is in
    record {
      before = omega arith;
      earlier = rule_facts earlier;
      later = rule_facts later;
      stands = rule_there rules c.loop-i.i earlier (omega arith) c.index-rules-i.is;
      is = there;
      takes = c.takes_all.ensures.taken c.if-takes_all.true;
      covers = c.takes_all.ensures.found.0 c.if-takes_all.true;
      none = c.loop-i.invariant (rule_facts later) there;
    }

pub returns-clause-none : goal.returns-clause-none
returns-clause-none c = λ none later is.
    let end : c.loop-i.i ≡ c.args.place = omega arith in
    subst (λ (n : ℕ). NoneCovers (map rule_facts c.args.rules.now) n later) end (c.loop-i.invariant later is)
