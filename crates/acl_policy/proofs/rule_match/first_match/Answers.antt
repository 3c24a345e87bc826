use Rattle.std.proofs.Common.{refl, arith, below_more, ◌≡◌, Some, None, subst, ℕ, ◌<◌, true, length, map}
use Rattle.std.proofs.lemmas.List.{length-map}
use Rattle.std.specs.Prelude.{slice_get}
use Rattle.std.proofs.lemmas.Option.{slice_get_read, slice_get_within}
use Rattle.packet_view.specs.Tuples.{tuple_facts}
use Rattle.acl_policy.specs.Matching.{Decides, DecidesByDefault, Matches}
use Rattle.acl_policy.specs.Rules.{RuleFacts, rule_facts}
use Rattle.acl_policy.proofs.RulingLemmas.{one_ruling, slice_get-rule_facts}
use Rattle.acl_policy.proofs.rule_match.first_match.Goals as goal

pub returns-then-is_match : goal.returns-then-is_match
returns-then-is_match c =
    let rule = c.index-rules-i.result in
    let here = slice_get-rule_facts _ c.loop-i.i rule (slice_get_read _ (length c.args.rules.now) c.loop-i.i _ refl (omega arith) c.index-rules-i.is) in
    let decides : Decides (map rule_facts c.args.rules.now) (tuple_facts c.args.tuple.now) c.loop-i.i rule.action =
    (rule_facts rule, here, c.is_match.ensures.0 c.if-is_match.true, refl, λ k other. c.loop-i.invariant k other) in
    record { decided = decides; only = λ other. one_ruling _ (tuple_facts c.args.tuple.now) (Some (c.loop-i.i, rule.action)) other decides }

pub loop-i-preserved : goal.loop-i-preserved
loop-i-preserved c =
    let rule = c.index-rules-i.result in
    let here : slice_get (map rule_facts c.args.rules.now) c.loop-i.i ≡ Some (rule_facts rule) =
    slice_get-rule_facts _ c.loop-i.i rule (slice_get_read _ (length c.args.rules.now) c.loop-i.i _ refl (omega arith) c.index-rules-i.is) in
    let last : (other : RuleFacts) → slice_get (map rule_facts c.args.rules.now) c.loop-i.i ≡ Some other → Matches other (tuple_facts c.args.tuple.now) → ⊥ =
    λ other read matches.
    let same : other ≡ rule_facts rule = cc in
    let yes : c.is_match.result ≡ true = c.is_match.ensures.1 (subst (λ (r : RuleFacts). Matches r (tuple_facts c.args.tuple.now)) same matches) in
    cc in
    λ k other below. below_more (λ (k : ℕ). (other : RuleFacts) → slice_get (map rule_facts c.args.rules.now) k ≡ Some other → Matches other (tuple_facts c.args.tuple.now) → ⊥) c.loop-i.i (λ k below other. c.loop-i.invariant k other below) last k below other

pub returns : goal.returns
returns c =
    let none : DecidesByDefault (map rule_facts c.args.rules.now) (tuple_facts c.args.tuple.now) =
    λ k other read. c.loop-i.invariant k other (let within : k < length (map rule_facts c.args.rules.now) = slice_get_within _ _ _ read in omega (arith, length-map c.args.rules.now rule_facts)) read in
    record { decided = none; only = λ other. one_ruling _ (tuple_facts c.args.tuple.now) None other none }
