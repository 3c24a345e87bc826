use Rattle.std.proofs.Common.{refl, arith, ◌≡◌, ◌<◌, true, Some, subst, map, length, sym, ◌∙◌}
use Rattle.std.specs.Prelude.{slice_get}
use Rattle.std.proofs.lemmas.List.{length-map}
use Rattle.std.proofs.lemmas.Option.{slice_get_read, slice_get_within}
use Rattle.packet_view.specs.Tuples.{tuple_facts}
use Rattle.acl_policy.specs.Matching.{Matches}
use Rattle.acl_policy.specs.Rules.{RuleFacts, rule_facts}
use Rattle.acl_policy.proofs.RulingLemmas.{slice_get-rule_facts}
use Rattle.acl_policy.proofs.OptionLemmas.{same_some}
use Rattle.rule_index.proofs.first_candidate.match_at.Goals as goal

pub returns-then-is_match : goal.returns-then-is_match
returns-then-is_match c =
    let rule = c.index-rules-place.result in
    let here = slice_get-rule_facts c.args.rules.now c.args.place rule (slice_get_read c.args.rules.now (length c.args.rules.now) c.args.place rule refl (omega arith) c.index-rules-place.is) in
    (rule_facts rule, here, c.is_match.ensures.0 c.if-is_match.true, refl)

pub returns : goal.returns
returns c = λ other read matches.
    let rule = c.index-rules-place.result in
    let here : slice_get (map rule_facts c.args.rules.now) c.args.place ≡ Some (rule_facts rule) = slice_get-rule_facts c.args.rules.now c.args.place rule (slice_get_read c.args.rules.now (length c.args.rules.now) c.args.place rule refl (omega arith) c.index-rules-place.is) in
    let same : other ≡ rule_facts rule = same_some other (rule_facts rule) (sym read ∙ here) in
    let yes : c.is_match.result ≡ true = c.is_match.ensures.1 (subst (λ (r : RuleFacts). Matches r (tuple_facts c.args.tuple.now)) same matches) in
    cc

pub returns-then-rules-place : goal.returns-then-rules-place
returns-then-rules-place c = λ other read matches.
    let within : c.args.place < length (map rule_facts c.args.rules.now) = slice_get_within (map rule_facts c.args.rules.now) c.args.place other read in
    absurd (omega (arith, length-map c.args.rules.now rule_facts))
