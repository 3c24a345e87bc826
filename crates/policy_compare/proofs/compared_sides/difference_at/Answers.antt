use Rattle.std.proofs.Common.{◌≡◌, ◌∙◌, ◌++◌, ℕ, ap, arith, rules, subst, take}
use Rattle.std.specs.Prelude.{option_map}
use Rattle.std.proofs.lemmas.List.{length-map}
use Rattle.packet_view.specs.Tuples.{TupleFacts, tuple_facts}
use Rattle.acl_policy.specs.Rules.{rule_facts}
use Rattle.policy_compare.specs.declared.difference.Pair.{Pair}
use Rattle.policy_compare.specs.inner.Findings.{IsFinding, IsFreeApart}
use Rattle.policy_compare.specs.inner.Found.{sides_facts}
use Rattle.policy_compare.proofs.FindingLemmas.{idle_long}
use Rattle.policy_compare.proofs.LimitLemmas.{none_behind}
use Rattle.policy_compare.proofs.PairLemmas.{acts_apart, none_at, told_of_packet}
use Rattle.policy_compare.proofs.compared_sides.difference_at.Goals as goal

pub found_of_pair-requires-clause-apart : goal.found_of_pair-requires-clause-apart
found_of_pair-requires-clause-apart c =
    acts_apart (sides_facts c.args.sides.now) c.args.places.0 c.args.places.1 (option_map rule_facts c.rule_at-one.result) (option_map rule_facts c.rule_at-two.result)
    c.pair_of-pair.result c.rule_at-one.ensures c.rule_at-two.ensures c.pair_of-pair.ensures (c.is_apart.ensures.yes c.if-not-is_apart.false)

pub found_of_pair-requires-clause-idle : goal.found_of_pair-requires-clause-idle
found_of_pair-requires-clause-idle c = idle_long c.args.earlier.now _ c.requires.earlier

pub returns-in-Packet-clause-some : goal.returns-in-Packet-clause-some
returns-in-Packet-clause-some c =
    let sides = sides_facts c.args.sides.now in
    let one = option_map rule_facts c.rule_at-one.result in
    let two = option_map rule_facts c.rule_at-two.result in
    let earlier = take c.args.places.0 sides.before ++ take c.args.places.1 sides.after in
    let found = subst (IsFinding (IsFreeApart one two earlier)) c.in-Packet.is (c.in_ok-tuple.ensures.found earlier c.requires.earlier) in
    let interface = ap (λ (p : Pair). p.interface) c.pair_of-pair.ensures in
    let tuple = tuple_facts c.in-Packet.tuple in
    let moved = c.at_interface.ensures ∙ ap (λ (n : ℕ). record tuple { interface = n }) interface in (
      interface,
      ap (λ (p : Pair). p.direction) c.pair_of-pair.ensures,
      (
        ap (λ (t : TupleFacts). t.interface) moved,
        told_of_packet sides c.args.places.0 c.args.places.1 one two c.pair_of-pair.result tuple (tuple_facts c.at_interface.result) c.rule_at-one.ensures
            c.rule_at-two.ensures c.pair_of-pair.ensures moved found,
      ),
    )

pub returns-in-Nothing-clause-none : goal.returns-in-Nothing-clause-none
returns-in-Nothing-clause-none c = λ same tuple apart.
    let sides = sides_facts c.args.sides.now in
    let one = option_map rule_facts c.rule_at-one.result in
    let two = option_map rule_facts c.rule_at-two.result in
    let earlier = take c.args.places.0 sides.before ++ take c.args.places.1 sides.after in
    let none = subst (IsFinding (IsFreeApart one two earlier)) c.in-Nothing.is (c.in_ok-tuple.ensures.found earlier c.requires.earlier) in
    none_at sides c.args.places.0 c.args.places.1 one two tuple c.rule_at-one.ensures c.rule_at-two.ensures (none tuple) apart

pub returns-in-Unknown-clause-some : goal.returns-in-Unknown-clause-some
returns-in-Unknown-clause-some c =
    let spent : c.found_of_pair.new.tests ≡ 0 = search rules in
    (ap (λ (p : Pair). p.interface) c.pair_of-pair.ensures, ap (λ (p : Pair). p.direction) c.pair_of-pair.ensures, spent)

pub returns-then-is_behind-clause-none : goal.returns-then-is_behind-clause-none
returns-then-is_behind-clause-none c = λ same tuple apart.
    let first = length-map c.args.sides.now.before.now rule_facts in
    let second = length-map c.args.sides.now.after.now rule_facts in
    none_behind (sides_facts c.args.sides.now) c.args.limits.now c.args.places.0 c.args.places.1 tuple c.requires.limits (omega (arith, first, c.requires.within.0))
    (omega (arith, second, c.requires.within.1)) (c.is_behind.ensures c.if-is_behind.true) apart
