use Rattle.std.proofs.Common.{◌≡◌, ◌+◌, ℕ, Bool, List, Ok, ap, length, map, subst, sym}
use Rattle.acl_policy.specs.declared.rule.Rule.{Rule}
use Rattle.acl_policy.specs.Rules.{rule_facts}
use Rattle.rule_cover.specs.Covers.{IsCover}
use Rattle.rule_cover.specs.declared.uncovered_packets.Cover.{Cover}
use Rattle.rule_cover.specs.inner.Takers.{AreAt, AreMarkedIn, AreTried}
use Rattle.rule_cover.proofs.TakerLemmas.{is_needed, left_out, put_first}
use Rattle.rule_cover.proofs.leaving_out.is_last_needed.Goals as goal

pub returns-in-Taken-clause-tried : goal.returns-in-Taken-clause-tried
returns-in-Taken-clause-tried c =
    let rule = rule_facts c.args.rule.now in
    let all = map rule_facts c.args.rules.now in
    let others = map rule_facts c.in_ok-others.others.items in
    let places = c.pop.new.self.items in
    let at = subst (λ (ps : List ℕ). AreAt all ps others) c.deref.ensures.value c.in_ok-others.ensures in
    let cover = subst (λ (rs : List Rule). IsCover rule rule (map rule_facts rs) c.in_ok-marks.field-0) c.deref-2.ensures.value c.in_ok-marks.ensures.cover in
    let taken = subst (IsCover rule rule others) c.in-Taken.is cover in
    let marks = c.in-Taken.marks.items in
    let new = c.in_ok-places.field-0.items in
    let stay = subst (λ (ps : List ℕ). AreMarkedIn ps c.args.tried c.deref-in-Taken-2.result.now new) c.deref-in-Taken.ensures.value c.in_ok-places.ensures in
    let stays = subst (λ (ms : List Bool). AreMarkedIn places c.args.tried ms new) c.deref-in-Taken-2.ensures.value stay in
    left_out rule all c.args.tests.now c.uncovered.new.tests c.args.places.now.items places c.in-Some.place c.args.tried others marks new
    c.in-Some.ensures.items c.requires.some c.uncovered.ensures.fewer c.requires.tried at taken stays

pub returns-clause-tried : goal.returns-clause-tried
returns-clause-tried c =
    let rule = rule_facts c.args.rule.now in
    let all = map rule_facts c.args.rules.now in
    let others = map rule_facts c.in_ok-others.others.items in
    let places = c.pop.new.self.items in
    let place = c.in-Some.place in
    let tests = c.uncovered.new.tests in
    let at = subst (λ (ps : List ℕ). AreAt all ps others) c.deref.ensures.value c.in_ok-others.ensures in
    let cover = subst (λ (rs : List Rule). IsCover rule rule (map rule_facts rs) c.in_ok-marks.field-0) c.deref-2.ensures.value c.in_ok-marks.ensures.cover in
    let needed = is_needed rule all places place others c.in_ok-marks.field-0 tests at cover c.in_default-2.not-Taken
    (λ same. c.in_ok-marks.ensures.unknown (ap (λ (x : Cover). Ok x) same)) in
    subst (λ (ps : List ℕ). (length ps ≡ length c.args.places.now.items) × AreTried rule all tests ps (c.args.tried + 1)) (sym c.in_ok-insert.ensures.items)
    (put_first rule all c.args.tests.now tests c.args.places.now.items places place c.args.tried c.in-Some.ensures.items c.requires.some c.uncovered.ensures.fewer
    c.requires.tried needed)
