use Rattle.std.proofs.Common.{◌≡◌, ◌+◌, List, ap, arith, length, refl, subst, sym}
use Rattle.packet_view.specs.Captures.{PacketFacts, packet_facts}
use Rattle.packet_view.specs.CheckedCaptures.{remaining}
use Rattle.acl_policy.specs.Policies.{section_facts}
use Rattle.policy_check.specs.SameHost.{ComesInFromHost, IsOfSoMany, seen_at}
use Rattle.policy_check.proofs.HostLemmas.{no_more, some_more}
use Rattle.policy_check.proofs.frames_of_same_host.frames_from_host.Goals as goal

pub packets-init : goal.packets-init
packets-init c =
    let all = remaining c.args.packets in
    let is_so : PacketFacts → Type 0 = ComesInFromHost (seen_at (section_facts c.args.section.now)) all in record {
      few = omega arith;
      all = λ others so. let same : others ≡ 0 + others = omega arith in subst (IsOfSoMany is_so all) same so;
    }

pub packets-preserved-then-comes_in_from_host : goal.packets-preserved-then-comes_in_from_host
packets-preserved-then-comes_in_from_host c =
    let h = c.packets.invariant in
    let all = remaining c.args.packets in
    let is_so : PacketFacts → Type 0 = ComesInFromHost (seen_at (section_facts c.args.section.now)) all in
    let yes = c.comes_in_from_host.ensures.yes c.if-comes_in_from_host.true in record {
      few = omega (arith, h.few, ap length c.in-Some.ensures);
      all = λ others so.
          let same : c.packets.count + (others + 1) ≡ (c.packets.count + 1) + others = omega arith in
          subst (IsOfSoMany is_so all) same (h.all (others + 1) (some_more is_so _ _ (packet_facts c.in-Some.packet) others c.in-Some.ensures yes so));
    }

pub packets-preserved : goal.packets-preserved
packets-preserved c =
    let h = c.packets.invariant in
    let all = remaining c.args.packets in
    let is_so : PacketFacts → Type 0 = ComesInFromHost (seen_at (section_facts c.args.section.now)) all in
    let no = c.comes_in_from_host.ensures.no c.if-comes_in_from_host.false in record {
      few = omega (arith, h.few, ap length c.in-Some.ensures);
      all = λ others so. h.all others (no_more is_so _ _ (packet_facts c.in-Some.packet) others c.in-Some.ensures no so);
    }

pub returns : goal.returns
returns c =
    let h = c.packets.invariant in
    let all = remaining c.args.packets in
    let is_so : PacketFacts → Type 0 = ComesInFromHost (seen_at (section_facts c.args.section.now)) all in
    let same : c.packets.count + 0 ≡ c.packets.count = omega arith in
    subst (IsOfSoMany is_so all) same (h.all 0 (subst (λ (left : List PacketFacts). IsOfSoMany is_so left 0) (sym c.in_default.ensures.0) refl))
