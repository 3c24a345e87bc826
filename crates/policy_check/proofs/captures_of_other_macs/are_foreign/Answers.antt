use Rattle.std.proofs.Common.{◌∙◌, [], refl, subst, sym}
use Rattle.std.specs.List.{Any}
use Rattle.std.proofs.lemmas.Bool.{false≢true, true≢false}
use Rattle.std.proofs.lemmas.List.Elements.{All-nil, All-push}
use Rattle.packet_view.specs.Captures.{packet_facts}
use Rattle.packet_view.specs.CheckedCaptures.{remaining}
use Rattle.policy_check.specs.Foreign.{IsForOne, IsOf}
use Rattle.policy_check.proofs.ForeignLemmas.{any_there, not_any, walked_all, walked_on}
use Rattle.policy_check.proofs.captures_of_other_macs.are_foreign.Goals as goal

pub packets-init : goal.packets-init
packets-init c = (
  record { front = []; split = refl; none = All-nil (λ packet. IsOf c.args.own.0 packet.frame → ⊥) },
  λ one. absurd (false≢true one),
  λ none. All-nil (λ packet. IsForOne packet.frame → ⊥),
)

pub packets-preserved-then-some : goal.packets-preserved-then-some
packets-preserved-then-some c = (
  walked_on c.args.own.0 (remaining c.args.packets) (remaining c.packets.left) (remaining c.next.new.self) (packet_facts c.in-Some.packet)
      c.packets.invariant.0 c.in-Some.ensures (c.is_of.ensures.no c.if-is_of.false),
  c.packets.invariant.1,
  λ none. absurd (true≢false (sym c.if-some.true ∙ none)),
)

pub packets-preserved : goal.packets-preserved
packets-preserved c = (
  walked_on c.args.own.0 (remaining c.args.packets) (remaining c.packets.left) (remaining c.next.new.self) (packet_facts c.in-Some.packet)
      c.packets.invariant.0 c.in-Some.ensures (c.is_of.ensures.no c.if-is_of.false),
  λ one. any_there (λ packet. IsForOne packet.frame) (remaining c.args.packets) c.packets.invariant.0.front (remaining c.packets.left)
      (remaining c.next.new.self) (packet_facts c.in-Some.packet) c.packets.invariant.0.split c.in-Some.ensures (c.is_for_one-some.ensures.yes one),
  λ none. All-push (λ packet. IsForOne packet.frame → ⊥) c.packets.invariant.0.front (packet_facts c.in-Some.packet)
      (c.packets.invariant.2 c.if-some.false) (c.is_for_one-some.ensures.no none),
)

pub returns-then-is_of-clause-no : goal.returns-then-is_of-clause-no
returns-then-is_of-clause-no c = λ same foreign.
    not_any (λ packet. IsOf c.args.own.0 packet.frame) (remaining c.args.packets) foreign.none
    (any_there (λ packet. IsOf c.args.own.0 packet.frame) (remaining c.args.packets) c.packets.invariant.0.front (remaining c.packets.left)
    (remaining c.next.new.self) (packet_facts c.in-Some.packet) c.packets.invariant.0.split c.in-Some.ensures (c.is_of.ensures.yes c.if-is_of.true))

pub returns-clause-no : goal.returns-clause-no
returns-clause-no c = λ none foreign.
    let all = walked_all (remaining c.args.packets) c.packets.invariant.0.front (remaining c.packets.left) c.packets.invariant.0.split c.in_default.ensures.0 in
    not_any (λ packet. IsForOne packet.frame) c.packets.invariant.0.front (c.packets.invariant.2 none)
    (subst (Any (λ packet. IsForOne packet.frame)) all foreign.some)
