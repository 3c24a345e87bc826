-- The next capture: a second one of its interface, one that has a fault, or one that is decoded.
use Rattle.std.proofs.Common.{◌≡◌, ◌==◌, ℕ, true, false, List, inl, inr, subst, sym}
use Rattle.std.specs.List.{list_any}
use Rattle.racl_io.specs.Inputs.{numbered_facts}
use Rattle.racl_report.proofs.InterfaceLaws.{among, not_among}
use Rattle.racl_runs.proofs.DigitCaptureLemmas.{own_fault, second_of_one}
use Rattle.racl_runs.proofs.digit_captures.decode_next.Goals as goal

pub returns-then-is_interface_seen-clause-fault : goal.returns-then-is_interface_seen-clause-fault
returns-then-is_interface_seen-clause-fault c =
    let number = c.args.capture.interface in
    let any =
    subst (λ (seen : List ℕ). list_any (λ other. other == number) seen ≡ true) c.deref.ensures.value (sym c.if-is_interface_seen.ensures) in
    inr (second_of_one c.args.walk.seen.items number c.args.capture.content.now (among number c.args.walk.seen.items any))

pub returns-in-Err-clause-fault : goal.returns-in-Err-clause-fault
returns-in-Err-clause-fault c =
    let number = c.args.capture.interface in
    let seen = c.args.walk.seen.items in
    let none =
    subst (λ (seen : List ℕ). list_any (λ other. other == number) seen ≡ false) c.deref.ensures.value (sym c.if-is_interface_seen.ensures) in
    elim c.in-Err.ensures.fault [
      | inl memory ↦ inl memory
      | inr of ↦
          inr (own_fault seen number c.args.capture.content.now c.cut_at_numbered_marker.result.digits.now (numbered_facts c.cut_at_numbered_marker.result.next)
          c.cut_at_numbered_marker.ensures.cut (not_among number seen none) _ of)
    ]

pub returns-clause-ok : goal.returns-clause-ok
returns-clause-ok c =
    let number = c.args.capture.interface in
    let seen = c.args.walk.seen.items in
    let none =
    subst (λ (seen : List ℕ). list_any (λ other. other == number) seen ≡ false) c.deref.ensures.value (sym c.if-is_interface_seen.ensures) in
    record {
      digits = c.cut_at_numbered_marker.result.digits.now;
      cut = c.cut_at_numbered_marker.ensures.cut;
      first = not_among number seen none;
      decoded = c.in-Ok.ensures.ok;
      seen = c.in_ok-insert.ensures.items;
    }
