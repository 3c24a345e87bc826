use Rattle.std.proofs.Common.{◌∙◌, ◌++◌, ap, arith, lit≤, map, refl, sym, take}
use Rattle.std.proofs.lemmas.List.{length-set}
use Rattle.packet_view.specs.Captures.{packet_facts}
use Rattle.packet_view.specs.CheckedCaptures.{packets_of}
use Rattle.packet_view.proofs.BurstLemmas.{found_more, found_none}
use Rattle.packet_view.proofs.packets_of_records.Records.take_into.Goals as goal

pub taken-init : goal.taken-init
taken-init c = (refl, lit≤ tt, c.told-places)

pub taken-preserved-in-Some : goal.taken-preserved-in-Some
taken-preserved-in-Some c =
    let (so_far, within, size) = c.taken.invariant in
    let test = c.taken-test.true in (
      found_more c.taken.places c.taken.count c.in-Some.packet _ _ _ (omega arith) so_far c.in-Some.ensures.taken,
      omega arith,
      length-set c.taken.places c.taken.count c.in-Some.packet ∙ size,
    )

pub taken-preserved : goal.taken-preserved
taken-preserved c =
    let (so_far, within, size) = c.taken.invariant in
    let test = c.taken-test.true in
    let front = ap packets_of (sym c.in_default.ensures.none) ∙ c.in-Some-next.ensures in (
      found_more c.taken.places c.taken.count c.in-Some-next.packet _ _ _ (omega arith) so_far front,
      omega arith,
      length-set c.taken.places c.taken.count c.in-Some-next.packet ∙ size,
    )

pub returns-after-taken-clause-fits : goal.returns-after-taken-clause-fits
returns-after-taken-clause-fits c = (c.taken.invariant.1, c.taken.invariant.2)

pub returns-after-taken-clause-taken : goal.returns-after-taken-clause-taken
returns-after-taken-clause-taken c = c.taken.invariant.0

pub returns-in_default-next-clause-fits : goal.returns-in_default-next-clause-fits
returns-in_default-next-clause-fits c = (c.taken.invariant.1, c.taken.invariant.2)

pub returns-in_default-next-clause-taken : goal.returns-in_default-next-clause-taken
returns-in_default-next-clause-taken c =
    let none = ap packets_of (sym c.in_default.ensures.none) ∙ c.in_default-next.ensures.0 in
    ap (λ ps. map packet_facts (take c.taken.count c.taken.places) ++ ps) (c.in_default-next.ensures.1 ∙ sym none)
    ∙ c.taken.invariant.0

pub returns-in_default-next-clause-none : goal.returns-in_default-next-clause-none
returns-in_default-next-clause-none c = λ zero.
    found_none c.taken.places c.taken.count _ _ zero c.taken.invariant.0
    (ap packets_of (sym c.in_default.ensures.none) ∙ c.in_default-next.ensures.0)
