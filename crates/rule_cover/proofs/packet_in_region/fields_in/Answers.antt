use Rattle.std.proofs.Common.{subst}
use Rattle.rule_cover.specs.declared.region.Shown.{Shown}
use Rattle.rule_cover.specs.inner.Regions.{AreFieldsOf}
use Rattle.rule_cover.proofs.PacketLemmas.{none_segments}
use Rattle.rule_cover.proofs.packet_in_region.fields_in.Goals as goal

pub returns-in-None-segment_in-clause-none : goal.returns-in-None-segment_in-clause-none
returns-in-None-segment_in-clause-none c = λ none fields are.
    none_segments c.args.numbers.now (c.segment_in.ensures.none c.in-None-segment_in.is) fields
    (subst (λ (s : Shown). AreFieldsOf s c.args.numbers.now fields) c.in-PortsAndFlags.is are)
