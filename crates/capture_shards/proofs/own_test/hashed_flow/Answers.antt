use Rattle.std.proofs.Common.{◌∙◌, sym}
use Rattle.packet_view.specs.Captures.{packet_facts}
use Rattle.capture_shards.proofs.OwnTestLemmas.{seen_flow}
use Rattle.capture_shards.proofs.own_test.hashed_flow.Goals as goal

pub returns-in-Some-clause-flow : goal.returns-in-Some-clause-flow
returns-in-Some-clause-flow c = c.hashed_flow.ensures.flow ∙ sym (seen_flow (packet_facts c.args.packet.now) _ c.in-Some.ensures.flow)

pub returns-in-None-clause-flow : goal.returns-in-None-clause-flow
returns-in-None-clause-flow c = sym (seen_flow (packet_facts c.args.packet.now) _ c.see_other.ensures.flow)
