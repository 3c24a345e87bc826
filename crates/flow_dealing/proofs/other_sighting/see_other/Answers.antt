use Rattle.std.proofs.Common.{◌∙◌, None, refl, subst, sym}
use Rattle.std.specs.Prelude.{◌<◌}
use Rattle.std.specs.Option.{ForSome}
use Rattle.packet_view.specs.Captures.{packet_facts}
use Rattle.packet_view.specs.Frames.{frame_facts}
use Rattle.session_state.specs.declared.flow.Flow.{Flow}
use Rattle.flow_dealing.proofs.OwnAddresses.{same_flow_shown}
use Rattle.flow_dealing.proofs.other_sighting.see_other.Goals as goal

pub returns : goal.returns
returns g c =
    let packet = packet_facts c.args.packet in
    let frame = frame_facts c.view-frame.result in
    record {
      packet_is = refl;
      frame = c.view-frame.ensures.shown;
      flow = λ own seen shown.
          sym (same_flow_shown packet own seen shown None frame c.view-frame.ensures.shown)
          ∙ (sym c.flow_of_frame.ensures.shown ∙ sym c.of.ensures.flow);
      side = subst (λ flow. ForSome flow (λ (f : Flow). f.side < 2)) (sym c.of.ensures.flow) c.flow_of_frame.ensures.side;
      hashed = c.of.ensures.hashed;
    }
