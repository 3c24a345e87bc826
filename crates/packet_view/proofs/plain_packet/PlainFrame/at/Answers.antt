use Rattle.std.proofs.Common.{◌≡◌, ◌∙◌, List, ℕ, ap, subst, sym}
use Rattle.packet_view.specs.Frames.{FrameFacts, Ip, IsFrame}
use Rattle.packet_view.specs.Interfaces.{Interface}
use Rattle.packet_view.specs.PlainFrames.{IsPlainFrame}
use Rattle.packet_view.specs.Tuples.{tuple_facts}
use Rattle.packet_view.specs.inner.FrameSteps.{view_of}
use Rattle.packet_view.proofs.FrameLemmas.{view_only, view_shown}
use Rattle.packet_view.proofs.PlainLemmas.{plain_view}
use Rattle.packet_view.proofs.plain_packet.PlainFrame.at.Goals as goal

pub returns : goal.returns
returns c =
    let at : Interface = record { number = c.args.interface; own = c.args.own } in
    let tuple = tuple_facts c.tuple.result in
    let same : (frame : List ℕ) → IsPlainFrame frame c.args.self.now → view_of frame at ≡ Ip c.direction_from.result tuple =
    λ frame has. plain_view frame at c.args.self.now.packet tuple has.packet c.tuple.ensures.at c.tuple.ensures.says
    ∙ ap (λ way. Ip way tuple) (sym (c.direction_from.ensures frame has.sender)) in
    record {
      shown = λ frame has. subst (λ (seen : FrameFacts). IsFrame frame at seen) (same frame has) (view_shown frame at);
      only = λ frame has other is. view_only frame at other is ∙ same frame has;
    }
