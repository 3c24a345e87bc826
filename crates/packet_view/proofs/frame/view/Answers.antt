use Rattle.std.proofs.Common.{◌∙◌, subst, sym}
use Rattle.packet_view.specs.Frames.{FrameFacts, IsFrame}
use Rattle.packet_view.proofs.FrameLemmas.{view_only, view_shown}
use Rattle.packet_view.proofs.frame.view.Goals as goal

pub returns-in-None-clause-shown : goal.returns-in-None-clause-shown
returns-in-None-clause-shown c =
    subst (λ (view : FrameFacts). IsFrame c.args.frame.now (record { number = c.args.interface; own = c.args.own }) view) (sym c.read.ensures)
    (view_shown c.args.frame.now (record { number = c.args.interface; own = c.args.own }))

pub returns-in-None-clause-only : goal.returns-in-None-clause-only
returns-in-None-clause-only c = λ other h. view_only c.args.frame.now (record { number = c.args.interface; own = c.args.own }) other h ∙ sym c.read.ensures
