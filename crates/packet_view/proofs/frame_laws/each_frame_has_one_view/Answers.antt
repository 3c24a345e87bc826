use Rattle.std.proofs.Common.{◌∙◌, sym}
use Rattle.packet_view.specs.inner.FrameSteps.{view_of}
use Rattle.packet_view.proofs.FrameLemmas.{view_only, view_shown}
use Rattle.packet_view.proofs.frame_laws.each_frame_has_one_view.Goals as goal

pub returns-clause-some : goal.returns-clause-some
returns-clause-some c = λ frame own. (view_of frame own, view_shown frame own)

pub returns-clause-one : goal.returns-clause-one
returns-clause-one c = λ frame own view other h g. view_only frame own view h ∙ sym (view_only frame own other g)
