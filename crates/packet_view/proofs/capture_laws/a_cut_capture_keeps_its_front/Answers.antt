use Rattle.packet_view.proofs.CutLemmas.{cut_capture}
use Rattle.packet_view.proofs.capture_laws.a_cut_capture_keeps_its_front.Goals as goal

pub returns : goal.returns
returns c = cut_capture
