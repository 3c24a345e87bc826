use Rattle.packet_view.proofs.LawLemmas.{frame_less, frame_more}
use Rattle.packet_view.proofs.frame_laws.bytes_after_the_packet_are_not_seen.Goals as goal

pub returns : goal.returns
returns c = λ frame more source packet family e ends own view.
    (frame_more frame more source family packet own e ends view, frame_less frame more source family packet own e ends view)
