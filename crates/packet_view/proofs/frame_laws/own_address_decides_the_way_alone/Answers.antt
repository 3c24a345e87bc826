use Rattle.packet_view.specs.inner.FrameSteps.{direction_of}
use Rattle.packet_view.proofs.FrameLemmas.{goes_of}
use Rattle.packet_view.proofs.frame_laws.own_address_decides_the_way_alone.Goals as goal

pub returns : goal.returns
returns c = λ frame number own other direction tuple (source, packet, ethernet, goes, of).
    (direction_of frame other, (source, packet, ethernet, goes_of frame source (record { number = number; own = other }) _ packet ethernet, of))
