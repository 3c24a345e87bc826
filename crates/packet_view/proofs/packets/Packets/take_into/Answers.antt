use Rattle.std.proofs.Common.{◌∙◌, ap, arith, sym}
use Rattle.packet_view.specs.CheckedCaptures.{remaining}
use Rattle.packet_view.proofs.BurstLemmas.{found_listed}
use Rattle.packet_view.proofs.packets.Packets.take_into.Goals as goal

pub returns-in-Slice-clause-taken : goal.returns-in-Slice-clause-taken
returns-in-Slice-clause-taken c =
    let least = c.min-count.ensures in
    found_listed c.min-count.result c.in-Slice.packets.now c.copy_from_slice.new.self _ (omega arith)
    c.copy_from_slice.ensures.after
    ∙ ap remaining (sym c.in-Slice.is)
