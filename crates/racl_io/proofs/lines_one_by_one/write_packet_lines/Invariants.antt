use Rattle.std.proofs.Common.{◌≡◌, ◌++◌, ◌+◌, List, ℕ, drop}
use Rattle.std.specs.Io.KnownBytes.{Appends}
use Rattle.packet_view.specs.CheckedCaptures.{remaining}
use Rattle.racl_io.specs.Tellings.{lines_by}
use Rattle.racl_io.proofs.lines_one_by_one.write_packet_lines.Given as goal

-- the lines so far were written or are in the piece
abbrev pub invariant-verdicts : goal.invariant-verdicts
invariant-verdicts g l = record {
  numbered : l.number ≡ l.fn.first + l.verdict-index;
  left : remaining l.packets ≡ drop l.verdict-index (remaining l.fn.packets);
  front : List ℕ;
  written : Appends (g.W.Sink.bytes l.fn.writer) (g.W.Sink.bytes l.writer) front;
  told : (front ++ l.piece) ++ lines_by (g.L.PacketLine.line l.line) l.number (remaining l.packets) (drop l.verdict-index l.verdicts)
      ≡ lines_by (g.L.PacketLine.line l.fn.line) l.fn.first (remaining l.fn.packets) l.verdicts;
  sound : g.W.Sink.failures l.writer ≡ g.W.Sink.failures l.fn.writer;
}
