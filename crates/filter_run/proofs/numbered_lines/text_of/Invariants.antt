use Rattle.std.proofs.Common.{◌≡◌, ◌+◌, ◌++◌, length}
use Rattle.packet_view.specs.CheckedCaptures.{remaining}
use Rattle.racl_io.specs.Reports.{passed}
use Rattle.capture_shards.specs.Sharing.{lines_at}
use Rattle.filter_run.specs.Batches.{AreNumbers}
use Rattle.filter_run.proofs.numbered_lines.text_of.Given as goal

-- what is told of the packets so far
abbrev pub invariant-packets : goal.invariant-packets
invariant-packets g l = record {
  numbers : AreNumbers (length l.said) l.left;
  each : length l.said ≡ length (remaining l.packets);
  told : l.text.inner.items ++ lines_at (g.L.Teller.wording l.fn.teller) l.left (remaining l.packets) l.said
      ≡ lines_at (g.L.Teller.wording l.fn.teller) l.fn.numbers (remaining l.fn.packets) l.fn.verdicts;
  steady : l.text.failures ≡ 0;
  passing : l.passed + passed l.said ≡ passed l.fn.verdicts;
  same : g.L.Teller.wording l.teller ≡ g.L.Teller.wording l.fn.teller;
}

abbrev pub decreases-packets : goal.decreases-packets
decreases-packets g l = length l.said
