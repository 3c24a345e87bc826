use Rattle.std.proofs.Common.{◌≡◌, ◌++◌, ◌+◌, drop}
use Rattle.packet_view.specs.CheckedCaptures.{remaining}
use Rattle.racl_views.specs.RunEntries.{told_from}
use Rattle.racl_views.specs.inner.Tellings.{entries_by, object_by}
use Rattle.racl_views.proofs.json_report.tell_packets_in_json.Given as goal

-- what was told so far, and what is left
abbrev pub invariant-verdicts : goal.invariant-verdicts
invariant-verdicts l = record {
  numbered : l.number ≡ l.fn.first + l.verdict-index;
  left : remaining l.packets ≡ drop l.verdict-index (remaining l.fn.packets);
  told : l.told.items ++ told_from (object_by l.telling) l.number (entries_by l.telling (remaining l.packets) (drop l.verdict-index l.verdicts))
      ≡ l.fn.text.items ++ told_from (object_by l.telling) l.fn.first (entries_by l.telling (remaining l.fn.packets) l.verdicts);
}
