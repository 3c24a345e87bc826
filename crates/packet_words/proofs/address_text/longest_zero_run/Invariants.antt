use Rattle.std.proofs.Common.{◌≡◌, ◌+◌, ◌≤◌, length, drop}
use Rattle.std.specs.Net.Text.{zero_run, longest_zero_run}
use Rattle.packet_words.proofs.address_text.longest_zero_run.Given as goal

abbrev pub invariant-loop-i : goal.invariant-loop-i
invariant-loop-i l =
    (l.run ≡ zero_run (drop l.i l.groups)) × (l.len ≡ (longest_zero_run (drop l.i l.groups)).1)
    × (l.start ≡ l.i + (longest_zero_run (drop l.i l.groups)).0)
    × (l.i + l.run ≤ length l.groups) × (l.start + l.len ≤ length l.groups)
