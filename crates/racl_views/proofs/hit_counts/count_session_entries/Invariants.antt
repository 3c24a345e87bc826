use Rattle.std.proofs.Common.{◌≡◌, count_by, take}
use Rattle.racl_views.specs.Hits.{is_entry}
use Rattle.racl_views.proofs.hit_counts.count_session_entries.Given as goal

-- those so far are counted
abbrev pub invariant-verdicts : goal.invariant-verdicts
invariant-verdicts l = l.count ≡ count_by is_entry (take l.verdict-index l.verdicts)
