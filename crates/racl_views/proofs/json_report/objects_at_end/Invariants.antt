use Rattle.std.proofs.Common.{◌≡◌, ◌++◌, drop, flat_map}
use Rattle.racl_views.specs.inner.Tellings.{truncation_by}
use Rattle.racl_views.proofs.json_report.objects_at_end.Given as goal

-- the objects of the captures so far
abbrev pub invariant-each : goal.invariant-each
invariant-each l = l.text.items ++ flat_map truncation_by (drop l.captured-index l.captures) ≡ flat_map truncation_by l.captures
