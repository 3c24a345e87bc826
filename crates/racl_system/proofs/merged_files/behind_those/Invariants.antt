use Rattle.racl_system.proofs.MergeLemmas.{SoManyMayCome}
use Rattle.racl_system.proofs.merged_files.behind_those.Given as goal

-- The packets of so many records may come.
abbrev pub invariant-records : goal.invariant-records
invariant-records l = SoManyMayCome l.order l.bytes l.place l.next l._count l.left
