-- Which tables a share is of, and whether other judges may have one too.
use Rattle.std.specs.Prelude.{Bool, true, false}
use Rattle.std.specs.Arc.{arc_value}
use Rattle.flow_workers.specs.declared.session_tables.Tables.{Tables}
use Rattle.flow_judge.specs.declared.tables_share.TablesShare.{TablesShare}
use Rattle.flow_judge.specs.declared.tables_share.TablesShare.TheVariants.{Own, Shared}

-- the tables
abbrev pub tables_of : {A B K L : Type 0} → TablesShare A B K L → Tables A B K L
tables_of (Own tables) = tables
tables_of (Shared tables) = arc_value tables

abbrev pub is_shared : {A B K L : Type 0} → TablesShare A B K L → Bool
is_shared (Own tables) = false
is_shared (Shared tables) = true
