-- Which table a share is of.
use Rattle.atomic_table.specs.Seated.{TableId}
use Rattle.std.specs.Arc.{arc_value}
use Rattle.bihash_c.specs.declared.table_share.TableShare.{TableShare}
use Rattle.bihash_c.specs.declared.table_share.TableShare.TheVariants.{Own, Shared}

-- the row of the table
abbrev pub row_of : {A K : Type 0} → TableShare A K → TableId
row_of (Own sessions) = sessions.row
row_of (Shared sessions) = (arc_value sessions).row

-- other callers may have it too
abbrev pub IsShared : {A K : Type 0} → TableShare A K → Type 0
IsShared (Own sessions) = ⊥
IsShared (Shared sessions) = Unit {0}
