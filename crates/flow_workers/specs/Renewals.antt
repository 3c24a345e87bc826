-- What renewing one family's table leaves of both tables and their callers.
use Rattle.std.specs.Prelude.{◌≡◌}
use Rattle.packet_view.specs.declared.tuple.Family.{Family}
use Rattle.packet_view.specs.declared.tuple.Family.TheVariants.{V4, V6}
use Rattle.bihash_words.specs.Sizes.{sizes_of}
use Rattle.bihash_words.specs.declared.shape.Shape.{Ghosts}
use Rattle.bihash_steps.specs.Renewals.{IsRenewed}
use Rattle.bihash_steps.specs.Seats.{with_view}
use Rattle.bihash_table.specs.Closing.{WasWhole}
use Rattle.bihash_table.specs.Renewing.{IsRenewRefused}
use Rattle.bihash_table.specs.declared.renew_fault.RenewFault.{RenewFault}
use Rattle.flow_workers.specs.declared.session_tables.Callers.{Callers}
use Rattle.flow_workers.specs.declared.session_tables.Tables.{Tables}

-- the family's caller had every number, and the new one begins with what it knew; the other family's table and caller
-- are the same
abbrev pub AreRenewed : {A B K L : Type 0} (ga : Ghosts A K) (gb : Ghosts B L) → Family → Tables A B K L → Tables A B K L
    → Callers A B K L ga gb → Callers A B K L ga gb → Type 0
AreRenewed ga gb V4 tables renewed callers first =
    IsRenewed (sizes_of ga) callers.four.seat.view first.four.seat.view × WasWhole (sizes_of ga) callers.four.seat.view
    × (renewed.six ≡ tables.six) × (first.six ≡ callers.six)
AreRenewed ga gb V6 tables renewed callers first =
    IsRenewed (sizes_of gb) callers.six.seat.view first.six.seat.view × WasWhole (sizes_of gb) callers.six.seat.view
    × (renewed.four ≡ tables.four) × (first.four ≡ callers.four)

-- the family's table was not renewed for this reason, and all tables and callers come back
abbrev pub AreNotRenewed : {A B K L : Type 0} (ga : Ghosts A K) (gb : Ghosts B L) → Family → Tables A B K L
    → Tables A B K L → Callers A B K L ga gb → Callers A B K L ga gb → RenewFault → Type 0
AreNotRenewed ga gb V4 tables kept callers back fault =
    (kept.four.row ≡ tables.four.row) × (back.four.seat ≡ with_view callers.four.seat back.four.seat.view)
    × IsRenewRefused (sizes_of ga) callers.four.seat.view fault back.four.seat.view
    × (kept.six ≡ tables.six) × (back.six ≡ callers.six)
AreNotRenewed ga gb V6 tables kept callers back fault =
    (kept.six.row ≡ tables.six.row) × (back.six.seat ≡ with_view callers.six.seat back.six.seat.view)
    × IsRenewRefused (sizes_of gb) callers.six.seat.view fault back.six.seat.view
    × (kept.four ≡ tables.four) × (back.four ≡ callers.four)
