-- What callers of both families' tables know, and what is always said of them together.
use Rattle.std.specs.Prelude.{◌≡◌}
use Rattle.bihash_words.specs.Sizes.{sizes_of}
use Rattle.bihash_words.specs.declared.shape.Shape.{Ghosts}
use Rattle.bihash_rule.specs.Callers.{IsLawfulCaller}
use Rattle.bihash_steps.specs.Seats.{with_view}
use Rattle.bihash_rule.specs.Views.{first_view, nothing_held}
use Rattle.flow_filter.specs.OneThread.{Layout}
use Rattle.flow_workers.specs.declared.session_tables.Tables.{Tables}
use Rattle.flow_workers.specs.declared.session_tables.Callers.{Callers}
use Rattle.flow_dealing.specs.Views.{Views}
pub use Rattle.flow_dealing.specs.Dealt.{AreShapes}

abbrev pub views_of : {A B K L : Type 0} (ga : Ghosts A K) (gb : Ghosts B L) → Callers A B K L ga gb → Views
views_of ga gb callers = record { four = callers.four.seat.view; six = callers.six.seat.view }

-- what the first callers of new tables know
abbrev pub first_views : Layout → Views
first_views l = record { four = first_view l.four; six = first_view l.six }

-- the callers are lawful, belong to these tables, and hold no lock and no block
pub record AreIdle {A B K L : Type 0} (ga : Ghosts A K) (gb : Ghosts B L) (tables : Tables A B K L)
    (callers : Callers A B K L ga gb) : Type 0 where
  pub own : (callers.four.seat.row ≡ tables.four.row) × (callers.six.seat.row ≡ tables.six.row)
  pub free : (callers.four.seat.view.holds ≡ nothing_held) × (callers.six.seat.view.holds ≡ nothing_held)
  pub lawful : IsLawfulCaller (sizes_of ga) callers.four.seat.view × IsLawfulCaller (sizes_of gb) callers.six.seat.view

-- the callers are those of before, but for what they know
pub record AreSame {A B K L : Type 0} (ga : Ghosts A K) (gb : Ghosts B L)
    (old new : Callers A B K L ga gb) : Type 0 where
  pub four : new.four.seat ≡ with_view old.four.seat new.four.seat.view
  pub six : new.six.seat ≡ with_view old.six.seat new.six.seat.view
