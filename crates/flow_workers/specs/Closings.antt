-- What is left of both families' tables where they could not both be closed, and why they could not.
use Rattle.std.specs.Prelude.{◌≡◌}
use Rattle.bihash_words.specs.Sizes.{sizes_of}
use Rattle.bihash_words.specs.declared.shape.Shape.{Ghosts}
use Rattle.bihash_rule.specs.Callers.{IsLawfulCaller}
use Rattle.bihash_steps.specs.CallerCalls.{IsIdle}
use Rattle.bihash_steps.specs.Seats.{CallerState, with_view}
use Rattle.bihash_table.specs.Closing.{ArePairsOf, IsCloseRefused, WasWhole}
use Rattle.bihash_table.specs.declared.close_fault.CloseFault.{CloseFault}
use Rattle.bihash_table.specs.declared.shared_table.Sessions.{Sessions}
use Rattle.flow_workers.specs.declared.session_tables.Callers.{Callers}
use Rattle.flow_workers.specs.declared.session_tables.Tables.{Tables}
use Rattle.flow_workers.specs.declared.table_closing.Unclosed.{Unclosed}
use Rattle.flow_workers.specs.declared.table_closing.Unclosed.TheVariants.{Both, Six}

-- A table was not closed for this reason. It and its caller, which holds nothing and knows the same pairs, are as they were, but
-- for what the caller counted and noted.
pub record StaysOpen {A K : Type 0} (g : Ghosts A K) (table kept : Sessions A K) (old new : CallerState) (fault : CloseFault)
    : Type 0 where
  pub row : kept.row ≡ table.row
  pub cuts : kept.cuts_blocks ≡ table.cuts_blocks
  pub same : new ≡ with_view old new.view
  pub known : new.view.known ≡ old.view.known
  pub idle : IsIdle kept.row new
  pub lawful : IsLawfulCaller (sizes_of g) new.view
  pub refused : IsCloseRefused (sizes_of g) old.view fault new.view

-- IPv4's table was not closed, and IPv6's and its caller are the same; or IPv4's ended with these pairs, and IPv6's was not closed
abbrev pub AreLeftOpen : {A B K L : Type 0} (ga : Ghosts A K) (gb : Ghosts B L) → Tables A B K L → Callers A B K L ga gb
    → CloseFault → Unclosed A B K L ga gb → Type 0
AreLeftOpen ga gb tables callers fault (Both kept back) =
    StaysOpen ga tables.four kept.four callers.four.seat back.four.seat fault × (kept.six ≡ tables.six) × (back.six ≡ callers.six)
AreLeftOpen ga gb tables callers fault (Six pairs kept back) =
    ArePairsOf ga callers.four.seat.view.known pairs.items × WasWhole (sizes_of ga) callers.four.seat.view
    × StaysOpen gb tables.six kept callers.six.seat back.seat fault
