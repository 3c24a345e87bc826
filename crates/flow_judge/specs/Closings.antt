-- What closing one family's table leaves of a judge: s is the judge before, t after it.
use Rattle.std.specs.Prelude.{◌≡◌, ◌⊎◌, ℕ, List, true, false}
use Rattle.bihash_words.specs.Sizes.{Sizes, sizes_of}
use Rattle.bihash_words.specs.declared.shape.Shape.{Ghosts}
use Rattle.bihash_rule.specs.Views.{first_view}
use Rattle.bihash_steps.specs.Seats.{CallerState, with_view}
use Rattle.bihash_table.specs.Closing.{ArePairsOf, IsCloseRefused, WasWhole}
use Rattle.bihash_table.specs.declared.close_fault.CloseFault.{CloseFault}
use Rattle.bihash_table.specs.declared.close_fault.CloseFault.TheVariants.{Memory}
use Rattle.flow_judge.specs.EndFaults.{IsHeld, end_of_close}
use Rattle.flow_judge.specs.JudgeStates.{JudgeState}
use Rattle.flow_judge.specs.declared.end_fault.EndFault.{EndFault}

-- the table of the caller s had these pairs, and the caller t is the first of a new table
pub record IsReopened {A K : Type 0} (g : Ghosts A K) (s : CallerState) (ps : List (K × ℕ)) (t : CallerState) : Type 0 where
  pub pairs : ArePairsOf g s.view.known ps
  pub whole : WasWhole (sizes_of g) s.view
  pub first : t.view ≡ first_view (sizes_of g)

-- the table has its pairs and its caller still: memory for a new one was refused, or the table was not closed
abbrev pub StaysOpen : Sizes → (s : CallerState) → CloseFault → (t : CallerState) → Type 0
StaysOpen z s fault t =
    ((fault ≡ Memory) × (t ≡ s)) ⊎ ((t ≡ with_view s t.view) × IsCloseRefused z s.view fault t.view)

-- the table of IPv4 had these pairs, and the judge goes on over a new one
abbrev pub IsClosedFour : {A K : Type 0} → Ghosts A K → JudgeState → List (K × ℕ) → JudgeState → Type 0
IsClosedFour g s ps t = IsReopened g s.four ps t.four × (t ≡ record s { four = t.four; shared = false })

-- so of IPv6
abbrev pub IsClosedSix : {A K : Type 0} → Ghosts A K → JudgeState → List (K × ℕ) → JudgeState → Type 0
IsClosedSix g s ps t = IsReopened g s.six ps t.six × (t ≡ record s { six = t.six; shared = false })

-- the table stays open, of a judge that has it for itself
abbrev pub StaysOwn : Sizes → (s : CallerState) → EndFault → (t : CallerState) → Type 0
StaysOwn z s fault t = (cause : CloseFault) × (fault ≡ end_of_close cause) × StaysOpen z s cause t

-- why the table of IPv4 was not closed: by the table's own answer, or another judge may have a share of the tables still
abbrev pub IsFourKept : Sizes → JudgeState → EndFault → JudgeState → Type 0
IsFourKept z s fault t =
    (StaysOwn z s.four fault t.four × (t ≡ record s { four = t.four; shared = false }))
    ⊎ ((s.shared ≡ true) × IsHeld z fault s.four t.four × (t ≡ record s { four = t.four }))

-- so that of IPv6
abbrev pub IsSixKept : Sizes → JudgeState → EndFault → JudgeState → Type 0
IsSixKept z s fault t =
    (StaysOwn z s.six fault t.six × (t ≡ record s { six = t.six; shared = false }))
    ⊎ ((s.shared ≡ true) × IsHeld z fault s.six t.six × (t ≡ record s { six = t.six }))
