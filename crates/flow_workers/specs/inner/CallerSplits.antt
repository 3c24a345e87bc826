-- What making callers of workers, and joining them, asks of callers of one table and tells of them.
use Rattle.std.specs.Prelude.{◌≡◌, ◌<◌, [], ◌∷◌, List, All, length}
use Rattle.std.specs.List.{AllZip}
use Rattle.packet_view.specs.declared.tuple.Family.{Family}
use Rattle.bihash_words.specs.Sizes.{Sizes}
use Rattle.bihash_words.specs.declared.shape.Shape.{Ghosts}
use Rattle.bihash_rule.specs.Callers.{IsLawfulCaller}
use Rattle.bihash_steps.specs.Seats.{CallerState}
use Rattle.bihash_steps.specs.Steps.{IsToldWhole}
use Rattle.bihash_rule.specs.Views.{nothing_held}
use Rattle.bihash_steps.specs.declared.row_and_callers.Caller.{Caller}
use Rattle.bihash_rule.specs.declared.view.View.{View}
use Rattle.bihash_table.specs.declared.shared_table.Sessions.{Sessions}
use Rattle.flow_dealing.specs.AgeingTraces.{Deed, HaveDeeds}
use Rattle.flow_workers.specs.inner.Fresh.{IsFreshView}

-- a caller of this table that made no call
pub record IsNewCaller {A K : Type 0} (table : Sessions A K) (s : CallerState) : Type 0 where
  pub own : s.row ≡ table.row
  pub free : s.view.holds ≡ nothing_held
  pub fresh : IsFreshView s.view

-- two of them, which are lawful
pub record AreNew {A K : Type 0} (z : Sizes) (table : Sessions A K) (s t : CallerState) : Type 0 where
  pub own : (s.row ≡ table.row) × (t.row ≡ table.row)
  pub free : (s.view.holds ≡ nothing_held) × (t.view.holds ≡ nothing_held)
  pub lawful : IsLawfulCaller z s.view × IsLawfulCaller z t.view
  pub fresh : IsFreshView s.view × IsFreshView t.view

-- the caller s made each write that it knows, and is t then
pub record IsMadeWhole (z : Sizes) (s t : CallerState) : Type 0 where
  pub whole : IsToldWhole z t.view
  pub lawful : IsLawfulCaller z t.view
  pub records : t.view.records ≡ s.view.records
  pub known : t.view.known ≡ s.view.known
  pub own : t.row ≡ s.row
  pub holds : t.view.holds ≡ s.view.holds

-- callers of this table, one at least, that hold nothing
pub record MayJoin {A K : Type 0} {g : Ghosts A K} (table : Sessions A K) (callers : List (Caller A K g)) : Type 0 where
  pub some : 0 < length callers
  pub own : All (λ c. c.seat.row ≡ table.row) callers
  pub free : All (λ c. c.seat.view.holds ≡ nothing_held) callers

-- the caller t has the deeds of a worker's caller s, and after them those of the others
pub record IsJoinedOne {A K : Type 0} (z : Sizes) (table : Sessions A K) (s others t : CallerState) : Type 0 where
  pub own : t.row ≡ table.row
  pub free : t.view.holds ≡ nothing_held
  pub lawful : IsLawfulCaller z t.view
  pub deeds : (of : Sizes) (family : Family) (deeds : List Deed) (all : List (List Deed))
      → HaveDeeds of family (deeds ∷ []) s.view → HaveDeeds of family all others.view
      → HaveDeeds of family (deeds ∷ all) t.view

-- the deeds of all these callers are in this view, in their order
abbrev pub HasDeedsOf : {A K : Type 0} {g : Ghosts A K} → List (Caller A K g) → View → Type 0
HasDeedsOf callers v = (of : Sizes) (family : Family) (all : List (List Deed))
    → AllZip (λ deeds c. HaveDeeds of family (deeds ∷ []) c.seat.view) all callers
    → HaveDeeds of family all v

-- the caller t of this table has them, and holds nothing
pub record AreJoined {A K : Type 0} {g : Ghosts A K} (table : Sessions A K) (callers : List (Caller A K g))
    (t : CallerState) : Type 0 where
  pub own : t.row ≡ table.row
  pub free : t.view.holds ≡ nothing_held
  pub deeds : HasDeedsOf callers t.view

-- so it does, and it made each write that it knows
pub record AreJoinedWhole {A K : Type 0} {g : Ghosts A K} (z : Sizes) (table : Sessions A K) (callers : List (Caller A K g))
    (t : CallerState) : Type 0 where
  pub own : t.row ≡ table.row
  pub free : t.view.holds ≡ nothing_held
  pub lawful : IsLawfulCaller z t.view
  pub whole : IsToldWhole z t.view
  pub deeds : HasDeedsOf callers t.view
