-- What is behind a handle, and what a call makes of it.
use Rattle.std.specs.Prelude.{◌≡◌, ◌⊎◌, ℕ, Bool, length, slice_get, Option, Result}
use Rattle.bihash_words.specs.Sizes.{Sizes, sizes_of}
use Rattle.bihash_words.specs.declared.shape.Shape.{Ghosts}
use Rattle.bihash_words.specs.declared.patch.Change.{Change}
use Rattle.bihash_words.specs.declared.patch.Reply.{Reply}
use Rattle.bihash_steps.specs.CallerCalls.{AreInformed, IsJoined}
use Rattle.bihash_steps.specs.Seats.{CallerState, stamp_of}
use Rattle.bihash_rule.specs.Callers.{IsLawfulCaller}
use Rattle.bihash_rule.specs.Views.{first_view}
use Rattle.bihash_steps.specs.declared.split_fault.SplitFault.{SplitFault}
use Rattle.bihash_table.specs.Calls.{TellsRecycleTry, TellsSearchTry, TellsUpdateTry}
use Rattle.bihash_table.specs.declared.contended.Contended.{Contended}
use Rattle.bihash_c.specs.Answers.{answer_of, end_number, expire_answer_of, search_answer_of, split_number, stamp_told}
use Rattle.bihash_c.specs.CallersWithTable.{IsClosed, IsEndTold, IsRenewedFrom, IsSplit, IsSplitRefused, LooksAt}
use Rattle.bihash_c.specs.declared.answer_numbers.Answer.{Answer}
use Rattle.bihash_c.specs.declared.answer_numbers.Stamp.{Stamp}
use Rattle.bihash_c.specs.declared.end_of_table.EndFault.{EndFault}
use Rattle.bihash_c.specs.declared.handle_content_callers.Content.{Content}
use Rattle.bihash_c.specs.declared.handle_content_callers.Content.TheVariants.{Empty, Caller, Pairs}

-- there is a caller
abbrev pub HasCaller : {A K : Type 0} → Content A K → Type 0
HasCaller Empty = ⊥
HasCaller (Caller s) = Unit {0}
HasCaller (Pairs ps) = ⊥

-- there are the pairs of a table that was closed
abbrev pub HasPairs : {A K : Type 0} → Content A K → Type 0
HasPairs Empty = ⊥
HasPairs (Caller s) = ⊥
HasPairs (Pairs ps) = Unit {0}

-- there are two callers of one table
abbrev pub AreOfOneTable : {A K : Type 0} → Content A K → Content A K → Type 0
AreOfOneTable (Caller s) (Caller t) = t.row ≡ s.row
AreOfOneTable x y = ⊥

-- a caller was there and is there, and this is told of what it was and is
abbrev pub Calls : {A K : Type 0} → Content A K → Content A K → (CallerState → CallerState → Type 0) → Type 0
Calls (Caller s) (Caller t) told = told s t
Calls x y told = ⊥

-- one try of a search was answered so
pub record SearchTold {A K : Type 0} (g : Ghosts A K) (key : K) (answer : Answer) (s t : CallerState) : Type 0 where
  pub tried : Result (Option ℕ) Contended
  pub told : TellsSearchTry g s t key tried
  pub same : answer ≡ search_answer_of tried

-- one try of an update
pub record UpdateTold {A K : Type 0} (g : Ghosts A K) (key : K) (decision : Option ℕ → Change) (answer : Answer)
    (s t : CallerState) : Type 0 where
  pub tried : Result Reply Contended
  pub told : TellsUpdateTry g s t key decision tried
  pub same : answer ≡ answer_of tried

-- one try of an update with an expiry
pub record RecycleTold {A K : Type 0} (g : Ghosts A K) (key : K) (decision : Option ℕ → Change) (is_expired : ℕ → Bool)
    (answer : Answer) (s t : CallerState) : Type 0 where
  pub tried : Result Reply Contended
  pub told : TellsRecycleTry g s t key decision is_expired tried
  pub same : answer ≡ answer_of tried

-- one try of a look at a bucket for an expired pair
pub record ExpireTold (z : Sizes) (b : ℕ) (is_expired : ℕ → Bool) (answer : Answer) (s t : CallerState) : Type 0 where
  pub tried : Result (Option Reply) Contended
  pub told : LooksAt z b is_expired tried s t
  pub same : answer ≡ expire_answer_of tried

-- caller 1 of a new table
abbrev pub IsFirst : {A K : Type 0} → Sizes → Content A K → Type 0
IsFirst z Empty = ⊥
IsFirst z (Caller s) = (s.view ≡ first_view z) × IsLawfulCaller z s.view
IsFirst z (Pairs ps) = ⊥

-- the caller and a new one of its table
abbrev pub IsDivided : {A K : Type 0} → Sizes → Content A K → Content A K → Content A K → Type 0
IsDivided z (Caller s) (Caller t) (Caller u) = IsSplit z s t u
IsDivided z x y new = ⊥

-- a split was done, or refused for this reason, and then there is no new caller
abbrev pub SplitTold : {A K : Type 0} → Sizes → (x y before new : Content A K) → ℕ → Type 0
SplitTold z x y before new answer = ((answer ≡ 0) × IsDivided z x y new)
    ⊎ ((fault : SplitFault) × (answer ≡ split_number fault) × Calls x y (IsSplitRefused z fault) × (new ≡ before))

-- the caller has the numbers and records of another one too
abbrev pub JoinTold : {A K : Type 0} → Sizes → (x other y : Content A K) → Type 0
JoinTold z (Caller s) (Caller u) (Caller t) = IsJoined z s u t
JoinTold z x other y = ⊥

-- both callers know what either knew
abbrev pub MeetTold : {A K : Type 0} → Sizes → (x other y new : Content A K) → Type 0
MeetTold z (Caller s) (Caller u) (Caller t) (Caller w) = AreInformed z s u t w
MeetTold z x other y new = ⊥

-- the bucket and the stamp of the last answered call
abbrev pub StampTold : {A K : Type 0} → Content A K → Stamp → Type 0
StampTold Empty stamp = ⊥
StampTold (Caller s) stamp = stamp ≡ stamp_told (stamp_of s.view.records)
StampTold (Pairs ps) stamp = ⊥

-- the table was closed and its pairs are there, or the caller is there still
abbrev pub CloseTold : {A K : Type 0} → Ghosts A K → (x y : Content A K) → ℕ → Type 0
CloseTold g (Caller s) (Pairs ps) answer = (answer ≡ 0) × IsClosed g s.view ps.items
CloseTold g (Caller s) (Caller t) answer =
    (fault : EndFault) × (answer ≡ end_number fault) × IsEndTold (sizes_of g) s fault t
CloseTold g x y answer = ⊥

-- caller 1 of the renewed table is there, or the caller is there still
abbrev pub RenewTold : {A K : Type 0} → Sizes → (x y : Content A K) → ℕ → Type 0
RenewTold z x y answer = ((answer ≡ 0) × Calls x y (λ s t. IsRenewedFrom z s.view t.view))
    ⊎ ((fault : EndFault) × (answer ≡ end_number fault) × Calls x y (λ s t. IsEndTold z s fault t))

-- how many pairs are there
abbrev pub CountTold : {A K : Type 0} → Content A K → ℕ → Type 0
CountTold Empty count = ⊥
CountTold (Caller s) count = ⊥
CountTold (Pairs ps) count = count ≡ length ps.items

-- the pair at a place, where there is one
abbrev pub PairTold : {A K : Type 0} → Content A K → ℕ → Option (K × ℕ) → Type 0
PairTold Empty at found = ⊥
PairTold (Caller s) at found = ⊥
PairTold (Pairs ps) at found = found ≡ slice_get ps.items at
