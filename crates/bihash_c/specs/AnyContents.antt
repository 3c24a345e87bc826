-- What is behind a handle whose table is of any kind, and what a call makes of it. A table keeps its kind.
use Rattle.std.specs.Prelude.{◌≡◌, ◌⊎◌, ℕ, Bool, List, Option, None, Some}
use Rattle.bihash_steps.specs.Seats.{CallerState}
use Rattle.bihash_steps.specs.declared.split_fault.SplitFault.{SplitFault}
use Rattle.bihash_c.specs.Answers.{split_number}
use Rattle.bihash_c.specs.CallersWithTable.{IsSplitRefused}
use Rattle.bihash_c.specs.Contents as one
use Rattle.bihash_c.specs.Kinds.{shape_of, sizes_in}
use Rattle.bihash_c.specs.Options.{KindTold}
use Rattle.bihash_c.specs.Pairs.{IsGiven, of_five, of_two}
use Rattle.bihash_c.specs.declared.answer_numbers.Stamp.{Stamp}
use Rattle.bihash_c.specs.declared.any_content_callers.AnyContent.{AnyContent}
use Rattle.bihash_c.specs.declared.any_content_callers.AnyContent.TheVariants.{Two, LargeTwo, Five, LargeFive}
use Rattle.bihash_c.specs.declared.handle_content_callers.Content.{Content}
use Rattle.bihash_c.specs.declared.handle_content_callers.Content.TheVariants.{Empty}
use Rattle.bihash_c.specs.declared.options.Options.{Options}
use Rattle.bihash_c.specs.declared.pair.Pair.{Pair}
use Rattle.bihash_c.specs.declared.options.Kind.{Kind}
use Rattle.bihash_c.specs.declared.options.Kind.TheVariants as kinds

-- nothing is there
abbrev pub nothing : AnyContent
nothing = Two Empty

-- there is a caller
abbrev pub HasCaller : AnyContent → Type 0
HasCaller (Two x) = one.HasCaller x
HasCaller (LargeTwo x) = one.HasCaller x
HasCaller (Five x) = one.HasCaller x
HasCaller (LargeFive x) = one.HasCaller x

-- there are the pairs of a table that was closed
abbrev pub HasPairs : AnyContent → Type 0
HasPairs (Two x) = one.HasPairs x
HasPairs (LargeTwo x) = one.HasPairs x
HasPairs (Five x) = one.HasPairs x
HasPairs (LargeFive x) = one.HasPairs x

-- there are two callers of one table
abbrev pub AreOfOneTable : AnyContent → AnyContent → Type 0
AreOfOneTable (Two x) (Two y) = one.AreOfOneTable x y
AreOfOneTable (LargeTwo x) (LargeTwo y) = one.AreOfOneTable x y
AreOfOneTable (Five x) (Five y) = one.AreOfOneTable x y
AreOfOneTable (LargeFive x) (LargeFive y) = one.AreOfOneTable x y
AreOfOneTable x y = ⊥

-- a caller was there and is there, and this is told of what it was and is, by the kind of its table
abbrev pub Calls : AnyContent → AnyContent → (Kind → CallerState → CallerState → Type 0) → Type 0
Calls (Two x) (Two y) told = one.Calls x y (told kinds.Two)
Calls (LargeTwo x) (LargeTwo y) told = one.Calls x y (told kinds.LargeTwo)
Calls (Five x) (Five y) told = one.Calls x y (told kinds.Five)
Calls (LargeFive x) (LargeFive y) told = one.Calls x y (told kinds.LargeFive)
Calls x y told = ⊥

-- caller 1 of a new table of this kind
abbrev pub IsFirst : Kind → AnyContent → Type 0
IsFirst kinds.Two (Two x) = one.IsFirst (sizes_in kinds.Two) x
IsFirst kinds.LargeTwo (LargeTwo x) = one.IsFirst (sizes_in kinds.LargeTwo) x
IsFirst kinds.Five (Five x) = one.IsFirst (sizes_in kinds.Five) x
IsFirst kinds.LargeFive (LargeFive x) = one.IsFirst (sizes_in kinds.LargeFive) x
IsFirst kind x = ⊥

-- a table of this kind was made, or memory was refused, or no kind was asked for; refused, all is as it was
abbrev pub MadeTold : Option Kind → (before after : AnyContent) → ℕ → Type 0
MadeTold (Some kind) before after answer = ((answer ≡ 0) × IsFirst kind after) ⊎ ((answer ≡ 9) × (after ≡ before))
MadeTold None before after answer = (answer ≡ 12) × (after ≡ before)

pub record CreateTold (options : Options) (rest : List ℕ) (before after : AnyContent) (answer : ℕ) : Type 0 where
  pub kind : Option Kind
  pub asked : KindTold options rest kind
  pub made : MadeTold kind before after answer

-- the caller and a new one of its table
abbrev pub IsDivided : AnyContent → AnyContent → AnyContent → Type 0
IsDivided (Two x) (Two y) (Two new) = one.IsDivided (sizes_in kinds.Two) x y new
IsDivided (LargeTwo x) (LargeTwo y) (LargeTwo new) = one.IsDivided (sizes_in kinds.LargeTwo) x y new
IsDivided (Five x) (Five y) (Five new) = one.IsDivided (sizes_in kinds.Five) x y new
IsDivided (LargeFive x) (LargeFive y) (LargeFive new) = one.IsDivided (sizes_in kinds.LargeFive) x y new
IsDivided x y new = ⊥

-- a split was done, or refused for this reason, and then there is no new caller
abbrev pub SplitTold : (x y before new : AnyContent) → ℕ → Type 0
SplitTold x y before new answer = ((answer ≡ 0) × IsDivided x y new)
    ⊎ ((fault : SplitFault) × (answer ≡ split_number fault)
    × Calls x y (λ kind. IsSplitRefused (sizes_in kind) fault) × (new ≡ before))

-- the caller has the numbers and records of another one too
abbrev pub JoinTold : (x other y : AnyContent) → Type 0
JoinTold (Two x) (Two other) (Two y) = one.JoinTold (sizes_in kinds.Two) x other y
JoinTold (LargeTwo x) (LargeTwo other) (LargeTwo y) = one.JoinTold (sizes_in kinds.LargeTwo) x other y
JoinTold (Five x) (Five other) (Five y) = one.JoinTold (sizes_in kinds.Five) x other y
JoinTold (LargeFive x) (LargeFive other) (LargeFive y) = one.JoinTold (sizes_in kinds.LargeFive) x other y
JoinTold x other y = ⊥

-- both callers know what either knew
abbrev pub MeetTold : (x other y new : AnyContent) → Type 0
MeetTold (Two x) (Two other) (Two y) (Two new) = one.MeetTold (sizes_in kinds.Two) x other y new
MeetTold (LargeTwo x) (LargeTwo other) (LargeTwo y) (LargeTwo new) = one.MeetTold (sizes_in kinds.LargeTwo) x other y new
MeetTold (Five x) (Five other) (Five y) (Five new) = one.MeetTold (sizes_in kinds.Five) x other y new
MeetTold (LargeFive x) (LargeFive other) (LargeFive y) (LargeFive new) =
    one.MeetTold (sizes_in kinds.LargeFive) x other y new
MeetTold x other y new = ⊥

-- the bucket and the stamp of the last answered call
abbrev pub StampTold : AnyContent → Stamp → Type 0
StampTold (Two x) stamp = one.StampTold x stamp
StampTold (LargeTwo x) stamp = one.StampTold x stamp
StampTold (Five x) stamp = one.StampTold x stamp
StampTold (LargeFive x) stamp = one.StampTold x stamp

-- the table was closed and its pairs are there, or the caller is there still
abbrev pub CloseTold : (x y : AnyContent) → ℕ → Type 0
CloseTold (Two x) (Two y) answer = one.CloseTold (shape_of kinds.Two) x y answer
CloseTold (LargeTwo x) (LargeTwo y) answer = one.CloseTold (shape_of kinds.LargeTwo) x y answer
CloseTold (Five x) (Five y) answer = one.CloseTold (shape_of kinds.Five) x y answer
CloseTold (LargeFive x) (LargeFive y) answer = one.CloseTold (shape_of kinds.LargeFive) x y answer
CloseTold x y answer = ⊥

-- caller 1 of the renewed table is there, or the caller is there still
abbrev pub RenewTold : (x y : AnyContent) → ℕ → Type 0
RenewTold (Two x) (Two y) answer = one.RenewTold (sizes_in kinds.Two) x y answer
RenewTold (LargeTwo x) (LargeTwo y) answer = one.RenewTold (sizes_in kinds.LargeTwo) x y answer
RenewTold (Five x) (Five y) answer = one.RenewTold (sizes_in kinds.Five) x y answer
RenewTold (LargeFive x) (LargeFive y) answer = one.RenewTold (sizes_in kinds.LargeFive) x y answer
RenewTold x y answer = ⊥

-- how many pairs are there
abbrev pub CountTold : AnyContent → ℕ → Type 0
CountTold (Two x) count = one.CountTold x count
CountTold (LargeTwo x) count = one.CountTold x count
CountTold (Five x) count = one.CountTold x count
CountTold (LargeFive x) count = one.CountTold x count

-- the pair at a place, as C is to have it, where there is one
pub record IsShown {A : Type 0} (x : Content A (List ℕ)) (at : ℕ) (shown : Option (List ℕ × ℕ) → Option Pair)
    (found : Option Pair) : Type 0 where
  pub own : Option (List ℕ × ℕ)
  pub told : one.PairTold x at own
  pub same : found ≡ shown own

abbrev pub PairTold : AnyContent → ℕ → Option Pair → Type 0
PairTold (Two x) at found = IsShown x at of_two found
PairTold (LargeTwo x) at found = IsShown x at of_two found
PairTold (Five x) at found = IsShown x at of_five found
PairTold (LargeFive x) at found = IsShown x at of_five found

pub record GivesPair (x : AnyContent) (at : ℕ) (before after : Pair) (given : Bool) : Type 0 where
  pub found : Option Pair
  pub told : PairTold x at found
  pub pair : IsGiven found before after given
