-- Judges that meet, that are asked whether they are alone, swept, and asked for unused pages.
use Rattle.std.specs.Prelude.{◌≡◌, ◌≤◌, ℕ, Bool, true, false}
use Rattle.packet_view.specs.declared.tuple.Family.{Family}
use Rattle.bihash_words.specs.declared.shape.Shape.{Ghosts}
use Rattle.flow_filter.specs.OneThread.{Layout, sizes_in}
use Rattle.flow_judge.specs.JudgeStates.{JudgeState}
use Rattle.flow_judge.specs.Meetings.{AreMetJudges, TellsLoneJudge}
use Rattle.flow_judge.specs.Sweeps.{TellsSwept}
use Rattle.flow_judge.specs.declared.judge_swept.Swept.{Swept}
use Rattle.racl_c.specs.Answers.{one_if}
use Rattle.racl_c.specs.declared.content_calls.Content.{Content}
use Rattle.racl_c.specs.declared.content_calls.Content.TheVariants.{Large, Standard}
use Rattle.racl_c.specs.declared.content_met_and_swept.Sweep.{Sweep}

-- both judges know of their tables what either knew
abbrev pub MeetTold : (standard large : Layout) → (x other y met : Content) → Type 0
MeetTold l m (Standard s) (Standard u) (Standard t) (Standard w) = AreMetJudges l s u t w
MeetTold l m (Large s) (Large u) (Large t) (Large w) = AreMetJudges m s u t w
MeetTold l m x other y met = ⊥

-- whether the judge was found to be alone over its tables
pub record LoneTold (l : Layout) (answer : ℕ) (s t : JudgeState) : Type 0 where
  pub is_lone : Bool
  pub is : TellsLoneJudge l s t is_lone
  pub same : answer ≡ one_if is_lone

-- the number for a sweep that met another judge, or none
abbrev pub met_number : Bool → ℕ
met_number true = 7
met_number false = 0

abbrev pub sweep_told : Swept → Sweep
sweep_told swept = record { kind = met_number swept.met; next = swept.next; went = swept.went }

-- a sweep came so far
pub record SweepTold {A B K L : Type 0} (ga : Ghosts A K) (gb : Ghosts B L) (family : Family) (moment from to most : ℕ)
    (told : Sweep) (s t : JudgeState) : Type 0 where
  pub swept : Swept
  pub is : TellsSwept ga gb family moment from to most s t swept
  pub same : told ≡ sweep_told swept

-- so many pages of a family's table were never handed out, of those that it has
abbrev pub UnusedTold : (standard large : Layout) → Family → Content → ℕ → Type 0
UnusedTold l m family (Standard s) count = count ≤ (sizes_in l family).pages
UnusedTold l m family (Large s) count = count ≤ (sizes_in m family).pages
UnusedTold l m family x count = ⊥
