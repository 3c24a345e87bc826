-- What is behind a handle, and what a call makes of it. Tables keep their size.
use Rattle.std.specs.Prelude.{◌≡◌, ◌≢◌, ◌⊎◌, ℕ, Bool, true, false, List, Option, Result, None, Some}
use Rattle.packet_view.specs.Captures.{PacketFacts}
use Rattle.packet_view.specs.declared.tuple.Family.{Family}
use Rattle.acl_policy.specs.Policies.{IsPolicyFault}
use Rattle.acl_policy.specs.declared.policy.PolicyFault.{PolicyFault}
use Rattle.acl_policy.specs.declared.policy.PolicyFault.TheVariants.{Memory}
use Rattle.bihash_words.specs.declared.patch.Reply.{Reply}
use Rattle.bihash_words.specs.declared.shape.Shape.{Ghosts}
use Rattle.bihash_steps.specs.declared.split_fault.SplitFault.{SplitFault}
use Rattle.bihash_table.specs.declared.contended.Contended.{Contended}
use Rattle.flow_filter.specs.OneThread.{Layout}
use Rattle.flow_judge.specs.Ageing.{TellsAged}
use Rattle.flow_judge.specs.JudgeStates.{JudgeState}
use Rattle.flow_judge.specs.Judges as judges
use Rattle.flow_judge.specs.Renewals.{IsRenewRefusedJudge, IsRenewedJudge}
use Rattle.flow_judge.specs.declared.counts.Counts.{Counts}
use Rattle.flow_judge.specs.declared.end_fault.EndFault.{EndFault}
use Rattle.flow_judge.specs.declared.judged.Judged.{Judged}
use Rattle.flow_judge.specs.declared.take_fault.TakeFault.{TakeFault}
use Rattle.racl_c.specs.Answers.{answer_of, end_number, ended_number, fault_told, split_number, take_number}
use Rattle.racl_c.specs.Options.{ChoiceTold}
use Rattle.racl_c.specs.declared.answer_numbers.Answer.{Answer}
use Rattle.racl_c.specs.declared.answer_numbers.Made.{Made}
use Rattle.racl_c.specs.declared.content_calls.Content.{Content}
use Rattle.racl_c.specs.declared.content_calls.Content.TheVariants.{Large, Standard}
use Rattle.racl_c.specs.declared.options.Choice.{Choice}
use Rattle.racl_c.specs.declared.options.Options.{Options}

-- there is a judge
abbrev pub HasJudge : Content → Type 0
HasJudge (Standard s) = Unit {0}
HasJudge (Large s) = Unit {0}
HasJudge x = ⊥

-- there are two judges over the same tables
abbrev pub AreOfOneTable : Content → Content → Type 0
AreOfOneTable (Standard s) (Standard t) = judges.AreOfOneTable s t
AreOfOneTable (Large s) (Large t) = judges.AreOfOneTable s t
AreOfOneTable x y = ⊥

-- a judge was there and is there, and this is told of what it was and is: the one over standard tables, the other over
-- large ones
abbrev pub Calls : Content → Content → (standard large : JudgeState → JudgeState → Type 0) → Type 0
Calls (Standard s) (Standard t) standard large = standard s t
Calls (Large s) (Large t) standard large = large s t
Calls x y standard large = ⊥

-- it is a judge over tables of this size, and this is told of it
abbrev pub IsOfSize : (is_large : Bool) → (standard large : JudgeState → Type 0) → Content → Type 0
IsOfSize false standard large (Standard s) = standard s
IsOfSize true standard large (Large s) = large s
IsOfSize is_large standard large x = ⊥

-- a judge over new tables of the size that was chosen, by the policy of this text
abbrev pub IsNewBy : (standard large : Layout) → List ℕ → Choice → Content → Type 0
IsNewBy l m text choice x =
    IsOfSize choice.is_large (judges.IsNewJudge l text choice.times) (judges.IsNewJudge m text choice.times) x

-- the text has this fault, or memory was refused
pub record IsFaultTold (text : List ℕ) (made : Made) : Type 0 where
  pub fault : PolicyFault
  pub is : fault ≢ Memory → IsPolicyFault text fault
  pub told : made ≡ fault_told fault

-- a judge as it was asked for
pub record IsBegun (l m : Layout) (text : List ℕ) (options : Options) (rest : List ℕ) (x : Content) : Type 0 where
  pub choice : Choice
  pub asked : ChoiceTold options rest (Some choice)
  pub begun : IsNewBy l m text choice x

-- a judge was made, or the options aren't right, or the text has a fault, or memory was refused; refused, all is as it was
abbrev pub NewTold : (standard large : Layout) → List ℕ → Options → (rest : List ℕ) → (before after : Content) → Made → Type 0
NewTold l m text options rest before after made =
    ((made ≡ record { kind = 0; line = 0 }) × IsBegun l m text options rest after)
    ⊎ (((made ≡ record { kind = 5; line = 0 }) × ChoiceTold options rest None × (after ≡ before))
    ⊎ (IsFaultTold text made × (after ≡ before)))

-- one try of judging was answered so
pub record JudgeTold {A B K L : Type 0} (ga : Ghosts A K) (gb : Ghosts B L) (packet : PacketFacts) (answer : Answer)
    (s t : JudgeState) : Type 0 where
  pub judged : Result Judged Contended
  pub told : judges.TellsJudged ga gb packet s t judged
  pub same : answer ≡ answer_of judged

-- the policy was replaced, or it stays for this fault
abbrev pub RuleTold : List ℕ → Made → JudgeState → JudgeState → Type 0
RuleTold text made s t = ((made ≡ record { kind = 0; line = 0 }) × judges.IsRuledAnew text s t)
    ⊎ (IsFaultTold text made × (t ≡ s))

-- the judge goes by the policy and the timeouts of the other one, or keeps its own for this reason
abbrev pub IsTaken : Layout → JudgeState → ℕ → JudgeState → JudgeState → Type 0
IsTaken l other answer s t = ((answer ≡ 0) × judges.IsRuledAs l other s t)
    ⊎ ((fault : TakeFault) × (answer ≡ take_number fault) × judges.IsTakeRefused l other s fault t)

-- the other one judges over tables of either size
abbrev pub TakeTold : Layout → Content → ℕ → JudgeState → JudgeState → Type 0
TakeTold l (Standard other) answer s t = IsTaken l other answer s t
TakeTold l (Large other) answer s t = IsTaken l other answer s t
TakeTold l x answer s t = ⊥

-- the judge and a new one over the same tables
abbrev pub AreDivided : (standard large : Layout) → Content → Content → Content → Type 0
AreDivided l m (Standard s) (Standard t) (Standard u) = judges.AreSplitJudges l s t u
AreDivided l m (Large s) (Large t) (Large u) = judges.AreSplitJudges m s t u
AreDivided l m x y new = ⊥

-- a split was done, or refused for this reason, and then there is no new judge
abbrev pub SplitTold : (standard large : Layout) → (x y before new : Content) → ℕ → Type 0
SplitTold l m x y before new answer = ((answer ≡ 0) × AreDivided l m x y new)
    ⊎ ((fault : SplitFault) × (answer ≡ split_number fault)
    × Calls x y (judges.IsSplitJudgeRefused l fault) (judges.IsSplitJudgeRefused m fault) × (new ≡ before))

-- the judge has the callers of another one too
abbrev pub JoinTold : (standard large : Layout) → (x other y : Content) → Type 0
JoinTold l m (Standard s) (Standard u) (Standard t) = judges.IsJoinedJudge l s u t
JoinTold l m (Large s) (Large u) (Large t) = judges.IsJoinedJudge m s u t
JoinTold l m x other y = ⊥

-- a family's table was renewed, or not for this reason
abbrev pub RenewTold : {A B K L : Type 0} → Ghosts A K → Ghosts B L → Family → ℕ → JudgeState → JudgeState → Type 0
RenewTold ga gb family answer s t = ((answer ≡ 0) × IsRenewedJudge ga gb family s t)
    ⊎ ((fault : EndFault) × (answer ≡ end_number fault) × IsRenewRefusedJudge ga gb family s fault t)

-- one try of a look at a bucket for a session that has ended by this second was answered so
pub record AgedTold {A B K L : Type 0} (ga : Ghosts A K) (gb : Ghosts B L) (family : Family) (bucket moment answer : ℕ)
    (s t : JudgeState) : Type 0 where
  pub found : Result (Option Reply) Contended
  pub told : TellsAged ga gb family bucket moment s t found
  pub same : answer ≡ ended_number found

-- these are the judge's counts
abbrev pub CountsTold : Content → Counts → Type 0
CountsTold (Standard s) counts = counts ≡ s.counts
CountsTold (Large s) counts = counts ≡ s.counts
CountsTold x counts = ⊥
