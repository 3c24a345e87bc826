-- What renewing one family's table leaves of a judge: s is the judge before, t after it.
use Rattle.std.specs.Prelude.{◌≡◌, ◌⊎◌, true, false}
use Rattle.packet_view.specs.declared.tuple.Family.{Family}
use Rattle.packet_view.specs.declared.tuple.Family.TheVariants.{V4, V6}
use Rattle.bihash_words.specs.Sizes.{sizes_of}
use Rattle.bihash_words.specs.declared.shape.Shape.{Ghosts}
use Rattle.bihash_steps.specs.Renewals.{IsRenewed}
use Rattle.bihash_steps.specs.Seats.{with_view}
use Rattle.bihash_table.specs.Closing.{WasWhole}
use Rattle.bihash_table.specs.Renewing.{IsRenewRefused}
use Rattle.bihash_table.specs.declared.renew_fault.RenewFault.{RenewFault}
use Rattle.flow_judge.specs.EndFaults.{AreHeld, end_of_renewal}
use Rattle.flow_judge.specs.JudgeStates.{JudgeState}
use Rattle.flow_judge.specs.declared.end_fault.EndFault.{EndFault}

-- the family's caller had every number, and the new one begins with what it knew; the other family's is the same
abbrev pub AreRenewed : {A B K L : Type 0} (ga : Ghosts A K) (gb : Ghosts B L) → Family → JudgeState → JudgeState → Type 0
AreRenewed ga gb V4 s t = IsRenewed (sizes_of ga) s.four.view t.four.view × WasWhole (sizes_of ga) s.four.view × (t.six ≡ s.six)
AreRenewed ga gb V6 s t = IsRenewed (sizes_of gb) s.six.view t.six.view × WasWhole (sizes_of gb) s.six.view × (t.four ≡ s.four)

-- the family's caller is as this refusal leaves it, and the other family's is the same
abbrev pub AreNotRenewed : {A B K L : Type 0} (ga : Ghosts A K) (gb : Ghosts B L) → Family → JudgeState → RenewFault → JudgeState → Type 0
AreNotRenewed ga gb V4 s fault t =
    (t.four ≡ with_view s.four t.four.view) × IsRenewRefused (sizes_of ga) s.four.view fault t.four.view × (t.six ≡ s.six)
AreNotRenewed ga gb V6 s fault t =
    (t.six ≡ with_view s.six t.six.view) × IsRenewRefused (sizes_of gb) s.six.view fault t.six.view × (t.four ≡ s.four)

pub record IsRenewedJudge {A B K L : Type 0} (ga : Ghosts A K) (gb : Ghosts B L) (family : Family) (s t : JudgeState) : Type 0 where
  pub by : (t.policy ≡ s.policy) × (t.times ≡ s.times) × (t.counts ≡ s.counts)
  pub renewed : AreRenewed ga gb family s t
  pub own : t.shared ≡ false

-- a judge that has its tables for itself was not renewed, by the table's own answer
pub record IsRefusedOwn {A B K L : Type 0} (ga : Ghosts A K) (gb : Ghosts B L) (family : Family) (s : JudgeState)
    (cause : RenewFault) (t : JudgeState) : Type 0 where
  pub by : (t.policy ≡ s.policy) × (t.times ≡ s.times) × (t.counts ≡ s.counts)
  pub refused : AreNotRenewed ga gb family s cause t
  pub own : t.shared ≡ false

-- why a judge was not renewed: for this cause, or another one may have a share of its tables
abbrev pub IsRenewRefusedJudge : {A B K L : Type 0} (ga : Ghosts A K) (gb : Ghosts B L) → Family → JudgeState → EndFault → JudgeState → Type 0
IsRenewRefusedJudge ga gb family s fault t =
    ((cause : RenewFault) × (fault ≡ end_of_renewal cause) × IsRefusedOwn ga gb family s cause t)
    ⊎ ((s.shared ≡ true) × AreHeld ga gb family s fault t)
