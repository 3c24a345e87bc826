-- Why a judge's table of one family could not be closed or opened again, from what the table itself answers, or its caller where
-- other judges may have a share of it.
use Rattle.std.specs.Prelude.{◌≡◌, true, false}
use Rattle.packet_view.specs.declared.tuple.Family.{Family}
use Rattle.packet_view.specs.declared.tuple.Family.TheVariants.{V4, V6}
use Rattle.bihash_words.specs.Sizes.{Sizes, sizes_of}
use Rattle.bihash_words.specs.declared.shape.Shape.{Ghosts}
use Rattle.bihash_steps.specs.Seats.{CallerState}
use Rattle.bihash_table.specs.Calls.{TellsLone}
use Rattle.bihash_table.specs.declared.close_fault.CloseFault.{CloseFault}
use Rattle.bihash_table.specs.declared.close_fault.CloseFault.TheVariants as CloseFaults
use Rattle.bihash_table.specs.declared.renew_fault.RenewFault.{RenewFault}
use Rattle.bihash_table.specs.declared.renew_fault.RenewFault.TheVariants as RenewFaults
use Rattle.flow_judge.specs.JudgeStates.{JudgeState}
use Rattle.flow_judge.specs.declared.end_fault.EndFault.{EndFault}
use Rattle.flow_judge.specs.declared.end_fault.EndFault.TheVariants.{Contended, Memory, Strangers}

abbrev pub end_of_close : CloseFault → EndFault
end_of_close CloseFaults.Strangers = Strangers
end_of_close CloseFaults.Memory = Memory

abbrev pub end_of_renewal : RenewFault → EndFault
end_of_renewal RenewFaults.Strangers = Strangers
end_of_renewal RenewFaults.Memory = Memory

-- another share of the table is left: the caller was asked whether it has every number, and this is why the table doesn't end
abbrev pub IsHeld : Sizes → EndFault → (s t : CallerState) → Type 0
IsHeld z Strangers s t = TellsLone z s t false
IsHeld z Contended s t = TellsLone z s t true
IsHeld z Memory s t = ⊥

-- so the family's caller was, of a judge that is the same elsewhere
abbrev pub AreHeld : {A B K L : Type 0} → Ghosts A K → Ghosts B L → Family → JudgeState → EndFault → JudgeState → Type 0
AreHeld ga gb V4 s fault t = IsHeld (sizes_of ga) fault s.four t.four × (t ≡ record s { four = t.four })
AreHeld ga gb V6 s fault t = IsHeld (sizes_of gb) fault s.six t.six × (t ≡ record s { six = t.six })
