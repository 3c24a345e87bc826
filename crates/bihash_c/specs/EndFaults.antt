-- Why a table could not be closed or renewed, from what the table itself answers.
use Rattle.bihash_table.specs.declared.close_fault.CloseFault as Close
use Rattle.bihash_table.specs.declared.close_fault.CloseFault.TheVariants as CloseFaults
use Rattle.bihash_table.specs.declared.renew_fault.RenewFault as Renew
use Rattle.bihash_table.specs.declared.renew_fault.RenewFault.TheVariants as RenewFaults
use Rattle.bihash_c.specs.declared.end_of_table.EndFault.{EndFault}
use Rattle.bihash_c.specs.declared.end_of_table.EndFault.TheVariants.{Strangers, Memory}

abbrev pub end_of_close : Close.CloseFault → EndFault
end_of_close CloseFaults.Strangers = Strangers
end_of_close CloseFaults.Memory = Memory

abbrev pub end_of_renewal : Renew.RenewFault → EndFault
end_of_renewal RenewFaults.Strangers = Strangers
end_of_renewal RenewFaults.Memory = Memory
