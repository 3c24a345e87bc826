use Rattle.std.proofs.Common.{◌≡◌, ◌⊎◌, subst}
use Rattle.racl_io.specs.declared.fault.Fault.TheVariants.{Memory}
use Rattle.racl_system.specs.MarkedPolicies.{IsMarkedFault, IsUnmarked}
use Rattle.racl_system.proofs.ReaderLemmas.{status_of_unheld, unheld_of_marked, unheld_of_unread}
use Rattle.racl_system.proofs.input_files.text_or_told.Goals as goal

pub returns-in-Ok-say_fault-clause-status : goal.returns-in-Ok-say_fault-clause-status
returns-in-Ok-say_fault-clause-status g c = status_of_unheld _ c.in-Err.fault c.in-Ok-say_fault.status c.in-Ok-say_fault.ensures
    (unheld_of_unread _ c.in-Err.fault c.in-Err.ensures.fault)

pub returns-in_default-clause-unmarked : goal.returns-in_default-clause-unmarked
returns-in_default-clause-unmarked g c = subst IsUnmarked c.deref.ensures.value c.in_default.ensures.none

pub returns-in-Ok-say_policy_fault-clause-status : goal.returns-in-Ok-say_policy_fault-clause-status
returns-in-Ok-say_policy_fault-clause-status g c = status_of_unheld _ c.in-Some.fault c.in-Ok-say_policy_fault.status c.in-Ok-say_policy_fault.ensures
    (unheld_of_marked _ c.in-Ok.text.items c.in-Some.fault c.in-Ok.ensures.text
    (subst (λ text. (c.in-Some.fault ≡ Memory) ⊎ IsMarkedFault text c.in-Some.fault) c.deref.ensures.value c.in-Some.ensures.some))
