use Rattle.std.proofs.Common.{Result, Ok, Err, ap, arith}
use Rattle.acl_policy.specs.Policies.{policy_facts}
use Rattle.racl_io.specs.declared.fault.Fault.TheVariants.{Memory}
use Rattle.racl_io.specs.declared.totals_and_truncation.Totals.{Totals}
use Rattle.racl_report.specs.InterfaceInputs.{placeless}
use Rattle.racl_report.specs.declared.interface_captures.PlacedFault.{PlacedFault}
use Rattle.racl_report.proofs.InterfaceLaws.{no_fault_apart}
use Rattle.racl_runs.proofs.InterfaceLemmas.{fault_is_only, no_failed_write, one_outcome_apart, right_is_not_faulty}
use Rattle.racl_runs.proofs.interface_run.run_interfaces.Goals as goal

-- the fault that is answered
fault_in : Result Totals PlacedFault → PlacedFault
fault_in (Ok totals) = placeless Memory
fault_in (Err found) = found

pub returns-in-Err-clause-accepts : goal.returns-in-Err-clause-accepts
returns-in-Err-clause-accepts g c = λ outcome has.
    let input = c.args.input.now in
    right_is_not_faulty input.text.items input.captures.items input.fit c.in-Err.found c.in-Err.ensures.fault c.args.options.now outcome has

pub returns-in-Err-clause-refuses : goal.returns-in-Err-clause-refuses
returns-in-Err-clause-refuses g c = λ cause of.
    let input = c.args.input.now in
    fault_is_only input.text.items input.captures.items input.fit c.in-Err.found c.in-Err.ensures.fault cause of

pub returns-in-Err-clause-write : goal.returns-in-Err-clause-write
unfolding fault_in
returns-in-Err-clause-write g c =
    let input = c.args.input.now in (
      (λ same. absurd (no_failed_write input.text.items input.captures.items input.fit c.in-Err.found c.in-Err.ensures.fault (ap fault_in same))),
      (λ more. absurd (omega (arith, more))),
    )

pub returns-in-Ok-run_checked-clause-accepts : goal.returns-in-Ok-run_checked-clause-accepts
returns-in-Ok-run_checked-clause-accepts g c = λ outcome has.
    let input = c.args.input.now in
    let run = c.in-Ok-run_checked.ensures.ok in
    (run, λ paged in_time. one_outcome_apart input.text.items input.captures.items input.fit c.args.options.now _ _ c.in-Ok-run_checked.totals outcome run has paged in_time)

pub returns-in-Ok-run_checked-clause-refuses : goal.returns-in-Ok-run_checked-clause-refuses
returns-in-Ok-run_checked-clause-refuses g c = λ cause of.
    let input = c.args.input.now in
    let right = c.in-Ok.ensures.ok in
    no_fault_apart input.text.items input.captures.items input.fit (policy_facts c.in-Ok.right.filter.policy) right.packets c.in-Ok.right.told.items cause right.says.says right.taken of

pub returns-clause-refuses : goal.returns-clause-refuses
returns-clause-refuses g c = λ cause of.
    let input = c.args.input.now in
    let right = c.in-Ok.ensures.ok in
    absurd (no_fault_apart input.text.items input.captures.items input.fit (policy_facts c.in-Ok.right.filter.policy) right.packets c.in-Ok.right.told.items cause right.says.says right.taken of)
