use Rattle.std.proofs.Common.{◌≡◌, IfOk, subst, ℕ}
use Rattle.racl_system.proofs.ReaderLemmas.{status_of_failed}
use Rattle.racl_system.proofs.file_checking.check_opened.Goals as goal

pub returns-in-Err-clause-read : goal.returns-in-Err-clause-read
returns-in-Err-clause-read g c = λ more.
    subst (λ n. IfOk c.say_fault.result (λ status. status ≡ n)) (status_of_failed ℕ _ _ c.in-Err.fault c.in-Err.ensures.failed more) c.say_fault.ensures
