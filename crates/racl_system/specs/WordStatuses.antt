-- What words ask for, and the exit statuses where they are refused (this project's profile).
use Rattle.std.specs.Prelude.{◌≡◌, ◌≢◌, ◌⊎◌, ℕ, List, None, Some}
use Rattle.clap.specs.Words.{HasKind, Text, fault_of, kind_of}
use Rattle.clap.specs.declared.error.Error.{Error}
use Rattle.clap.specs.declared.error.kind.ErrorKind.{ErrorKind}
use Rattle.clap.specs.declared.error.kind.ErrorKind.TheVariants.{OutOfMemory, ValueValidation}
use Rattle.racl_options.specs.Asking.{AskForNothing, AskForRun, asked_facts}
use Rattle.racl_options.specs.CommandLine.{IsRequest, racl}
use Rattle.racl_options.specs.Tasks.{AskForTask, RefusesTask, task_facts}
use Rattle.racl_system.specs.declared.asked_words.Words.{Words}
use Rattle.racl_system.specs.declared.asked_words.Words.TheVariants as asked

-- words that begin with a command ask for what it does, and others for a run
abbrev pub AskForWords : List Text → Words → Type 0
AskForWords words (asked.Run run) = AskForTask words None × AskForRun words (asked_facts run)
AskForWords words (asked.Command task) = AskForTask words (Some (task_facts task))

-- 0 for a request, 4 where memory ran out, and else 2
pub record IsKindStatus (kind : ErrorKind) (status : ℕ) : Type 0 where
  pub request : IsRequest kind → status ≡ 0
  pub memory : kind ≡ OutOfMemory → status ≡ 4
  pub mistake : (IsRequest kind → ⊥) → kind ≢ OutOfMemory → status ≡ 2

-- words are refused by this error: those of a command; or others, which have a fault, or none and yet ask for nothing
abbrev pub RefusesWords : List Text → Error → Type 0
RefusesWords words e = RefusesTask words e
    ⊎ (AskForTask words None × (HasKind (fault_of racl words) e ⊎ ((kind_of e ≡ ValueValidation) × AskForNothing words)))

-- the status of the error by which the words are refused
abbrev pub IsWordsStatus : List Text → ℕ → Type 0
IsWordsStatus words status = (e : Error) × RefusesWords words e × IsKindStatus (kind_of e) status
