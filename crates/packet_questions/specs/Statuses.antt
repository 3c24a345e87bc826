-- The exit statuses of packets in words that get no verdicts (this project's profile).
use Rattle.std.specs.Prelude.{ℕ}
use Rattle.racl_io.specs.declared.fault.Fault.{Fault}
use Rattle.racl_io.specs.declared.fault.Fault.TheVariants.{Memory, Read, Write}
use Rattle.packet_questions.specs.declared.question_fault.QuestionFault.{QuestionFault}
use Rattle.packet_questions.specs.declared.question_fault.QuestionFault.TheVariants.{NoWayOut, Run, Wrong}

-- 4 where memory or a device failed, and else 1 where the policy is wrong
abbrev pub status_of_run : Fault → ℕ
status_of_run Memory = 4
status_of_run Read = 4
status_of_run Write = 4
status_of_run _ = 1

-- 2 where the words are wrong
abbrev pub status_of : QuestionFault → ℕ
status_of (Wrong number form) = 2
status_of (NoWayOut number interface) = 2
status_of (Run fault) = status_of_run fault
