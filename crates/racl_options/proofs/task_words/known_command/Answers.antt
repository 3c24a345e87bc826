use Rattle.std.proofs.Common.{◌∙◌, ap}
use Rattle.std.specs.Prelude.{Err, Ok}
use Rattle.clap.specs.declared.parser.matches.ArgMatches.{ArgMatches}
use Rattle.racl_options.specs.Tasks.{with_commands}
use Rattle.racl_options.proofs.TaskLemmas.{fails_by_names}
use Rattle.racl_options.proofs.task_words.known_command.Goals as goal

pub returns-in-Ok-clause-ok : goal.returns-in-Ok-clause-ok
returns-in-Ok-clause-ok c = fails_by_names c.in_ok-command.command _ (Ok c.in-Ok.field-0)
    (c.in_ok-command.ensures ∙ ap with_commands c.described_command-base.ensures) c.in-Ok.ensures.kinds

pub returns-clause-refuses : goal.returns-clause-refuses
returns-clause-refuses c = fails_by_names {T = ArgMatches} c.in_ok-command.command _ (Err c.in-Err.error)
    (c.in_ok-command.ensures ∙ ap with_commands c.described_command-base.ensures) c.in-Err.ensures.kinds
