use Rattle.std.proofs.Common.{◌∙◌, ap, subst}
use Rattle.clap.specs.Walk.{texts}
use Rattle.clap.specs.Words.{FailsBy, fault_of}
use Rattle.racl_options.specs.Tasks.{racl_commands, with_commands}
use Rattle.racl_options.proofs.TaskLemmas.{fails_by_commands, help_is_asked}
use Rattle.racl_options.proofs.task_words.whole_help_or_none.Goals as goal

pub returns : goal.returns
returns c = subst (λ kinds. FailsBy kinds c.try_get_matches_from_mut.result)
    (ap (λ words. fault_of racl_commands (texts words)) c.as_slice.ensures ∙ help_is_asked)
    (fails_by_commands c.in_ok-command.command _ c.try_get_matches_from_mut.result
    (c.in_ok-command.ensures ∙ ap with_commands c.in_ok-base.ensures) c.try_get_matches_from_mut.ensures.kinds)
