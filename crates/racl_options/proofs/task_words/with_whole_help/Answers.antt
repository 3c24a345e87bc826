use Rattle.std.proofs.Common.{◌∙◌, sym}
use Rattle.racl_options.proofs.TaskLemmas.{help_too}
use Rattle.racl_options.proofs.task_words.with_whole_help.Goals as goal

pub returns-in-DisplayHelp : goal.returns-in-DisplayHelp
returns-in-DisplayHelp c kinds has = help_too kinds c.args.error c.whole_help.result (sym c.kind.ensures ∙ c.in-DisplayHelp.is) has c.whole_help.ensures
