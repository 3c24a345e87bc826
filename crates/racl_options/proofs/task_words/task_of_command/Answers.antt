use Rattle.std.proofs.Common.{◌∙◌, ap, inl, inr, sym}
use Rattle.std.specs.Prelude.{Err, Ok, option_map}
use Rattle.clap.specs.Walk.{texts}
use Rattle.clap.specs.declared.parser.matches.ArgMatches.{ArgMatches}
use Rattle.racl_options.specs.Tasks.{kind_for, task_facts, with_commands}
use Rattle.racl_options.proofs.TaskLemmas.{fails_by_commands, met, met_none, named_kind, version_unasked}
use Rattle.racl_options.proofs.task_words.task_of_command.Goals as goal

pub returns-in-Err-clause-refuses : goal.returns-in-Err-clause-refuses
returns-in-Err-clause-refuses c = inl (fails_by_commands {T = ArgMatches} c.in_ok-command.command _ (Err c.in-Err.error)
    (c.in_ok-command.ensures ∙ ap with_commands c.in_ok-base.ensures) c.in-Err.ensures.kinds)

pub returns-in_default-clause-refuses : goal.returns-in_default-clause-refuses
returns-in_default-clause-refuses c =
    let is = c.in_ok-command.ensures ∙ ap with_commands c.in_ok-base.ensures in
    let none = met_none c.in_ok-command.command (texts c.args.words.now) c.in-Ok.matches is c.in-Ok.ensures.ok.2 (sym c.in_default.ensures.name) in inr (
      fails_by_commands c.in_ok-command.command _ (Ok c.in-Ok.matches) is c.in-Ok.ensures.kinds,
      none.0,
      c.in_ok-error.ensures.kind ∙ sym (ap kind_for none.1),
    )

pub returns-in-Some-task-clause-ok : goal.returns-in-Some-task-clause-ok
returns-in-Some-task-clause-ok c =
    let is = c.in_ok-command.ensures ∙ ap with_commands c.in_ok-base.ensures in
    let said = met c.in_ok-command.command (texts c.args.words.now) c.in-Ok.matches is c.in-Ok.ensures.ok.2 c.in-Some.name.now c.in-Some.found.now
    (sym c.in-Some.ensures.name) (sym c.in-Some.ensures.rows) in (
      fails_by_commands c.in_ok-command.command _ (Ok c.in-Ok.matches) is c.in-Ok.ensures.kinds,
      said.0 ∙ sym c.in_ok-task.ensures ∙ ap (option_map task_facts) c.in-Some-task.is,
    )

pub returns-in-None-clause-refuses : goal.returns-in-None-clause-refuses
returns-in-None-clause-refuses c =
    let is = c.in_ok-command.ensures ∙ ap with_commands c.in_ok-base.ensures in
    let said = met c.in_ok-command.command (texts c.args.words.now) c.in-Ok.matches is c.in-Ok.ensures.ok.2 c.in-Some.name.now c.in-Some.found.now
    (sym c.in-Some.ensures.name) (sym c.in-Some.ensures.rows) in
    version_unasked (texts c.args.words.now) c.version_asked.result
    (fails_by_commands c.in_ok-command.command _ (Ok c.in-Ok.matches) is c.in-Ok.ensures.kinds)
    (said.0 ∙ sym c.in_ok-task.ensures ∙ ap (option_map task_facts) c.in-None.is)
    (named_kind (texts c.args.words.now) c.in-Some.name.now _ said.1 (sym c.eq.ensures ∙ c.if-eq.true))
    c.version_asked.ensures

pub returns-clause-refuses : goal.returns-clause-refuses
returns-clause-refuses c =
    let is = c.in_ok-command.ensures ∙ ap with_commands c.in_ok-base.ensures in
    let said = met c.in_ok-command.command (texts c.args.words.now) c.in-Ok.matches is c.in-Ok.ensures.ok.2 c.in-Some.name.now c.in-Some.found.now
    (sym c.in-Some.ensures.name) (sym c.in-Some.ensures.rows) in inr (
      fails_by_commands c.in_ok-command.command _ (Ok c.in-Ok.matches) is c.in-Ok.ensures.kinds,
      said.0 ∙ sym c.in_ok-task.ensures ∙ ap (option_map task_facts) c.in-None.is,
      c.in_ok-error-in-None-2.ensures.kind ∙ sym (named_kind (texts c.args.words.now) c.in-Some.name.now _ said.1 (sym c.eq.ensures ∙ c.if-eq.false)),
    )
