use Rattle.std.proofs.Common.{inl, inr, subst, sym}
use Rattle.std.specs.Prelude.{Err, Ok}
use Rattle.clap.specs.declared.parser.matches.ArgMatches.{ArgMatches}
use Rattle.racl_options.specs.Asking.{AskBy, asked_facts}
use Rattle.racl_options.specs.Options.{asked_as}
use Rattle.racl_options.specs.inner.Naming.{IsRefused}
use Rattle.racl_options.proofs.CommandLemmas.{fails_by_fault, numbers_held, one_run, only_memory, same_values}
use Rattle.racl_options.proofs.SettingLemmas.{written_asks}
use Rattle.racl_options.proofs.command_line.options.Goals as goal

pub asked_by-requires : goal.asked_by-requires
asked_by-requires c = numbers_held c.in_ok-command.command c.in-Ok.matches c.in_ok-command.ensures (record {
  built = c.try_get_matches_from_mut.new.self;
  from = c.in-Ok.ensures.ok.0;
  parsed = c.in-Ok.ensures.ok.1;
})

pub returns-in-Ok-asked_by-clause-ok : goal.returns-in-Ok-asked_by-clause-ok
returns-in-Ok-asked_by-clause-ok c = record {
  faultless = fails_by_fault c.in_ok-command.command _ (Ok c.in-Ok.matches) c.in_ok-command.ensures c.in-Ok.ensures.kinds;
  asks = subst (λ values. AskBy values (asked_facts c.in-Ok-asked_by.asked))
      (same_values c.in_ok-command.command _ c.in-Ok.matches c.in_ok-command.ensures c.in-Ok.ensures.ok.2) c.in-Ok-asked_by.ensures;
}

pub returns-in-Ok-asked_by-clause-accepts : goal.returns-in-Ok-asked_by-clause-accepts
returns-in-Ok-asked_by-clause-accepts c asked asks = one_run _ _ asked (returns-in-Ok-asked_by-clause-ok c) asks

pub returns-in-Ok-asked_by-clause-written : goal.returns-in-Ok-asked_by-clause-written
returns-in-Ok-asked_by-clause-written c program settings uses names origin are named says is =
    returns-in-Ok-asked_by-clause-accepts c (asked_as settings origin) (written_asks _ program settings uses names origin are named says is)

pub returns-clause-refuses : goal.returns-clause-refuses
returns-clause-refuses c = inr (
  c.in_ok-error-in-Err-Mistake.ensures.kind,
  record {
    faultless = fails_by_fault c.in_ok-command.command _ (Ok c.in-Ok.matches) c.in_ok-command.ensures c.in-Ok.ensures.kinds;
    nothing = λ asked asks. subst (IsRefused _) c.in-Err-Mistake.field-0-is c.in-Err-Mistake.ensures asked (subst (λ values. AskBy values asked)
        (sym (same_values c.in_ok-command.command _ c.in-Ok.matches c.in_ok-command.ensures c.in-Ok.ensures.ok.2)) asks);
  },
)

pub returns-clause-accepts : goal.returns-clause-accepts
returns-clause-accepts c asked asks = absurd (subst (IsRefused _) c.in-Err-Mistake.field-0-is c.in-Err-Mistake.ensures asked (subst (λ values. AskBy values asked)
    (sym (same_values c.in_ok-command.command _ c.in-Ok.matches c.in_ok-command.ensures c.in-Ok.ensures.ok.2)) asks.asks))

pub returns-clause-written : goal.returns-clause-written
returns-clause-written c program settings uses names origin are named says is =
    returns-clause-accepts c (asked_as settings origin) (written_asks _ program settings uses names origin are named says is)

pub returns-in-Err-clause-refuses : goal.returns-in-Err-clause-refuses
returns-in-Err-clause-refuses c = inl (c.with_whole_help.ensures _ (fails_by_fault {T = ArgMatches} c.in_ok-command.command _ (Err c.in-Err.error) c.in_ok-command.ensures c.in-Err.ensures.kinds))

pub returns-in-Err-clause-accepts : goal.returns-in-Err-clause-accepts
returns-in-Err-clause-accepts c asked asks = only_memory _ c.with_whole_help.result asks.faultless
    (c.with_whole_help.ensures _ (fails_by_fault {T = ArgMatches} c.in_ok-command.command _ (Err c.in-Err.error) c.in_ok-command.ensures c.in-Err.ensures.kinds))

pub returns-in-Err-clause-written : goal.returns-in-Err-clause-written
returns-in-Err-clause-written c program settings uses names origin are named says is =
    returns-in-Err-clause-accepts c (asked_as settings origin) (written_asks _ program settings uses names origin are named says is)
