-- The command while it is made, and what its words are called.
use Rattle.std.specs.Prelude.{true, codes}
use Rattle.clap.specs.Simple.{on_top}
use Rattle.clap.specs.Words.{App, Rule, Text, new_app, with_rule, with_subcommand}
use Rattle.clap.specs.declared.builder.action.ArgAction.TheVariants.{Append, Set}
use Rattle.racl_options.specs.CommandLine.{Workers, Established, Transient, Udp, flag_rule, long_rule, number_rule}
use Rattle.racl_options.specs.Tasks.{ask, check, compare, diff, expand}
use Rattle.racl_options.specs.Selections.{Summary, Hits, Sessions, Explain, JsonLines, Live, Age}

-- ---- words

abbrev pub tables_id : Text
tables_id = codes "tables"

abbrev pub interface_id : Text
interface_id = codes "interface"

abbrev pub only_id : Text
only_id = codes "only"

abbrev pub drops_id : Text
drops_id = codes "drops"

abbrev pub passes_id : Text
passes_id = codes "passes"

abbrev pub expect_id : Text
expect_id = codes "expect"

abbrev pub shard_id : Text
shard_id = codes "shard"

abbrev pub policy_id : Text
policy_id = codes "POLICY"

abbrev pub capture_id : Text
capture_id = codes "CAPTURE"

-- ---- rules

abbrev pub value_rule : Text → Rule
value_rule id = long_rule id Set 1

abbrev pub interface_rule : Rule
interface_rule = long_rule interface_id Append 1

-- ---- the command

abbrev pub without_options : App
without_options = on_top (λ s. record s { has_version = true }) (new_app (codes "racl"))

abbrev pub with_options : App
with_options = with_rule (with_rule (with_rule (with_rule without_options (number_rule Workers))
    (number_rule Established)) (number_rule Transient)) (number_rule Udp)

abbrev pub with_selections : App
with_selections = with_rule (with_rule (with_rule with_options (value_rule tables_id)) interface_rule) (value_rule only_id)

abbrev pub with_values : App
with_values = with_rule (with_rule (with_rule (with_rule with_selections (value_rule drops_id)) (value_rule passes_id)) (value_rule expect_id)) (value_rule shard_id)

abbrev pub with_reports : App
with_reports = with_rule (with_rule (with_rule with_values (flag_rule Summary)) (flag_rule Hits)) (flag_rule Sessions)

abbrev pub with_lines : App
with_lines = with_rule (with_rule with_reports (flag_rule Explain)) (flag_rule JsonLines)

abbrev pub with_flags : App
with_flags = with_rule (with_rule with_lines (flag_rule Live)) (flag_rule Age)

-- ---- its subcommands

abbrev pub with_checks : App → App
with_checks base = with_subcommand (with_subcommand base check.top) expand.top

abbrev pub with_questions : App → App
with_questions base = with_subcommand (with_subcommand (with_subcommand base ask.top) diff.top) compare.top
