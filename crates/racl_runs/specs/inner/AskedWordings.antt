-- In which words the lines of one of the forms tell packets.
use Rattle.std.specs.Prelude.{map}
use Rattle.acl_policy.specs.Policies.{policy_facts}
use Rattle.racl_io.specs.Tellings.{Wording, lines_naming, name_where}
use Rattle.racl_views.specs.RuleTexts.{shown_of}
use Rattle.racl_views.specs.inner.PartWordings.{explained_wording, objects_wording}
use Rattle.racl_runs.specs.declared.asked_lines.AskedLines.{AskedLines}
use Rattle.racl_runs.specs.declared.asked_lines.AskedLines.TheVariants.{Plain, Explained, Objects}

abbrev pub asked_wording : AskedLines → Wording
asked_wording (Plain lines) = lines_naming (name_where lines.names) lines.shown
asked_wording (Explained lines) =
    explained_wording lines.shown lines.names (policy_facts lines.policy.now) lines.table.rules.items (map shown_of lines.table.texts.items)
asked_wording (Objects lines) = objects_wording lines.shown (policy_facts lines.policy.now) lines.table.rules.items (map shown_of lines.table.texts.items)
