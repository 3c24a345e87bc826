-- How packets are told in the form that is asked for.
use Rattle.std.proofs.Common.{◌≡◌, ℕ, Bool, List, [], length, refl, subst, sym, false, true, map}
use Rattle.packet_view.specs.Captures.{PacketFacts}
use Rattle.acl_policy.specs.Policies.{IsPolicyText, PolicyFacts, policy_facts}
use Rattle.session_state.specs.declared.shown_verdicts.Shown.{Shown}
use Rattle.session_state.specs.declared.verdict.Verdict.{Verdict}
use Rattle.racl_options.specs.declared.settings.Lines.{Lines}
use Rattle.racl_options.specs.declared.settings.Lines.TheVariants.{Explained, Json, Plain}
use Rattle.racl_options.specs.declared.settings.Options.{Options}
use Rattle.racl_io.specs.Tellings.{Wording, lines_in, lines_naming, name_where, no_name, own_name}
use Rattle.racl_io.proofs.TellingLemmas.{plain_lines, report_named}
use Rattle.racl_views.specs.PartTellings.{TellsRun, ToldBy, run_by}
use Rattle.racl_views.specs.RuleLines.{AreRules}
use Rattle.racl_views.specs.RuleTexts.{rule_texts, shown_of}
use Rattle.racl_views.specs.declared.json_report.ObjectLines.{ObjectLines}
use Rattle.racl_views.specs.declared.rule_numbering.RuleLine.{RuleLine}
use Rattle.racl_views.specs.declared.writing_explained_lines.ExplainedLines.{ExplainedLines}
use Rattle.racl_views.specs.inner.PartWordings.{explained_wording, objects_wording}
use Rattle.racl_views.specs.inner.Tellings.{IsTableOf}
use Rattle.racl_views.proofs.PartLemmas.{explained_names_tell, explained_tells, objects_tell}
use Rattle.racl_report.specs.RunReports.{AreLines}
use Rattle.racl_runs.specs.LiveRuns.{AreLinesBy, TellsBy}
use Rattle.racl_runs.specs.declared.asked_lines.AskedLines.TheVariants as asked
use Rattle.racl_runs.specs.inner.AskedWordings.{asked_wording}

module _ (options : Options) (text : List ℕ) (policy : PolicyFacts) where
  abbrev by : ToldBy
  by = record { policy = policy; text = text; shown = options.shown }

  abbrev Tells : Bool → Lines → Wording → Type 0
  Tells names form wording = TellsRun (name_where names) (AreLinesBy names form) (AreLines form) by wording

  -- in this form
  in_form : (names : Bool) (form : Lines) (wording : Wording) → options.lines ≡ form → Tells names form wording → TellsBy names options text policy wording
  in_form names form wording is tells = subst (λ (l : Lines). Tells names l wording) (sym is) tells

  -- in the report's lines
  plain_first : (names : Bool) (packets : List PacketFacts) (verdicts : List Verdict) → length verdicts ≡ length packets
      → AreLinesBy names Plain (run_by by packets verdicts []) (lines_in (lines_naming (name_where names) options.shown) 1 packets verdicts)
  plain_first false packets verdicts each = plain_lines options.shown 1 packets verdicts each
  plain_first true packets verdicts each = refl

  pub plain_as_asked : (names : Bool) (shown : Shown) (named : Bool) → options.lines ≡ Plain → shown ≡ options.shown → named ≡ names
      → TellsBy names options text policy (lines_naming (name_where named) shown)
  plain_as_asked names shown named form same naming =
      let tells : Tells names Plain (lines_naming (name_where names) options.shown) = record {
        lines = plain_first names;
        report = λ packets verdicts captures each called. report_named (name_where names) options.shown packets verdicts captures each called;
      } in
      subst (λ (s : Shown). TellsBy names options text policy (lines_naming (name_where named) s)) (sym same)
      (subst (λ (n : Bool). TellsBy names options text policy (lines_naming (name_where n) options.shown)) (sym naming) (in_form names Plain _ form tells))

  -- in explained lines
  explained_by : (names : Bool) (rules : List RuleLine) → AreRules text rules → Tells names Explained (explained_wording options.shown names policy rules (rule_texts text))
  explained_by false rules are = explained_tells by rules are
  explained_by true rules are = explained_names_tell by rules are

  pub explained_as_asked : (names : Bool) (lines : ExplainedLines) → options.lines ≡ Explained → IsPolicyText text policy → lines.shown ≡ options.shown
      → policy_facts lines.policy.now ≡ policy → IsTableOf text lines.table → lines.names ≡ names → TellsBy names options text policy (asked_wording (asked.Explained lines))
  explained_as_asked names lines form says shown same table named =
      let rules = lines.table.rules.items in
      let P : Wording → Type 0 = TellsBy names options text policy in
      subst (λ (s : Shown). P (explained_wording s lines.names (policy_facts lines.policy.now) rules (map shown_of lines.table.texts.items))) (sym shown)
      (subst (λ (n : Bool). P (explained_wording options.shown n (policy_facts lines.policy.now) rules (map shown_of lines.table.texts.items))) (sym named)
      (subst (λ (p : PolicyFacts). P (explained_wording options.shown names p rules (map shown_of lines.table.texts.items))) (sym same)
      (subst (λ (t : List (List ℕ)). P (explained_wording options.shown names policy rules t)) (sym (table policy says).1)
      (in_form names Explained _ form (explained_by names rules (table policy says).0)))))

  -- and in objects
  objects_by : (names : Bool) (rules : List RuleLine) → AreRules text rules → Tells names Json (objects_wording options.shown policy rules (rule_texts text))
  objects_by false rules are = objects_tell by rules are no_name
  objects_by true rules are = objects_tell by rules are own_name

  pub objects_as_asked : (names : Bool) (lines : ObjectLines) → options.lines ≡ Json → IsPolicyText text policy → lines.shown ≡ options.shown → policy_facts lines.policy.now ≡ policy
      → IsTableOf text lines.table → TellsBy names options text policy (asked_wording (asked.Objects lines))
  objects_as_asked names lines form says shown same table =
      let rules = lines.table.rules.items in
      let P : Wording → Type 0 = TellsBy names options text policy in
      subst (λ (s : Shown). P (objects_wording s (policy_facts lines.policy.now) rules (map shown_of lines.table.texts.items))) (sym shown)
      (subst (λ (p : PolicyFacts). P (objects_wording options.shown p rules (map shown_of lines.table.texts.items))) (sym same)
      (subst (λ (t : List (List ℕ)). P (objects_wording options.shown policy rules t)) (sym (table policy says).1)
      (in_form names Json _ form (objects_by names rules (table policy says).0))))
