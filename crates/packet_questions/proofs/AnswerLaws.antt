-- The report on packets that are asked about.
use Rattle.std.proofs.Common.{◌≡◌, ◌∙◌, ◌++◌, ℕ, Bool, false, true, List, [], Some, ap, ap₂, length, map, subst, sym}
use Rattle.std.specs.Io.KnownBytes.{Appends}
use Rattle.packet_view.specs.Captures.{PacketFacts}
use Rattle.acl_policy.specs.Policies.{IsPolicyText, PolicyFacts, policy_facts}
use Rattle.session_state.specs.declared.shown_verdicts.Shown.{Shown}
use Rattle.session_state.specs.declared.shown_verdicts.Shown.TheVariants.{Every}
use Rattle.session_state.specs.declared.verdict.Verdict.{Verdict}
use Rattle.racl_io.specs.declared.totals_and_truncation.Captured.{Captured}
use Rattle.racl_io.specs.declared.totals_and_truncation.Totals.{Totals}
use Rattle.racl_io.specs.Reports.{totals_of}
use Rattle.racl_io.specs.Tellings.{Wording, end_in, lines_in, lines_naming, name_where, no_name, report_in, told_alone}
use Rattle.racl_io.specs.ShownReports.{report_shown}
use Rattle.racl_io.proofs.TellingLemmas.{alone_named, end_is_alone, report_alone, report_named}
use Rattle.racl_views.specs.RuleTexts.{shown_of}
use Rattle.racl_views.specs.declared.writing_explained_lines.ExplainedLines.{ExplainedLines}
use Rattle.racl_views.specs.inner.PartWordings.{explained_wording}
use Rattle.racl_views.specs.inner.Tellings.{IsTableOf}
use Rattle.racl_views.proofs.PartLemmas.{explained_tells}
use Rattle.packet_questions.specs.Answers.{AreAnswers, answered_of, told_facts}

-- what was told of packets, and behind them, is the report
pub told_held : (wording at : Wording) (packets : List PacketFacts) (verdicts : List Verdict) (captures : List Captured) (begun mid text : List ℕ) (totals : Totals) → begun ≡ [] → at ≡ wording
    → length verdicts ≡ length packets → captures ≡ answered_of verdicts → totals ≡ totals_of verdicts captures
    → Appends (Some begun) (Some mid) (lines_in wording 1 packets verdicts) → Appends (Some mid) (Some text) (end_in at captures totals)
    → text ≡ report_in wording packets verdicts (answered_of verdicts)
told_held wording at packets verdicts captures begun mid text totals none same each are counted wrote more =
    let n = length packets in
    let alone = told_alone n false in
    let one : captures ≡ alone = are ∙ ap (λ m. told_alone m false) each in
    let lines = lines_in wording 1 packets verdicts in
    let end : end_in at captures totals ≡ end_in wording alone (totals_of verdicts alone) =
    ap (λ (w : Wording). end_in w captures totals) same ∙ ap (λ (t : Totals). end_in wording captures t) counted
    ∙ ap (λ (cs : List Captured). end_in wording cs (totals_of verdicts cs)) one in
    more ∙ ap (λ (m : List ℕ). m ++ end_in at captures totals) (wrote ∙ ap (λ (b : List ℕ). b ++ lines) none)
    ∙ ap (λ (e : List ℕ). lines ++ e) (end ∙ sym (end_is_alone wording verdicts n false each))
    ∙ sym (report_alone wording packets verdicts false each)
    ∙ ap (λ m. report_in wording packets verdicts (told_alone m false)) (sym each)

-- in plain lines it is the report's
pub plain_answers : (packets : List PacketFacts) (verdicts : List Verdict) → length verdicts ≡ length packets → (told : List ℕ) (shown : Shown) (names : Bool) → shown ≡ Every → names ≡ false
    → told ≡ report_in (lines_naming (name_where names) shown) packets verdicts (answered_of verdicts) → told ≡ report_shown Every verdicts (answered_of verdicts)
plain_answers packets verdicts each told shown names is none same =
    same ∙ ap₂ (λ (s : Shown) (n : Bool). report_in (lines_naming (name_where n) s) packets verdicts (answered_of verdicts)) is none
    ∙ report_named no_name Every packets verdicts (answered_of verdicts) each (alone_named packets (length verdicts) false)

module _ (policy : PolicyFacts) (text : List ℕ) (packets : List PacketFacts) (verdicts : List Verdict) (each : length verdicts ≡ length packets) where
  -- in explained ones
  pub explained_answers : (told : List ℕ) (lines : ExplainedLines) → IsPolicyText text policy → lines.shown ≡ Every → policy_facts lines.policy.now ≡ policy → IsTableOf text lines.table
      → lines.names ≡ false
      → told ≡ report_in (explained_wording lines.shown lines.names (policy_facts lines.policy.now) lines.table.rules.items (map shown_of lines.table.texts.items)) packets verdicts (answered_of verdicts)
      → AreAnswers true (told_facts policy text packets verdicts) told
  explained_answers told lines says shown of table named same =
      let rules = lines.table.rules.items in
      let P : Wording → Type 0 = λ w. AreAnswers true (told_facts policy text packets verdicts) (report_in w packets verdicts (answered_of verdicts)) in
      let tells = explained_tells (record { policy = policy; text = text; shown = Every }) rules (table policy says).0 in
      subst (AreAnswers true (told_facts policy text packets verdicts)) (sym same)
      (subst (λ (s : Shown). P (explained_wording s lines.names (policy_facts lines.policy.now) rules (map shown_of lines.table.texts.items))) (sym shown)
      (subst (λ (n : Bool). P (explained_wording Every n (policy_facts lines.policy.now) rules (map shown_of lines.table.texts.items))) (sym named)
      (subst (λ (p : PolicyFacts). P (explained_wording Every false p rules (map shown_of lines.table.texts.items))) (sym of)
      (subst (λ (t : List (List ℕ)). P (explained_wording Every false policy rules t)) (sym (table policy says).1)
      (tells.report packets verdicts (answered_of verdicts) each (alone_named packets (length verdicts) false))))))
