-- A report that is held until all of an input was judged: what its telling says of the input.
use Rattle.std.proofs.Common.{◌≡◌, ◌∙◌, ◌≤◌, ◌⊎◌, ℕ, List, [], None, Option, Some, Err, ap, ap₂, arith, drop, inl, inr, length, refl, subst, sym}
use Rattle.packet_view.specs.Captures.{packets_at}
use Rattle.packet_view.specs.declared.capture.Order.{Order}
use Rattle.acl_policy.specs.Policies.{PolicyFacts, policy_facts}
use Rattle.session_state.specs.declared.verdict.Verdict.{Verdict}
use Rattle.racl_io.specs.declared.fault.Fault.{Fault}
use Rattle.racl_io.specs.declared.fault.Fault.TheVariants as fault
use Rattle.racl_io.specs.declared.totals_and_truncation.Totals.{Totals}
use Rattle.racl_io.specs.Inputs.{most_bytes}
use Rattle.racl_io.specs.Tellings.{Wording, report_in, told_alone}
use Rattle.racl_io.proofs.TellingLemmas.{alone_named}
use Rattle.racl_options.specs.declared.settings.Options.{Options}
use Rattle.capture_stream.specs.Savings.{Outputs, manner_of}
use Rattle.capture_shards.specs.inner.OwnTests.{own_among}
use Rattle.filter_run.specs.Starts.{Start}
use Rattle.racl_io.specs.Reports.{totals_of}
use Rattle.racl_report.specs.RunReports.{IsReportOn, Outcome}
use Rattle.racl_runs.specs.LiveRuns.{TellsAsAsked}
use Rattle.racl_runs.specs.Reads.{AnswersRead, HasHeaded, HoldsReport}
use Rattle.racl_runs.specs.ShardRuns.{IsOwnFault, no_note}
use Rattle.racl_runs.specs.declared.input_front.Headed.{Headed}
use Rattle.racl_runs.specs.inner.HeldTexts.{without_device}
use Rattle.racl_runs.specs.inner.OwnRuns.{HasCutOwn, HasToldOwn}
use Rattle.filter_run.proofs.OwnTellLemmas.{all_own}
use Rattle.racl_runs.proofs.AtHandLemmas.{held_text}
use Rattle.racl_runs.proofs.LiveLemmas.{all_counted, all_text, all_told}
use Rattle.racl_runs.proofs.OpenedLemmas.{headed_report, large_answers, long_answers, start_of}
use Rattle.racl_runs.proofs.OutcomeLemmas.{reported}

-- a start with the bytes of the input behind a header is where its records begin
pub start_with : (order : Order) (behind front : List ℕ) (headed : Headed) → behind ≡ drop headed.from front → order ≡ headed.order
    → record { order = order; front = behind; input = Some headed.from } ≡ start_of front headed
start_with order behind front headed same one =
    ap₂ (λ (o : Order) (b : List ℕ). let start : Start = record { order = o; front = b; input = Some headed.from } in start) one same

module _ {K : Type 0} (options : Options) (bytes : List ℕ) (headed : Headed) (has : HasHeaded options bytes headed) (fits : length bytes ≤ most_bytes) (wording : Wording)
    (Saved : K → Order → List ℕ → List Verdict → K → Type 0) (before after : Option (List ℕ)) (old new : Outputs K) where
  abbrev policy : PolicyFacts
  policy = policy_facts headed.filter.policy

  abbrev start : Start
  start = start_of bytes headed

  -- all was told
  pub headed_told : (totals : Totals) (text : List ℕ) → TellsAsAsked options has.parts.policy policy wording → old.report ≡ Some [] → new.report ≡ Some text
      → HasToldOwn options has.parts.policy no_note (manner_of wording Saved) policy (own_among None) start before after old new totals → HoldsReport options bytes before text totals
  headed_told totals text tells none some told =
      let is = told.is in
      let packets = packets_at 0 is.packets in
      let truncated = is.truncated in
      let verdicts = is.is.verdicts in
      let behind = all_told options has.parts.policy policy wording packets truncated totals told.report is.is in
      let captures = told_alone (length packets) truncated in
      let each = is.count ∙ ap length (all_own packets) in
      let lines = report_in wording packets verdicts captures in
      let made = reported options has.parts.policy policy packets verdicts captures lines is.is.behind behind
      (tells.report packets verdicts captures each (alone_named packets (length packets) truncated)) in
      let spelt = all_text options has.parts.policy policy wording packets truncated totals told.report is.is each in
      let written = held_text old.report new.report text told.report none some told.written in
      headed_report options bytes headed has before after made.0 text totals fits (record {
        read = is.read;
        consumed = is.consumed;
        ended = is.ended;
        few = is.few;
        packets = is.packets;
        rest = is.rest;
        records = is.records;
        truncated = truncated;
        end = is.end;
        reached = made.1;
      })
      (subst (IsReportOn options has.parts.policy policy packets made.0) (sym (written ∙ spelt)) made.2)
      (all_counted options has.parts.policy policy wording packets truncated totals told.report is.is ∙ ap (λ (o : Outcome). totals_of o.verdicts o.captures) (sym made.3))

  -- or why it wasn't
  own_fault : (T : Type 0) (found : Fault) → IsOwnFault T options (manner_of wording Saved) policy (own_among None) start before after old new found
      → AnswersRead options bytes before (Err (without_device found))
  own_fault T fault.Memory why = inl (fault.Memory, refl, inl refl)
  own_fault T fault.Read why = inl (fault.Read, refl, inr (inl refl))
  own_fault T (fault.LongRecord number) (rest, told, long, counted, out) =
      long_answers options bytes headed has before after told.by.read rest told.by.packets number fits told.by.consumed out.0 (let few = out.1 in omega arith) told.by.records long counted
  own_fault T fault.TooLarge (rest, told, many) = large_answers options bytes headed has before after told.by.read fits told.by.consumed many
  own_fault T fault.Write why = inl (fault.Memory, refl, inl refl)
  own_fault T found why = absurd why

  pub headed_fault : (T : Type 0) (text : List ℕ) (found : Fault)
      → IsOwnFault T options (manner_of wording Saved) policy (own_among None) start before after old new found
      ⊎ HasCutOwn options text no_note wording policy (own_among None) start before after old.report new.report found
      → AnswersRead options bytes before (Err (without_device found))
  unfolding own_fault
  headed_fault T text found (inl why) = own_fault T found why
  headed_fault T text found (inr cut) =
      subst (λ (f : Fault). AnswersRead options bytes before (Err (without_device f))) (sym cut.failed) (inl (fault.Memory, refl, inl refl))

  -- ---- The same by a text, rules and a start that are those of the input

  moved : (P : List ℕ → PolicyFacts → Start → Type 0) (text : List ℕ) (says : PolicyFacts) (begins : Start) → text ≡ has.parts.policy → says ≡ policy → begins ≡ start
      → P text says begins → P has.parts.policy policy start
  moved P text says begins one two three is =
      subst (P has.parts.policy policy) three (subst (λ (p : PolicyFacts). P has.parts.policy p begins) two (subst (λ (t : List ℕ). P t says begins) one is))

  pub headed_told_as : (totals : Totals) (held text : List ℕ) (says : PolicyFacts) (begins : Start) → text ≡ has.parts.policy → says ≡ policy → begins ≡ start
      → TellsAsAsked options text says wording → old.report ≡ Some [] → new.report ≡ Some held
      → HasToldOwn options text no_note (manner_of wording Saved) says (own_among None) begins before after old new totals → HoldsReport options bytes before held totals
  unfolding headed_told moved
  headed_told_as totals held text says begins one two three tells none some told =
      headed_told totals held (moved (λ (t : List ℕ) (p : PolicyFacts) (s : Start). TellsAsAsked options t p wording) text says begins one two three tells) none some
      (moved (λ (t : List ℕ) (p : PolicyFacts) (s : Start). HasToldOwn options t no_note (manner_of wording Saved) p (own_among None) s before after old new totals) text says begins
      one two three told)

  pub headed_fault_as : (T : Type 0) (found : Fault) (text : List ℕ) (says : PolicyFacts) (begins : Start) → text ≡ has.parts.policy → says ≡ policy → begins ≡ start
      → IsOwnFault T options (manner_of wording Saved) says (own_among None) begins before after old new found
      ⊎ HasCutOwn options text no_note wording says (own_among None) begins before after old.report new.report found
      → AnswersRead options bytes before (Err (without_device found))
  unfolding headed_fault moved
  headed_fault_as T found text says begins one two three why =
      headed_fault T has.parts.policy found
      (moved (λ (t : List ℕ) (p : PolicyFacts) (s : Start). IsOwnFault T options (manner_of wording Saved) p (own_among None) s before after old new found
      ⊎ HasCutOwn options t no_note wording p (own_among None) s before after old.report new.report found) text says begins one two three why)
