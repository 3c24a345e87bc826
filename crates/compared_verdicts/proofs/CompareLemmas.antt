-- A capture whose packets are compared while they come: what the relation of its run says of what was read and written.
use Rattle.std.proofs.Common.{◌≡◌, ◌≢◌, ◌∙◌, ◌+◌, ◌++◌, ◌⊎◌, ℕ, Bool, List, [], ◌∷◌, Option, ap, ap₂, arith, inl, inr, length, refl, subst, sym}
use Rattle.std.proofs.lemmas.List.{length-map, map-append, same_from_push}
use Rattle.std.proofs.KnownBytes.{Appends-nil, Appends-trans, Consumes-nil}
use Rattle.std.specs.Io.KnownBytes.{Appends}
use Rattle.std.specs.Prelude.{MatchResult, Result}
use Rattle.packet_view.specs.Captures.{PacketFacts, packet_at, packets_at}
use Rattle.packet_view.specs.declared.capture.Order.{Order}
use Rattle.session_state.specs.declared.verdict.Verdict.{Verdict}
use Rattle.racl_io.specs.Reports.{is_truncated}
use Rattle.racl_io.specs.Sinks.{GotFront}
use Rattle.racl_io.specs.Tellings.{IsTellingFault}
use Rattle.racl_io.specs.declared.fault.Fault.{Fault}
use Rattle.racl_io.specs.declared.fault.Fault.TheVariants as fault
use Rattle.racl_io.specs.declared.totals_and_truncation.Captured.{Captured}
use Rattle.racl_io.proofs.TellingLemmas.{alone_truncated, front_on}
use Rattle.capture_stream.specs.Parting.{rest_in}
use Rattle.capture_stream.specs.Lives.{with_read}
use Rattle.capture_stream.specs.declared.arrivals.FaultAt.{FaultAt}
use Rattle.filter_run.specs.Batches.{AreEach, JudgedBatch, batches_of, packets_in, packets_of, said_of}
use Rattle.filter_run.specs.Both.{firsts, seconds}
use Rattle.filter_run.specs.OneCapture.{AreNumbered, HasGivenSome, IsWhy, records_of, start_of}
use Rattle.filter_run.specs.Ran.{HasCutRun, HasStopped, IsRunFault, Ran, Words}
use Rattle.filter_run.specs.Starts.{Start, behind_header}
use Rattle.filter_run.specs.declared.both.Both.{Both}
use Rattle.filter_run.specs.declared.one_capture.OneCapture.{OneCapture}
use Rattle.filter_run.specs.declared.one_filter.OneFilter.{OneFilter}
use Rattle.filter_run.proofs.OneLemmas.{StopsBehind, count_one, each_front, one_earlier, one_read, one_stopped, one_words, packets_one}
use Rattle.compared_verdicts.specs.Changes.{ChangeFacts, PairFacts, changes_from, pair_facts}
use Rattle.compared_verdicts.specs.ChangeReports.{end_of_report, totals_of}
use Rattle.compared_verdicts.specs.Comparing.{HasToldAll, HasToldPart, HasToldSome, HaveCompared, IsComparingFault, changes_in}
use Rattle.compared_verdicts.specs.declared.change_totals.ChangeTotals.{ChangeTotals}
use Rattle.compared_verdicts.specs.declared.changes_told.ChangeLines.{ChangeLines}
use Rattle.compared_verdicts.specs.inner.ChangeLines.{lines_by}
use Rattle.compared_verdicts.specs.inner.ChangesTold.{HasCutChanges, HasToldChanges, changes_of, text_of}
use Rattle.compared_verdicts.specs.inner.ComparedRuns.{HaveSaid}
use Rattle.compared_verdicts.proofs.ChangeLemmas.{are_by, changes_of_both}
use Rattle.compared_verdicts.proofs.ChangesToldLemmas.{text_both}

-- what is changed of numbered batches is what is changed of their packets
changes_one : (policies : PairFacts) (n : ℕ) (order : Order) (judged : List (JudgedBatch (Verdict × Verdict))) → AreNumbered n order (batches_of judged) → AreEach judged
    → changes_of policies judged ≡ changes_from policies (n + 1) (firsts (said_of judged)) (seconds (said_of judged)) (packets_of judged)
changes_one policies n order [] are each = refl
changes_one policies n order (one ∷ others) (behind, same, at, plain, are) (here, each) =
    let said = one.said in
    let more = said_of others in
    let next = n + length one.batch.records in
    let count = length-map one.batch.records (packet_at one.batch.interface) in
    let first = length-map said (λ (pair : Verdict × Verdict). pair.0) in
    let second = length-map said (λ (pair : Verdict × Verdict). pair.1) in
    let parts = changes_of_both policies (n + 1) (next + 1) (firsts said) (firsts more) (seconds said) (seconds more) (packets_in one.batch) (packets_of others)
    (omega (arith, here)) (omega (arith, here)) (omega arith) in
    ap₂ (λ k cs. changes_from policies (k + 1) (firsts said) (seconds said) (packets_in one.batch) ++ cs) behind (changes_one policies next order others are each)
    ∙ sym parts
    ∙ ap₂ (λ vs ws. changes_from policies (n + 1) vs ws (packets_in one.batch ++ packets_of others))
    (sym (map-append (λ (pair : Verdict × Verdict). pair.0) said more)) (sym (map-append (λ (pair : Verdict × Verdict). pair.1) said more))

module _ {J K R W : Type 0} (Became : J → List PacketFacts → List Verdict → J → Type 0) (Judged : J → List PacketFacts → List Verdict → Type 0)
    (Also : K → List PacketFacts → List Verdict → K → Type 0) (AlsoJudged : K → List PacketFacts → List Verdict → Type 0) where
  module _ (bytes : R → Option (List ℕ)) (failures : R → ℕ) (written : W → Option (List ℕ)) (writing : W → ℕ) (source then : OneCapture R)
      (judges : Both (OneFilter J) (OneFilter K)) (old new : ChangeLines W) where
    -- what its run is said by
    abbrev pub compared_words : Words (OneCapture R) (Both (OneFilter J) (OneFilter K)) (ChangeLines W) (Verdict × Verdict)
    compared_words = one_words bytes failures (HaveSaid Became Judged Also AlsoJudged) (HasToldChanges written writing) (HasCutChanges written writing) source then judges old new

    abbrev facts : PairFacts
    facts = pair_facts old.policies

    abbrev One : List PacketFacts → List Verdict → Type 0
    One = Judged judges.first.inner

    abbrev Other : List PacketFacts → List Verdict → Type 0
    Other = AlsoJudged judges.second.inner

    abbrev Compared : List ℕ → Type 0
    Compared rest = HaveCompared One Other source.parting.order (bytes source.reader.now) (bytes then.reader.now) rest

    abbrev Fails : Option (List ℕ) → Fault → Type 0
    Fails last found = IsComparingFault facts One Other source.parting.order (bytes source.reader.now) (bytes then.reader.now) (written old.writer.now) last found

    -- ---- What was compared

    module _ (judged : List (JudgedBatch (Verdict × Verdict))) (each : AreEach judged) (numbered : AreNumbered 0 source.parting.order (batches_of judged))
        (at : Both (OneFilter J) (OneFilter K)) (said : HaveSaid Became Judged Also AlsoJudged judges (packets_of judged) (said_of judged) at) (rest : List ℕ)
        (given : HasGivenSome (behind_header source.parting.order) (bytes source.reader.now) (bytes then.reader.now) (batches_of judged) rest) where
      compared_so : Compared rest
      compared_so =
          let packets = packets_one 0 source.parting.order judged numbered in
          record {
            read = given.read;
            consumed = given.consumed;
            packets = records_of (batches_of judged);
            records = given.records;
            verdicts = record {
              befores = firsts (said_of judged);
              afters = seconds (said_of judged);
              by_before = subst (λ (ps : List PacketFacts). ps ≢ [] → One ps (firsts (said_of judged))) packets said.0.judged;
              by_after = subst (λ (ps : List PacketFacts). ps ≢ [] → Other ps (seconds (said_of judged))) packets said.1.judged;
              each_before = said.0.each ∙ ap length packets;
              each_after = said.1.each ∙ ap length packets;
            };
          }

      changes_so : changes_of facts judged ≡ changes_in facts compared_so
      unfolding compared_so
      changes_so =
          changes_one facts 0 source.parting.order judged numbered each
          ∙ ap (changes_from facts 1 (firsts (said_of judged)) (seconds (said_of judged))) (packets_one 0 source.parting.order judged numbered)

      told_so : Appends (written old.writer.now) (written new.writer.now) (text_of facts judged)
          → HasToldSome facts One Other source.parting.order (bytes source.reader.now) (bytes then.reader.now) (written old.writer.now) (written new.writer.now) rest
      told_so text = record {
        compared = compared_so;
        lines = lines_by facts.after (changes_in facts compared_so);
        are = are_by facts.after (changes_in facts compared_so);
        text = subst (λ (cs : List ChangeFacts). Appends (written old.writer.now) (written new.writer.now) (lines_by facts.after cs)) changes_so text;
      }

      cut_so : GotFront (written old.writer.now) (written new.writer.now) (text_of facts judged)
          → HasToldPart facts One Other source.parting.order (bytes source.reader.now) (bytes then.reader.now) (written old.writer.now) (written new.writer.now)
      cut_so front = record {
        rest = rest;
        compared = compared_so;
        lines = lines_by facts.after (changes_in facts compared_so);
        are = are_by facts.after (changes_in facts compared_so);
        front = inl (subst (λ (cs : List ChangeFacts). GotFront (written old.writer.now) (written new.writer.now) (lines_by facts.after cs)) changes_so front);
      }

      -- the source failed
      why_so : Appends (written old.writer.now) (written new.writer.now) (text_of facts judged) → (found : Fault)
          → IsWhy (behind_header source.parting.order) given.read (bytes then.reader.now) (batches_of judged) rest found → Fails (written new.writer.now) found
      unfolding compared_so told_so
      why_so text fault.Memory why = (rest, told_so text)
      why_so text fault.Read why = (rest, told_so text, why.0, why.1)
      why_so text fault.TooLarge why = (rest, told_so text, omega (arith, why))
      why_so text (fault.LongRecord number) why = (rest, told_so text, why.0, why.1)
      why_so text found why = absurd why

    -- ---- Why not all was told

    stopped_so : start_of source ≡ behind_header source.parting.order → (found : FaultAt) → HasStopped compared_words source judges old then new found → Fails (written new.writer.now) found.fault
    unfolding why_so
    stopped_so alone found stopped =
        let behind = subst (λ (start : Start). StopsBehind start (bytes source.reader.now) (bytes then.reader.now) (batches_of stopped.judged) found.fault) alone
        (one_stopped bytes failures (HaveSaid Became Judged Also AlsoJudged) (HasToldChanges written writing) (HasCutChanges written writing) source then judges old new found stopped) in
        why_so stopped.judged stopped.each behind.numbered stopped.said.0 stopped.said.1 behind.rest behind.some stopped.told.text found.fault behind.why

    run_cut : start_of source ≡ behind_header source.parting.order → (found : FaultAt) (which : Fault) (ended : HasCutRun compared_words source judges old then new found)
        → HasCutChanges written writing old (ended.earlier ++ ended.last ∷ []) which new → Fails (written new.writer.now) which
    unfolding told_so cut_so
    run_cut alone found fault.Memory ended cut =
        let behind = subst (λ (start : Start). StopsBehind start (bytes source.reader.now) (bytes then.reader.now) (batches_of ended.earlier) fault.Memory) alone
        (one_earlier bytes failures (HaveSaid Became Judged Also AlsoJudged) (HasToldChanges written writing) (HasCutChanges written writing) source then judges old new found ended) in
        let text = subst (λ (js : List (JudgedBatch (Verdict × Verdict))). Appends (written old.writer.now) (written new.writer.now) (text_of facts js))
        (sym (same_from_push ended.earlier cut.earlier ended.last cut.last cut.all).0)
        (subst (λ (b : Option (List ℕ)). Appends (written old.writer.now) b (text_of facts cut.earlier)) (sym cut.front) cut.text) in
        (behind.rest, told_so ended.earlier (each_front ended.earlier (ended.last ∷ []) ended.each) behind.numbered ended.before.0 ended.before.1 behind.rest behind.some text)
    run_cut alone found fault.Write ended cut =
        let some = subst (λ (start : Start). HasGivenSome start (bytes source.reader.now) (bytes then.reader.now) (batches_of (ended.earlier ++ ended.last ∷ [])) (rest_in then.parting)) alone
        ended.gave.some in
        let front = front_on (written old.writer.now) cut.before (written new.writer.now) (text_of facts cut.earlier) (text_of facts (cut.last ∷ [])) cut.text cut.front in
        cut_so (ended.earlier ++ ended.last ∷ []) ended.each ended.gave.numbered ended.said.0 ended.said.1 (rest_in then.parting) some
        (subst (GotFront (written old.writer.now) (written new.writer.now)) (sym (text_both facts cut.earlier cut.last) ∙ ap (text_of facts) (sym cut.all)) front)
    run_cut alone found which ended cut = absurd cut.front

    pub compared_fault : start_of source ≡ behind_header source.parting.order → (found : FaultAt) → IsRunFault compared_words source judges old then new found
        → IsComparingFault (pair_facts old.policies) (Judged judges.first.inner) (AlsoJudged judges.second.inner) source.parting.order (bytes source.reader.now) (bytes then.reader.now)
        (written old.writer.now) (written new.writer.now) found.fault
    unfolding stopped_so run_cut
    compared_fault alone found (inl stopped) = stopped_so alone found stopped
    compared_fault alone found (inr ended) = run_cut alone found found.fault ended ended.cut

    -- ---- How often the reader failed

    cut_why : (was is : Option (List ℕ)) (text : List ℕ) (found : Fault) → IsTellingFault was is text found → (found ≡ fault.Write) ⊎ (found ≡ fault.Memory)
    cut_why was is text fault.Memory front = inr refl
    cut_why was is text fault.Write front = inl refl
    cut_why was is text found front = absurd front

    pub compared_read : (found : FaultAt) → IsRunFault compared_words source judges old then new found
        → failures then.reader.now ≡ with_read (failures source.reader.now) found.fault
    unfolding cut_why
    compared_read found wrong =
        one_read bytes failures (HaveSaid Became Judged Also AlsoJudged) (HasToldChanges written writing) (HasCutChanges written writing) source then judges old new found
        (λ batches cut. cut_why cut.before (written new.writer.now) (text_of facts (cut.last ∷ [])) found.fault cut.front) wrong

    -- ---- All was compared

    module _ (at : Both (OneFilter J) (OneFilter K)) (captures : List Captured) (ran : Ran compared_words source judges old then at new captures) (truncated : Bool)
        (cut : truncated ≡ is_truncated captures) (totals : ChangeTotals) (are : totals ≡ record new.totals { truncated = truncated }) (alone : start_of source ≡ behind_header source.parting.order)
        (last : Option (List ℕ)) where
      some_all : HasGivenSome (behind_header source.parting.order) (bytes source.reader.now) (bytes then.reader.now) (batches_of ran.judged) ran.over.rest
      some_all = subst (λ (start : Start). HasGivenSome start (bytes source.reader.now) (bytes then.reader.now) (batches_of ran.judged) ran.over.rest) alone ran.over.some

      compared_all : Compared ran.over.rest
      compared_all = compared_so ran.judged ran.each ran.over.numbered at ran.became ran.over.rest some_all

      changes_all : changes_of facts ran.judged ≡ changes_in facts compared_all
      unfolding compared_all
      changes_all = changes_so ran.judged ran.each ran.over.numbered at ran.became ran.over.rest some_all

      counted_all : totals ≡ totals_of (changes_in facts compared_all) (length compared_all.packets) ran.over.truncated
      unfolding compared_all compared_so
      counted_all =
          let n = length (records_of (batches_of ran.judged)) in
          are ∙ ap (λ (t : ChangeTotals). record t { truncated = truncated }) ran.told.totals
          ∙ ap₂ (λ (cs : List ChangeFacts) m. totals_of cs m truncated) changes_all (count_one 0 source.parting.order ran.judged ran.over.numbered ran.each)
          ∙ ap (totals_of (changes_in facts compared_all) n) (cut ∙ ap is_truncated ran.over.told ∙ sym (alone_truncated n ran.over.truncated))

      text_all : Appends (written old.writer.now) (written new.writer.now) (lines_by facts.after (changes_in facts compared_all))
      text_all = subst (λ (cs : List ChangeFacts). Appends (written old.writer.now) (written new.writer.now) (lines_by facts.after cs)) changes_all ran.told.text

      -- and all of it was told
      pub compared_told : Appends (written new.writer.now) last (end_of_report totals)
          → HasToldAll (pair_facts old.policies) (Judged judges.first.inner) (AlsoJudged judges.second.inner) source.parting.order (bytes source.reader.now) (bytes then.reader.now)
          (written old.writer.now) last totals
      unfolding counted_all text_all
      compared_told wrote = record {
        rest = ran.over.rest;
        compared = compared_all;
        ended = ran.over.ended;
        truncated = ran.over.truncated;
        end = ran.over.end;
        counted = counted_all;
        lines = lines_by facts.after (changes_in facts compared_all);
        are = are_by facts.after (changes_in facts compared_all);
        text = Appends-trans (written old.writer.now) (written new.writer.now) last (lines_by facts.after (changes_in facts compared_all)) (end_of_report totals) text_all wrote;
      }

      -- or of what stands at the end a front was
      pub compared_cut : (found : Fault) → found ≡ fault.Write → GotFront (written new.writer.now) last (end_of_report totals)
          → IsComparingFault (pair_facts old.policies) (Judged judges.first.inner) (AlsoJudged judges.second.inner) source.parting.order (bytes source.reader.now) (bytes then.reader.now)
          (written old.writer.now) last found
      unfolding counted_all text_all
      compared_cut found which front =
          let lines = lines_by facts.after (changes_in facts compared_all) in
          subst (Fails last) (sym which) (record {
            rest = ran.over.rest;
            compared = compared_all;
            lines = lines;
            are = are_by facts.after (changes_in facts compared_all);
            front = inr (
              ran.over.truncated,
              ran.over.ended,
              ran.over.end,
              subst (λ (t : ChangeTotals). GotFront (written old.writer.now) last (lines ++ end_of_report t)) counted_all
                  (front_on (written old.writer.now) (written new.writer.now) last lines (end_of_report totals) text_all front),
            );
          })

-- ---- The same by what was lent

pub told_as : {R W : Type 0} (bytes : R → Option (List ℕ)) (written : W → Option (List ℕ)) (policies : PairFacts) (One Other : List PacketFacts → List Verdict → Type 0)
    (result : Result ChangeTotals Fault) (order same_order : Order) (before first after last : R) (old new end : W) → order ≡ same_order → before ≡ first → after ≡ last → new ≡ end
    → MatchResult result (HasToldAll policies One Other order (bytes before) (bytes after) (written old) (written new))
    (IsComparingFault policies One Other order (bytes before) (bytes after) (written old) (written new))
    → MatchResult result (HasToldAll policies One Other same_order (bytes first) (bytes last) (written old) (written end))
    (IsComparingFault policies One Other same_order (bytes first) (bytes last) (written old) (written end))
told_as bytes written policies One Other result order same_order before first after last old new end same reads left wrote told = rw (← same, ← reads, ← left, ← wrote) told

-- nothing was read or told
pub none_compared : (policies : PairFacts) (Before After : List PacketFacts → List Verdict → Type 0) (order : Order) (before old : Option (List ℕ))
    → IsComparingFault policies Before After order before before old old fault.Memory
none_compared policies Before After order before old = (
  [],
  record {
    compared = record {
      read = [];
      consumed = Consumes-nil before;
      packets = [];
      records = refl;
      verdicts = record {
        befores = [];
        afters = [];
        by_before = λ some. absurd (some refl);
        by_after = λ some. absurd (some refl);
        each_before = refl;
        each_after = refl;
      };
    };
    lines = [];
    are = refl;
    text = Appends-nil old;
  },
)

-- ---- The same by what else is known of verdicts

module _ (policies : PairFacts) (Before After OtherBefore OtherAfter : List PacketFacts → List Verdict → Type 0)
    (tells : (packets : List PacketFacts) (verdicts : List Verdict) → Before packets verdicts → OtherBefore packets verdicts)
    (also : (packets : List PacketFacts) (verdicts : List Verdict) → After packets verdicts → OtherAfter packets verdicts) (order : Order)
    (before after old new : Option (List ℕ)) where
  compared_as : (rest : List ℕ) → HaveCompared Before After order before after rest → HaveCompared OtherBefore OtherAfter order before after rest
  compared_as rest c = record {
    read = c.read;
    consumed = c.consumed;
    packets = c.packets;
    records = c.records;
    verdicts = record {
      befores = c.verdicts.befores;
      afters = c.verdicts.afters;
      by_before = λ some. tells (packets_at 0 c.packets) c.verdicts.befores (c.verdicts.by_before some);
      by_after = λ some. also (packets_at 0 c.packets) c.verdicts.afters (c.verdicts.by_after some);
      each_before = c.verdicts.each_before;
      each_after = c.verdicts.each_after;
    };
  }

  some_as : (rest : List ℕ) → HasToldSome policies Before After order before after old new rest → HasToldSome policies OtherBefore OtherAfter order before after old new rest
  unfolding compared_as
  some_as rest told = record { compared = compared_as rest told.compared; lines = told.lines; are = told.are; text = told.text }

  pub all_as : (totals : ChangeTotals) → HasToldAll policies Before After order before after old new totals
      → HasToldAll policies OtherBefore OtherAfter order before after old new totals
  unfolding compared_as
  all_as totals told = record {
    rest = told.rest;
    compared = compared_as told.rest told.compared;
    ended = told.ended;
    truncated = told.truncated;
    end = told.end;
    counted = told.counted;
    lines = told.lines;
    are = told.are;
    text = told.text;
  }

  pub fault_as : (found : Fault) → IsComparingFault policies Before After order before after old new found
      → IsComparingFault policies OtherBefore OtherAfter order before after old new found
  unfolding compared_as some_as
  fault_as fault.Memory (rest, told) = (rest, some_as rest told)
  fault_as fault.Read (rest, told, truncated, end) = (rest, some_as rest told, truncated, end)
  fault_as (fault.LongRecord number) (rest, told, long, counted) = (rest, some_as rest told, long, counted)
  fault_as fault.TooLarge (rest, told, many) = (rest, some_as rest told, many)
  fault_as fault.Write told = record {
    rest = told.rest;
    compared = compared_as told.rest told.compared;
    lines = told.lines;
    are = told.are;
    front = told.front;
  }
  fault_as found wrong = absurd wrong
