-- A live run on several interfaces.
use Rattle.std.proofs.Common.{◌≡◌, ◌∙◌, ◌++◌, ℕ, List, [], Option, None, append-nil, arith, inl, inr, refl, subst, sym, Result, Ok, Err, MatchResult, true}
use Rattle.std.proofs.KnownBytes.{Appends-nil, Appends-trans}
use Rattle.std.specs.Io.KnownBytes.{Appends}
use Rattle.std.specs.Prelude.{◌≢◌, ◌⊎◌}
use Rattle.packet_view.specs.Captures.{PacketFacts}
use Rattle.acl_policy.specs.Policies.{IsPolicyFault, IsPolicyText, PolicyFacts, policy_facts}
use Rattle.acl_policy.specs.declared.policy.PolicyFault.{PolicyFault}
use Rattle.acl_policy.specs.declared.policy.PolicyFault.TheVariants.{Memory}
use Rattle.session_state.specs.declared.verdict.Verdict.{Verdict}
use Rattle.racl_options.specs.declared.settings.Options.{Options}
use Rattle.racl_io.specs.declared.fault.Fault.{Fault}
use Rattle.racl_io.specs.declared.fault.Fault.TheVariants as fault
use Rattle.racl_io.specs.declared.totals_and_truncation.Captured.{Captured}
use Rattle.racl_io.specs.declared.totals_and_truncation.Totals.{Totals}
use Rattle.racl_io.specs.Faults.{policy_fault}
use Rattle.racl_io.specs.Tellings.{IsTellingFault, Wording, end_in, lines_in}
use Rattle.racl_io.proofs.TellingLemmas.{front_on}
use Rattle.capture_stream.specs.Arrivals.{Gives, Part}
use Rattle.filter_run.specs.ComingCaptures.{HasToldCaptures, HasToldFront, HasToldTurns, IsFaultOfComing}
use Rattle.filter_run.specs.Turns.{AreTurns, AreTurnsToLong, Turn, cuts_of, packets_of, parts_of}
use Rattle.capture_stream.specs.declared.arrivals.FaultAt.{FaultAt}
use Rattle.filter_run.specs.declared.captures_report.ReportedCaptures.{ReportedCaptures}
use Rattle.filter_run.proofs.ArrivalLemmas.{gives_none}
use Rattle.racl_runs.specs.Crews.{AreAsAsked}
use Rattle.racl_runs.specs.LiveInterfaceRuns.{HasCutComing, HasRunComing, HasToldComing, IsComingRunFault, IsReportOfTurns, TellsComing, TellsNamed}
use Rattle.racl_runs.specs.LiveRuns.{AreFirstVerdicts, IsToldBehind}
use Rattle.racl_runs.specs.declared.counted_judging.Counted.{Counted}
use Rattle.racl_runs.specs.declared.dated_judging.Dated.{Dated}
use Rattle.racl_runs.specs.inner.DatedPackets.{HasDated}
use Rattle.racl_views.specs.Hits.{latest_second}
use Rattle.racl_runs.specs.declared.live_run.LiveWay.{LiveWay}
use Rattle.racl_runs.specs.declared.sized_tables_and_workers.SizedTables.{SizedTables}
use Rattle.racl_runs.specs.inner.LiveEnds.{AreBegun}
use Rattle.racl_runs.proofs.LiveLemmas.{CountedSaid, first_verdicts}
use Rattle.racl_runs.specs.Runs.{ages_in}

-- ---- What is known of verdicts is known as something else, too

module _ {I J : Type 0} {A : I → List PacketFacts → List Verdict → Type 0} {B : J → List PacketFacts → List Verdict → Type 0} {i : I} {j : J} (wording : Wording)
    (known : (packets : List PacketFacts) (verdicts : List Verdict) → A i packets verdicts → B j packets verdicts) (before after : Option (List Part)) (old new : Option (List ℕ)) where
  turns_as : (Are : List Turn → Type 0) (gone : List Part) → HasToldTurns Are A wording i before after old new gone → HasToldTurns Are B wording j before after old new gone
  turns_as Are gone told = record {
    turns = told.turns;
    are = told.are;
    given = told.given;
    verdicts = told.verdicts;
    judged = λ some. known (packets_of told.turns) told.verdicts (told.judged some);
    count = told.count;
    text = told.text;
  }

  front_as : HasToldFront A wording i before after old new → HasToldFront B wording j before after old new
  front_as told = record {
    turns = told.turns;
    are = told.are;
    given = told.given;
    verdicts = told.verdicts;
    judged = λ some. known (packets_of told.turns) told.verdicts (told.judged some);
    count = told.count;
    front = told.front;
  }

  coming_as : (found : FaultAt) → IsFaultOfComing A wording i before after old new found → IsFaultOfComing B wording j before after old new found
  unfolding turns_as front_as
  coming_as found (inl (memory, gone, lost, told)) = inl (memory, gone, lost, turns_as AreTurns gone told)
  coming_as found (inr (inl (read, named, told))) = inr (inl (read, named, turns_as AreTurns [] told))
  coming_as found (inr (inr (inl (part, told, wrong)))) = inr (inr (inl (part, turns_as AreTurns _ told, wrong)))
  coming_as found (inr (inr (inr (inl (told, named, long))))) = inr (inr (inr (inl (turns_as AreTurnsToLong [] told, named, long))))
  coming_as found (inr (inr (inr (inr (inl (large, placeless, told, many)))))) = inr (inr (inr (inr (inl (large, placeless, turns_as AreTurns [] told, many)))))
  coming_as found (inr (inr (inr (inr (inr (write, told, named)))))) = inr (inr (inr (inr (inr (write, front_as told, named)))))

-- nothing came, and memory ran out
pub none_came_as : {J : Type 0} (Judged : J → List PacketFacts → List Verdict → Type 0) (wording : Wording) (begun : J) (before : Option (List Part)) (old : Option (List ℕ))
    (found : FaultAt) → (found.fault ≡ fault.Memory) × (found.interface ≡ None) → IsFaultOfComing Judged wording begun before before old old found
none_came_as Judged wording begun before old found (memory, placeless) = inl (
  memory,
  [],
  placeless,
  record {
    turns = [];
    are = tt;
    given = gives_none before;
    verdicts = [];
    judged = λ some. absurd (some refl);
    count = refl;
    text = Appends-nil old;
  },
)

-- the policy's text has the fault, or memory ran out
pub wrong_text : (text : List ℕ) (cause : PolicyFault) (found : FaultAt) → found.fault ≡ policy_fault cause → (cause ≢ Memory → IsPolicyFault text cause)
    → (found.fault ≡ fault.Memory) ⊎ ((c : PolicyFault) × IsPolicyFault text c × (found.fault ≡ policy_fault c))
wrong_text text Memory found same is = inl same
wrong_text text cause found same is = inr (cause, is (λ other. cc), same)

-- the policy was read, and so it was told, or why not
pub run_ends : (T : Type 0) (options : Options) (text : List ℕ) (policy : PolicyFacts) (before after : Option (List Part)) (old new : Option (List ℕ)) (wording : Wording)
    (result : Result Totals FaultAt) → IsPolicyText text policy → TellsNamed options text policy wording
    → TellsComing T options text wording policy before after old new result
    → MatchResult result (HasRunComing options text before after old new) (IsComingRunFault T options text before after old new)
run_ends T options text policy before after old new wording (Ok totals) says tells told =
    record { policy = policy; says = says; wording = wording; tells = tells; told = told }
run_ends T options text policy before after old new wording (Err found) says tells why = inr (policy, says, wording, tells, why)

-- ---- The end

-- what workers said who count, and whose packets' seconds are noted
abbrev pub DatedSaid : {T : Type 0} → Dated (Counted T) → List PacketFacts → List Verdict → Type 0
DatedSaid dated packets said = CountedSaid dated.inner packets said

module _ {T : Type 0} (way : LiveWay) (tables : SizedTables) (dated : Dated (Counted T)) (is : AreBegun way tables dated.inner)
    (asked : AreAsAsked way.options.now.tables (ages_in way.options.now) tables) (times : way.filter.now.times ≡ way.options.now.times) (wording : Wording) (before after : Option (List Part))
    (old mid : Option (List ℕ)) where
  abbrev options : Options
  options = way.options.now

  abbrev policy : PolicyFacts
  policy = policy_facts way.filter.now.policy.now

  first : (packets : List PacketFacts) (verdicts : List Verdict) → DatedSaid dated packets verdicts → AreFirstVerdicts T options policy packets verdicts
  first packets verdicts said = first_verdicts way tables dated.inner packets verdicts is asked times said

  -- not all was told
  pub coming_fault : (found : FaultAt) → IsFaultOfComing DatedSaid wording dated before after old mid found → IsFaultOfComing (AreFirstVerdicts T options) wording policy before after old mid found
  coming_fault found why = coming_as wording first before after old mid found why

  module _ {Became : Counted T → List PacketFacts → List Verdict → Counted T → Type 0} (told : ReportedCaptures (Dated (Counted T)))
      (all : HasToldCaptures (HasDated Became) DatedSaid wording dated before after old mid told) where
    -- the parts that came are those of the turns
    all_given : Gives before after (parts_of all.all.turns)
    all_given = subst (Gives before after) (append-nil (parts_of all.all.turns)) all.all.given

    -- of all packets their lines were written, and no more
    some_told : HasToldTurns AreTurns (AreFirstVerdicts T options) wording policy before after old mid []
    some_told = turns_as wording first before after old mid AreTurns [] all.all

    -- memory ran out
    pub end_refused : (found : FaultAt) → (found.fault ≡ fault.Memory) × (found.interface ≡ None) → IsFaultOfComing (AreFirstVerdicts T options) wording policy before after old mid found
    end_refused found (memory, placeless) = inl (memory, [], placeless, some_told)

    -- the latest second is that of all packets, where it is noted
    pub latest_of_turns : dated.noted ≡ true → dated.latest ≡ 0 → told.judges.latest ≡ latest_second (packets_of all.all.turns)
    latest_of_turns noted none =
        let seen = all.stand.latest noted in
        let later = latest_second (packets_of all.all.turns) in
        omega (arith, seen, none, later)

    module _ (behind : List ℕ) (is_behind : IsToldBehind options way.text.now policy (packets_of all.all.turns) all.all.verdicts (latest_second (packets_of all.all.turns)) behind) where
      abbrev lines : List ℕ
      lines = lines_in wording 1 (packets_of all.all.turns) all.all.verdicts

      abbrev end : List ℕ
      end = end_in wording (cuts_of all.all.turns) told.totals ++ behind

      abbrev is_report : IsReportOfTurns options way.text.now wording policy all.all.turns told.totals (lines ++ end)
      is_report = record { verdicts = all.all.verdicts; count = all.all.count; behind = behind; told = is_behind; counted = all.totals; all = refl }

      pub all_told : (new : Option (List ℕ)) (at : Wording) (cuts : List Captured) → at ≡ wording → cuts ≡ told.cuts.items → Appends mid new (end_in at cuts told.totals ++ behind)
          → HasToldComing options way.text.now wording policy before after old new told.totals
      all_told new at cuts is same more = record {
        turns = all.all.turns;
        are = all.all.are;
        given = all_given;
        ended = all.ended;
        whole = all.whole;
        report = lines ++ end;
        is = is_report;
        written = Appends-trans old mid new lines end all.all.text
            (subst (λ (w : Wording). Appends mid new (end_in w (cuts_of all.all.turns) told.totals ++ behind)) is
            (subst (λ (cs : List Captured). Appends mid new (end_in at cs told.totals ++ behind)) (same ∙ all.cuts) more));
      }

      fault_at_end : (new : Option (List ℕ)) (found : FaultAt) (why : Fault) → found.fault ≡ why → found.interface ≡ None → IsTellingFault mid new end why
          → IsFaultOfComing (AreFirstVerdicts T options) wording policy before after old new found ⊎ HasCutComing options way.text.now wording policy before after old new found
      fault_at_end new found fault.Memory is placeless same =
          inl (inl (is, [], placeless, subst (λ (b : Option (List ℕ)). HasToldTurns AreTurns (AreFirstVerdicts T options) wording policy before after old b []) (sym same) some_told))
      fault_at_end new found fault.Write is placeless front = inr (record {
        failed = is;
        placeless = placeless;
        turns = all.all.turns;
        are = all.all.are;
        given = all_given;
        ended = all.ended;
        whole = all.whole;
        totals = told.totals;
        report = lines ++ end;
        is = is_report;
        front = front_on old mid new lines end all.all.text front;
      })
      fault_at_end new found why is placeless wrong = absurd wrong

      pub end_fault : (new : Option (List ℕ)) (at : Wording) (cuts : List Captured) → at ≡ wording → cuts ≡ told.cuts.items → (found : FaultAt) (why : Fault) → (found.fault ≡ why) × (found.interface ≡ None)
          → IsTellingFault mid new (end_in at cuts told.totals ++ behind) why
          → IsFaultOfComing (AreFirstVerdicts T options) wording policy before after old new found ⊎ HasCutComing options way.text.now wording policy before after old new found
      end_fault new at cuts same listed found why (is, placeless) cut =
          fault_at_end new found why is placeless
          (subst (λ (w : Wording). IsTellingFault mid new (end_in w (cuts_of all.all.turns) told.totals ++ behind) why) same
          (subst (λ (cs : List Captured). IsTellingFault mid new (end_in at cs told.totals ++ behind) why) (listed ∙ all.cuts) cut))
