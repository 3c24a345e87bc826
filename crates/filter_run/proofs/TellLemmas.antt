-- A report on one capture: how often devices failed, its totals, and the same by what else is known of verdicts.
use Rattle.std.proofs.Common.{◌≡◌, ◌∙◌, ◌+◌, ◌-◌, ℕ, Bool, List, [], Option, ap, append-nil, inl, inr, length, refl, subst, sym, true, false}
use Rattle.std.proofs.KnownBytes.{Appends-nil, Consumes-nil}
use Rattle.packet_view.specs.Captures.{PacketFacts, packets_at}
use Rattle.packet_view.specs.declared.capture.Order.{Order}
use Rattle.session_state.specs.declared.verdict.Verdict.{Verdict}
use Rattle.racl_io.specs.declared.fault.Fault.{Fault}
use Rattle.racl_io.specs.declared.fault.Fault.TheVariants as fault
use Rattle.racl_io.specs.declared.totals_and_truncation.Totals.{Totals}
use Rattle.racl_io.specs.Reports.{is_truncated, passed, totals_of, without_pages}
use Rattle.racl_io.specs.Tellings.{Wording, told_alone, with_write}
use Rattle.racl_io.proofs.ReportLemmas.{totals_counted}
use Rattle.capture_stream.specs.Lives.{HaveFailed}
use Rattle.capture_stream.specs.Savings.{Manner, Outputs, manner_of, outputs}
use Rattle.filter_run.specs.CaptureReports.{HasToldSome, IsLiveFault}
use Rattle.filter_run.specs.Starts.{Start}

-- ---- How often devices failed

-- how often devices failed, where the report's did
pub report_failed : (written writing saved : ℕ) (which : Fault) → writing ≡ with_write written which → HaveFailed written writing saved saved which
report_failed written writing saved fault.Write is = inl (is, refl)
report_failed written writing saved which is = (is, refl)

-- and where what saves packets did
pub saver_failed : (written writing saved saving : ℕ) (which : Fault) → writing ≡ written → saving ≡ saved + 1 → which ≡ fault.Write
    → HaveFailed written writing saved saving which
saver_failed written writing saved saving which same failed is = subst (HaveFailed written writing saved saving) (sym is) (inr (same, failed))

-- so often also where they failed as often before
pub failed_since : (written saved first second writing saving : ℕ) (which : Fault) → first ≡ written → second ≡ saved
    → HaveFailed first writing second saving which → HaveFailed written writing saved saving which
failed_since written saved first second writing saving which same kept failed =
    subst (λ n. HaveFailed n writing saved saving which) same (subst (λ n. HaveFailed first writing n saving which) kept failed)

-- ---- The totals

abbrev pub totals_with : ℕ → ℕ → ℕ → Bool → Totals
totals_with packets passing lacking truncated =
    record { packets = packets; passed = passing; dropped = packets - passing; without_pages = lacking; truncated = truncated }

cut : (n : ℕ) (truncated : Bool) → truncated ≡ is_truncated (told_alone n truncated)
cut n true = refl
cut n false = refl

pub totals_alone : (verdicts : List Verdict) (n passing lacking : ℕ) (truncated : Bool) → length verdicts ≡ n → passing ≡ passed verdicts
    → lacking ≡ without_pages verdicts → totals_with n passing lacking truncated ≡ totals_of verdicts (told_alone n truncated)
totals_alone verdicts n passing lacking truncated count passes lack =
    ap (λ m. totals_with m passing lacking truncated) (sym count)
    ∙ totals_counted passing lacking verdicts (told_alone n truncated) truncated passes lack (cut n truncated)

-- ---- The same by what else is known of verdicts, and of what was saved

module _ {J A K B : Type 0} (Judged : J → List PacketFacts → List Verdict → Type 0) (Other : A → List PacketFacts → List Verdict → Type 0) (wording : Wording)
    (Saved : K → Order → List ℕ → List Verdict → K → Type 0) (Kept : B → Order → List ℕ → List Verdict → B → Type 0) (begun : J) (other : A)
    (tells : (packets : List PacketFacts) (verdicts : List Verdict) → Judged begun packets verdicts → Other other packets verdicts) (start : Start)
    (before after old new : Option (List ℕ)) (first last : K) (one two : B)
    (keeps : (whole : List ℕ) (verdicts : List Verdict) → Saved first start.order whole verdicts last → Kept one start.order whole verdicts two) where
  some_as : (rest : List ℕ) → HasToldSome Judged (manner_of wording Saved) begun start before after (outputs old first) (outputs new last) rest
      → HasToldSome Other (manner_of wording Kept) other start before after (outputs old one) (outputs new two) rest
  some_as rest told = record {
    read = told.read;
    consumed = told.consumed;
    packets = told.packets;
    records = told.records;
    verdicts = told.verdicts;
    judged = λ some. tells (packets_at 0 told.packets) told.verdicts (told.judged some);
    count = told.count;
    text = told.text;
    whole = told.whole;
    spelt = told.spelt;
    saved = keeps told.whole told.verdicts told.saved;
  }

  pub fault_as : (found : Fault) → IsLiveFault Judged (manner_of wording Saved) begun start before after (outputs old first) (outputs new last) found
      → IsLiveFault Other (manner_of wording Kept) other start before after (outputs old one) (outputs new two) found
  unfolding some_as
  fault_as fault.Memory (rest, told) = (rest, some_as rest told)
  fault_as fault.Read (rest, told, unread) = (rest, some_as rest told, unread)
  fault_as (fault.LongRecord number) (rest, told, long, counted, out) = (rest, some_as rest told, long, counted, out)
  fault_as fault.TooLarge (rest, told, many) = (rest, some_as rest told, many)
  fault_as fault.Write told = record {
    read = told.read;
    consumed = told.consumed;
    packets = told.packets;
    rest = told.rest;
    records = told.records;
    verdicts = told.verdicts;
    judged = λ some. tells (packets_at 0 told.packets) told.verdicts (told.judged some);
    count = told.count;
    front = told.front;
  }
  fault_as found wrong = absurd wrong

-- nothing was read or written
pub none_told : {A K : Type 0} (Other : A → List PacketFacts → List Verdict → Type 0) (manner : Manner K) (other : A) (start : Start) (before : Option (List ℕ)) (old : Outputs K)
    → manner.saved old.saver start.order [] [] old.saver → IsLiveFault Other manner other start before before old old fault.Memory
none_told Other manner other start before old kept =
    let none = append-nil start.front in
    let told : HasToldSome Other manner other start before before old old start.front = record {
      read = [];
      consumed = Consumes-nil before;
      packets = [];
      records = none;
      verdicts = [];
      judged = λ some. absurd (some refl);
      count = refl;
      text = Appends-nil old.report;
      whole = [];
      spelt = none;
      saved = kept;
    } in
    (start.front, told)
