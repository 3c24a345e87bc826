-- What was read of an input up to the records of its capture, and what is answered of it once these are judged.
use Rattle.std.proofs.Common.{◌≡◌, ◌∙◌, ◌+◌, ◌-◌, ◌<◌, ◌≤◌, ℕ, List, [], ◌∷◌, ◌++◌, Option, Some, Err, drop, length, length-drop, take, append-nil, append_assoc, arith, refl, sym, ap, subst, inl, inr}
use Rattle.std.proofs.Math.Seq.{drop-append-add}
use Rattle.std.proofs.lemmas.List.{drop-append-le, length-append, take_at}
use Rattle.std.specs.Io.KnownBytes.{Consumes, IsAtEnd}
use Rattle.packet_view.specs.Captures.{AreRecords, HasFileHeader, IsCaptureFault, IsHeaderFault, IsTooLong, RecordFacts, packets_at}
use Rattle.packet_view.specs.declared.capture.CaptureFault.{CaptureFault}
use Rattle.packet_view.specs.declared.capture.CaptureFault.TheVariants as capture
use Rattle.packet_view.specs.declared.capture.Order.{Order}
use Rattle.packet_view.proofs.CaptureLemmas.{IsHeaderOf, fault_of_header, long_is_wrong, long_refuses}
use Rattle.packet_view.proofs.FrontLemmas.{behind_header_appended, header_appended}
use Rattle.acl_policy.specs.Policies.{PolicyFacts, policy_facts}
use Rattle.racl_options.specs.declared.settings.Options.{Options}
use Rattle.racl_io.specs.declared.fault.Fault.TheVariants.{TooLarge, LongRecord}
use Rattle.racl_io.specs.declared.marker_line.Form.{Form}
use Rattle.racl_io.specs.declared.marker_line.Form.TheVariants.{Binary}
use Rattle.racl_io.specs.Faults.{capture_fault}
use Rattle.racl_io.specs.Inputs.{InputFacts, IsContent, IsInput, IsMarked, most_bytes}
use Rattle.racl_io.specs.Reports.{totals_of}
use Rattle.racl_io.specs.declared.totals_and_truncation.Totals.{Totals}
use Rattle.filter_run.specs.Starts.{Start}
use Rattle.racl_runs.specs.Reads.{AnswersInput, AnswersRead, HasHeaded, HasJudged, HoldsReport, IsHeaded, IsSaid}
use Rattle.racl_report.specs.RunReports.{IsReportOn, JudgedFacts}
use Rattle.racl_runs.specs.declared.input_front.Headed.{Headed}
use Rattle.racl_runs.proofs.OutcomeLemmas.{capture_answers, report_answer}
use Rattle.racl_report.proofs.CaptureLaws.{IsUnnumbered}
use Rattle.racl_runs.proofs.ReadLemmas.{all_known, too_many_known}

marked_appended : (capture marked more : List ℕ) → 24 ≤ length capture → IsMarked Binary capture marked → IsMarked Binary (capture ++ more) (marked ++ more)
marked_appended capture marked more long (inl (line, marker, same)) =
    inl (line, marker, ap (λ (b : List ℕ). b ++ more) same ∙ append_assoc line (10 ∷ capture) more)
marked_appended capture marked more long (inr (word, empty)) = absurd (let none = ap length empty in omega (arith, long, none))

-- the parts of an input whose binary capture goes on
input_appended : (text capture bytes more : List ℕ) → 24 ≤ length capture → IsInput bytes (record { policy = text; form = Binary; content = capture })
    → IsInput (bytes ++ more) (record { policy = text; form = Binary; content = capture ++ more })
input_appended text capture bytes more long is = record {
  lines = is.lines;
  plain = is.plain;
  policy = is.policy;
  counts = is.counts;
  marked = is.marked ++ more;
  parted = ap (λ (b : List ℕ). b ++ more) is.parted ∙ append_assoc text is.marked more;
  content = marked_appended capture is.marked more long is.content;
}

-- the capture stands at the end of the input
pub record StandsLast (bytes capture : List ℕ) : Type 0 where
  pub front : List ℕ
  pub parted : bytes ≡ front ++ capture

pub capture_stands : (text capture bytes : List ℕ) → 24 ≤ length capture → IsInput bytes (record { policy = text; form = Binary; content = capture }) → StandsLast bytes capture
capture_stands text capture bytes long is = elim is.content [
  | inl (line, marker, same) ↦ record {
    front = text ++ (line ++ 10 ∷ []);
    parted = is.parted ∙ ap (λ (b : List ℕ). text ++ b) (same ∙ sym (append_assoc line (10 ∷ []) capture)) ∙ sym (append_assoc text (line ++ 10 ∷ []) capture);
  }
  | inr (word, empty) ↦ absurd (let none = ap length empty in omega (arith, long, none))
]

pub records_within_input : (bytes capture : List ℕ) → StandsLast bytes capture → 24 ≤ length capture → length bytes - length capture + 24 ≤ length bytes
records_within_input bytes capture last long = let whole = ap length last.parted in let sizes = length-append last.front capture in omega arith

pub records_behind_header : (bytes capture : List ℕ) → StandsLast bytes capture → drop (length bytes - length capture + 24) bytes ≡ drop 24 capture
records_behind_header bytes capture last =
    let whole = ap length last.parted in let sizes = length-append last.front capture in
    let place : length bytes - length capture + 24 ≡ length last.front + 24 = omega arith in
    ap (λ n. drop n bytes) place ∙ ap (drop (length last.front + 24)) last.parted ∙ drop-append-add last.front capture 24

-- the policy's text stands at the front of the input
pub text_before : (bytes : List ℕ) (parts : InputFacts) → IsInput bytes parts → take (length parts.policy) bytes ≡ parts.policy
text_before bytes parts is = ap (take (length parts.policy)) is.parted ∙ take_at parts.policy is.marked (length parts.policy) refl

pub text_within : (bytes : List ℕ) (parts : InputFacts) → IsInput bytes parts → length parts.policy ≤ length bytes
text_within bytes parts is = let whole = ap length is.parted in let sizes = length-append parts.policy is.marked in omega arith

-- what follows a marker line stands at the end of the input
pub content_behind : (bytes : List ℕ) (parts : InputFacts) → IsInput bytes parts → drop (length bytes - length parts.content) bytes ≡ parts.content
content_behind bytes parts is = elim is.content [
  | inl (line, marker, same) ↦
      let front = parts.policy ++ (line ++ 10 ∷ []) in
      let parted : bytes ≡ front ++ parts.content =
      is.parted ∙ ap (λ (b : List ℕ). parts.policy ++ b) (same ∙ sym (append_assoc line (10 ∷ []) parts.content))
      ∙ sym (append_assoc parts.policy (line ++ 10 ∷ []) parts.content) in
      let whole = ap length parted in let sizes = length-append front parts.content in
      let place : length bytes - length parts.content ≡ length front + 0 = omega arith in
      ap (λ n. drop n bytes) place ∙ ap (drop (length front + 0)) parted ∙ drop-append-add front parts.content 0
  | inr (word, none) ↦
      let empty = ap length none in
      let place : length bytes - length parts.content ≡ length bytes + 0 = omega arith in
      ap (λ n. drop n bytes) place ∙ ap (drop (length bytes + 0)) (sym (append-nil bytes)) ∙ drop-append-add bytes [] 0 ∙ sym none
]

-- ---- a capture whose header is refused

header_one : (bytes : List ℕ) (found : CaptureFault) → ((order : Order) → HasFileHeader order bytes → ⊥)
    → ((cause : CaptureFault) → IsHeaderFault bytes cause → found ≡ cause) → (cause : CaptureFault) → IsCaptureFault bytes cause → found ≡ cause
header_one bytes found none one capture.Short is = one capture.Short is
header_one bytes found none one capture.Magic is = one capture.Magic is
header_one bytes found none one capture.Version is = one capture.Version is
header_one bytes found none one capture.LinkType is = one capture.LinkType is
header_one bytes found none one (capture.LongRecord number) (order, packets, rest, right, all, long, counted) = absurd (none order right)
header_one bytes found none one capture.Memory is = absurd is

pub header_answers : (options : Options) (bytes : List ℕ) (parts : InputFacts) (policy : PolicyFacts) → IsInput bytes parts → IsSaid parts.policy policy
    → IsUnnumbered parts.form → (capture : List ℕ) → IsContent parts.form parts.content capture → (found : CaptureFault) → IsHeaderFault capture found
    → ((order : Order) → HasFileHeader order capture → ⊥) → ((cause : CaptureFault) → IsHeaderFault capture cause → found ≡ cause)
    → AnswersInput options bytes (Err (capture_fault found))
header_answers options bytes parts policy parted said plain capture spelt found is none one =
    capture_answers options bytes parts policy parted said plain capture spelt found (λ packets end all. none all.0 all.2)
    (fault_of_header capture found is) (header_one capture found none one)

-- ---- a capture with a header

-- all bytes of an input with a right policy, and where the records of its capture stand
record HasRecords (bytes : List ℕ) (policy : PolicyFacts) (order : Order) (records : List ℕ) : Type 0 where
  pub parts : InputFacts
  pub parted : IsInput bytes parts
  pub said : IsSaid parts.policy policy
  pub plain : IsUnnumbered parts.form
  pub capture : List ℕ
  pub spelt : IsContent parts.form parts.content capture
  pub header : IsHeaderOf order capture
  pub behind : records ≡ drop 24 capture

header_of : (order : Order) (capture : List ℕ) → IsHeaded order capture → IsHeaderOf order capture
header_of order capture h = record { right = h.right; one = h.one; none = h.none }

abbrev as_it_is : List ℕ → List ℕ → InputFacts
as_it_is text capture = record { policy = text; form = Binary; content = capture }

-- a capture that stands in the input as it is
in_binary : (bytes : List ℕ) (form : Form) (text content : List ℕ) → form ≡ Binary → IsInput bytes (record { policy = text; form = form; content = content })
    → IsInput bytes (as_it_is text content)
in_binary bytes form text content same is = subst (λ (f : Form). IsInput bytes (record { policy = text; form = f; content = content })) same is

-- more bytes of the input are more bytes of its capture
records_more : (bytes read : List ℕ) (policy : PolicyFacts) (order : Order) (text capture : List ℕ) (from : ℕ) → IsInput bytes (as_it_is text capture)
    → IsSaid text policy → IsHeaded order capture → from ≤ length bytes → drop from bytes ≡ drop 24 capture
    → HasRecords (bytes ++ read) policy order (drop from (bytes ++ read))
records_more bytes read policy order text capture from parted said header within behind = record {
  parts = as_it_is text (capture ++ read);
  parted = input_appended text capture bytes read header.right.whole parted;
  said = said;
  plain = tt;
  capture = capture ++ read;
  spelt = refl;
  header = header_appended order capture read (header_of order capture header);
  behind = drop-append-le from bytes read within ∙ ap (λ (b : List ℕ). b ++ read) behind ∙ sym (behind_header_appended capture read header.right.whole);
}

headed_records : (options : Options) (front read : List ℕ) (headed : Headed) → HasHeaded options front headed
    → HasRecords (front ++ read) (policy_facts headed.filter.policy) headed.order (drop headed.from (front ++ read))
headed_records options front read headed has =
    let plain = in_binary front has.parts.form has.parts.policy has.parts.content has.form has.parted in
    records_more front read (policy_facts headed.filter.policy) headed.order has.parts.policy has.parts.content headed.from plain has.policy has.header has.within.1 has.behind

-- ---- what is answered

-- where the records of a capture begin that an input has
abbrev pub start_of : List ℕ → Headed → Start
start_of front headed = record { order = headed.order; front = drop headed.from front; input = Some headed.from }

module _ (options : Options) (front : List ℕ) (headed : Headed) (has : HasHeaded options front headed) where
  abbrev policy : PolicyFacts
  policy = policy_facts headed.filter.policy

  stands : (read : List ℕ) → HasRecords (front ++ read) policy headed.order (drop headed.from front ++ read)
  stands read =
      let all = headed_records options front read headed has in
      record {
        parts = all.parts;
        parted = all.parted;
        said = all.said;
        plain = all.plain;
        capture = all.capture;
        spelt = all.spelt;
        header = all.header;
        behind = sym (drop-append-le headed.from front read has.within.1) ∙ all.behind;
      }

  few_in_all : (read : List ℕ) → length front ≤ most_bytes → length (drop headed.from front ++ read) ≤ most_bytes - headed.from → length (front ++ read) ≤ most_bytes
  few_in_all read few fits =
      let within = has.within.1 in
      let behind = length-drop headed.from front in
      let own = length-append (drop headed.from front) read in
      let all = length-append front read in
      omega arith

  pub headed_report : (before after : Option (List ℕ)) (judged : JudgedFacts) (report : List ℕ) (totals : Totals) → length front ≤ most_bytes
      → (is : HasJudged options policy (start_of front headed) before after judged) → IsReportOn options has.parts.policy policy (packets_at 0 is.packets) judged report
      → totals ≡ totals_of judged.outcome.verdicts judged.outcome.captures → HoldsReport options front before report totals
  unfolding stands headed_records records_more
  headed_report before after judged report totals fits is on counted =
      let at = stands is.read in
      let few = few_in_all is.read fits is.few in
      let all : AreRecords headed.order (drop 24 at.capture) is.packets is.rest = subst (λ (b : List ℕ). AreRecords headed.order b is.packets is.rest) at.behind is.records in
      record {
        read = is.read;
        known = all_known before after is.read is.consumed is.ended;
        few = few;
        is = report_answer options (front ++ is.read) at.parts policy at.parted at.said at.plain at.capture at.spelt headed.order at.header is.packets is.rest is.truncated judged report totals
            few all is.end is.reached on counted;
      }

  -- all was read, and a record is too long
  pub long_answers : (before after : Option (List ℕ)) (read rest : List ℕ) (packets : List RecordFacts) (number : ℕ) → length front ≤ most_bytes
      → Consumes before after read → IsAtEnd after → length (drop headed.from front ++ read) ≤ most_bytes - headed.from
      → AreRecords headed.order (drop headed.from front ++ read) packets rest → IsTooLong headed.order rest → number ≡ length packets + 1
      → AnswersRead options front before (Err (LongRecord number))
  long_answers before after read rest packets number fits consumed ended less records long counted =
      let at = stands read in
      let few = few_in_all read fits less in
      let all : AreRecords headed.order (drop 24 at.capture) packets rest = subst (λ (b : List ℕ). AreRecords headed.order b packets rest) at.behind records in
      inr (record {
        read = read;
        known = all_known before after read consumed ended;
        few = few;
        answers = capture_answers options (front ++ read) at.parts policy at.parted at.said at.plain at.capture at.spelt (capture.LongRecord number)
            (long_is_wrong headed.order at.capture at.header packets rest all long)
            (headed.order, packets, rest, at.header.right, all, long, counted)
            (λ cause of. ap capture.LongRecord counted ∙ sym (long_refuses headed.order at.capture at.header packets rest all long cause of));
      })

  -- too much was read
  pub large_answers : (before after : Option (List ℕ)) (read : List ℕ) → length front ≤ most_bytes → Consumes before after read
      → most_bytes - headed.from < length (drop headed.from front ++ read) → AnswersRead options front before (Err TooLarge)
  large_answers before after read fits consumed many =
      let within = has.within.1 in
      let behind = length-drop headed.from front in
      let own = length-append (drop headed.from front) read in
      inl (TooLarge, refl, inr (inr (refl, too_many_known (length front) before after read consumed (omega arith))))
