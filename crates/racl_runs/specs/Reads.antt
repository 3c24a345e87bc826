-- What is answered of an input that is read, and what stands before the records of its captures.
use Rattle.std.specs.Prelude.{◌≡◌, ◌≢◌, ◌+◌, ◌<◌, ◌≤◌, ◌⊎◌, ◌++◌, ℕ, Bool, true, List, [], ◌∷◌, Option, None, IfSome, IfOk, IfErr, MatchResult, Result, Ok, Err, drop, length, take}
use Rattle.std.specs.Io.KnownBytes.{Appends, Consumes, IsAtEnd}
use Rattle.packet_view.specs.Bytes.{AreBytes}
use Rattle.packet_view.specs.Captures.{AreRecords, HasFileHeader, IsEnd, IsHeaderFault, PacketFacts, RecordFacts, end_of, packets_at}
use Rattle.packet_view.specs.declared.capture.CaptureFault.{CaptureFault}
use Rattle.packet_view.specs.declared.capture.Order.{Order}
use Rattle.acl_policy.specs.Policies.{IsPolicyFault, IsPolicyText, PolicyFacts, policy_facts}
use Rattle.acl_policy.specs.declared.policy.PolicyFault.{PolicyFault}
use Rattle.flow_dealing.specs.WorkerRecords.{HavePages}
use Rattle.racl_options.specs.declared.settings.Options.{Options}
use Rattle.racl_io.specs.declared.fault.Fault.{Fault}
use Rattle.racl_io.specs.declared.fault.Fault.TheVariants.{Memory, Read, TooLarge}
use Rattle.racl_io.specs.declared.marker_line.Form.TheVariants.{Binary}
use Rattle.racl_io.specs.declared.totals_and_truncation.Captured.{Captured}
use Rattle.racl_io.specs.declared.totals_and_truncation.Totals.{Totals}
use Rattle.racl_io.specs.Faults.{IsFaultOfBytes, Refuses}
use Rattle.racl_io.specs.Inputs.{IsInput, InputFacts, most_bytes}
use Rattle.racl_io.specs.Reports.{totals_of}
use Rattle.filter_run.specs.Starts.{Start, most_at}
use Rattle.racl_runs.specs.declared.input_front.Headed.{Headed}
use Rattle.racl_runs.specs.declared.input_front.Marked.{Marked}
use Rattle.racl_runs.specs.declared.input_front.Opened.{Opened}
use Rattle.racl_runs.specs.declared.input_front.Opened.TheVariants.{Bytes, Whole}
use Rattle.racl_runs.specs.declared.input_front.InputFront.{InputFront}
use Rattle.racl_views.specs.Hits.{latest_second}
use Rattle.racl_runs.specs.Runs.{AgeInTime, AreToldOf, ByOneThread, ByWorkers, ages_in, keeps_stored, layout_for}
use Rattle.racl_report.specs.ReadInputs.{IsRead, told_of}
use Rattle.racl_report.specs.RunReports.{IsReport, IsReportOn, JudgedFacts}

-- ---- what is answered of the bytes of an input

-- workers gave the verdicts on these packets, and these are the one-thread filter's where none says no-pages and ageing is in
-- time; the sessions that are told stood in the tables then
pub record IsReached (options : Options) (policy : PolicyFacts) (packets : List PacketFacts) (captures : List Captured) (judged : JudgedFacts) : Type 0 where
  pub by_workers : ByWorkers options (ages_in options) policy packets judged.outcome.verdicts
  pub kept : keeps_stored options ≡ true
      → AreToldOf (layout_for options.tables) options.times (ages_in options) (latest_second packets) by_workers.views judged.stored
  pub by_one_thread : HavePages judged.outcome.verdicts → AgeInTime by_workers → ByOneThread options.tables options.times policy packets judged.outcome.verdicts
  pub told : judged.outcome.captures ≡ captures

-- the bytes are an input, and its outcome is one that workers reached
pub record IsOutcomeOf (options : Options) (bytes : List ℕ) (judged : JudgedFacts) : Type 0 where
  pub policy : PolicyFacts
  pub packets : List PacketFacts
  pub read : IsRead bytes policy packets judged.outcome.captures
  pub reached : IsReached options policy packets judged.outcome.captures judged

-- What is right gets an outcome that workers reached, what has a fault gets that fault, and either may be told that memory
-- ran out.
pub record AnswersInput (options : Options) (bytes : List ℕ) (result : Result JudgedFacts Fault) : Type 0 where
  pub ok : IfOk result (IsOutcomeOf options bytes)
  pub accepts : (policy : PolicyFacts) (packets : List PacketFacts) (captures : List Captured) → IsRead bytes policy packets captures
      → MatchResult result (IsReached options policy packets captures) (λ fault. fault ≡ Memory)
  pub fault : IfErr result (λ fault. fault ≢ Memory → IsFaultOfBytes bytes fault)
  pub refuses : (fault : Fault) → IsFaultOfBytes bytes fault → Refuses fault result

-- the bytes that the source has are these, where they are known
abbrev pub AreKnown : Option (List ℕ) → List ℕ → Type 0
AreKnown given bytes = IfSome given (λ known. bytes ≡ known)

-- memory ran out, reading failed, or there are too many bytes after so many
abbrev pub IsUnread : ℕ → Option (List ℕ) → Fault → Type 0
IsUnread count given fault =
    (fault ≡ Memory) ⊎ (fault ≡ Read) ⊎ ((fault ≡ TooLarge) × IfSome given (λ known. most_bytes < count + length known))

-- what the source had was read behind what was read before, and isn't too much with it
pub record HasRest (before after : Option (List ℕ)) (old new : List ℕ) : Type 0 where
  pub read : List ℕ
  pub consumed : Consumes before after read
  pub appended : new ≡ old ++ read
  pub ended : IsAtEnd after
  pub few : length new ≤ most_bytes

-- the source's bytes follow what was read before, and all of them are answered so
pub record AnswersWhole (options : Options) (front : List ℕ) (given : Option (List ℕ)) (result : Result JudgedFacts Fault) : Type 0 where
  pub read : List ℕ
  pub known : AreKnown given read
  pub few : length (front ++ read) ≤ most_bytes
  pub answers : AnswersInput options (front ++ read) result

-- what is answered of an input whose front was read, and whose other bytes the source has
abbrev pub AnswersRead : Options → List ℕ → Option (List ℕ) → Result JudgedFacts Fault → Type 0
AnswersRead options front given result =
    ((fault : Fault) × (result ≡ Err fault) × IsUnread (length front) given fault) ⊎ AnswersWhole options front given result

-- ---- the report on an input

-- the bytes are an input of this outcome, and this is the report on it, whichever policy and packets it says
pub record IsReportOfInput (options : Options) (bytes report : List ℕ) (totals : Totals) : Type 0 where
  pub judged : JudgedFacts
  pub answers : AnswersInput options bytes (Ok judged)
  pub tells : (policy : PolicyFacts) (packets : List PacketFacts) → IsRead bytes policy packets judged.outcome.captures
      → IsReport options bytes policy packets judged report
  pub counted : totals ≡ totals_of judged.outcome.verdicts judged.outcome.captures

-- the source's bytes follow what was read before, and this is the report on all of them
pub record HoldsReport (options : Options) (front : List ℕ) (given : Option (List ℕ)) (report : List ℕ) (totals : Totals) : Type 0 where
  pub read : List ℕ
  pub known : AreKnown given read
  pub few : length (front ++ read) ≤ most_bytes
  pub is : IsReportOfInput options (front ++ read) report totals

-- workers reached this on packets, under a policy with this text, and after what was written before stands the report on it
pub record HasReportedOn (options : Options) (text : List ℕ) (policy : PolicyFacts) (packets : List PacketFacts) (captures : List Captured)
    (old new : Option (List ℕ)) (totals : Totals) : Type 0 where
  pub judged : JudgedFacts
  pub reached : IsReached options policy packets captures judged
  pub report : List ℕ
  pub told : IsReportOn options text policy packets judged report
  pub written : Appends old new report
  pub counted : totals ≡ totals_of judged.outcome.verdicts captures

-- ---- what stands before the records

-- a policy's text says this, and nothing else
pub record IsSaid (text : List ℕ) (policy : PolicyFacts) : Type 0 where
  pub says : IsPolicyText text policy
  pub one : (other : PolicyFacts) → IsPolicyText text other → policy ≡ other
  pub right : (cause : PolicyFault) → IsPolicyFault text cause → ⊥

-- a capture begins with a header in this order, and in no other
pub record IsHeaded (order : Order) (capture : List ℕ) : Type 0 where
  pub right : HasFileHeader order capture
  pub one : (other : Order) → HasFileHeader other capture → other ≡ order
  pub none : (cause : CaptureFault) → IsHeaderFault capture cause → ⊥

-- the bytes begin with a right policy, a marker line, and the header of a capture as it is, and the policy ends and the capture's
-- records begin at their places
pub record HasHeaded (options : Options) (bytes : List ℕ) (headed : Headed) : Type 0 where
  pub parts : InputFacts
  pub parted : IsInput bytes parts
  pub policy : IsSaid parts.policy (policy_facts headed.filter.policy)
  pub times : headed.filter.times ≡ options.times
  pub form : parts.form ≡ Binary
  pub header : IsHeaded headed.order parts.content
  pub text : take headed.text bytes ≡ parts.policy
  pub within : (headed.text ≤ length bytes) × (headed.from ≤ length bytes)
  pub behind : drop headed.from bytes ≡ drop 24 parts.content

-- the bytes begin with a right policy and a marker line of this form, and the policy ends and what follows begins at their places
pub record HasMarked (options : Options) (bytes : List ℕ) (marked : Marked) : Type 0 where
  pub parts : InputFacts
  pub parted : IsInput bytes parts
  pub policy : IsSaid parts.policy (policy_facts marked.filter.policy)
  pub times : marked.filter.times ≡ options.times
  pub form : parts.form ≡ marked.form
  pub text : take marked.text bytes ≡ parts.policy
  pub within : (marked.text ≤ length bytes) × (marked.from ≤ length bytes)
  pub content : drop marked.from bytes ≡ parts.content
  pub fit : AreBytes bytes

abbrev pub HasOpened : Options → List ℕ → Opened → Type 0
HasOpened options bytes (Bytes headed) = HasHeaded options bytes headed
HasOpened options bytes (Whole marked) = HasMarked options bytes marked × (marked.form ≢ Binary)

-- the source gave these bytes, all but records, and they begin so
pub record HasFront (options : Options) (before after : Option (List ℕ)) (front : InputFront) : Type 0 where
  pub consumed : Consumes before after front.bytes.items
  pub few : length front.bytes.items ≤ most_bytes
  pub ended : front.ended ≡ true → IsAtEnd after
  pub whole : (marked : Marked) → front.opened ≡ Whole marked → front.ended ≡ true
  pub opened : HasOpened options front.bytes.items front.opened

-- ---- the records

-- all bytes behind a start were read, and these are the verdicts on the packets of all records
pub record HasJudged (options : Options) (policy : PolicyFacts) (start : Start) (before after : Option (List ℕ)) (judged : JudgedFacts) : Type 0 where
  pub read : List ℕ
  pub consumed : Consumes before after read
  pub ended : IsAtEnd after
  pub few : length (start.front ++ read) ≤ most_at start.input
  pub packets : List RecordFacts
  pub rest : List ℕ
  pub records : AreRecords start.order (start.front ++ read) packets rest
  pub truncated : Bool
  pub end : IsEnd start.order rest (end_of truncated)
  pub reached : IsReached options policy (packets_at 0 packets) (told_of None (packets_at 0 packets) truncated ∷ []) judged
