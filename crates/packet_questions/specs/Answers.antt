-- What is told of packets that are written in words: the verdicts of the one-thread filter, in the lines of a report.
use Rattle.std.specs.Prelude.{◌≡◌, ◌≤◌, ◌+◌, ◌⊎◌, ℕ, Bool, true, false, List, [], ◌∷◌, ◌++◌, All, length, map, Option, None}
use Rattle.std.specs.Io.KnownBytes.{Appends}
use Rattle.packet_view.specs.Captures.{PacketFacts}
use Rattle.packet_view.specs.Frames.{IsFrame}
use Rattle.acl_policy.specs.Policies.{IsPolicyFault, IsPolicyText, PolicyFacts, section_of}
use Rattle.acl_policy.specs.declared.policy.PolicyFault.{PolicyFault}
use Rattle.acl_policy.specs.Words.{words_of}
use Rattle.session_state.specs.declared.shown_verdicts.Shown.TheVariants.{Every}
use Rattle.session_state.specs.declared.timeouts.Timeouts.{Timeouts}
use Rattle.session_state.specs.declared.verdict.Verdict.{Verdict}
use Rattle.flow_filter.specs.OneThread.{AreVerdicts, Layout}
use Rattle.flow_filter.specs.Readings.{IsSeen}
use Rattle.flow_dealing.specs.WorkerRecords.{HavePages}
use Rattle.racl_io.specs.declared.fault.Fault.TheVariants.{Memory, Write}
use Rattle.racl_io.specs.declared.totals_and_truncation.Captured.{Captured}
use Rattle.racl_io.specs.declared.totals_and_truncation.Totals.{Totals}
use Rattle.racl_io.specs.Faults.{policy_fault}
use Rattle.racl_io.specs.Reports.{totals_of}
use Rattle.racl_io.specs.ShownReports.{report_shown}
use Rattle.racl_views.specs.ExplainedLines.{IsExplained}
use Rattle.racl_views.specs.RunEntries.{RunFacts}
use Rattle.compared_verdicts.specs.Meeting.{are_met, told_of}
use Rattle.compared_verdicts.specs.declared.expectation.Expectation.{Expectation}
use Rattle.packet_questions.specs.Forms.{form_in}
use Rattle.packet_questions.specs.Frames.{frame_bytes, seen_facts}
use Rattle.packet_questions.specs.Questions.{AreQuestions, IsQuestion, QuestionFacts, question_facts}
use Rattle.packet_questions.specs.declared.asked_packets.AskedPacket.{AskedPacket}
use Rattle.packet_questions.specs.declared.question_fault.QuestionFault.{QuestionFault}
use Rattle.packet_questions.specs.declared.question_fault.QuestionFault.TheVariants.{NoWayOut, Run, Wrong}

-- a packet that is asked about, and its frame
pub record AskedFacts : Type 0 where
  pub question : QuestionFacts
  pub frame : List ℕ

abbrev pub asked_facts : AskedPacket → AskedFacts
asked_facts a = record { question = question_facts a.question; frame = a.frame.items }

-- the packet as it is seen
abbrev pub packet_asked : AskedFacts → PacketFacts
packet_asked a = record { interface = a.question.tuple.interface; moment = a.question.moment; micros = 0; frame = a.frame }

-- at its interface the frame says what the words say
abbrev pub IsSeenAsked : PolicyFacts → AskedFacts → Type 0
IsSeenAsked policy a = IsSeen policy (packet_asked a) (seen_facts a.question)

-- the words of each text
abbrev pub words_of_each : List (List ℕ) → List (List (List ℕ))
words_of_each texts = map words_of texts

-- the texts write these packets, one after the other, and each frame says its own
pub record AreAsked (policy : PolicyFacts) (texts : List (List (List ℕ))) (asked : List AskedFacts) : Type 0 where
  pub written : AreQuestions 0 texts (map (λ a. a.question) asked)
  pub seen : All (IsSeenAsked policy) asked

-- ---- answers

-- how long sessions live where no options say it
abbrev pub AreDefaultTimes : Timeouts → Type 0
AreDefaultTimes times = (times.established ≡ 86400) × (times.transient ≡ 120) × (times.udp ≡ 600)

-- the packets are told as those of one capture whose interface isn't named
abbrev pub answered_of : List Verdict → List Captured
answered_of verdicts = record { named = None; packets = length verdicts; truncated = false } ∷ []

abbrev pub told_facts : PolicyFacts → List ℕ → List PacketFacts → List Verdict → RunFacts
told_facts policy text packets verdicts =
    record { policy = policy; text = text; packets = packets; verdicts = verdicts; captures = answered_of verdicts; shown = Every }

abbrev pub answer_facts : PolicyFacts → List ℕ → List AskedFacts → List Verdict → RunFacts
answer_facts policy text asked verdicts = told_facts policy text (map packet_asked asked) verdicts

-- a line for each packet, explained where that is asked, and the totals
abbrev pub AreAnswers : Bool → RunFacts → List ℕ → Type 0
AreAnswers false run lines = lines ≡ report_shown Every run.verdicts run.captures
AreAnswers true run lines = IsExplained run lines

-- The texts write these packets, and these are the one-thread filter's verdicts on them, unless one says no-pages. None does
-- where at most 64 packets are asked about.
pub record AreVerdictsOnAsked (layout : Layout) (times : Timeouts) (policy : PolicyFacts) (texts : List (List (List ℕ))) (asked : List AskedFacts)
    (verdicts : List Verdict) : Type 0 where
  pub are : AreAsked policy texts asked
  pub by_one_thread : HavePages verdicts → AreVerdicts layout times policy (map packet_asked asked) verdicts
  pub few : length asked ≤ 64 → HavePages verdicts

-- The policy's text is right, the other texts write packets, and these are the verdicts on them.
pub record HasJudgedAsked (layout : Layout) (text : List ℕ) (texts : List (List (List ℕ))) : Type 0 where
  pub policy : PolicyFacts
  pub says : IsPolicyText text policy
  pub asked : List AskedFacts
  pub times : Timeouts
  pub lives : AreDefaultTimes times
  pub verdicts : List Verdict
  pub are : AreVerdictsOnAsked layout times policy texts asked verdicts

-- Behind what was written before stands the report on such verdicts.
pub record HasAnswered (layout : Layout) (explained : Bool) (text : List ℕ) (texts : List (List (List ℕ)))
    (old new : Option (List ℕ)) (totals : Totals) : Type 0 where
  pub judged : HasJudgedAsked layout text texts
  pub lines : List ℕ
  pub told : AreAnswers explained (answer_facts judged.policy text judged.asked judged.verdicts) lines
  pub behind : Appends old new lines
  pub counted : totals ≡ totals_of judged.verdicts (answered_of judged.verdicts)

-- Behind what was written before stands what is told of such verdicts by what is expected, and whether all is met is answered.
pub record HasCompared (layout : Layout) (text : List ℕ) (texts : List (List (List ℕ))) (expectations : List Expectation)
    (old new : Option (List ℕ)) (met : Bool) : Type 0 where
  pub judged : HasJudgedAsked layout text texts
  pub told : Appends old new (told_of expectations judged.verdicts (totals_of judged.verdicts (answered_of judged.verdicts)))
  pub met_is : met ≡ are_met expectations judged.verdicts (totals_of judged.verdicts (answered_of judged.verdicts))

-- ---- faults

-- The text with this number, from 1, writes no packet, and all before it do; this is the form that it asks for.
pub record IsWrong (texts : List (List (List ℕ))) (number : ℕ) : Type 0 where
  pub front : List (List (List ℕ))
  pub words : List (List ℕ)
  pub rest : List (List (List ℕ))
  pub spelt : texts ≡ front ++ words ∷ rest
  pub counted : number ≡ length front + 1
  pub before : List QuestionFacts
  pub right : AreQuestions 0 front before
  pub none : (all : List QuestionFacts) → AreQuestions 0 (front ++ words ∷ []) all → ⊥

-- The text with this number writes a packet, whose frame isn't seen as that at its interface.
pub record IsUnseen (policy : PolicyFacts) (texts : List (List (List ℕ))) (number interface : ℕ) : Type 0 where
  pub front : List (List (List ℕ))
  pub words : List (List ℕ)
  pub rest : List (List (List ℕ))
  pub spelt : texts ≡ front ++ words ∷ rest
  pub counted : number ≡ length front + 1
  pub before : List QuestionFacts
  pub question : QuestionFacts
  pub right : AreQuestions 0 (front ++ words ∷ []) (before ++ question ∷ [])
  pub place : interface ≡ question.tuple.interface
  pub unseen : IsFrame (frame_bytes (section_of interface policy).own question)
      (record { number = interface; own = (section_of interface policy).own }) (seen_facts question) → ⊥

-- a fault of the text with this number, from 1, where the packet before was seen in this second
abbrev pub IsFaultAt : PolicyFacts → ℕ → ℕ → List (List ℕ) → QuestionFault → Type 0
IsFaultAt policy before number words (Wrong n form) =
    (n ≡ number) × (form ≡ form_in words) × ((q : QuestionFacts) → IsQuestion before words q → ⊥)
IsFaultAt policy before number words (NoWayOut n interface) = (n ≡ number) × (q : QuestionFacts) × IsQuestion before words q
    × (interface ≡ q.tuple.interface)
    × (IsFrame (frame_bytes (section_of q.tuple.interface policy).own q)
    (record { number = q.tuple.interface; own = (section_of q.tuple.interface policy).own }) (seen_facts q) → ⊥)
IsFaultAt policy before number words (Run fault) = fault ≡ Memory

-- a fault of the packets' texts, or memory ran out
abbrev pub IsTextFault : PolicyFacts → List (List (List ℕ)) → QuestionFault → Type 0
IsTextFault policy texts (Wrong number form) = (wrong : IsWrong texts number) × (form ≡ form_in wrong.words)
IsTextFault policy texts (NoWayOut number interface) = IsUnseen policy texts number interface
IsTextFault policy texts (Run fault) = fault ≡ Memory

-- a fault of the policy's text, or of the packets' texts under the policy, or memory ran out or a write failed
abbrev pub IsAnswerFault : List ℕ → List (List (List ℕ)) → QuestionFault → Type 0
IsAnswerFault text texts fault =
    ((policy : PolicyFacts) × IsPolicyText text policy × IsTextFault policy texts fault)
    ⊎ ((cause : PolicyFault) × IsPolicyFault text cause × (fault ≡ Run (policy_fault cause)))
    ⊎ (fault ≡ Run Memory) ⊎ (fault ≡ Run Write)
