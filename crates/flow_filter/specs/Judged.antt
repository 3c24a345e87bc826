-- A packet with what came of it (this project's profile).
use Rattle.std.specs.Prelude.{◌≡◌, ℕ, List, map, Option, Some, None, All}
use Rattle.bihash_words.specs.Expiries.{expired_words}
use Rattle.bihash_words.specs.Maps.{Event, HasExpiry}
use Rattle.session_state.specs.declared.timeouts.Timeouts.{Timeouts}
use Rattle.session_state.specs.Decisions.{PatchFacts, decision_of}
use Rattle.session_state.specs.Sessions.{is_expired_at}
use Rattle.session_state.specs.declared.verdict.Verdict.{Verdict}
use Rattle.flow_filter.specs.Readings.{Framed, Reading, Ruled, Ruling}
use Rattle.flow_filter.specs.Updates.{Update, update_of, words_of}
use Rattle.flow_filter.specs.Verdicts.{verdict_of, verdict_of_rules}

-- A packet is settled by the rules alone, or it asks a table once, by its update. What came of that is there too: an event,
-- or a call.
pub data Asked (A : Type 0) : Type 0 where
  Settled : Asked A
  Asks : Update → A → Asked A

-- this holds of what came of an update, where there is one
abbrev pub WhereAsked : {A : Type 0} → Asked A → (A → Type 0) → Type 0
WhereAsked Settled P = Unit {0}
WhereAsked (Asks u this) P = P this

-- a packet's reading, and its one event on the bounded map of its flow's bucket; none where it has no flow
pub record Judged : Type 0 where
  pub reading : Reading
  pub asked : Asked Event

-- the words that count as expired at the packet's moment
abbrev pub expired_for : PatchFacts → List ℕ
expired_for patch = expired_words (is_expired_at patch.times patch.moment)

-- The event has the key of the flow, and the change is what the packet decides on the value that was found. In a full
-- bucket a session may go for it that is expired at the packet's moment.
pub record IsEventOf (u : Update) (e : Event) : Type 0 where
  pub key : e.key ≡ words_of u.key
  pub change : e.change ≡ decision_of u.patch e.found
  pub expiry : HasExpiry (expired_for u.patch) e

abbrev pub IsAskedBy : Option Update → Asked Event → Type 0
IsAskedBy update Settled = update ≡ None
IsAskedBy update (Asks u e) = (update ≡ Some u) × IsEventOf u e

-- the packet's one event is that of its update, and a packet without a flow has none
abbrev pub IsAsked : Timeouts → Judged → Type 0
IsAsked times j = IsAskedBy (update_of times j.reading) j.asked

abbrev pub AreAsked : Timeouts → List Judged → Type 0
AreAsked times js = All (IsAsked times) js

-- the verdict of the rules alone, or by its event
abbrev pub verdict_by_event : Ruling → Asked Event → Verdict
verdict_by_event ruling Settled = verdict_of_rules ruling
verdict_by_event ruling (Asks u e) = verdict_of u.patch ruling e.found e.reply

abbrev pub verdict_with : Reading → Asked Event → Verdict
verdict_with (Framed verdict) asked = verdict
verdict_with (Ruled moment tuple ruling) asked = verdict_by_event ruling asked

abbrev pub verdict_on : Judged → Verdict
verdict_on j = verdict_with j.reading j.asked

abbrev pub verdicts_on : List Judged → List Verdict
verdicts_on js = map verdict_on js

abbrev pub readings_of : List Judged → List Reading
readings_of js = map (λ j. j.reading) js
