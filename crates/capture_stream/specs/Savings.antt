-- Records of a capture that are saved one part after the other.
use Rattle.std.specs.Prelude.{◌≡◌, ◌++◌, ℕ, List, Option, length}
use Rattle.packet_view.specs.Captures.{AreRecords, RecordFacts}
use Rattle.packet_view.specs.declared.capture.Order.{Order}
use Rattle.session_state.specs.declared.verdict.Verdict.{Verdict}
use Rattle.racl_io.specs.Tellings.{Wording}

-- the bytes are those of whole records with these facts
pub record AreBytesOf (order : Order) (packets : List RecordFacts) (bytes : List ℕ) : Type 0 where
  pub rest : List ℕ
  pub are : AreRecords order (bytes ++ rest) packets rest

-- as what it began, and whatever it was given so far, these records may follow, of which there are as many verdicts
pub record MaySave {K : Type 0} (Saved : K → Order → List ℕ → List Verdict → K → Type 0) (now : K) (order : Order) (records : List ℕ)
    (verdicts : List Verdict) : Type 0 where
  pub begun : K
  pub bytes : List ℕ
  pub said : List Verdict
  pub stand : Saved begun order bytes said now
  pub packets : List RecordFacts
  pub whole : AreBytesOf order packets records
  pub each : length verdicts ≡ length packets

-- these records, of whose packets this was said, followed those so far, whatever these were
abbrev pub SavesMore : {K : Type 0} → (K → Order → List ℕ → List Verdict → K → Type 0) → K → Order → List ℕ → List Verdict → K → Type 0
SavesMore {K} Saved old order records verdicts new = (begun : K) (bytes : List ℕ) (said : List Verdict) → Saved begun order bytes said old
    → Saved begun order (bytes ++ records) (said ++ verdicts) new

-- in which words packets are told, and what becomes of what saves them
pub record Manner (K : Type 0) : Type 1 where
  pub wording : Wording
  pub saved : K → Order → List ℕ → List Verdict → K → Type 0

abbrev pub manner_of : {K : Type 0} → Wording → (K → Order → List ℕ → List Verdict → K → Type 0) → Manner K
manner_of wording saved = record { wording = wording; saved = saved }

-- what is written to: the bytes that the report's device has, where they are known, and what saves packets
pub record Outputs (K : Type 0) : Type 0 where
  pub report : Option (List ℕ)
  pub saver : K

abbrev pub outputs : {K : Type 0} → Option (List ℕ) → K → Outputs K
outputs report saver = record { report = report; saver = saver }
