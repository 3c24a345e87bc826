-- Several captures whose packets are told as their records become whole: what came and was written, and where a fault ended it.
use Rattle.std.specs.Prelude.{◌≡◌, ◌≢◌, ◌+◌, ◌<◌, ◌≤◌, ◌++◌, ◌⊎◌, ℕ, List, [], ◌∷◌, Option, None, Some, length}
use Rattle.std.specs.Io.KnownBytes.{Appends}
use Rattle.packet_view.specs.Captures.{IsHeaderFault, PacketFacts}
use Rattle.packet_view.specs.declared.capture.CaptureFault.{CaptureFault}
use Rattle.session_state.specs.declared.verdict.Verdict.{Verdict}
use Rattle.racl_io.specs.declared.fault.Fault.TheVariants.{LongRecord, Memory, Read, TooLarge, Write}
use Rattle.racl_io.specs.Faults.{capture_fault}
use Rattle.racl_io.specs.Reports.{totals_of}
use Rattle.racl_io.specs.Sinks.{GotFront}
use Rattle.racl_io.specs.Tellings.{Wording, lines_in}
use Rattle.capture_stream.specs.Arrivals.{AreAllGiven, Gives, IsNamed, IsWhole, Part}
use Rattle.capture_stream.specs.Lives.{most_live}
use Rattle.filter_run.specs.Turns.{AreTurns, AreTurnsToLong, Turn, bytes_at, cuts_of, packets_of, parts_of, records_at}
use Rattle.capture_stream.specs.declared.arrivals.FaultAt.{FaultAt}
use Rattle.filter_run.specs.declared.captures_report.ReportedCaptures.{ReportedCaptures}

-- Parts came, and behind them these; and what is told of the packets that the first ones made whole was written, and no more.
pub record HasToldTurns {J : Type 0} (Are : List Turn → Type 0) (Judged : J → List PacketFacts → List Verdict → Type 0) (wording : Wording) (begun : J)
    (before after : Option (List Part)) (old new : Option (List ℕ)) (gone : List Part) : Type 0 where
  pub turns : List Turn
  pub are : Are turns
  pub given : Gives before after (parts_of turns ++ gone)
  pub verdicts : List Verdict
  pub judged : packets_of turns ≢ [] → Judged begun (packets_of turns) verdicts
  pub count : length verdicts ≡ length (packets_of turns)
  pub text : Appends old new (lines_in wording 1 (packets_of turns) verdicts)

-- all parts came, of each capture to its end, and what is told of all their packets was written; these are the totals over them, and those who judged them
pub record HasToldCaptures {J : Type 0} (Became : J → List PacketFacts → List Verdict → J → Type 0) (Judged : J → List PacketFacts → List Verdict → Type 0)
    (wording : Wording) (begun : J) (before after : Option (List Part)) (old new : Option (List ℕ)) (told : ReportedCaptures J) : Type 0 where
  pub all : HasToldTurns AreTurns Judged wording begun before after old new []
  pub ended : AreAllGiven after
  pub whole : before ≢ None → (interface : ℕ) → IsWhole interface (parts_of all.turns)
  pub stand : Became begun (packets_of all.turns) all.verdicts told.judges
  pub cuts : told.cuts.items ≡ cuts_of all.turns
  pub totals : told.totals ≡ totals_of all.verdicts (cuts_of all.turns)

-- parts came, and of what is told of the packets that they made whole a front was written
pub record HasToldFront {J : Type 0} (Judged : J → List PacketFacts → List Verdict → Type 0) (wording : Wording) (begun : J)
    (before after : Option (List Part)) (old new : Option (List ℕ)) : Type 0 where
  pub turns : List Turn
  pub are : AreTurns turns ⊎ AreTurnsToLong turns
  pub given : Gives before after (parts_of turns)
  pub verdicts : List Verdict
  pub judged : packets_of turns ≢ [] → Judged begun (packets_of turns) verdicts
  pub count : length verdicts ≡ length (packets_of turns)
  pub front : GotFront old new (lines_in wording 1 (packets_of turns) verdicts)

-- a part came whose capture has this fault of its header: too few bytes only at its end
pub record HasWrongHeader (turns : List Turn) (part : Part) (found : FaultAt) : Type 0 where
  pub named : found.interface ≡ Some part.interface
  pub cause : CaptureFault
  pub wrong : IsHeaderFault (bytes_at part.interface turns ++ part.bytes) cause
  pub same : found.fault ≡ capture_fault cause
  pub short : length (bytes_at part.interface turns ++ part.bytes) < 24 → part.bytes ≡ []

-- the last part is of the capture of the interface that is named
abbrev pub IsOfLast : List Turn → Option ℕ → Type 0
IsOfLast [] interface = ⊥
IsOfLast (turn ∷ before) interface = interface ≡ Some turn.interface

-- the next record of the last part's capture is too long
abbrev pub HasLongRecord : List Turn → FaultAt → Type 0
HasLongRecord [] found = ⊥
HasLongRecord (turn ∷ before) found = found.fault ≡ LongRecord (length (records_at turn.interface (turn ∷ before)) + 1)

-- no part was lost, or one of the capture that is named
abbrev pub AreLost : List Part → Option ℕ → Type 0
AreLost [] interface = interface ≡ None
AreLost (part ∷ others) interface = (interface ≡ Some part.interface) × (others ≡ [])

-- Why not all was told. Where a capture couldn't be read or has a fault, all was told that came before.
abbrev pub IsFaultOfComing : {J : Type 0} → (J → List PacketFacts → List Verdict → Type 0) → Wording → J → Option (List Part) → Option (List Part)
    → Option (List ℕ) → Option (List ℕ) → FaultAt → Type 0
IsFaultOfComing Judged wording begun before after old new found =
    ((found.fault ≡ Memory) × (gone : List Part) × AreLost gone found.interface × HasToldTurns AreTurns Judged wording begun before after old new gone)
    ⊎ ((found.fault ≡ Read) × IsNamed found.interface × HasToldTurns AreTurns Judged wording begun before after old new [])
    ⊎ ((part : Part) × (told : HasToldTurns AreTurns Judged wording begun before after old new (part ∷ [])) × HasWrongHeader told.turns part found)
    ⊎ ((told : HasToldTurns AreTurnsToLong Judged wording begun before after old new []) × IsOfLast told.turns found.interface × HasLongRecord told.turns found)
    ⊎ ((found.fault ≡ TooLarge) × (found.interface ≡ None) × (told : HasToldTurns AreTurns Judged wording begun before after old new [])
    × ((most_live ≤ length told.turns) ⊎ (most_live ≤ length (packets_of told.turns))))
    ⊎ ((found.fault ≡ Write) × (told : HasToldFront Judged wording begun before after old new) × IsOfLast told.turns found.interface)
