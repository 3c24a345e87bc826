-- A report on one capture, whose packets are told in lines while they come: what was read and written at its end, and where a
-- fault ended it.
use Rattle.std.specs.Prelude.{◌≡◌, ◌≢◌, ◌+◌, ◌<◌, ◌≤◌, ◌++◌, ℕ, Bool, List, [], Option, length}
use Rattle.std.specs.Io.KnownBytes.{Appends, Consumes, IsAtEnd}
use Rattle.packet_view.specs.Captures.{AreRecords, IsEnd, IsTooLong, PacketFacts, RecordFacts, end_of, packets_at}
use Rattle.session_state.specs.declared.verdict.Verdict.{Verdict}
use Rattle.racl_io.specs.declared.fault.Fault.{Fault}
use Rattle.racl_io.specs.declared.fault.Fault.TheVariants.{LongRecord, Memory, Read, TooLarge, Write}
use Rattle.racl_io.specs.declared.totals_and_truncation.Totals.{Totals}
use Rattle.racl_io.specs.Reports.{totals_of}
use Rattle.racl_io.specs.Sinks.{GotFront}
use Rattle.racl_io.specs.Tellings.{lines_in, told_alone}
use Rattle.capture_stream.specs.Savings.{Manner, Outputs}
use Rattle.filter_run.specs.Starts.{IsReadOut, IsUnreadRest, Start, most_at}
use Rattle.filter_run.specs.declared.capture_report.ReportedCapture.{ReportedCapture}

-- Of the bytes that were read before, and that the source gave, these are whole records at the front, before the rest, and what
-- is told of their packets was written, and no more, and they were given to what saves them, and no others.
pub record HasToldSome {J K : Type 0} (Judged : J → List PacketFacts → List Verdict → Type 0) (manner : Manner K) (begun : J) (start : Start)
    (before after : Option (List ℕ)) (old new : Outputs K) (rest : List ℕ) : Type 0 where
  pub read : List ℕ
  pub consumed : Consumes before after read
  pub packets : List RecordFacts
  pub records : AreRecords start.order (start.front ++ read) packets rest
  pub verdicts : List Verdict
  pub judged : packets ≢ [] → Judged begun (packets_at 0 packets) verdicts
  pub count : length verdicts ≡ length packets
  pub text : Appends old.report new.report (lines_in manner.wording 1 (packets_at 0 packets) verdicts)
  pub whole : List ℕ
  pub spelt : start.front ++ read ≡ whole ++ rest
  pub saved : manner.saved old.saver start.order whole verdicts new.saver

-- the source gave all its bytes, which are no more than may come, and these are the verdicts on the packets of all records, and the totals over them
pub record HasJudgedAll {J : Type 0} (Judged : J → List PacketFacts → List Verdict → Type 0) (begun : J) (start : Start) (before after : Option (List ℕ))
    (totals : Totals) : Type 0 where
  pub read : List ℕ
  pub consumed : Consumes before after read
  pub ended : IsAtEnd after
  pub few : length (start.front ++ read) ≤ most_at start.input
  pub packets : List RecordFacts
  pub rest : List ℕ
  pub records : AreRecords start.order (start.front ++ read) packets rest
  pub truncated : Bool
  pub end : IsEnd start.order rest (end_of truncated)
  pub verdicts : List Verdict
  pub judged : packets ≢ [] → Judged begun (packets_at 0 packets) verdicts
  pub count : length verdicts ≡ length packets
  pub counted : totals ≡ totals_of verdicts (told_alone (length packets) truncated)

-- and what is told of them was written, what saves them was given their records, and those who judged them have no others
pub record HasToldAll {J K : Type 0} (Became : J → List PacketFacts → List Verdict → J → Type 0) (Judged : J → List PacketFacts → List Verdict → Type 0)
    (manner : Manner K) (begun : J) (start : Start) (before after : Option (List ℕ)) (old new : Outputs K) (told : ReportedCapture J) : Type 0 where
  pub all : HasJudgedAll Judged begun start before after told.totals
  pub text : Appends old.report new.report (lines_in manner.wording 1 (packets_at 0 all.packets) all.verdicts)
  pub whole : List ℕ
  pub spelt : start.front ++ all.read ≡ whole ++ all.rest
  pub saved : manner.saved old.saver start.order whole all.verdicts new.saver
  pub stand : Became begun (packets_at 0 all.packets) all.verdicts told.judges

-- Of the bytes that were read before, and that the source gave, these are whole records at the front, and of what is told of their
-- packets a front was written.
pub record HasToldPart {J K : Type 0} (Judged : J → List PacketFacts → List Verdict → Type 0) (manner : Manner K) (begun : J) (start : Start)
    (before after : Option (List ℕ)) (old new : Outputs K) : Type 0 where
  pub read : List ℕ
  pub consumed : Consumes before after read
  pub packets : List RecordFacts
  pub rest : List ℕ
  pub records : AreRecords start.order (start.front ++ read) packets rest
  pub verdicts : List Verdict
  pub judged : packets ≢ [] → Judged begun (packets_at 0 packets) verdicts
  pub count : length verdicts ≡ length packets
  pub front : GotFront old.report new.report (lines_in manner.wording 1 (packets_at 0 packets) verdicts)

-- Why not all was told. Where a read failed, all whole records were told that were read before. A record that is too long is told of
-- once all of the input was read, where the capture is part of one.
abbrev pub IsLiveFault : {J K : Type 0} → (J → List PacketFacts → List Verdict → Type 0) → Manner K → J → Start
    → Option (List ℕ) → Option (List ℕ) → Outputs K → Outputs K → Fault → Type 0
IsLiveFault Judged manner begun start before after old new Memory = (rest : List ℕ) × HasToldSome Judged manner begun start before after old new rest
IsLiveFault Judged manner begun start before after old new Read =
    (rest : List ℕ) × HasToldSome Judged manner begun start before after old new rest × IsUnreadRest start.input start.order rest
IsLiveFault Judged manner begun start before after old new (LongRecord number) =
    (rest : List ℕ) × (told : HasToldSome Judged manner begun start before after old new rest) × IsTooLong start.order rest × (number ≡ length told.packets + 1)
    × IsReadOut start told.read after
IsLiveFault Judged manner begun start before after old new TooLarge =
    (rest : List ℕ) × (told : HasToldSome Judged manner begun start before after old new rest) × (most_at start.input < length (start.front ++ told.read))
IsLiveFault Judged manner begun start before after old new Write = HasToldPart Judged manner begun start before after old new
IsLiveFault Judged manner begun start before after old new fault = ⊥
