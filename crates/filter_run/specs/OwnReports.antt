-- A report on one's own packets of one capture, which are told in lines while they come: what was read and written at its end, and
-- where a fault ended it.
use Rattle.std.specs.Prelude.{◌≡◌, ◌≢◌, ◌+◌, ◌<◌, ◌≤◌, ◌++◌, ℕ, Bool, List, [], Option, length, true}
use Rattle.std.specs.List.{AllZip, concat}
use Rattle.std.specs.Io.KnownBytes.{Appends, Consumes, IsAtEnd}
use Rattle.packet_view.specs.Captures.{AreRecords, IsEnd, IsTooLong, PacketFacts, RecordFacts, end_of, packets_at}
use Rattle.session_state.specs.declared.verdict.Verdict.{Verdict}
use Rattle.racl_io.specs.declared.fault.Fault.{Fault}
use Rattle.racl_io.specs.declared.fault.Fault.TheVariants.{LongRecord, Memory, Read, TooLarge, Write}
use Rattle.racl_io.specs.Reports.{totals_of}
use Rattle.racl_io.specs.Sinks.{GotFront}
use Rattle.racl_io.specs.Tellings.{Wording, told_alone}
use Rattle.capture_stream.specs.Savings.{Manner, Outputs}
use Rattle.capture_shards.specs.OwnRecords.{IsWholeRecord, latest_of}
use Rattle.capture_shards.specs.Sharing.{lines_at, own_numbers}
use Rattle.capture_shards.specs.Shards.{Own, own_in, own_packets}
use Rattle.filter_run.specs.Starts.{IsReadOut, IsUnreadRest, Start, most_at}
use Rattle.filter_run.specs.declared.own_report.ReportedShare.{ReportedShare}

-- what is told of one's own packets, with their numbers among all
abbrev pub own_lines : Wording → Own → List PacketFacts → List Verdict → List ℕ
own_lines wording own packets verdicts = lines_at wording (own_numbers own 1 packets) (own_packets own 1 packets) verdicts

-- Of the bytes that were read before, and that the source gave, these are whole records at the front, before the rest; one's own
-- packets of these were judged.
pub record HasJudgedOwn {J : Type 0} (Judged : J → List PacketFacts → List Verdict → Type 0) (begun : J) (own : Own) (start : Start)
    (before after : Option (List ℕ)) (rest : List ℕ) : Type 0 where
  pub read : List ℕ
  pub consumed : Consumes before after read
  pub packets : List RecordFacts
  pub records : AreRecords start.order (start.front ++ read) packets rest
  pub pieces : List (List ℕ)
  pub each : AllZip (IsWholeRecord start.order) pieces packets
  pub spelt : start.front ++ read ≡ concat pieces ++ rest
  pub verdicts : List Verdict
  pub judged : own_packets own 1 (packets_at 0 packets) ≢ [] → Judged begun (own_packets own 1 (packets_at 0 packets)) verdicts
  pub count : length verdicts ≡ length (own_packets own 1 (packets_at 0 packets))

-- What is told of them was written, and no more; and their records, as they stand there, were given to what saves them, and no others.
pub record HasToldOwnSome {J K : Type 0} (Judged : J → List PacketFacts → List Verdict → Type 0) (manner : Manner K) (begun : J) (own : Own) (start : Start)
    (before after : Option (List ℕ)) (old new : Outputs K) (rest : List ℕ) : Type 0 where
  pub by : HasJudgedOwn Judged begun own start before after rest
  pub text : Appends old.report new.report (own_lines manner.wording own (packets_at 0 by.packets) by.verdicts)
  pub saved : manner.saved old.saver start.order (concat (own_in own 1 (packets_at 0 by.packets) by.pieces)) by.verdicts new.saver

-- So it is of all packets: the source gave all its bytes, which are no more than may come. Those who judged have no other packets.
-- So many packets came in all, and the latest second of any is noted, where it is to be.
pub record HasToldAllOwn {J K : Type 0} (Became : J → List PacketFacts → List Verdict → J → Type 0) (Judged : J → List PacketFacts → List Verdict → Type 0)
    (manner : Manner K) (begun : J) (noted : Bool) (own : Own) (start : Start) (before after : Option (List ℕ)) (old new : Outputs K)
    (told : ReportedShare J) : Type 0 where
  pub rest : List ℕ
  pub all : HasToldOwnSome Judged manner begun own start before after old new rest
  pub ended : IsAtEnd after
  pub few : length (start.front ++ all.by.read) ≤ most_at start.input
  pub truncated : Bool
  pub end : IsEnd start.order rest (end_of truncated)
  pub counted : told.totals ≡ totals_of all.by.verdicts (told_alone (length (own_packets own 1 (packets_at 0 all.by.packets))) truncated)
  pub stand : Became begun (own_packets own 1 (packets_at 0 all.by.packets)) all.by.verdicts told.judges
  pub seen : told.seen ≡ length all.by.packets
  pub latest : noted ≡ true → told.latest ≡ latest_of (packets_at 0 all.by.packets)

-- Of what is told of one's own packets a front was written.
pub record HasToldOwnPart {J K : Type 0} (Judged : J → List PacketFacts → List Verdict → Type 0) (manner : Manner K) (begun : J) (own : Own) (start : Start)
    (before after : Option (List ℕ)) (old new : Outputs K) : Type 0 where
  pub rest : List ℕ
  pub by : HasJudgedOwn Judged begun own start before after rest
  pub front : GotFront old.report new.report (own_lines manner.wording own (packets_at 0 by.packets) by.verdicts)

-- Why not all was told. Where a read failed, one's own packets were told of all whole records that were read before. A record that is
-- too long is told of once all of the input was read, where the capture is part of one; its number is that among all packets.
abbrev pub IsOwnFault : {J K : Type 0} → (J → List PacketFacts → List Verdict → Type 0) → Manner K → J → Own → Start
    → Option (List ℕ) → Option (List ℕ) → Outputs K → Outputs K → Fault → Type 0
IsOwnFault Judged manner begun own start before after old new Memory = (rest : List ℕ) × HasToldOwnSome Judged manner begun own start before after old new rest
IsOwnFault Judged manner begun own start before after old new Read =
    (rest : List ℕ) × HasToldOwnSome Judged manner begun own start before after old new rest × IsUnreadRest start.input start.order rest
IsOwnFault Judged manner begun own start before after old new (LongRecord number) =
    (rest : List ℕ) × (told : HasToldOwnSome Judged manner begun own start before after old new rest) × IsTooLong start.order rest
    × (number ≡ length told.by.packets + 1) × IsReadOut start told.by.read after
IsOwnFault Judged manner begun own start before after old new TooLarge =
    (rest : List ℕ) × (told : HasToldOwnSome Judged manner begun own start before after old new rest) × (most_at start.input < length (start.front ++ told.by.read))
IsOwnFault Judged manner begun own start before after old new Write = HasToldOwnPart Judged manner begun own start before after old new
IsOwnFault Judged manner begun own start before after old new fault = ⊥
