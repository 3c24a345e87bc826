-- A capture whose packets are judged by two policies while they come: what was read and written at its end, and where a fault
-- ended it.
use Rattle.std.specs.Prelude.{◌≡◌, ◌≢◌, ◌+◌, ◌≤◌, ◌++◌, ◌⊎◌, ℕ, Bool, List, [], Option, length}
use Rattle.std.specs.Io.KnownBytes.{Appends, Consumes, IsAtEnd}
use Rattle.packet_view.specs.Captures.{AreRecords, IsEnd, IsTooLong, PacketFacts, RecordFacts, end_of, packets_at}
use Rattle.packet_view.specs.declared.capture.Order.{Order}
use Rattle.session_state.specs.declared.verdict.Verdict.{Verdict}
use Rattle.racl_io.specs.declared.fault.Fault.{Fault}
use Rattle.racl_io.specs.declared.fault.Fault.TheVariants.{LongRecord, Memory, Read, TooLarge, Write}
use Rattle.racl_io.specs.Sinks.{GotFront}
use Rattle.capture_stream.specs.Lives.{most_live}
use Rattle.compared_verdicts.specs.Changes.{ChangeFacts, PairFacts, changes_from}
use Rattle.compared_verdicts.specs.ChangeReports.{AreLines, end_of_report, totals_of}
use Rattle.compared_verdicts.specs.declared.change_totals.ChangeTotals.{ChangeTotals}

-- which verdicts on packets are right by a policy
abbrev pub Rightness : Type 1
Rightness = List PacketFacts → List Verdict → Type 0

-- verdicts on these packets that are right by the policy so far, and by the one that is to take its place
pub record BothVerdicts (Before After : Rightness) (packets : List PacketFacts) : Type 0 where
  pub befores : List Verdict
  pub afters : List Verdict
  pub by_before : packets ≢ [] → Before packets befores
  pub by_after : packets ≢ [] → After packets afters
  pub each_before : length befores ≡ length packets
  pub each_after : length afters ≡ length packets

-- Of the bytes that the source gave these are whole records at the front, before the rest, and their packets have these verdicts
-- by the two policies.
pub record HaveCompared (Before After : Rightness) (order : Order) (before after : Option (List ℕ)) (rest : List ℕ) : Type 0 where
  pub read : List ℕ
  pub consumed : Consumes before after read
  pub packets : List RecordFacts
  pub records : AreRecords order read packets rest
  pub verdicts : BothVerdicts Before After (packets_at 0 packets)

-- what the change of policy changes of them
abbrev pub changes_in : {Before After : Rightness} {order : Order} {before after : Option (List ℕ)} {rest : List ℕ} → PairFacts
    → HaveCompared Before After order before after rest → List ChangeFacts
changes_in policies compared = changes_from policies 1 compared.verdicts.befores compared.verdicts.afters (packets_at 0 compared.packets)

-- what is changed of packets at the front was written, and no more
pub record HasToldSome (policies : PairFacts) (Before After : Rightness) (order : Order) (before after old new : Option (List ℕ)) (rest : List ℕ) : Type 0 where
  pub compared : HaveCompared Before After order before after rest
  pub lines : List ℕ
  pub are : AreLines policies.after (changes_in policies compared) lines
  pub text : Appends old new lines

-- the source gave all its bytes, and all that is told of the packets of all records was written
pub record HasToldAll (policies : PairFacts) (Before After : Rightness) (order : Order) (before after old new : Option (List ℕ)) (totals : ChangeTotals) : Type 0 where
  pub rest : List ℕ
  pub compared : HaveCompared Before After order before after rest
  pub ended : IsAtEnd after
  pub truncated : Bool
  pub end : IsEnd order rest (end_of truncated)
  pub counted : totals ≡ totals_of (changes_in policies compared) (length compared.packets) truncated
  pub lines : List ℕ
  pub are : AreLines policies.after (changes_in policies compared) lines
  pub text : Appends old new (lines ++ end_of_report totals)

-- of what is told of packets at the front, or at the end of all, a front was written
pub record HasToldPart (policies : PairFacts) (Before After : Rightness) (order : Order) (before after old new : Option (List ℕ)) : Type 0 where
  pub rest : List ℕ
  pub compared : HaveCompared Before After order before after rest
  pub lines : List ℕ
  pub are : AreLines policies.after (changes_in policies compared) lines
  pub front : GotFront old new lines
      ⊎ ((truncated : Bool) × IsAtEnd after × IsEnd order rest (end_of truncated)
      × GotFront old new (lines ++ end_of_report (totals_of (changes_in policies compared) (length compared.packets) truncated)))

-- Why not all was told. Where a read failed, all whole records were compared that were read before.
abbrev pub IsComparingFault : PairFacts → Rightness → Rightness → Order → Option (List ℕ) → Option (List ℕ) → Option (List ℕ) → Option (List ℕ) → Fault → Type 0
IsComparingFault policies Before After order before after old new Memory = (rest : List ℕ) × HasToldSome policies Before After order before after old new rest
IsComparingFault policies Before After order before after old new Read =
    (rest : List ℕ) × HasToldSome policies Before After order before after old new rest × (truncated : Bool) × IsEnd order rest (end_of truncated)
IsComparingFault policies Before After order before after old new (LongRecord number) =
    (rest : List ℕ) × (told : HasToldSome policies Before After order before after old new rest) × IsTooLong order rest
    × (number ≡ length told.compared.packets + 1)
IsComparingFault policies Before After order before after old new TooLarge =
    (rest : List ℕ) × (told : HasToldSome policies Before After order before after old new rest) × (most_live ≤ length told.compared.read)
IsComparingFault policies Before After order before after old new Write = HasToldPart policies Before After order before after old new
IsComparingFault policies Before After order before after old new fault = ⊥
