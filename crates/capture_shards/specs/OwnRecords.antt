-- The records of one's own packets among those of a capture (this project's profile).
use Rattle.std.specs.Prelude.{◌≡◌, ◌++◌, ℕ, List, [], ◌∷◌, length, max}
use Rattle.std.specs.List.{AllZip, concat}
use Rattle.packet_view.specs.Captures.{IsPiece, IsRecord, PacketFacts, Record, RecordFacts, packets_at}
use Rattle.packet_view.specs.declared.capture.Order.{Order}
use Rattle.capture_shards.specs.Shards.{Own, own_in}
use Rattle.capture_shards.specs.Sharing.{own_numbers}
use Rattle.capture_shards.specs.declared.own_records.OwnRecords.{OwnRecords}

-- the bytes are one whole record that says this
abbrev pub IsWholeRecord : Order → List ℕ → RecordFacts → Type 0
IsWholeRecord order bytes facts = (header : List ℕ) × (bytes ≡ header ++ facts.frame) × IsRecord order header facts

-- no whole record is at the front of the bytes
abbrev pub HasNoRecord : Order → List ℕ → Type 0
HasNoRecord order bytes = (facts : RecordFacts) (rest : List ℕ) → IsPiece order bytes (Record facts rest) → ⊥

-- the latest second of these packets, and 0 where there are none
abbrev pub latest_of : List PacketFacts → ℕ
latest_of [] = 0
latest_of (packet ∷ packets) = max packet.moment (latest_of packets)

-- Some whole records and the numbers of their packets; how many records there are among which they stand, and the latest second of
-- any of these.
pub record OwnFacts : Type 0 where
  pub bytes : List ℕ
  pub numbers : List ℕ
  pub all : ℕ
  pub latest : ℕ

abbrev pub own_facts : OwnRecords → OwnFacts
own_facts own = record { bytes = own.bytes.items; numbers = own.numbers.items; all = own.all; latest = own.latest }

-- The bytes begin with whole records, the first of which has the packet with this number, and no further one stands behind them.
-- Of these the others are those of one's own packets, as they stand there, with the packets' numbers.
pub record AreOfOwn (own : Own) (n : ℕ) (order : Order) (bytes : List ℕ) (mine : OwnFacts) : Type 0 where
  pub pieces : List (List ℕ)
  pub records : List RecordFacts
  pub each : AllZip (IsWholeRecord order) pieces records
  pub rest : List ℕ
  pub spelt : bytes ≡ concat pieces ++ rest
  pub no_more : HasNoRecord order rest
  pub mine_are : mine.bytes ≡ concat (own_in own n (packets_at 0 records) pieces)
  pub numbers_are : mine.numbers ≡ own_numbers own n (packets_at 0 records)
  pub count : mine.all ≡ length records
  pub latest_is : mine.latest ≡ latest_of (packets_at 0 records)
