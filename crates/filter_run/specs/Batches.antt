-- Packets that come together, and what is said of them (this project's profile).
use Rattle.std.specs.Prelude.{◌≡◌, ◌+◌, ◌-◌, ◌<◌, ◌≤◌, ◌^◌, ℕ, zero, suc, All, IfSome, List, [], ◌∷◌, None, Option, Some, length, map, take}
use Rattle.std.specs.Global.{Vec}
use Rattle.std.specs.List.{flat_map}
use Rattle.packet_view.specs.Captures.{AreRecords, PacketFacts, RecordFacts, packets_at}
use Rattle.packet_view.specs.RecordLists.{records_from}
use Rattle.packet_view.specs.declared.capture.Order.{Order}
use Rattle.racl_io.specs.Buffers.{held_by}
use Rattle.capture_stream.specs.Found.{HaveFound}
use Rattle.filter_run.specs.declared.batch.Batch.{Batch}

-- whole records of one capture that came together, behind so many packets of all captures
pub record BatchFacts : Type 0 where
  pub others : ℕ
  pub interface : ℕ
  pub order : Order
  pub numbers : Option (List ℕ)
  pub bytes : List ℕ
  pub records : List RecordFacts

abbrev pub packets_in : BatchFacts → List PacketFacts
packets_in batch = packets_at batch.interface batch.records

-- so many numbers, of which this is the first
abbrev pub count_from : ℕ → ℕ → List ℕ
count_from n zero = []
count_from n (suc count) = n ∷ count_from (n + 1) count

-- numbers that are given, or else these
abbrev pub given_or : Option (List ℕ) → List ℕ → List ℕ
given_or None others = others
given_or (Some numbers) others = numbers

-- the numbers of its packets: those that are given, or else they follow those that came before
abbrev pub numbers_in : BatchFacts → List ℕ
numbers_in batch = given_or batch.numbers (count_from (batch.others + 1) (length batch.records))

-- how many packets batches have
abbrev pub total : List BatchFacts → ℕ
total [] = 0
total (batch ∷ batches) = length batch.records + total batches

-- numbers as a list
abbrev pub listed : Option (Vec ℕ) → Option (List ℕ)
listed None = None
listed (Some numbers) = Some numbers.items

-- what the code has of a batch
abbrev pub batch_facts : Batch → BatchFacts
batch_facts batch = record {
  others = batch.others;
  interface = batch.interface;
  order = batch.order;
  numbers = listed batch.numbers;
  bytes = take (length (held_by batch.bytes) - batch.found.behind) (held_by batch.bytes);
  records = records_from batch.order batch.found.count (held_by batch.bytes);
}

-- there are so many of these numbers, and they fit
pub record AreNumbers (count : ℕ) (numbers : List ℕ) : Type 0 where
  pub count_is : length numbers ≡ count
  pub fit : All (λ n. (1 ≤ n) × (n < 2 ^ 64 - 1)) numbers

-- its records are whole, and the numbers of their packets fit
pub record IsWhole (batch : Batch) : Type 0 where
  pub found : HaveFound batch.order (held_by batch.bytes) batch.found
  pub before : batch.others < 2 ^ 63
  pub few : batch.found.count < 2 ^ 63
  pub numbers : IfSome (listed batch.numbers) (AreNumbers batch.found.count)

-- the bytes of each are those of its records
abbrev pub AreAllWhole : List BatchFacts → Type 0
AreAllWhole [] = Unit {0}
AreAllWhole (batch ∷ batches) = AreRecords batch.order batch.bytes batch.records [] × AreAllWhole batches

-- a batch, and what is said of its packets
pub record JudgedBatch (V : Type 0) : Type 0 where
  pub batch : BatchFacts
  pub said : List V

abbrev pub batches_of : {V : Type 0} → List (JudgedBatch V) → List BatchFacts
batches_of judged = map (λ one. one.batch) judged

abbrev pub packets_of : {V : Type 0} → List (JudgedBatch V) → List PacketFacts
packets_of judged = flat_map (λ one. packets_in one.batch) judged

abbrev pub said_of : {V : Type 0} → List (JudgedBatch V) → List V
said_of judged = flat_map (λ one. one.said) judged

-- of each packet something is said
abbrev pub AreEach : {V : Type 0} → List (JudgedBatch V) → Type 0
AreEach [] = Unit {0}
AreEach (one ∷ others) = (length one.said ≡ length (packets_in one.batch)) × AreEach others
