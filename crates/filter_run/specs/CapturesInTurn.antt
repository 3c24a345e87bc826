-- Captures whose bytes are at hand, given one after the other (this project's profile).
use Rattle.std.specs.Prelude.{◌≡◌, ◌+◌, ℕ, List, [], ◌∷◌, None, length, true, ⊤}
use Rattle.std.specs.List.{flat_map}
use Rattle.packet_view.specs.Captures.{End, IsCapture, PacketFacts, RecordFacts}
use Rattle.racl_io.specs.CapturePackets.{HavePacketsTold}
use Rattle.racl_io.specs.declared.capture_bytes.CaptureBytes.{CaptureBytes}
use Rattle.racl_io.specs.declared.totals_and_truncation.Captured.{Captured}
use Rattle.capture_shards.specs.OwnRecords.{latest_of}
use Rattle.filter_run.specs.Batches.{BatchFacts, IsWhole, batch_facts, packets_in, total}
use Rattle.filter_run.specs.declared.batch.Batch.{Batch}
use Rattle.filter_run.specs.declared.captures_in_turn.CapturesInTurn.{CapturesInTurn}

-- the batch is the capture's, behind so many packets of others: its records are these, however it is read
pub record IsOfCapture (others : ℕ) (capture : CaptureBytes) (batch : BatchFacts) : Type 0 where
  pub behind : batch.others ≡ others
  pub interface : batch.interface ≡ capture.interface
  pub plain : batch.numbers ≡ None
  pub only : (records : List RecordFacts) (end : End) → IsCapture capture.bytes.items records end → batch.records ≡ records

-- the batches are those of the first captures, one of each, and their packets are numbered on
abbrev pub AreInTurn : ℕ → List CaptureBytes → List BatchFacts → Type 0
AreInTurn others captures [] = ⊤
AreInTurn others [] (batch ∷ batches) = ⊥
AreInTurn others (capture ∷ captures) (batch ∷ batches) = IsOfCapture others capture batch × AreInTurn (others + length batch.records) captures batches

-- the capture was read, and is a batch
abbrev pub HasReadCapture : ℕ → CaptureBytes → Batch → Type 0
HasReadCapture others capture batch = IsWhole batch × IsOfCapture others capture (batch_facts batch)

-- all of them are captures
abbrev pub AreReadable : List CaptureBytes → Type 0
AreReadable captures = (told : List Captured) × (packets : List PacketFacts) × HavePacketsTold captures told packets

-- the first captures were given and their packets counted, and the latest second of these is noted, where it is to be
pub record HasGivenInTurn (begun : CapturesInTurn) (batches : List BatchFacts) (now : CapturesInTurn) : Type 0 where
  pub captures : now.captures ≡ begun.captures
  pub noted : now.noted ≡ begun.noted
  pub readable : AreReadable begun.captures.now
  pub turns : AreInTurn 0 begun.captures.now batches
  pub given : now.given ≡ length batches
  pub packets : now.packets ≡ total batches
  pub latest : begun.noted ≡ true → now.latest ≡ latest_of (flat_map packets_in batches)

-- all of them were given, and no more is told of them
pub record HasGivenAllInTurn (begun : CapturesInTurn) (batches : List BatchFacts) (captures : List Captured) (now : CapturesInTurn) : Type 0 where
  pub gave : HasGivenInTurn begun batches now
  pub all : length batches ≡ length begun.captures.now
  pub none : captures ≡ []
