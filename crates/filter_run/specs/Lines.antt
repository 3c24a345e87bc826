-- Packets that are told in lines: what was written so far, and where that failed.
use Rattle.std.specs.Prelude.{◌≡◌, ◌-◌, ◌<◌, ◌++◌, ◌∷◌, ◌^◌, ℕ, List, [], Option, length}
use Rattle.std.specs.List.{flat_map}
use Rattle.std.specs.Io.KnownBytes.{Appends}
use Rattle.session_state.specs.declared.verdict.Verdict.{Verdict}
use Rattle.racl_io.specs.declared.fault.Fault.{Fault}
use Rattle.racl_io.specs.declared.fault.Fault.TheVariants.{Memory, Write}
use Rattle.racl_io.specs.Reports.{passed, without_pages}
use Rattle.racl_io.specs.Sinks.{GotFront}
use Rattle.racl_io.specs.Tellings.{Wording, with_write}
use Rattle.capture_shards.specs.Sharing.{lines_at}
use Rattle.filter_run.specs.Batches.{JudgedBatch, numbers_in, packets_in, said_of}
use Rattle.filter_run.specs.declared.told_lines.ToldLines.{ToldLines}

-- no packet was told
pub record IsFresh {L W : Type 0} (lines : ToldLines L W) : Type 0 where
  pub packets : lines.packets ≡ 0
  pub passing : lines.passed ≡ 0
  pub lacking : lines.without_pages ≡ 0

-- what was said of packets is counted
pub record HasCounts {L W : Type 0} (lines : ToldLines L W) (said : List Verdict) : Type 0 where
  pub packets : lines.packets ≡ length said
  pub passing : lines.passed ≡ passed said
  pub lacking : lines.without_pages ≡ without_pages said

-- what is told of a batch, by its packets' numbers
abbrev pub batch_text : Wording → JudgedBatch Verdict → List ℕ
batch_text wording judged = lines_at wording (numbers_in judged.batch) (packets_in judged.batch) judged.said

-- what is told of batches, one behind the other
abbrev pub text_of : Wording → List (JudgedBatch Verdict) → List ℕ
text_of wording judged = flat_map (batch_text wording) judged

-- the teller and the writer are those that began
pub record AreSame {L W : Type 0} (begun now : ToldLines L W) : Type 0 where
  pub teller : now.teller.ghost_name ≡ begun.teller.ghost_name
  pub writer : now.writer.ghost_name ≡ begun.writer.ghost_name

-- this was written, and these are the totals
pub record HasToldLines {L W : Type 0} (wording : L → Wording) (bytes : W → Option (List ℕ)) (failures : W → ℕ) (begun : ToldLines L W)
    (judged : List (JudgedBatch Verdict)) (now : ToldLines L W) : Type 0 where
  pub same : AreSame begun now
  pub words : wording now.teller.now ≡ wording begun.teller.now
  pub text : Appends (bytes begun.writer.now) (bytes now.writer.now) (text_of (wording begun.teller.now) judged)
  pub few : failures begun.writer.now < 2 ^ 64 - 1
  pub sound : failures now.writer.now ≡ failures begun.writer.now
  pub packets : now.packets ≡ length (said_of judged)
  pub passing : now.passed ≡ passed (said_of judged)
  pub lacking : now.without_pages ≡ without_pages (said_of judged)

-- all but the last batch was told, where memory ran out; or a front of all was written
abbrev pub IsCutText : Option (List ℕ) → Option (List ℕ) → (earlier all : List ℕ) → Fault → Type 0
IsCutText old new earlier all Memory = Appends old new earlier
IsCutText old new earlier all Write = GotFront old new all
IsCutText old new earlier all fault = ⊥

pub record HasCutLines {L W : Type 0} (wording : L → Wording) (bytes : W → Option (List ℕ)) (failures : W → ℕ) (begun : ToldLines L W)
    (judged : List (JudgedBatch Verdict)) (fault : Fault) (now : ToldLines L W) : Type 0 where
  pub same : AreSame begun now
  pub words : wording now.teller.now ≡ wording begun.teller.now
  pub earlier : List (JudgedBatch Verdict)
  pub last : JudgedBatch Verdict
  pub all : judged ≡ earlier ++ last ∷ []
  pub text : IsCutText (bytes begun.writer.now) (bytes now.writer.now) (text_of (wording begun.teller.now) earlier) (text_of (wording begun.teller.now) judged) fault
  pub failed : failures now.writer.now ≡ with_write (failures begun.writer.now) fault
