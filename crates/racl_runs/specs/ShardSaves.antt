-- Packets of a shard that are saved while their capture is read, each file's as a capture (this project's profile).
use Rattle.std.specs.Prelude.{◌≡◌, ◌++◌, ℕ, List, Option, take}
use Rattle.std.specs.List.{concat}
use Rattle.packet_view.specs.Captures.{End, HasFileHeader, IsCapture, RecordFacts, packets_at}
use Rattle.packet_view.specs.declared.capture.Order.{Order}
use Rattle.session_state.specs.declared.verdict.Verdict.{Verdict}
use Rattle.racl_views.specs.ChosenRecords.{AreRecordsOf}
use Rattle.racl_report.specs.declared.saved_packets.Saves.{Saves}
use Rattle.capture_shards.specs.Shards.{Own, own_in}
use Rattle.racl_runs.specs.LiveSaves.{HaveSaved}

-- The capture of one's own packets of a capture with these records: its header, and their records as they stand there.
pub record IsOwnCapture (own : Own) (capture : List ℕ) (records : List RecordFacts) (mine : List ℕ) : Type 0 where
  pub end : End
  pub are : IsCapture capture records end
  pub order : Order
  pub header : HasFileHeader order capture
  pub pieces : List (List ℕ)
  pub each : AreRecordsOf order pieces records
  pub rest : List ℕ
  pub spelt : capture ≡ take 24 capture ++ (concat pieces ++ rest)
  pub all : mine ≡ take 24 capture ++ concat (own_in own 1 (packets_at 0 records) pieces)

-- of one's own packets alone, on which these are the verdicts, files got those that were dropped, and those that passed
pub record HaveSavedOwn {S : Type 0} (sink : S → Option (List ℕ)) (own : Own) (capture : List ℕ) (records : List RecordFacts) (said : List Verdict)
    (before after : Saves S) : Type 0 where
  pub mine : List ℕ
  pub alone : IsOwnCapture own capture records mine
  pub saved : HaveSaved sink mine said before after
