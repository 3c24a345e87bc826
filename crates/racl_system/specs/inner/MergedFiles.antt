-- What of files whose packets are handed on together was read and not handed on, and which packets are next.
use Rattle.std.specs.Prelude.{◌≡◌, ◌≢◌, ◌≤◌, ◌<◌, ◌++◌, ◌==◌, ◌⊎◌, ℕ, true, List, [], Option, None, Some, drop, length, slice_get}
use Rattle.std.specs.Io.KnownBytes.{Consumes, IsAtEnd}
use Rattle.packet_view.specs.Captures.{HasFileHeader, IsCutRecord, IsHeaderFault, IsPiece, Record, RecordFacts}
use Rattle.packet_view.specs.declared.capture.CaptureFault.{CaptureFault}
use Rattle.packet_view.specs.declared.capture.Order.{Order}
use Rattle.racl_system.specs.declared.merged_files.MergedFile.{MergedFile}
use Rattle.racl_system.specs.declared.merged_files.FileTurn.{FileTurn}
use Rattle.racl_system.specs.inner.Merges.{turn_of}

-- what was read of a file and not handed on
abbrev pub rest_of : {F : Type 0} → MergedFile F → List ℕ
rest_of file = drop file.handed file.held.items

-- the bytes are nothing or the front of a record, and not all of one
abbrev pub IsNoWholeRecord : Order → List ℕ → Type 0
IsNoWholeRecord order bytes = (bytes ≡ []) ⊎ IsCutRecord order bytes

-- neither the header is whole, where none was handed on, nor the record at the front
abbrev pub IsCutShort : Option Order → List ℕ → Type 0
IsCutShort None bytes = length bytes < 24
IsCutShort (Some order) bytes = IsNoWholeRecord order bytes

-- A header that is whole and right was handed on, where none was before; one that is wrong ends the file.
abbrev pub HasLookedAtHeader : {F : Type 0} → MergedFile F → MergedFile F → Type 0
HasLookedAtHeader old new =
    ((old.order ≢ None ⊎ (length (rest_of old) < 24)) × (new ≡ old))
    ⊎ (((old.order ≡ None) × (order : Order) × HasFileHeader order (rest_of old) × (rest_of new ≡ drop 24 (rest_of old))
    × (new ≡ record old { order = Some order; handed = new.handed }))
    ⊎ ((old.order ≡ None) × (24 ≤ length (rest_of old)) × (fault : CaptureFault) × IsHeaderFault (rest_of old) fault × (new ≡ record old { ended = true })))

-- its header was handed on, and where its next record isn't whole, no more is to be read
pub record IsFilled {F : Type 0} (file : MergedFile F) : Type 0 where
  pub begun : file.order ≢ None
  pub whole : IsCutShort file.order (rest_of file) → file.ended ≡ true

-- some bytes were read behind the others, or none, which ended the file
pub record HasReadMore {F : Type 0} (remaining : F → Option (List ℕ)) (old new : MergedFile F) : Type 0 where
  pub read : List ℕ
  pub consumed : Consumes (remaining old.source.inner) (remaining new.source.inner) read
  pub few : length read ≤ 65536
  pub rest : rest_of new ≡ rest_of old ++ read
  pub ended : new.ended ≡ (length read == 0)
  pub at_end : new.ended ≡ true → IsAtEnd (remaining new.source.inner)
  pub order : new.order ≡ old.order
  pub working : new.source.failures ≡ 0

-- the next packet of a file that is whole stands at this turn
pub record IsNext {F : Type 0} (file : MergedFile F) (turn : FileTurn) : Type 0 where
  pub order : Order
  pub known : file.order ≡ Some order
  pub packet : RecordFacts
  pub behind : List ℕ
  pub whole : IsPiece order (rest_of file) (Record packet behind)
  pub turn-is : turn ≡ turn_of turn.place packet

-- one of these files has its next packet at this turn, but for the file at a place
pub record IsNextAmong {F : Type 0} (files : List (MergedFile F)) (but : Option ℕ) (turn : FileTurn) : Type 0 where
  pub file : MergedFile F
  pub there : slice_get files turn.place ≡ Some file
  pub other : but ≢ Some turn.place
  pub next : IsNext file turn
