-- The packets that come of several captures: each part of one makes some of its records whole (this project's profile).
use Rattle.std.specs.Prelude.{◌≡◌, ◌≢◌, ◌<◌, ◌⊎◌, ◌++◌, if◌then◌else◌, ℕ, Bool, true, false, List, [], ◌∷◌, Some, length, nat_eq, ⊤}
use Rattle.std.specs.List.{filter}
use Rattle.packet_view.specs.Captures.{AreRecords, HasFileHeader, IsEnd, IsTooLong, PacketFacts, RecordFacts, end_of, packets_at}
use Rattle.packet_view.specs.declared.capture.Order.{Order}
use Rattle.racl_io.specs.declared.totals_and_truncation.Captured.{Captured}
use Rattle.capture_stream.specs.Arrivals.{Part}

-- a part came, which made these records of its capture whole, and where it was the capture's end, whether it was cut within one
pub record Turn : Type 0 where
  pub interface : ℕ
  pub bytes : List ℕ
  pub records : List RecordFacts
  pub cuts : List Captured

-- Of all turns so far, the last one first: the parts that came, in their order; what came of one capture, and its whole records;
-- the packets of all captures in the order in which their records became whole; and what is told of captures that were cut.

abbrev pub parts_of : List Turn → List Part
parts_of [] = []
parts_of (turn ∷ before) = parts_of before ++ record { interface = turn.interface; bytes = turn.bytes } ∷ []

abbrev pub bytes_at : ℕ → List Turn → List ℕ
bytes_at interface [] = []
bytes_at interface (turn ∷ before) = bytes_at interface before ++ (if nat_eq turn.interface interface then turn.bytes else [])

abbrev pub records_at : ℕ → List Turn → List RecordFacts
records_at interface [] = []
records_at interface (turn ∷ before) = records_at interface before ++ (if nat_eq turn.interface interface then turn.records else [])

abbrev pub packets_of : List Turn → List PacketFacts
packets_of [] = []
packets_of (turn ∷ before) = packets_of before ++ packets_at turn.interface turn.records

abbrev pub cuts_of : List Turn → List Captured
cuts_of [] = []
cuts_of (turn ∷ before) = cuts_of before ++ turn.cuts

-- the packets of the capture of this interface among others
abbrev pub own_of : ℕ → List PacketFacts → List PacketFacts
own_of interface packets = filter (λ packet. nat_eq packet.interface interface) packets

-- the bytes are a header in this order, these records, and the rest
pub record AreHeaded (order : Order) (bytes : List ℕ) (records : List RecordFacts) (rest : List ℕ) : Type 0 where
  pub header : List ℕ
  pub body : List ℕ
  pub spelt : bytes ≡ header ++ body
  pub whole : length header ≡ 24
  pub right : HasFileHeader order header
  pub are : AreRecords order body records rest

-- these are all whole records of a capture of which these bytes came: none before its header is whole; none that began is too long
abbrev pub HaveCome : List ℕ → List RecordFacts → Type 0
HaveCome bytes records =
    ((length bytes < 24) × (records ≡ []))
    ⊎ ((order : Order) × (rest : List ℕ) × AreHeaded order bytes records rest × (truncated : Bool) × IsEnd order rest (end_of truncated))

-- the record behind them is too long
abbrev pub HaveComeToLong : List ℕ → List RecordFacts → Type 0
HaveComeToLong bytes records = (order : Order) × (rest : List ℕ) × AreHeaded order bytes records rest × IsTooLong order rest

-- what is told of a capture of this interface that is cut after so many packets, or isn't
abbrev pub cut_at : Bool → ℕ → ℕ → List Captured
cut_at false interface packets = []
cut_at true interface packets = record { named = Some interface; packets = packets; truncated = true } ∷ []

-- a capture of which these bytes came, with these records, has ended, and this is told of it
pub record HasCaptureEnded (interface : ℕ) (bytes : List ℕ) (records : List RecordFacts) (cuts : List Captured) : Type 0 where
  pub order : Order
  pub rest : List ℕ
  pub are : AreHeaded order bytes records rest
  pub truncated : Bool
  pub end : IsEnd order rest (end_of truncated)
  pub told : cuts ≡ cut_at truncated interface (length records)

-- nothing came of the capture of this interface, or it has ended, and what is told of that is told
abbrev pub IsAtEnd : ℕ → List Turn → Type 0
IsAtEnd interface turns =
    ((bytes_at interface turns ≡ []) × (records_at interface turns ≡ []))
    ⊎ ((cuts : List Captured) × HasCaptureEnded interface (bytes_at interface turns) (records_at interface turns) cuts
    × (earlier : List Captured) × (later : List Captured) × (cuts_of turns ≡ earlier ++ (cuts ++ later)))

-- after these turns comes this one
pub record IsTurn (before : List Turn) (turn : Turn) : Type 0 where
  pub come : HaveCome (bytes_at turn.interface before ++ turn.bytes) (records_at turn.interface before ++ turn.records)
  pub more : turn.bytes ≢ [] → turn.cuts ≡ []
  pub end : turn.bytes ≡ [] → (turn.records ≡ []) × HasCaptureEnded turn.interface (bytes_at turn.interface before) (records_at turn.interface before) turn.cuts

abbrev pub AreTurns : List Turn → Type 0
AreTurns [] = ⊤
AreTurns (turn ∷ before) = AreTurns before × IsTurn before turn

-- after these turns came some bytes of a capture that show that a record of it is too long
pub record IsLongTurn (before : List Turn) (turn : Turn) : Type 0 where
  pub more : turn.bytes ≢ []
  pub uncut : turn.cuts ≡ []
  pub long : HaveComeToLong (bytes_at turn.interface before ++ turn.bytes) (records_at turn.interface before ++ turn.records)

-- these turns came, and only behind the records of the last one is one that is too long
abbrev pub AreTurnsToLong : List Turn → Type 0
AreTurnsToLong [] = ⊥
AreTurnsToLong (turn ∷ before) = AreTurns before × IsLongTurn before turn
