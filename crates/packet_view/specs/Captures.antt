-- Captures: a header of 24 bytes, and records one after another (the classic pcap format).
use Rattle.std.specs.Prelude.{◌≡◌, ◌≢◌, ◌≤◌, ◌<◌, ◌⊎◌, ℕ, ◌+◌, ◌/◌, ◌%◌, ◌^◌, Bool, true, false, List, [], ◌∷◌, ◌++◌, length, drop, map, Option, Some, None}
use Rattle.byteorder.specs.Endian.{big_number, little_number}
use Rattle.packet_view.specs.declared.capture.Order.{Order}
use Rattle.packet_view.specs.declared.capture.Order.TheVariants.{Little, LittleNanos, Big, BigNanos}
use Rattle.packet_view.specs.declared.packet.Packet.{Packet}
use Rattle.packet_view.specs.declared.records_at_front.NextRecord.{NextRecord}
use Rattle.packet_view.specs.declared.records_at_front.NextRecord.TheVariants as piece
use Rattle.packet_view.specs.declared.capture.CaptureFault.{CaptureFault}
use Rattle.packet_view.specs.declared.capture.CaptureFault.TheVariants as fault

-- what a record of a capture says: the second, the microsecond within it, and the frame
pub record RecordFacts : Type 0 where
  pub moment : ℕ
  pub micros : ℕ
  pub frame : List ℕ

-- a packet without where its bytes lie
pub record PacketFacts : Type 0 where
  pub interface : ℕ
  pub moment : ℕ
  pub micros : ℕ
  pub frame : List ℕ

abbrev pub packet_facts : Packet → PacketFacts
packet_facts packet = record { interface = packet.interface; moment = packet.moment; micros = packet.micros; frame = packet.frame.now }

-- the packet of a record whose capture was taken at the interface with this number
abbrev pub packet_at : ℕ → RecordFacts → PacketFacts
packet_at number seen = record { interface = number; moment = seen.moment; micros = seen.micros; frame = seen.frame }

abbrev pub packets_at : ℕ → List RecordFacts → List PacketFacts
packets_at number records = map (packet_at number) records

-- one packet was taken from these packets, and these are left; none is taken only where there is none
abbrev pub Takes : List PacketFacts → Option Packet → List PacketFacts → Type 0
Takes packets None left = (packets ≡ []) × (left ≡ [])
Takes packets (Some packet) left = packets ≡ packet_facts packet ∷ left

-- how the records end: after a whole one, or inside one
pub data End : Type 0 where
  Whole : End
  Truncated : End

-- the end that the field `truncated` says
abbrev pub end_of : Bool → End
end_of false = Whole
end_of true = Truncated

-- the number in so many bytes from this place on
abbrev pub number_from : Order → ℕ → ℕ → List ℕ → ℕ
number_from Little place width bytes = little_number width (drop place bytes)
number_from LittleNanos place width bytes = little_number width (drop place bytes)
number_from Big place width bytes = big_number width (drop place bytes)
number_from BigNanos place width bytes = big_number width (drop place bytes)

-- the number that a capture of microseconds begins with, or of nanoseconds
abbrev pub magic_of : Order → ℕ
magic_of Little = 0xa1b2c3d4
magic_of LittleNanos = 0xa1b23c4d
magic_of Big = 0xa1b2c3d4
magic_of BigNanos = 0xa1b23c4d

-- the bytes begin with the magic number of this order
abbrev pub HasMagic : Order → List ℕ → Type 0
HasMagic order bytes = number_from order 0 4 bytes ≡ magic_of order

-- the major version
abbrev pub version : Order → List ℕ → ℕ
version order bytes = number_from order 4 2 bytes

-- the low sixteen bits of the link field
abbrev pub link_type : Order → List ℕ → ℕ
link_type order bytes = number_from order 20 4 bytes % 2 ^ 16

-- the bytes begin with a header in this order, of version 2 and for Ethernet
pub record HasFileHeader (order : Order) (bytes : List ℕ) : Type 0 where
  pub whole : 24 ≤ length bytes
  pub magic : HasMagic order bytes
  pub two : version order bytes ≡ 2
  pub ethernet : link_type order bytes ≡ 1

-- the kept length that a record's header says
abbrev pub kept_length : Order → List ℕ → ℕ
kept_length order header = number_from order 8 4 header

-- the microseconds that a record's fraction of a second has: the number itself, or a thousandth of it
abbrev pub micros_of : Order → ℕ → ℕ
micros_of Little fraction = fraction
micros_of LittleNanos fraction = fraction / 1000
micros_of Big fraction = fraction
micros_of BigNanos fraction = fraction / 1000

-- the microseconds within the second that a record's header says
abbrev pub micros_in : Order → List ℕ → ℕ
micros_in order header = micros_of order (number_from order 4 4 header)

-- the most bytes that a record keeps of a frame
abbrev pub kept_limit : ℕ
kept_limit = 262144

-- one record's header: it says the moment, its microseconds and the frame's length
pub record IsRecord (order : Order) (header : List ℕ) (packet : RecordFacts) : Type 0 where
  pub sixteen : length header ≡ 16
  pub moment : packet.moment ≡ number_from order 0 4 header
  pub micros : packet.micros ≡ micros_in order header
  pub kept : length packet.frame ≡ kept_length order header
  pub limit : length packet.frame ≤ kept_limit

-- the bytes begin with a record's header that says a greater length
abbrev pub IsTooLong : Order → List ℕ → Type 0
IsTooLong order bytes = (16 ≤ length bytes) × (kept_limit < kept_length order bytes)

-- the bytes are the front of a record, and neither all of it nor nothing
abbrev pub IsCutRecord : Order → List ℕ → Type 0
IsCutRecord order bytes =
    ((0 < length bytes) × (length bytes < 16))
    ⊎ ((16 ≤ length bytes) × (kept_length order bytes ≤ kept_limit) × (length bytes < 16 + kept_length order bytes))

-- what is at the front of the bytes
pub data PieceFacts : Type 0 where
  Record : RecordFacts → List ℕ → PieceFacts
  Nothing : PieceFacts
  Cut : PieceFacts
  TooLong : PieceFacts

-- what `next_record` answers, as a value
abbrev pub piece_facts : NextRecord → PieceFacts
piece_facts (piece.Whole moment micros frame rest) = Record (record { moment = moment; micros = micros; frame = frame.now }) rest.now
piece_facts piece.End = Nothing
piece_facts piece.Truncated = Cut
piece_facts piece.TooLong = TooLong

abbrev pub IsPiece : Order → List ℕ → PieceFacts → Type 0
IsPiece order bytes (Record packet rest) = (header : List ℕ) × (bytes ≡ header ++ (packet.frame ++ rest)) × IsRecord order header packet
IsPiece order bytes Nothing = bytes ≡ []
IsPiece order bytes Cut = IsCutRecord order bytes
IsPiece order bytes TooLong = IsTooLong order bytes

-- the bytes are the records of these packets, one after another, and then the rest
abbrev pub AreRecords : Order → List ℕ → List RecordFacts → List ℕ → Type 0
AreRecords order bytes [] rest = bytes ≡ rest
AreRecords order bytes (packet ∷ packets) rest =
    (others : List ℕ) × IsPiece order bytes (Record packet others) × AreRecords order others packets rest

-- after a header the bytes go on with a whole record
abbrev pub HasRecord : List ℕ → Type 0
HasRecord bytes = (order : Order) × (packet : RecordFacts) × (rest : List ℕ) × HasFileHeader order bytes × IsPiece order (drop 24 bytes) (Record packet rest)

-- what is left after the whole records
abbrev pub IsEnd : Order → List ℕ → End → Type 0
IsEnd order rest Whole = rest ≡ []
IsEnd order rest Truncated = IsCutRecord order rest

-- all the bytes are a capture of these packets with this end
abbrev pub IsCapture : List ℕ → List RecordFacts → End → Type 0
IsCapture bytes packets end =
    (order : Order) × (rest : List ℕ) × HasFileHeader order bytes × AreRecords order (drop 24 bytes) packets rest × IsEnd order rest end

-- all the bytes are a capture that was taken at the interface with this number, of these packets
abbrev pub IsCaptureAt : ℕ → List ℕ → List PacketFacts → End → Type 0
IsCaptureAt number bytes packets end =
    (records : List RecordFacts) × IsCapture bytes records end × (packets ≡ packets_at number records)

-- the fault is in the header, and no earlier one is
abbrev pub IsHeaderFault : List ℕ → CaptureFault → Type 0
IsHeaderFault bytes fault.Short = length bytes < 24
IsHeaderFault bytes fault.Magic = (24 ≤ length bytes) × ((order : Order) → HasMagic order bytes → ⊥)
IsHeaderFault bytes fault.Version = (24 ≤ length bytes) × (order : Order) × HasMagic order bytes × (version order bytes ≢ 2)
IsHeaderFault bytes fault.LinkType =
    (24 ≤ length bytes) × (order : Order) × HasMagic order bytes × (version order bytes ≡ 2) × (link_type order bytes ≢ 1)
IsHeaderFault bytes (fault.LongRecord number) = ⊥
IsHeaderFault bytes fault.Memory = ⊥

-- the fault is in the capture, and no earlier one is; records are counted from 1
abbrev pub IsCaptureFault : List ℕ → CaptureFault → Type 0
IsCaptureFault bytes (fault.LongRecord number) =
    (order : Order) × (packets : List RecordFacts) × (rest : List ℕ) × HasFileHeader order bytes × AreRecords order (drop 24 bytes) packets rest
    × IsTooLong order rest × (number ≡ length packets + 1)
IsCaptureFault bytes header_fault = IsHeaderFault bytes header_fault
