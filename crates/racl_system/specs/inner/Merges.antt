-- Where packets stand among those of files whose packets are handed on together.
use Rattle.std.specs.Prelude.{◌≡◌, ◌≤◌, ◌+◌, ◌==◌, ◌&&◌, ◌||◌, ◌⊎◌, ℕ, All, Bool, List, true, false, not, Option, None, Some, if◌then◌else◌, length, nat_lt}
use Rattle.packet_view.specs.Captures.{AreRecords, IsPiece, Record, RecordFacts}
use Rattle.packet_view.specs.declared.capture.Order.{Order}
use Rattle.racl_system.specs.declared.merged_files.FileTurn.{FileTurn}

-- by the second, the microsecond, and the place of the file
abbrev pub comes_before : FileTurn → FileTurn → Bool
comes_before a b = nat_lt a.moment b.moment || ((a.moment == b.moment) && (nat_lt a.micros b.micros || ((a.micros == b.micros) && nat_lt a.place b.place)))

abbrev pub turn_of : ℕ → RecordFacts → FileTurn
turn_of place packet = record { moment = packet.moment; micros = packet.micros; place = place }

-- no next packet of another file comes before that of this record, in the file at a place
abbrev pub may_come : ℕ → Option FileTurn → RecordFacts → Bool
may_come place None packet = true
may_come place (Some next) packet = not (comes_before next (turn_of place packet))

-- no whole record is at the front
abbrev pub HasNoRecord : Order → List ℕ → Type 0
HasNoRecord order bytes = (packet : RecordFacts) (rest : List ℕ) → IsPiece order bytes (Record packet rest) → ⊥

-- no packet may come: where a whole record is at the front, the next packet of another file comes before that one's
abbrev pub NoneMayCome : Order → List ℕ → ℕ → Option FileTurn → Type 0
NoneMayCome order bytes place next = (packet : RecordFacts) (rest : List ℕ) → IsPiece order bytes (Record packet rest) → may_come place next packet ≡ false

-- The bytes are whole records whose packets may all come, and the rest. The records are 1024, or fewer where no packet of the
-- rest may come.
pub record AllMayCome (order : Order) (bytes : List ℕ) (place : ℕ) (next : Option FileTurn) (rest : List ℕ) : Type 0 where
  pub packets : List RecordFacts
  pub records : AreRecords order bytes packets rest
  pub come : All (λ packet. may_come place next packet ≡ true) packets
  pub few : length packets ≤ 1024
  pub all : (length packets ≡ 1024) ⊎ NoneMayCome order rest place next

-- so many bytes stand before the rest
abbrev pub HasCounted : Order → List ℕ → ℕ → Option FileTurn → ℕ → Type 0
HasCounted order bytes place next count = (rest : List ℕ) × AllMayCome order bytes place next rest × (count + length rest ≡ length bytes)

-- the least of the turns that have a property, where one has it
abbrev pub IsLeast : (FileTurn → Type 0) → Option FileTurn → Type 0
IsLeast Has None = (turn : FileTurn) → Has turn → ⊥
IsLeast Has (Some first) = Has first × ((turn : FileTurn) → Has turn → comes_before turn first ≡ false)

-- the one that comes first of two
abbrev pub first_of : Option FileTurn → Option FileTurn → Option FileTurn
first_of None other = other
first_of (Some one) None = Some one
first_of (Some one) (Some other) = if comes_before other one then Some other else Some one
