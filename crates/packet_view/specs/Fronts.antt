-- The whole records at the front of some bytes: what they are, what is behind them, and why they end there.
use Rattle.std.specs.Prelude.{◌≡◌, ◌+◌, ◌-◌, ℕ, List, [], drop, length}
use Rattle.packet_view.specs.Captures.{IsCutRecord, IsTooLong}
use Rattle.packet_view.specs.RecordLists.{bytes_of}
use Rattle.packet_view.specs.declared.capture.Order.{Order}
use Rattle.packet_view.specs.declared.records_at_front.Front.{Front}
use Rattle.packet_view.specs.declared.records_at_front.Stop.{Stop}
use Rattle.packet_view.specs.declared.records_at_front.Stop.TheVariants.{End, Truncated, TooLong}

-- what the bytes behind the whole records are
abbrev pub Stops : Order → List ℕ → Stop → Type 0
Stops order rest End = rest ≡ []
Stops order rest Truncated = IsCutRecord order rest
Stops order rest TooLong = IsTooLong order rest

-- the records stand where the bytes begin, and the rest where they end
pub record IsSplit (order : Order) (bytes : List ℕ) (front : Front) : Type 0 where
  pub begins : front.records.bytes.now ≡ bytes
  pub same : front.records.order ≡ order
  pub size : bytes_of order front.records.count bytes + length front.rest.now ≡ length bytes
  pub after : front.rest.now ≡ drop (bytes_of order front.records.count bytes) bytes
  pub behind : front.rest.now ≡ drop (length bytes - length front.rest.now) bytes
