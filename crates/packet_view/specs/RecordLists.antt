-- Records that are known to be whole, as a list.
use Rattle.std.specs.Prelude.{ℕ, zero, suc, ◌+◌, List, [], ◌∷◌, take, drop}
use Rattle.packet_view.specs.declared.capture.Order.{Order}
use Rattle.packet_view.specs.Captures.{RecordFacts, kept_length, micros_in, number_from}

-- how many bytes the record at the front has
abbrev pub record_length : Order → List ℕ → ℕ
record_length order bytes = 16 + kept_length order bytes

-- what it says
abbrev pub front_record : Order → List ℕ → RecordFacts
front_record order bytes = record {
  moment = number_from order 0 4 bytes;
  micros = micros_in order bytes;
  frame = take (kept_length order bytes) (drop 16 bytes);
}

-- how many bytes so many records have
abbrev pub bytes_of : Order → ℕ → List ℕ → ℕ
bytes_of order zero bytes = 0
bytes_of order (suc n) bytes = record_length order bytes + bytes_of order n (drop (record_length order bytes) bytes)

-- what they say
abbrev pub records_from : Order → ℕ → List ℕ → List RecordFacts
records_from order zero bytes = []
records_from order (suc n) bytes = front_record order bytes ∷ records_from order n (drop (record_length order bytes) bytes)
