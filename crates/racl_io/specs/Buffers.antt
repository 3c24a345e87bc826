-- Bytes that were read, at the front of a buffer (this project's profile).
use Rattle.std.specs.Prelude.{ℕ, List, take, vec_capacity}
use Rattle.racl_io.specs.declared.read_buffer.ReadBuffer.{ReadBuffer}

-- those that it holds
abbrev pub held_by : ReadBuffer → List ℕ
held_by buffer = take buffer.count buffer.room.items

-- how many it can hold before it asks for memory
abbrev pub room_in : ReadBuffer → ℕ
room_in buffer = vec_capacity buffer.room
