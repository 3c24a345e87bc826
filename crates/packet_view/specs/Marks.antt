-- Places among the bytes of records where some of them begin.
use Rattle.std.specs.Prelude.{◌≡◌, ℕ, List}
use Rattle.packet_view.specs.RecordLists.{bytes_of}
use Rattle.packet_view.specs.declared.capture.Order.{Order}
use Rattle.packet_view.specs.declared.record_marks.Mark.{Mark}

-- the records before the place have as many bytes as stand before it
abbrev pub IsMark : Order → List ℕ → Mark → Type 0
IsMark order bytes mark = bytes_of order mark.count bytes ≡ mark.at
