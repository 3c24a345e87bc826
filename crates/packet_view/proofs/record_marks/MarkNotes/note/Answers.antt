use Rattle.std.proofs.lemmas.List.Elements.{All-set}
use Rattle.packet_view.specs.Marks.{IsMark}
use Rattle.packet_view.proofs.record_marks.MarkNotes.note.Goals as goal

pub returns-then-self-lt-MARKS : goal.returns-then-self-lt-MARKS
returns-then-self-lt-MARKS c = λ order bytes one all. All-set (IsMark order bytes) _ _ _ one all
