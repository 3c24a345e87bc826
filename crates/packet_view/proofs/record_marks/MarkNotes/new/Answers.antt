use Rattle.std.proofs.Common.{refl}
use Rattle.std.proofs.lemmas.List.Elements.{All-replicate}
use Rattle.packet_view.specs.Marks.{IsMark}
use Rattle.packet_view.proofs.record_marks.MarkNotes.new.Goals as goal

pub returns : goal.returns
returns c = λ order bytes. All-replicate (IsMark order bytes) 64 _ refl
