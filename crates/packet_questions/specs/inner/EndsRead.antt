-- Both ends as the readers of words give them.
use Rattle.packet_questions.specs.declared.end.Ends as code
use Rattle.packet_questions.specs.inner.Reading.{Ends}

abbrev pub ends_facts : code.Ends → Ends
ends_facts e = record { family = e.family; source = e.source; dest = e.dest }
