-- A five-tuple as a value, without what its type keeps.
use Rattle.std.specs.Prelude.{ℕ}
use Rattle.packet_view.specs.declared.tuple.Family.{Family}
use Rattle.packet_view.specs.declared.tuple.Fields.{Fields}
use Rattle.packet_view.specs.declared.tuple.Tuple.{Tuple}

pub record TupleFacts : Type 0 where
  pub interface : ℕ
  pub family : Family
  pub source : ℕ
  pub dest : ℕ
  pub proto : ℕ
  pub fields : Fields

-- what a tuple says
abbrev pub tuple_facts : Tuple → TupleFacts
tuple_facts t =
    record { interface = t.interface; family = t.family; source = t.source; dest = t.dest; proto = t.proto; fields = t.fields }
