-- What a packet decides whose rules are asked late.
use Rattle.session_state.specs.Decisions.{PatchFacts}
use Rattle.flow_filter.specs.PacketFlows.{update_by}
use Rattle.flow_filter.specs.declared.lazy_patch.HasReading.{Ghosts}
use Rattle.flow_filter.specs.declared.lazy_patch.LazyPatch.{LazyPatch}

-- what is decided of the packet, under what the rules say of it
abbrev pub facts_of : {D : Type 0} (g : Ghosts D) → LazyPatch D g → PatchFacts
facts_of g p = (update_by p.filter.now.times p.packet g.ruling).patch
