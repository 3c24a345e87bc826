-- A handle may go to another thread: what it owns may.
use mir.Raw.{raw}
use base.Shift.{Keyless}
use denote.Memory.{lone}
use denote.RawPtr.{Ptr}
use denote.Struct.Struct.{exits_of}
use denote.Struct.Owning.{shape, fields, to}
use denote.Param.Send.{IsSend, AllSend, owning_send, struct_send, sendable}
use Rattle.std.specs.Global.{Global}
use Rattle.std.specs.Prelude.{Option, None, Some}
use Rattle.std.proofs.Crossing as heap
use Rattle.std_alloc.proofs.SendSync.{quiet, lies}
use Rattle.std_heap.proofs.Global.TheSendSync as handle
use Rattle.racl_c.specs.Handles.{handle_owns}
use Rattle.racl_c.specs.contracts.handle.Place as Place
use Rattle.racl_c.proofs.handle.Place.TheSendSync.{the_send as place}
use Rattle.racl_c.specs.contracts.handle.Handle.{the_row, the_type}

keyless : (a : Global) (p : Ptr) (m : Option Place.the_row.Denot) → Keyless (handle_owns a p m)
keyless a p None = tt
keyless a p (Some x) = (lies Place.the_row place p x, heap.frees.frees a (raw (lone Place.the_row.mir)) p)

pub send : IsSend the_row
send =
    let all : AllSend (fields the_type) = (search sendable, (handle.the_field_send, tt)) in
    owning_send the_type all (λ d. keyless d.alloc d.at d.place)
    (λ k. quiet (to the_type) (exits_of k (fields the_type)) ((struct_send (shape the_type) all).leaving k))
