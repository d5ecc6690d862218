-- What a handle owns says the same to every thread.
use Rattle.std.specs.Prelude.{Option, Some, None}
use mir.Raw.{raw}
use base.Shift.{Keyless}
use denote.Memory.{lone}
use denote.RawPtr.{Ptr}
use denote.Struct.Struct.{exits_of}
use denote.Struct.Owning.{shape, fields, to}
use denote.Param.Send.{IsSend, AllSend, owning_send, struct_send, sendable}
use Rattle.std.specs.Global.{Global}
use Rattle.std.proofs.Crossing as heap
use Rattle.std_alloc.proofs.SendSync.{quiet, lies}
use Rattle.std_heap.proofs.Global.TheSendSync as handle
use Rattle.lc_c.specs.MuxHandle.{handle_owns}
use Rattle.lc_c.specs.contracts.mux.session.CMux as CMux
use Rattle.lc_c.proofs.mux.session.CMux.TheSendSync.{the_send as side}
use Rattle.lc_c.specs.contracts.mux.handle.MuxSlot.{the_row, the_type}

owned_keyless : (alloc : Global) (p : Ptr) (held : Option CMux.the_row.Denot) → Keyless (handle_owns alloc p held)
owned_keyless alloc p None = tt
owned_keyless alloc p (Some v) = (lies CMux.the_row side p v, heap.frees.frees alloc (raw (lone CMux.the_row.mir)) p)

pub send : IsSend the_row
send =
    let all : AllSend (fields the_type) = (search sendable, (handle.the_field_send, tt)) in
    owning_send the_type all (λ d. owned_keyless d.alloc d.at d.held)
    (λ k. quiet (to the_type) (exits_of k (fields the_type)) ((struct_send (shape the_type) all).leaving k))
