-- A spot moves to another thread with what it owns.
use mir.Raw.{raw}
use base.Shift.{Keyless}
use denote.Memory.{lone}
use denote.RawPtr.{Ptr}
use denote.Struct.Struct.{exits_of}
use denote.Struct.Owning.{shape, fields, to}
use denote.Param.Send.{IsSend, AllSend, owning_send, struct_send, sendable}
use Rattle.std.specs.Prelude.{Option, Some, None}
use Rattle.std.specs.Global.{Global}
use Rattle.std.proofs.Crossing as heap
use Rattle.std_alloc.proofs.SendSync.{quiet, lies}
use Rattle.std_heap.proofs.Global.TheSendSync as handle
use Rattle.sip_c.specs.Owned.{held_owns}
use Rattle.sip_c.specs.contracts.kept.Kept as Kept
use Rattle.sip_c.proofs.kept.Kept.TheSendSync.{the_send as kept}
use Rattle.sip_c.specs.contracts.handle.Spot.{the_row, the_type}

-- what it owns is a box's, or nothing
owned : (a : Global) (p : Ptr) (h : Option Kept.the_row.Denot) → Keyless (held_owns a p h)
owned a p None = tt
owned a p (Some x) = (lies Kept.the_row kept p x, heap.frees.frees a (raw (lone Kept.the_row.mir)) p)

pub send : IsSend the_row
send =
    let all : AllSend (fields the_type) = (search sendable, (handle.the_field_send, tt)) in
    owning_send the_type all (λ d. owned d.alloc d.at d.held)
    (λ k. quiet (to the_type) (exits_of k (fields the_type)) ((struct_send (shape the_type) all).leaving k))
