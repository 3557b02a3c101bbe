-- The longest frame has room for the bytes.
use Rattle.std.proofs.Common.{◌≡◌, length, ap, arith, length-take-le}
use Rattle.sip_wire.specs.Frames.{frame_bytes}
use Rattle.sip_wire.proofs.frame.Frame.append.Goals as goal

pub slice_bounds-copy_from_slice-end : goal.slice_bounds-copy_from_slice-end
slice_bounds-copy_from_slice-end c =
    let f = c.args.self.now in
    let len : length (frame_bytes f) ≡ f.taken = length-take-le f.taken f.buffer.items (omega (arith, f.within, f.room, f.buffer.ok.0)) in
    omega (arith, len, c.requires, f.room, f.buffer.ok.0, ap (λ l. length l) c.deref_mut.ensures.value)
