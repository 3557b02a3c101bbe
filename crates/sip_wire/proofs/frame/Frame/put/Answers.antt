-- A frame takes no more than it has.
use Rattle.std.proofs.Common.{◌≡◌, ◌≤◌, List, ℕ, length, sym, subst, arith, length-take-le}
use Rattle.sip_wire.specs.Frames.{frame_bytes}
use Rattle.sip_wire.specs.Spelling.{asked}
use Rattle.sip_wire.proofs.AtHand.{put_within, room_fits}
use Rattle.sip_wire.proofs.frame.Frame.put.Goals as goal

pub append-requires : goal.append-requires
append-requires c =
    let f = c.args.self.now in
    let len : length (frame_bytes f) ≡ f.taken = length-take-le f.taken f.buffer.items (omega (arith, f.within, f.room, f.buffer.ok.0)) in
    room_fits c.args.version c.args.place (frame_bytes f) (length c.args.bytes.now) (omega (arith, len, f.within)) c.requires

pub returns-clause-most : goal.returns-clause-most
returns-clause-most c = λ within.
    subst (λ (b : List ℕ). length b ≤ asked c.args.version c.args.place b) (sym c.append.ensures.takes) (put_within c.args.version c.args.place (frame_bytes c.args.self.now) c.args.bytes.now c.requires within)
