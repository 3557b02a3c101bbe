-- What is held was said, or something else was.
use Rattle.std.proofs.Common.{◌++◌, subst, take}
use Rattle.sip_ports.specs.Ports.{ins}
use Rattle.sip_wire.specs.Frames.{frame_bytes}
use Rattle.sip_ask_steps.specs.Hearing.{SaysHeld}
use Rattle.sip_ask_steps.proofs.Going.{bad_done, held_came}
use Rattle.sip_ask_steps.proofs.machine.SketchAsking.hear.Goals as goal

pub compare-requires : goal.compare-requires
compare-requires c =
    let (p, events, is) = c.requires.begun in
    let e = c.take_held-taken.ensures in
    let piece = take c.take_held-taken.result.0 c.args.bytes.now in
    let says = subst (SaysHeld c.args.self.now.version (frame_bytes c.take_held-taken.new.frame)) c.in-Holds.is e.says in
    record { heard = (p, events ++ ins piece, held_came p events c.args.self.now is c.requires.hears c.take_held-taken.new.frame piece e.bytes c.in-Holds.held says.0 says.1) }

pub returns-in-Holds-clause-done : goal.returns-in-Holds-clause-done
returns-in-Holds-clause-done c p events is =
    let e = c.take_held-taken.ensures in
    let piece = take c.take_held-taken.result.0 c.args.bytes.now in
    let says = subst (SaysHeld c.args.self.now.version (frame_bytes c.take_held-taken.new.frame)) c.in-Holds.is e.says in
    c.compare.ensures.done p (events ++ ins piece) (held_came p events c.args.self.now is c.requires.hears c.take_held-taken.new.frame piece e.bytes c.in-Holds.held says.0 says.1)

pub returns-in-Other-clause-done : goal.returns-in-Other-clause-done
returns-in-Other-clause-done c p events is =
    let e = c.take_held-taken.ensures in
    let m = c.args.self.now in
    let piece = take c.take_held-taken.result.0 c.args.bytes.now in
    let (fault, of, read) = subst (SaysHeld m.version (frame_bytes c.take_held-taken.new.frame)) c.in-Other.is e.says in
    rw c.go.ensures (bad_done p events m is c.requires.hears c.take_held-taken.new.frame piece e.bytes fault of read (record m { frame = c.take_held-taken.new.frame }) is.kept)
