-- Bytes came that are too few for a look at the frame.
use Rattle.std.proofs.Common.{◌≤◌, ◌++◌, [], sym}
use Rattle.sip_ports.specs.Ports.{ins}
use Rattle.sip_wire.specs.Frames.{frame_bytes}
use Rattle.sip_wire.specs.Taking.{room_for}
use Rattle.sip_wire.specs.declared.kind.Place.{Place}
use Rattle.sip_wire.specs.declared.version.Version.{Version}
use Rattle.sip_steps.proofs.OneTalk.{at_state, gathered, goes_of, still_served}
use Rattle.sip_steps.specs.declared.serving.Serving.{Serving}
use Rattle.sip_steps.proofs.serving.Serving.gather.Goals as goal

pub gather-requires-clause-lacks : goal.gather-requires-clause-lacks
gather-requires-clause-lacks g c =
    let r = g.H.Helps.rules in
    let a = c.args.self.now in
    let got = frame_bytes a.coming.frame in
    let b = c.requires.begun in
    let goes = goes_of r g.H.Helps.turns_left g.H.Helps.is_live b.0 b.1 a c.requires.going b.2 in
    at_state (λ (v : Version) (p : Place). a.coming.lacking ≤ room_for v p got) (r.version a.helper) c.version_due-version.result (r.place a.helper) c.place_due-place.result (sym c.version_due-version.ensures) (sym c.place_due-place.ensures) goes.part.lacks

pub returns-clause-served : goal.returns-clause-served
returns-clause-served g c first events served =
    let r = g.H.Helps.rules in
    let left = g.H.Helps.turns_left in
    let is_live = g.H.Helps.is_live in
    let a = c.args.self.now in
    let goes = goes_of r left is_live first events a c.requires.going served in
    let s : Serving g.row.H.Denot = record a { coming = c.gather.new.self } in
    let did = c.gather.ensures in
    still_served r left is_live first (events ++ ins c.args.bytes.now) s c.requires.going
    (gathered r left is_live first 0 [] events a.helper a.coming goes c.gather.new.self c.args.bytes.now c.requires.few did.lacking did.offset did.puts)
