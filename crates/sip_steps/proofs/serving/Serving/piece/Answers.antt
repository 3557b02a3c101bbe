-- Some bytes came of a frame, and what came of it was looked at.
use Rattle.std.proofs.Common.{◌<◌, ◌++◌, [], length, take, lit≤, sym}
use Rattle.sip_wire.specs.declared.kind.Place.{Place}
use Rattle.sip_wire.specs.declared.version.Version.{Version}
use Rattle.sip_wire.specs.Frames.{frame_bytes}
use Rattle.sip_wire.specs.Spelling.{asked}
use Rattle.sip_steps.specs.Served.{IsServed}
use Rattle.sip_steps.specs.declared.serving.Serving.{Serving}
use Rattle.sip_steps.proofs.OneTalk.{at_state, goes_of, offset_few, passes_piece, served_then, went}
use Rattle.sip_steps.proofs.serving.Serving.piece.Goals as goal

pub put-taken-requires-clause-short : goal.put-taken-requires-clause-short
put-taken-requires-clause-short g c =
    let r = g.H.Helps.rules in
    let a = c.args.self.now in
    let got = frame_bytes a.coming.frame in
    let b = c.requires.begun in
    let goes = goes_of r g.H.Helps.turns_left g.H.Helps.is_live b.0 b.1 a c.requires.going b.2 in
    at_state (λ (v : Version) (p : Place). length got < asked v p got) (r.version a.helper) c.version_due-version.result (r.place a.helper) c.place_due-place.result (sym c.version_due-version.ensures) (sym c.place_due-place.ensures) goes.part.short

pub look-came-requires : goal.look-came-requires
look-came-requires g c =
    let r = g.H.Helps.rules in
    let a = c.args.self.now in
    let b = c.requires.begun in
    let goes = goes_of r g.H.Helps.turns_left g.H.Helps.is_live b.0 b.1 a c.requires.going b.2 in
    record {
      live = goes.live;
      going = goes.turns.going;
      version = c.version_due-version.ensures;
      place = c.place_due-place.ensures;
      within = c.put-taken.ensures.within;
      few = offset_few r g.H.Helps.turns_left b.0 a.helper [] goes.before 0 a.coming.offset c.put-taken.new.self.offset goes.turns c.put-taken.ensures.offset (lit≤ tt);
    }

pub returns-clause-passes : goal.returns-clause-passes
returns-clause-passes g c first events served =
    let r = g.H.Helps.rules in
    let left = g.H.Helps.turns_left in
    let is_live = g.H.Helps.is_live in
    let a = c.args.self.now in
    let goes = goes_of r left is_live first events a c.requires.going served in
    let did = c.put-taken.ensures in
    let next = c.look-came.ensures.comes in
    let s : Serving g.row.H.Denot = record { helper = c.look-came.new.helper; coming = c.look-came.new.self; status = c.end-self.result } in
    passes_piece (g.K.Sink.talk c.args.out.now) (g.K.Sink.talk c.look-came.new.out) events goes.before (frame_bytes a.coming.frame) (frame_bytes c.put-taken.new.self.frame) (take c.put-taken.result c.args.bytes.now) next.0
    (λ all. IsServed r left is_live first all s) goes.part.last did.puts next.1
    (served_then r left is_live first events _ s a.helper a.coming goes c.look-came.result c.end-self.ensures
    (went r left is_live first 0 [] events a.helper a.coming goes c.put-taken.new.self c.look-came.new.self c.look-came.new.helper next.0 did.offset c.look-came.result next.2))

pub returns-clause-begun : goal.returns-clause-begun
returns-clause-begun g c =
    let b = c.requires.begun in
    let p = returns-clause-passes g c b.0 b.1 b.2 in
    (b.0, b.1 ++ p.more, p.after)
