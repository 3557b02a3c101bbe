-- The frame is too short, too long, or there.
use Rattle.std.proofs.Common.{◌≡◌, rules}
use Rattle.sip_wire.specs.Spelling.{asked}
use Rattle.sip_transcript.proofs.Framing.{frame-short, frame-long, frame-whole}
use Rattle.sip_transcript.proofs.frames.take_frame.Goals as goal

pub returns-then-len-lt-FRAME_HEAD-clause-has : goal.returns-then-len-lt-FRAME_HEAD-clause-has
returns-then-len-lt-FRAME_HEAD-clause-has g c = frame-short c.args.place c.args.version g.row.ROOM _ _ _ (rw c.requires.empty at c.in_ok-take_more.ensures.took) (search rules)

pub returns-then-size-clause-has : goal.returns-then-size-clause-has
returns-then-size-clause-has g c =
    let is : c.frame_length-size.result ≡ asked c.args.version c.args.place c.take_more.new.frame.items = search rules in
    frame-long c.args.place c.args.version g.row.ROOM _ _ _ c.frame_length-size.result c.requires.room (rw c.requires.empty at c.in_ok-take_more.ensures.took) (search rules) is (search rules)

pub returns-clause-has : goal.returns-clause-has
returns-clause-has g c =
    let is : c.frame_length-size.result ≡ asked c.args.version c.args.place c.take_more.new.frame.items = search rules in
    frame-whole c.args.place c.args.version g.row.ROOM _ _ _ _ _ c.frame_length-size.result (rw c.requires.empty at c.in_ok-take_more.ensures.took) (search rules) is c.in_ok-take_more-2.ensures.took
