-- What a frame shows that is looked at.
use Rattle.std.proofs.Common.{◌≡◌, Ok, Err, length, subst, arith, length-take-le}
use Rattle.sip_wire.specs.Decoding.{FindsHead}
use Rattle.sip_wire.specs.Frames.{frame_bytes, frame_message}
use Rattle.sip_wire.proofs.AtHand.{all_there, body_shows, body_there, no_body_yet, no_head_yet, read_whole, under_body, under_head}
use Rattle.sip_wire.proofs.ReadingLaws.{read_frame-fault}
use Rattle.sip_wire.proofs.frame.Frame.judge.Goals as goal

pub returns-then-self-lt-HEAD-clause-judges : goal.returns-then-self-lt-HEAD-clause-judges
returns-then-self-lt-HEAD-clause-judges c =
    let f = c.args.self.now in
    let len : length (frame_bytes f) ≡ f.taken = length-take-le f.taken f.buffer.items (omega (arith, f.within, f.room, f.buffer.ok.0)) in
    record {
      short = under_head c.args.version c.args.place (frame_bytes f) (omega (arith, len, c.if-self-lt-HEAD.true));
      read = no_head_yet c.args.version c.args.place (frame_bytes f) (omega (arith, len, c.if-self-lt-HEAD.true));
    }

pub returns-in-Err-clause-judges : goal.returns-in-Err-clause-judges
returns-in-Err-clause-judges c =
    let f = c.args.self.now in
    let is = subst (λ b. FindsHead c.args.version c.args.place b (Err c.in-Err.fault)) c.bytes.ensures c.in-Err.ensures in
    record { shown = is.1; read = read_frame-fault c.args.version c.args.place (frame_bytes f) c.in-Err.fault is.0 c.requires }

pub returns-then-self-len-clause-judges : goal.returns-then-self-len-clause-judges
returns-then-self-len-clause-judges c =
    let f = c.args.self.now in
    let len : length (frame_bytes f) ≡ f.taken = length-take-le f.taken f.buffer.items (omega (arith, f.within, f.room, f.buffer.ok.0)) in
    let is = subst (λ b. FindsHead c.args.version c.args.place b (Ok c.in-Ok.head)) c.bytes.ensures c.in-Ok.ensures in
    record {
      short = under_body c.args.version c.args.place (frame_bytes f) _ _ is (omega (arith, len, c.if-self-len.true));
      read = no_body_yet c.args.version c.args.place (frame_bytes f) _ _ is (omega (arith, len, c.if-self-len.true));
    }

pub read-requires-clause-body : goal.read-requires-clause-body
read-requires-clause-body c =
    let f = c.args.self.now in
    let len : length (frame_bytes f) ≡ f.taken = length-take-le f.taken f.buffer.items (omega (arith, f.within, f.room, f.buffer.ok.0)) in
    let is = subst (λ b. FindsHead c.args.version c.args.place b (Ok c.in-Ok.head)) c.bytes.ensures c.in-Ok.ensures in
    body_there c.args.version c.args.place (frame_bytes f) _ _ is (all_there c.args.version c.args.place (frame_bytes f) _ _ c.requires is (omega (arith, len, c.if-self-len.false)))

pub returns-in-Ok-read-clause-judges : goal.returns-in-Ok-read-clause-judges
returns-in-Ok-read-clause-judges c =
    let f = c.args.self.now in
    let len : length (frame_bytes f) ≡ f.taken = length-take-le f.taken f.buffer.items (omega (arith, f.within, f.room, f.buffer.ok.0)) in
    let is = subst (λ b. FindsHead c.args.version c.args.place b (Ok c.in-Ok.head)) c.bytes.ensures c.in-Ok.ensures in
    read_whole c.args.version c.args.place (frame_bytes f) _ _ (Ok (frame_message c.read.new.self)) (omega (arith, len, c.if-self-lt-HEAD.false)) is
    (all_there c.args.version c.args.place (frame_bytes f) _ _ c.requires is (omega (arith, len, c.if-self-len.false))) c.in-Ok-read.ensures.fits c.in-Ok-read.ensures.read

pub returns-in-Err-read-clause-judges : goal.returns-in-Err-read-clause-judges
returns-in-Err-read-clause-judges c =
    let f = c.args.self.now in
    let len : length (frame_bytes f) ≡ f.taken = length-take-le f.taken f.buffer.items (omega (arith, f.within, f.room, f.buffer.ok.0)) in
    let is = subst (λ b. FindsHead c.args.version c.args.place b (Ok c.in-Ok.head)) c.bytes.ensures c.in-Ok.ensures in
    body_shows c.args.version c.args.place (frame_bytes f) _ _ c.in-Err-read.fault (omega (arith, len, c.if-self-lt-HEAD.false)) is
    (all_there c.args.version c.args.place (frame_bytes f) _ _ c.requires is (omega (arith, len, c.if-self-len.false))) c.in-Err-read.ensures.fits c.in-Err-read.ensures.read
