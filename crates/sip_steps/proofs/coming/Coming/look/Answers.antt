-- What came of a frame is a part, a message, which is answered, or none.
use Rattle.std.proofs.Common.{◌≡◌, ◌+◌, ◌<◌, ◌≤◌, [], ℕ, List, Ok, Err, length, refl, sym, ap, subst, ◌∙◌, arith}
use Rattle.sip_ports.proofs.TalkLemmas.{GoesOn-refl}
use Rattle.sip_wire.specs.declared.message.Message.{Message}
use Rattle.sip_wire.specs.Decoding.{Took}
use Rattle.sip_wire.specs.Frames.{frame_bytes}
use Rattle.sip_wire.specs.Spelling.{asked}
use Rattle.sip_wire.specs.Taking.{ShowsFault, room_for}
use Rattle.sip_wire.proofs.Wider.{fits_two}
use Rattle.sip_steps.proofs.OneTalk.{answered, at_state, sent_apart, stops_at_fault}
use Rattle.sip_steps.proofs.coming.Coming.look.Goals as goal

pub answer_turn-requires-clause-fits : goal.answer_turn-requires-clause-fits
answer_turn-requires-clause-fits g c = rw c.message-message.ensures (fits_two c.args.version _ c.in-Whole.ensures.judges.has_spelling)

pub returns-in-Part-clause-comes : goal.returns-in-Part-clause-comes
returns-in-Part-clause-comes g c =
    let got = frame_bytes c.args.self.now.frame in
    let room : c.room-self.result ≡ room_for c.args.version c.args.place got = c.room-self.ensures.room ∙ ap (λ (l : List ℕ). room_for c.args.version c.args.place l) c.judge.ensures.bytes in (
      [],
      GoesOn-refl (g.K.Sink.talk c.args.out.now),
      record {
        silent = refl;
        same = refl;
        there = c.judge.ensures.bytes;
        short = at_state (λ v p. length got < asked v p got) _ _ _ _ c.requires.version c.requires.place c.in-Part.ensures.judges.short;
        lacks = at_state (λ v p. c.room-self.result ≤ room_for v p got) _ _ _ _ c.requires.version c.requires.place (omega (arith, room));
        at = refl;
      },
    )

pub returns-in-NoFrame-clause-comes : goal.returns-in-NoFrame-clause-comes
returns-in-NoFrame-clause-comes g c =
    let got = frame_bytes c.args.self.now.frame in
    let within = at_state (λ v p. length got ≤ asked v p got) _ _ _ _ c.requires.version c.requires.place c.requires.within in
    let shows = at_state (λ v p. ShowsFault v p got c.in-NoFrame.field-0) _ _ _ _ c.requires.version c.requires.place c.in-NoFrame.ensures.judges in
    ([], GoesOn-refl (g.K.Sink.talk c.args.out.now), stops_at_fault g.H.Helps.rules c.args.helper.now c.args.self.now.offset got within c.in-NoFrame.field-0 shows)

pub returns-in-Err-clause-comes : goal.returns-in-Err-clause-comes
returns-in-Err-clause-comes g c =
    let r = g.H.Helps.rules in
    let s = c.args.helper.now in
    let got = frame_bytes c.args.self.now.frame in
    let m = c.message-message.result.now in
    let took = at_state (λ v p. Took v p got m) _ _ _ _ c.requires.version c.requires.place (subst (λ (x : Message). Took c.args.version c.args.place got x) (sym c.message-message.ensures) c.in-Whole.ensures.judges) in
    let so = c.in-Err.ensures.turn in
    let apart = sent_apart r _ _ s c.answer_turn.new.helper m c.args.self.now.offset (Err c.in-Err.status) so in
    (apart.sent, apart.went, answered r s c.args.self.now.offset got m took _ _ c.answer_turn.new.helper (Err c.in-Err.status) so)

pub returns-in_default-clause-comes : goal.returns-in_default-clause-comes
returns-in_default-clause-comes g c =
    let r = g.H.Helps.rules in
    let s = c.args.helper.now in
    let got = frame_bytes c.args.self.now.frame in
    let m = c.message-message.result.now in
    let took = at_state (λ v p. Took v p got m) _ _ _ _ c.requires.version c.requires.place (subst (λ (x : Message). Took c.args.version c.args.place got x) (sym c.message-message.ensures) c.in-Whole.ensures.judges) in
    let so = c.in_default.ensures.turn in
    let apart = sent_apart r _ _ s c.answer_turn.new.helper m c.args.self.now.offset (Ok tt) so in (
      apart.sent,
      apart.went,
      record {
        taken = answered r s c.args.self.now.offset got m took _ _ c.answer_turn.new.helper (Ok tt) so;
        live = c.in_default.ensures.live;
        fewer = c.in_default.ensures.fewer;
        empty = c.clear.ensures.bytes;
        unknown = refl;
        at = ap (λ (n : ℕ). c.args.self.now.offset + n) (ap length (c.bytes.ensures ∙ c.judge.ensures.bytes));
      },
    )
