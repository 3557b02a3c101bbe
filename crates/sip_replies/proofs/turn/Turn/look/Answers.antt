use Rattle.std.proofs.Common.{[], ◌++◌, Some, None, sym, subst}
use Rattle.sip_ports.specs.Ports.{ins}
use Rattle.sip_wire.specs.declared.message.Message.{Message}
use Rattle.sip_wire.specs.declared.message.Reason.{Reason}
use Rattle.sip_wire.specs.declared.version.Version.{Version}
use Rattle.sip_wire.specs.Decoding.{Took}
use Rattle.sip_wire.specs.Frames.{frame_bytes, frame_message}
use Rattle.sip_wire.specs.Taking.{ShowsFault}
use Rattle.sip_replies.specs.declared.turn.Stage.TheVariants as stages
use Rattle.sip_replies.specs.declared.turn.Turn.{Turn}
use Rattle.sip_replies.specs.Asking.{Shows, IsRejected}
use Rattle.sip_replies.specs.Following.{Follows}
use Rattle.sip_replies.proofs.Fed.{Came-put, Shows-put, HasFault-put, IsFed-part, IsFed-judged, short_empty}
use Rattle.sip_replies.proofs.Stepping.{at_stage, IsRejected-fault}
use Rattle.sip_replies.proofs.turn.Turn.look.Goals as goal

pub returns-in-Part-clause-fed : goal.returns-in-Part-clause-fed
returns-in-Part-clause-fed g c asked request block before same placed follows =
    IsFed-part (g.C.Check.protocol asked) request block (λ s. g.C.Check.stands asked s c.args.check.now c.args.places.now) c.args.places.now c.args.self.now before (frame_bytes c.args.frame.now) (frame_bytes c.judge.new.self) follows c.requires.hears c.judge.ensures.bytes
    c.version.result c.version.ensures c.args.place placed c.in-Part.ensures.judges.short

pub returns-in-Whole-clause-fed : goal.returns-in-Whole-clause-fed
returns-in-Whole-clause-fed g c asked request block before same placed follows =
    let P = g.C.Check.protocol asked in
    let turn = c.args.self.now in
    let got = frame_bytes c.args.frame.now in
    let m = frame_message c.judge.new.self in
    let took = subst (λ (v : Version). Took v c.args.place got m) c.version.ensures c.in-Whole.ensures.judges in
    IsFed-judged P request block (λ s. g.C.Check.stands asked s c.took.new.check c.took.new.places) c.took.new.places c.took.new.self before got (frame_bytes c.clear.new.self)
    (c.took.ensures.follows asked request block (Some []) (Some before) (Some (before ++ ins got)) None None None c.args.place (m, []) placed same follows
    (Came-put turn.version c.args.place before got c.requires.most m took)
    (subst (λ (x : Message). Shows turn.version x (m, [])) (sym c.message.ensures) (Shows-put turn.version c.args.place before got m took))) c.clear.ensures.bytes

pub returns-in-NoFrame-clause-fed : goal.returns-in-NoFrame-clause-fed
returns-in-NoFrame-clause-fed g c asked request block before same placed follows =
    let P = g.C.Check.protocol asked in
    let turn = c.args.self.now in
    let got = frame_bytes c.args.frame.now in
    let Stands = λ (s : g.C.Check.State). g.C.Check.stands asked s c.args.check.now c.args.places.now in
    let hears = at_stage P request block Stands (Some []) (Some before) (Some before) None None c.args.places.now turn follows stages.Hears c.requires.hears in
    let shows = subst (λ (v : Version). ShowsFault v c.args.place got c.in-NoFrame.fault) c.version.ensures c.in-NoFrame.ensures.judges in
    let rejected = IsRejected-fault P request block Stands turn.round (Some []) (Some before) (Some (before ++ ins got)) None None None hears turn.version follows.version c.args.place (placed hears.entered.state hears.entered.stands) _
    (HasFault-put turn.version c.args.place before got c.requires.most c.in-NoFrame.fault shows) in
    IsFed-judged P request block Stands c.args.places.now c.refused.new.self before got (frame_bytes c.clear-in-NoFrame.new.self)
    (subst (λ (t : Turn). Follows P request block (Some []) (Some (before ++ ins got)) None None Stands c.args.places.now t) (sym c.refused.ensures)
    (record {
      version = follows.version;
      at = subst (λ (reason : Reason). IsRejected P request block (Some []) (Some (before ++ ins got)) None None turn.round reason) (sym c.reason_for.ensures) rejected;
    })) c.clear-in-NoFrame.ensures.bytes

pub returns-in-Whole-clause-stands : goal.returns-in-Whole-clause-stands
returns-in-Whole-clause-stands g c asked s stands placed still_open =
    let next = c.took.ensures.stands asked s stands still_open in
    (next.0, next.1, short_empty c.took.new.self.version ((g.C.Check.protocol asked).rules.place next.0) (frame_bytes c.clear.new.self) c.clear.ensures.bytes)
