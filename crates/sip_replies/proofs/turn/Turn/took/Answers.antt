use Rattle.std.proofs.Common.{◌≡◌, Ok, sym, ap, subst, ◌∙◌}
use Rattle.sip_replies.specs.declared.check.More.{More}
use Rattle.sip_replies.specs.declared.check.More.TheVariants as mores
use Rattle.sip_replies.specs.declared.turn.Stage.{Stage}
use Rattle.sip_replies.specs.declared.turn.Stage.TheVariants as stages
use Rattle.sip_replies.specs.declared.turn.Turn.{Turn}
use Rattle.sip_replies.specs.Protocols.{Phase, after}
use Rattle.sip_replies.specs.Checks.{Steps}
use Rattle.sip_replies.specs.Following.{Follows, FollowsAt}
use Rattle.sip_replies.proofs.Entering.{stepped_due, stepped_err}
use Rattle.sip_replies.proofs.Stepping.{at_stage, IsRejected-took, Hears-due, Going-complete}
use Rattle.sip_replies.proofs.turn.Turn.took.Goals as goal

pub returns-in-Ok-Due-clause-follows : goal.returns-in-Ok-Due-clause-follows
returns-in-Ok-Due-clause-follows g c asked request block old mid new before during now place said placed same follows came shows =
    let P = g.C.Check.protocol asked in
    let turn = c.args.self.now in
    let m = c.args.message.now in
    let Stands = λ (s : g.C.Check.State). g.C.Check.stands asked s c.args.check.now c.args.places.now in
    let Next = λ (t : g.C.Check.State). g.C.Check.stands asked t c.take.new.self c.take.new.places in
    let hears = at_stage P request block Stands old mid new before during c.args.places.now turn follows stages.Hears c.requires.hears in
    let s = hears.entered.state in
    let step = subst (λ (more : More). Steps (P.rules.step s m) Next (Ok more)) c.in-Ok-Due.field-0-is (c.in-Ok-Due.ensures.took asked s hears.entered.stands) in
    let due = stepped_due (P.rules.step s m) Next mores.Due step in
    record {
      version = follows.version;
      at = subst (λ (x : Stage). FollowsAt P request block old new before now Next c.take.new.places turn.round x) (sym c.requires.hears)
          (Hears-due P request block Stands turn.round old mid new before during now hears turn.version follows.version place (placed s hears.entered.stands) m said came shows Next due.0 due.2 due.1);
    }

pub returns-in-Ok-Complete-clause-follows : goal.returns-in-Ok-Complete-clause-follows
returns-in-Ok-Complete-clause-follows g c asked request block old mid new before during now place said placed same follows came shows =
    let P = g.C.Check.protocol asked in
    let turn = c.args.self.now in
    let m = c.args.message.now in
    let Stands = λ (s : g.C.Check.State). g.C.Check.stands asked s c.args.check.now c.args.places.now in
    let Next = λ (t : g.C.Check.State). g.C.Check.stands asked t c.take.new.self c.take.new.places in
    let hears = at_stage P request block Stands old mid new before during c.args.places.now turn follows stages.Hears c.requires.hears in
    let s = hears.entered.state in
    let step = subst (λ (more : More). Steps (P.rules.step s m) Next (Ok more)) c.in-Ok-Complete.field-0-is (c.in-Ok-Complete.ensures.took asked s hears.entered.stands) in
    let complete = stepped_due (P.rules.step s m) Next mores.Complete step in
    let phase = subst (λ (more : More). g.C.Check.phase c.take.new.self ≡ after more (g.C.Check.phase c.args.check.now)) c.in-Ok-Complete.field-0-is c.in-Ok-Complete.ensures.phase in
    c.complete.ensures.follows asked request block old new before now hears.due (ap (λ (p : Phase). p.block) phase ∙ same) follows.version
    (Going-complete P request block Stands turn.round old mid new before during now hears turn.version follows.version place (placed s hears.entered.stands) m said came shows Next complete.0 complete.2 complete.1)

pub returns-in-Err-clause-follows : goal.returns-in-Err-clause-follows
returns-in-Err-clause-follows g c asked request block old mid new before during now place said placed same follows came shows =
    let P = g.C.Check.protocol asked in
    let turn = c.args.self.now in
    let m = c.args.message.now in
    let Stands = λ (s : g.C.Check.State). g.C.Check.stands asked s c.args.check.now c.args.places.now in
    let Next = λ (t : g.C.Check.State). g.C.Check.stands asked t c.take.new.self c.take.new.places in
    let hears = at_stage P request block Stands old mid new before during c.args.places.now turn follows stages.Hears c.requires.hears in
    let s = hears.entered.state in
    let fails = stepped_err (P.rules.step s m) Next c.in-Err.reason (c.in-Err.ensures.took asked s hears.entered.stands) in
    let rejected = IsRejected-took P request block Stands turn.round old mid new before during now hears turn.version follows.version place (placed s hears.entered.stands) m said came shows c.in-Err.reason fails
    (g.met.C.Check.tests asked s m c.in-Err.reason fails) in
    subst (λ (t : Turn). Follows P request block old new before now Next c.take.new.places t) (sym c.refused.ensures) (record { version = follows.version; at = rejected })
