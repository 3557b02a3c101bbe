-- The other end closed before a farewell.
use Rattle.std.proofs.Common.{◌≡◌, ◌++◌, [], List, None, Some, not, sym, ap, subst, ◌∙◌}
use Rattle.sip_ports.specs.declared.port.TalkEvent.{TalkEvent}
use Rattle.sip_helper.specs.declared.status.HelpStatus.TheVariants.{PeerClosed}
use Rattle.sip_helper.specs.Rules.{ServesBy}
use Rattle.sip_steps.specs.Served.{end_seen}
use Rattle.sip_steps.proofs.OneTalk.{closed_then, goes_of, none_of}
use Rattle.sip_steps.proofs.serving.Serving.close.Goals as goal

pub returns-then-is_none-clause-served : goal.returns-then-is_none-clause-served
returns-then-is_none-clause-served g c first events served =
    let r = g.H.Helps.rules in
    let left = g.H.Helps.turns_left in
    let is_live = g.H.Helps.is_live in
    let a = c.args.self.now in
    let none : a.status ≡ None = none_of a.status (c.is_none.ensures ∙ ap not c.if-is_none.true) in
    subst (λ (e : List TalkEvent). ServesBy r first (Some []) (Some (events ++ e)) PeerClosed) (sym (ap end_seen none))
    (closed_then r left is_live first 0 [] events a.helper a.coming (goes_of r left is_live first events a none served))

pub returns-then-is_none-clause-begun : goal.returns-then-is_none-clause-begun
returns-then-is_none-clause-begun g c =
    let b = c.requires.begun in
    (b.0, b.1 ++ end_seen c.args.self.now.status, returns-then-is_none-clause-served g c b.0 b.1 b.2)
