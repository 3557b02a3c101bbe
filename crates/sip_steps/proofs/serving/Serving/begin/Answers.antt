-- Nothing was heard, and no byte of a frame came.
use Rattle.std.proofs.Common.{ℕ, [], Some, sym, subst}
use Rattle.sip_helper.specs.UnderWay.{UnderWay}
use Rattle.sip_helper.proofs.Talks.{begins}
use Rattle.sip_steps.proofs.OneTalk.{none_coming}
use Rattle.sip_steps.proofs.serving.Serving.begin.Goals as goal

pub returns-clause-served : goal.returns-clause-served
returns-clause-served g c =
    let r = g.H.Helps.rules in
    let left = g.H.Helps.turns_left in
    let helper = c.args.helper in
    let coming = c.in_ok-coming.coming in
    let none = c.in_ok-coming.ensures in
    record {
      before = [];
      turns = subst (λ (n : ℕ). UnderWay r left helper 0 (Some []) (Some []) helper n) (sym none.offset) (begins r left helper 0 (Some []) c.requires.going c.requires.few);
      live = c.requires.live;
      part = none_coming (r.version helper) (r.place helper) [] coming none.bytes none.lacking;
    }

pub returns-clause-begun : goal.returns-clause-begun
returns-clause-begun g c = (c.args.helper, [], returns-clause-served g c)
