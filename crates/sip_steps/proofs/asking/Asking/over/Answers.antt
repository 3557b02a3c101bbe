-- Nothing was said, and no byte of a frame came.
use Rattle.std.proofs.Common.{refl, sym, subst, arith}
use Rattle.std.specs.Prelude.{IsTrue, None, Some, []}
use Rattle.sip_wire.specs.Frames.{frame_bytes}
use Rattle.sip_wire.specs.Spelling.{fits}
use Rattle.sip_wire.specs.declared.version.Version.{Version}
use Rattle.sip_steps.proofs.OneQuestion.{IsFed-begun}
use Rattle.sip_steps.proofs.asking.Asking.over.Goals as goal

pub returns-clause-asked : goal.returns-clause-asked
returns-clause-asked g c asked same stands =
    let request = g.Q.Request.message c.args.request in
    record {
      asks = refl;
      spelled = subst (λ (v : Version). IsTrue (fits v request)) (sym c.begin-turn.ensures.version) c.requires.fits;
      fed = IsFed-begun (g.C.Check.protocol asked) request (g.C.Check.phase c.args.check).block (λ s. g.C.Check.stands asked s c.args.check c.args.places.items) c.args.places.items c.begin-turn.result (frame_bytes c.args.frame)
          (c.begin-turn.ensures.follows asked request (Some []) None c.args.places.items same stands) c.requires.empty;
      at = λ still_open. c.begin-turn.ensures.at;
      block_is = λ still_open. refl;
      lacks = λ hears s stood. omega arith;
    }
