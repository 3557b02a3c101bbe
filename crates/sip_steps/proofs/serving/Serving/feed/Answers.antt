-- Bytes came that are too few for a look at the frame, or not.
use Rattle.std.proofs.Common.{ℕ, ◌++◌, List, sym, subst}
use Rattle.std.proofs.Math.Seq.{take-length}
use Rattle.sip_ports.specs.declared.port.TalkEvent.{TalkEvent}
use Rattle.sip_ports.specs.Ports.{ins}
use Rattle.sip_ports.proofs.TalkLemmas.{GoesOn-refl}
use Rattle.sip_steps.specs.Served.{IsServed, Passes}
use Rattle.sip_steps.proofs.OneTalk.{passes_took}
use Rattle.sip_steps.proofs.serving.Serving.feed.Goals as goal

pub returns-then-bytes-self-clause-passes : goal.returns-then-bytes-self-clause-passes
returns-then-bytes-self-clause-passes g c first events served =
    let talk = g.K.Sink.talk c.args.out.now in
    let After : List TalkEvent → Type 0 = λ all. IsServed g.H.Helps.rules g.H.Helps.turns_left g.H.Helps.is_live first all c.gather.new.self in
    subst (λ (l : List ℕ). Passes talk talk l events After) (sym (take-length c.args.bytes.now)) (passes_took talk events c.args.bytes.now After (GoesOn-refl talk) (c.gather.ensures.served first events served))

pub returns-then-bytes-self-clause-begun : goal.returns-then-bytes-self-clause-begun
returns-then-bytes-self-clause-begun g c =
    let b = c.requires.begun in
    (b.0, b.1 ++ ins c.args.bytes.now, c.gather.ensures.served b.0 b.1 b.2)
