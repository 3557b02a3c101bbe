-- Bytes came while they were to come: too few for a look at the frame, or not.
use Rattle.std.proofs.Common.{ℕ, ◌++◌, List, length, sym, subst, take}
use Rattle.std.proofs.Math.Seq.{take-length}
use Rattle.sip_ports.specs.Ports.{ins}
use Rattle.sip_steps.specs.Asked.{IsAsked}
use Rattle.sip_steps.proofs.asking.Asking.feed.Goals as goal

pub returns-then-bytes-self-clause-asked : goal.returns-then-bytes-self-clause-asked
returns-then-bytes-self-clause-asked g c asked request block events is =
    subst (λ (l : List ℕ). IsAsked (g.C.Check.protocol asked) (g.C.Check.stands asked) g.C.Check.phase g.Q.Request.message request block (events ++ ins l) c.gather.new.self) (sym (take-length c.args.bytes.now)) (c.gather.ensures.asked asked request block events is)

pub returns-then-bytes-self-clause-begun : goal.returns-then-bytes-self-clause-begun
returns-then-bytes-self-clause-begun g c =
    let b = c.requires.begun in
    (b.0, b.1, b.2, b.3 ++ ins (take (length c.args.bytes.now) c.args.bytes.now), returns-then-bytes-self-clause-asked g c b.0 b.1 b.2 b.3 b.4)

pub returns-clause-begun : goal.returns-clause-begun
returns-clause-begun g c =
    let b = c.requires.begun in
    (b.0, b.1, b.2, b.3 ++ ins (take c.hear.result c.args.bytes.now), c.hear.ensures.asked b.0 b.1 b.2 b.3 b.4)
