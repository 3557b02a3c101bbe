-- What was gathered is what the session is opened over.
use Rattle.std.proofs.Common.{◌≡◌, ◌≤◌, ℕ, List, Some, arith}
use Rattle.sip_vector.specs.Limits.{most_depth}
use Rattle.sip_verifier.specs.Negatives.{gathered_negatives}
use Rattle.sip_verifier.specs.Snapshots.{no_port}
use Rattle.sip_verifier.proofs.RunNegatives.{gathered_are}
use Rattle.sip_verifier.proofs.SeatsHead.{gathered-speak}
use Rattle.sip_verifier.proofs.checking.gather_session.Goals as goal

pub open_session-requires : goal.open_session-requires
open_session-requires g c =
    let most : c.args.task.now.depth ≤ most_depth = omega (arith, c.get-levels.ensures.same, c.get-levels.ensures.most) in
    gathered-speak c.args.task.now.depth _ c.version.result c.gather-weights.new.gathered most c.version.ensures (c.gather-weights.ensures.keeps no_port no_port).seated

pub returns-clause-gathers : goal.returns-clause-gathers
returns-clause-gathers g c =
    let told : (bytes seed : List ℕ) → g.A.Source.left c.args.first.now ≡ Some bytes → g.B.Source.left c.args.second.now ≡ Some seed
    → c.negatives_of.result ≡ gathered_negatives c.args.task.now bytes c.gather-weights.new.gathered =
    λ bytes seed read drawn.
    let keeps = c.gather-weights.ensures.keeps no_port no_port in
    gathered_are c.args.task.now bytes seed _ _ _ c.gather-weights.new.gathered c.gather-weights.result c.negatives_of.result (keeps.gathers bytes seed read drawn) (keeps.weights bytes read) c.negatives_of.ensures in
    (c.gather-weights.new.gathered, c.gather-weights.result, c.gather-weights.ensures.keeps, told, rw c.version.ensures at c.open_session.ensures)
