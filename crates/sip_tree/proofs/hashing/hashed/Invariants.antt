use Rattle.std.proofs.Common.{length}
use Rattle.sip_tree.specs.Blocks.{hash_after}
use Rattle.sip_tree.specs.Steps.{AreStepTables}
use Rattle.sip_tree.proofs.TableSums.{AreHalves}
use Rattle.sip_tree.proofs.hashing.hashed.Given as goal

-- the halves are those of the hash after the first updates
abbrev pub invariant-loop-update : goal.invariant-loop-update
invariant-loop-update g l =
    let p = g.F.Field.MODULUS in
    AreHalves p (λ challenges. AreStepTables p challenges l.tables) (length l.tables) l.updates
    (λ challenges. hash_after p challenges (g.F.Field.number l.fn.hash)) l.update-index l.low l.high
