-- The prover folds both lists once more.
use Rattle.std.proofs.Common.{◌≡◌, ℕ, ◌*◌, ◌%◌, ◌∷◌, [], ◌++◌, length, rules}
use Rattle.sip_field.specs.Moduli.{m61_modulus}
use Rattle.sip_sums.specs.Honest.{Proving, learnt}
use Rattle.sip_helper.specs.Sums.{HasFolded}
use Rattle.sip_helper.proofs.SumReplies.{one_more}
use Rattle.sip_helper.proofs.sums.SumsProverProver.learn.Goals as goal

pub returns-clause-learnt : goal.returns-clause-learnt
returns-clause-learnt c = λ depth v revealed less has.
    let old = c.args.self.now in
    let grows : (next : Proving) (s : ℕ) → next ≡ learnt m61_modulus old.prover s → s ≡ c.args.challenge % m61_modulus → 2 * length next.first ≡ length old.prover.first → HasFolded depth v (revealed ++ c.args.challenge ∷ []) (record old { prover = next }) =
    λ next s above is half. one_more depth v revealed old next c.args.challenge s has c.requires.element is above half less in
    search rules
