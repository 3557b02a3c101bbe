-- The new hash and weight by the clauses of the calls, and from them what the root stands for.
use Rattle.std.proofs.Common.{rules, ◌≡◌, ℕ, nat_abs, w64, to_z, of_z, ◌+◌, ◌*◌, ◌%◌, ◌<◌, refl, ◌∙◌, ap, arith}
use Rattle.std.proofs.Math.Nat.{mod-mod}
use Rattle.std.proofs.lemmas.Int.{to_z-of_z}
use Rattle.std.proofs.lemmas.Nat.{mul-mod_first}
use Rattle.sip_field.specs.Residue.{residue}
use Rattle.sip_vector.specs.Weights.{hash_weight_from}
use Rattle.sip_vector.proofs.TreeResidues.{mod_plus}
use Rattle.sip_tree.specs.Steps.{sign}
use Rattle.sip_tree.proofs.Splitting.{split_root_stands, term_is}
use Rattle.sip_tree.proofs.split.SplitRoot.update.Goals as goal

pub returns-clause-hash : goal.returns-clause-hash
returns-clause-hash g c =
    let p : ℕ = g.F.Field.MODULUS in
    let some : 0 < p = omega (arith, g.met.F.Field.at_least) in
    let old : ℕ = c.args.self.now.hash in
    let n : ℕ = nat_abs c.args.delta in
    let kept : to_z w64 (of_z w64 c.args.delta) ≡ c.args.delta = to_z-of_z w64 c.args.delta c.ranges.delta in
    let sized : c.unsigned_abs-size.result ≡ n = search rules in
    let x : ℕ = g.F.Field.number c.times-term.result in
    let h : ℕ = hash_weight_from p (residue p (sign c.args.delta)) c.args.index c.args.self.now.seat in
    let weight : g.F.Field.number c.hash_weighted-weight.result ≡ h =
    c.hash_weighted-weight.ensures ∙ ap (λ l. hash_weight_from p l c.args.index c.args.self.now.seat) (c.sign_of.ensures ∙ ap (λ z. residue p (sign z)) kept) in
    let made : x % p ≡ (n * h) % p =
    ap (λ y. y % p) (c.times-term.ensures ∙ ap (λ y. (y * g.F.Field.number c.hash_weighted-weight.result) % p) (c.of.ensures ∙ ap (λ y. y % p) sized) ∙ ap (λ y. (n % p * y) % p) weight)
    ∙ mod-mod (n % p * h) p ∙ mul-mod_first n h p in
    c.number-self.ensures ∙ c.plus.ensures ∙ ap (λ y. (y + x) % p) c.of_number.ensures
    ∙ mod_plus p old old x _ refl (term_is p c.args.index c.args.self.now.seat c.args.delta x some made)

pub returns-clause-weight : goal.returns-clause-weight
returns-clause-weight g c =
    let sized : c.unsigned_abs-size.result ≡ nat_abs c.args.delta = search rules in
    omega (arith, sized, c.requires.weight)

pub returns-clause-stands : goal.returns-clause-stands
returns-clause-stands g c values weights stands =
    let some : 0 < g.F.Field.MODULUS = omega (arith, g.met.F.Field.at_least) in
    split_root_stands _ _ _ c.args.delta _ _ _ _ values weights some c.requires.index (returns-clause-hash g c) (returns-clause-weight g c) stands
