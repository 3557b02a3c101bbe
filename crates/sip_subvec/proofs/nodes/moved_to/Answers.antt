use Rattle.std.proofs.Common.{◌≡◌, ℕ, ◌*◌, ◌%◌, ap, ◌∙◌}
use Rattle.std.proofs.lemmas.Nat.{mul-mod_first}
use Rattle.sip_field.specs.Products.{zero_factor, bits_product}
use Rattle.sip_field.specs.declared.factors.Factors.TheVariants.{Tree}
use Rattle.sip_subvec.proofs.NearEntries.{near_left}
use Rattle.sip_subvec.proofs.nodes.moved_to.Goals as goal

pub returns-clause-sum : goal.returns-clause-sum
returns-clause-sum g c challenges are long within =
    let p : ℕ = g.F.Field.MODULUS in
    let near : ℕ = c.args.sums.near in
    let b : ℕ = bits_product p (zero_factor p Tree) c.args.sums.path challenges in
    let other : ℕ = bits_product p (zero_factor p Tree) c.args.path challenges in
    let left : g.F.Field.number c.by_tables.result ≡ (near * b) % p =
    c.by_tables.ensures (zero_factor p Tree) challenges are long within ∙ ap (λ y. (y * b) % p) c.of_wide.ensures ∙ mul-mod_first near b p in
    rw (c.plus.ensures, left) (near_left p (g.F.Field.number c.args.sums.sum) near b other)
