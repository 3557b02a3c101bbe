-- The new hash by the clauses of the calls, one update at a time or by tables.
use Rattle.std.proofs.Common.{rules, ◌≡◌, ℕ, List, pos, FitsSigned, w64, to_z, of_z, ◌+◌, ◌*◌, ◌%◌, ◌^◌, ◌<◌, length, get_or, replicate, ◌∙◌, ap, arith}
use Rattle.std.specs.Prelude.{All}
use Rattle.std.proofs.lemmas.Int.{to_z-of_z}
use Rattle.std.proofs.lemmas.List.Elements.{All-get_or, All-replicate}
use Rattle.sip_field.specs.Residue.{residue}
use Rattle.sip_vector.specs.Weights.{hash_weight}
use Rattle.sip_vector.specs.declared.update.Side.TheVariants.{First}
use Rattle.sip_vector.specs.declared.update.Update.{Update}
use Rattle.sip_tree.specs.Steps.{no_step, IsBelow}
use Rattle.sip_tree.proofs.Blocks.{one_more, hash_term}
use Rattle.sip_tree.proofs.augmented.AugRoot.hash_anew.Goals as goal

pub loop-update-init : goal.loop-update-init
loop-update-init g c = c.of_number-hash.ensures

-- one past the end of a slice
abbrev none : Update
none = record { side = First; item = 0; delta = pos 0 }

pub raised-hash-requires : goal.raised-hash-requires
raised-hash-requires g c = (
  search rules,
  All-get_or (λ u. u.item < 2 ^ length c.args.self.now.seat) c.args.updates.now c.loop-update.update-index none c.loop-update-test.true c.requires.items,
)

pub loop-update-preserved : goal.loop-update-preserved
loop-update-preserved g c =
    let p : ℕ = g.F.Field.MODULUS in
    let seat : List ℕ = c.args.self.now.seat in
    let updates : List Update = c.args.updates.now in
    let k : ℕ = c.loop-update.update-index in
    let u : Update = get_or updates k none in
    let v : ℕ = g.F.Field.number c.loop-update.hash in
    let fits : FitsSigned w64 u.delta = search rules in
    let kept : to_z w64 (of_z w64 u.delta) ≡ u.delta = to_z-of_z w64 u.delta fits in
    one_more p (hash_term p seat) c.args.self.now.hash updates k none v _ c.loop-update-test.true c.loop-update.invariant
    (c.raised-hash.ensures ∙ ap (λ d. (v + residue p d * hash_weight p u.item seat) % p) kept)

pub fill_steps-count-requires : goal.fill_steps-count-requires
fill_steps-count-requires g c =
    let p : ℕ = g.F.Field.MODULUS in
    let some : 0 < p = omega (arith, g.met.F.Field.at_least) in (
      search rules,
      (
        omega arith,
        (
          omega (arith, c.requires.depth),
          All-replicate (All (IsBelow p)) 6 (replicate 256 no_step) (All-replicate (IsBelow p) 256 no_step (some, some)),
        ),
      ),
    )
