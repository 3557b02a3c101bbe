-- The new hash and weight by the clauses of the calls, and from them what the root stands for.
use Rattle.std.proofs.Common.{rules, ◌≡◌, ℕ, List, pos, nat_abs, FitsSigned, w64, to_z, of_z, ◌+◌, ◌%◌, ◌^◌, ◌<◌, ◌≤◌, map, take, length, get_or, replicate, refl, sym, ◌∙◌, ap, subst, arith}
use Rattle.std.specs.Prelude.{All}
use Rattle.std.proofs.lemmas.Int.{to_z-of_z}
use Rattle.std.proofs.lemmas.List.{take_all, length-take-le}
use Rattle.std.proofs.lemmas.List.Elements.{All-get_or, All-replicate}
use Rattle.sip_vector.specs.Splits.{absolute}
use Rattle.sip_vector.specs.Streams.{most_weight}
use Rattle.sip_vector.specs.Weights.{numbers_after}
use Rattle.sip_vector.specs.declared.update.Side.TheVariants.{First}
use Rattle.sip_vector.specs.declared.update.Update.{Update}
use Rattle.sip_tree.specs.Blocks.{split_term, split_after, weight_after}
use Rattle.sip_tree.specs.StandsFor.{SplitRootStandsFor}
use Rattle.sip_tree.specs.Steps.{no_step, IsBelow}
use Rattle.sip_tree.proofs.Blocks.{one_more}
use Rattle.sip_tree.proofs.Splitting.{signed_term, one_weight, front_is_light, split_root_stands_after}
use Rattle.sip_tree.proofs.split.SplitRoot.update_all.Goals as goal

pub loop-update-init : goal.loop-update-init
loop-update-init g c = record { seat = refl; hash = refl; weight = refl }

-- one past the end of a slice
abbrev none : Update
none = record { side = First; item = 0; delta = pos 0 }

-- the weight after one update more is light
small : (weight w : ℕ) (updates : List Update) (k : ℕ) → k < length updates → w ≡ weight_after weight (take k updates) →
    weight_after weight updates ≤ most_weight → w + nat_abs (get_or updates k none).delta ≤ most_weight
small weight w updates k within is light = omega (arith, one_weight weight updates k none w within is, front_is_light weight updates (k + 1), light)

pub update-requires : goal.update-requires
update-requires g c =
    let updates : List Update = c.args.updates.now in
    let k : ℕ = c.loop-update.update-index in
    let u : Update = get_or updates k none in
    let fits : FitsSigned w64 u.delta = search rules in (
      search rules,
      (
        subst (λ seat. u.item < 2 ^ length seat) (sym c.loop-update.invariant.seat)
            (All-get_or (λ u. u.item < 2 ^ length c.args.self.now.seat) updates k none c.loop-update-test.true c.requires.items),
        subst (λ d. c.loop-update.self.weight + nat_abs d ≤ most_weight) (sym (to_z-of_z w64 u.delta fits))
            (small c.args.self.now.weight c.loop-update.self.weight updates k c.loop-update-test.true c.loop-update.invariant.weight c.requires.weight),
      ),
    )

pub loop-update-preserved : goal.loop-update-preserved
loop-update-preserved g c =
    let p : ℕ = g.F.Field.MODULUS in
    let seat : List ℕ = c.args.self.now.seat in
    let updates : List Update = c.args.updates.now in
    let k : ℕ = c.loop-update.update-index in
    let u : Update = get_or updates k none in
    let v : ℕ = c.loop-update.self.hash in
    let w : ℕ = c.loop-update.self.weight in
    let fits : FitsSigned w64 u.delta = search rules in
    let kept : to_z w64 (of_z w64 u.delta) ≡ u.delta = to_z-of_z w64 u.delta fits in
    record {
      seat = c.update.ensures.seat ∙ c.loop-update.invariant.seat;
      hash = one_more p (signed_term p seat) c.args.self.now.hash updates k none v _ c.loop-update-test.true c.loop-update.invariant.hash
          (c.update.ensures.hash ∙ ap (λ d. (v + split_term p c.loop-update.self.seat u.item d) % p) kept
          ∙ ap (λ rs. (v + split_term p rs u.item u.delta) % p) c.loop-update.invariant.seat);
      weight = c.update.ensures.weight ∙ ap (λ d. w + nat_abs d) kept
          ∙ one_weight c.args.self.now.weight updates k none w c.loop-update-test.true c.loop-update.invariant.weight;
    }

pub fill_steps-count-requires : goal.fill_steps-count-requires
fill_steps-count-requires g c =
    let p : ℕ = g.F.Field.MODULUS in
    let some : 0 < p = omega (arith, g.met.F.Field.at_least) in (
      search rules,
      (
        omega arith,
        (
          omega (arith, c.requires.depth),
          All-replicate (All (IsBelow p)) 6 (replicate 256 no_step) (All-replicate (IsBelow p) 256 no_step (some, some)),
        ),
      ),
    )

pub overflow_add-weight : goal.overflow_add-weight
overflow_add-weight g c =
    let updates : List Update = c.args.updates.now in
    let k : ℕ = c.loop-update-else-updates-lt-BLOCK.update-index in
    let u : Update = get_or updates k none in
    let sized : c.unsigned_abs-weight.result ≡ nat_abs u.delta = search rules in
    omega (
      arith,
      sized,
      small c.args.self.now.weight c.loop-update-else-updates-lt-BLOCK.weight updates k c.loop-update-else-updates-lt-BLOCK-test.true
          c.loop-update-else-updates-lt-BLOCK.invariant.weight c.requires.weight,
    )

pub loop-update-else-updates-lt-BLOCK-preserved : goal.loop-update-else-updates-lt-BLOCK-preserved
loop-update-else-updates-lt-BLOCK-preserved g c =
    let updates : List Update = c.args.updates.now in
    let k : ℕ = c.loop-update-else-updates-lt-BLOCK.update-index in
    let u : Update = get_or updates k none in
    let w : ℕ = c.loop-update-else-updates-lt-BLOCK.weight in
    let here : k < length updates = c.loop-update-else-updates-lt-BLOCK-test.true in
    let sized : c.unsigned_abs-weight.result ≡ nat_abs u.delta = search rules in
    record {
      weight = ap (λ n. w + n) sized ∙ one_weight c.args.self.now.weight updates k none w here c.loop-update-else-updates-lt-BLOCK.invariant.weight;
    }

pub returns-after-loop-update-clause-hash : goal.returns-after-loop-update-clause-hash
returns-after-loop-update-clause-hash g c =
    c.loop-update.invariant.hash
    ∙ ap (split_after g.F.Field.MODULUS c.args.self.now.seat c.args.self.now.hash) (take_all c.loop-update.update-index c.args.updates.now c.loop-update-test.false)

pub returns-after-loop-update-clause-weight : goal.returns-after-loop-update-clause-weight
returns-after-loop-update-clause-weight g c =
    c.loop-update.invariant.weight
    ∙ ap (weight_after c.args.self.now.weight) (take_all c.loop-update.update-index c.args.updates.now c.loop-update-test.false)

pub returns-after-loop-update-clause-stands : goal.returns-after-loop-update-clause-stands
returns-after-loop-update-clause-stands g c values weights stands =
    let p : ℕ = g.F.Field.MODULUS in
    let some : 0 < p = omega (arith, g.met.F.Field.at_least) in
    subst (λ rs. SplitRootStandsFor p rs c.loop-update.self.hash c.loop-update.self.weight (numbers_after values c.args.updates.now) (numbers_after weights (map absolute c.args.updates.now)))
    (sym c.loop-update.invariant.seat)
    (split_root_stands_after p c.args.self.now.seat some c.args.updates.now c.args.self.now.hash c.loop-update.self.hash c.args.self.now.weight c.loop-update.self.weight
    values weights c.requires.items (returns-after-loop-update-clause-hash g c) (returns-after-loop-update-clause-weight g c) stands)

pub returns-after-loop-update-else-updates-lt-BLOCK-clause-hash :
    goal.returns-after-loop-update-else-updates-lt-BLOCK-clause-hash
returns-after-loop-update-else-updates-lt-BLOCK-clause-hash g c =
    let seat : List ℕ = c.args.self.now.seat in
    let n : ℕ = c.fill_steps-count.result in
    let long : length (take n c.fill_steps-count.new.tables) ≡ n =
    length-take-le n c.fill_steps-count.new.tables (omega (arith, c.fill_steps-count.ensures.count, c.fill_steps-count.ensures.length)) in
    c.number-self.ensures
    ∙ c.split_hashed.ensures seat c.fill_steps-count.ensures.tables (omega (arith, long, c.fill_steps-count.ensures.exact)) c.requires.items
    ∙ ap (λ h. split_after g.F.Field.MODULUS seat h c.args.updates.now) c.of_number-hash.ensures

pub returns-after-loop-update-else-updates-lt-BLOCK-clause-weight :
    goal.returns-after-loop-update-else-updates-lt-BLOCK-clause-weight
returns-after-loop-update-else-updates-lt-BLOCK-clause-weight g c =
    c.loop-update-else-updates-lt-BLOCK.invariant.weight
    ∙ ap (weight_after c.args.self.now.weight)
    (take_all c.loop-update-else-updates-lt-BLOCK.update-index c.args.updates.now c.loop-update-else-updates-lt-BLOCK-test.false)

pub returns-after-loop-update-else-updates-lt-BLOCK-clause-stands :
    goal.returns-after-loop-update-else-updates-lt-BLOCK-clause-stands
returns-after-loop-update-else-updates-lt-BLOCK-clause-stands g c values weights stands =
    let some : 0 < g.F.Field.MODULUS = omega (arith, g.met.F.Field.at_least) in
    split_root_stands_after g.F.Field.MODULUS c.args.self.now.seat some c.args.updates.now c.args.self.now.hash c.number-self.result c.args.self.now.weight
    c.loop-update-else-updates-lt-BLOCK.weight values weights c.requires.items
    (returns-after-loop-update-else-updates-lt-BLOCK-clause-hash g c) (returns-after-loop-update-else-updates-lt-BLOCK-clause-weight g c) stands
