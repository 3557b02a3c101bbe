-- What the tables begin with, and that they are enough.
use Rattle.std.proofs.Common.{rules, ◌≡◌, ℕ, ◌+◌, ◌/◌, ◌<◌, length, replicate, sym, ◌∙◌, ap, subst, arith}
use Rattle.std.specs.Prelude.{All}
use Rattle.std.proofs.lemmas.List.{length-replicate}
use Rattle.std.proofs.lemmas.List.Elements.{All-replicate}
use Rattle.sip_tree.specs.Steps.{IsBelow, no_step}
use Rattle.sip_tree.proofs.StepTables.{equal_copies}
use Rattle.sip_tree.proofs.steps.made_steps.Goals as goal

pub fill_steps-requires : goal.fill_steps-requires
fill_steps-requires g c =
    let p : ℕ = g.F.Field.MODULUS in
    let some : 0 < p = omega (arith, g.met.F.Field.at_least) in
    let n : ℕ = 1 + c.saturating_sub.result / 8 in
    let items : c.in_ok-tables.tables.items ≡ replicate n (replicate 256 no_step) = c.in_ok-tables.ensures.items_if_clones_equal (λ y h. equal_copies (replicate 256 no_step) y h.whole) in
    let same : c.deref_mut.result.now ≡ replicate n (replicate 256 no_step) = c.deref_mut.ensures.value ∙ items in
    let long : length c.deref_mut.result.now ≡ n = ap length same ∙ length-replicate n (replicate 256 no_step) in (
      search rules,
      (
        omega (arith, long),
        (
          omega (arith, long, c.depth.ensures.exact, c.saturating_sub.ensures),
          subst (All (All (IsBelow p))) (sym same) (All-replicate (All (IsBelow p)) n (replicate 256 no_step) (All-replicate (IsBelow p) 256 no_step (some, some))),
        ),
      ),
    )
