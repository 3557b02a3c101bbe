-- What is written behind the count counts with the next step, or is written over.
use Rattle.std.proofs.Common.{pos, ◌≡◌, ◌<◌, ◌+◌, ◌∙◌, ℕ, List, true, false, cond, [], ◌∷◌, ◌++◌, get_or, set, length, take, ap, sym, refl, inl, inr, rules, arith, append-nil, take_all}
use Rattle.std.proofs.lemmas.Bool.{cases_Bool}
use Rattle.std.proofs.lemmas.List.{length-set, take-set, take_more_set}
use Rattle.std.proofs.lemmas.List.Elements.{filter_more}
use Rattle.sip_vector.specs.declared.update.Side.TheVariants.{First}
use Rattle.sip_vector.specs.declared.update.Update.{Update}
use Rattle.sip_vector.specs.Streams.{same_side, of_side}
use Rattle.sip_vector.proofs.side.take_side.Goals as goal

pub loop-update-init : goal.loop-update-init
loop-update-init c = record { long = refl; most = omega arith; taken = refl }

pub loop-update-preserved : goal.loop-update-preserved
loop-update-preserved c =
    let d : Update = record { side = First; item = 0; delta = pos 0 } in
    let updates : List Update = c.args.updates.now in
    let i : ℕ = c.loop-update.update-index in
    let here : Update = get_or updates i d in
    let xs : List Update = c.loop-update.taken in
    let count : ℕ = c.loop-update.count in
    let before : List Update = of_side (take i updates) c.args.side in
    let more = filter_more (λ (u : Update). same_side u.side c.args.side) updates i d c.loop-update-test.true in
    let room : count < length xs = omega (arith, c.loop-update.invariant.long, c.loop-update.invariant.most, c.loop-update-test.true, c.requires) in
    let long : length (set xs count here) ≡ length c.args.taken.now = length-set xs count here ∙ c.loop-update.invariant.long in
    elim (cases_Bool c.eq.result) [
      | inl t ↦
          let is : same_side here.side c.args.side ≡ true = search rules in
          let one : c.from-count.result ≡ 1 = rw t at c.from-count.ensures in
          record {
            long = long;
            most = omega (arith, one, c.loop-update.invariant.most);
            taken = ap (λ n. take (count + n) (set xs count here)) one ∙ take_more_set xs count here room ∙ ap (λ l. l ++ here ∷ []) c.loop-update.invariant.taken
                ∙ sym (more ∙ ap (λ b. before ++ cond b (here ∷ []) []) is);
          }
      | inr t ↦
          let is : same_side here.side c.args.side ≡ false = search rules in
          let none : c.from-count.result ≡ 0 = rw t at c.from-count.ensures in
          let same : count + c.from-count.result ≡ count = omega (arith, none) in
          record {
            long = long;
            most = omega (arith, none, c.loop-update.invariant.most);
            taken = ap (λ n. take n (set xs count here)) same ∙ take-set xs count here ∙ c.loop-update.invariant.taken
                ∙ sym (more ∙ ap (λ b. before ++ cond b (here ∷ []) []) is ∙ append-nil before);
          }
    ]

pub returns-clause-taken : goal.returns-clause-taken
returns-clause-taken c = c.loop-update.invariant.taken ∙ ap (λ l. of_side l c.args.side) (take_all c.loop-update.update-index c.args.updates.now c.loop-update-test.false)
