use Rattle.std.proofs.Common.{◌≡◌, ℕ, List, ◌+◌, ◌*◌, ◌/◌, ◌<◌, map, length, get_or, take, sym, ◌∙◌, ap, arith}
use Rattle.std.proofs.lemmas.List.{length-map, get_or-map, map-set, take-map}
use Rattle.sip_tree.proofs.FoldSteps.{length-half_way, one_pair, all_pairs}
use Rattle.sip_tree.proofs.fold.up.Goals as goal

-- what a read gave, as the number at its place
read : {X : Type 0} (f : X → ℕ) (xs : List X) (i : ℕ) (x : X) → i < length xs → x ≡ get_or xs i x → f x ≡ get_or (map f xs) i 0
read f xs i x within is = ap f is ∙ sym (get_or-map f xs i x 0 within)

pub loop-at-preserved : goal.loop-at-preserved
loop-at-preserved g c =
    let number = g.F.Field.number in
    let level = map number c.args.list.now.items in
    let n : ℕ = c.len-pairs.result / 2 in
    let k = c.loop-at.at in
    let twice : length level ≡ 2 * n = omega (arith, length-map c.args.list.now.items number, c.args.list.now.ok.0, c.requires, c.len-pairs.ensures) in
    let inside : k < n = omega arith in
    let items = c.loop-at.list.items in
    let size : length items ≡ 2 * n =
    sym (length-map items number) ∙ ap length c.loop-at.invariant ∙ length-half_way g.F.Field.MODULUS (number c.args.r) level n k twice inside in
    map-set number items k c.plus.result
    ∙ one_pair g.F.Field.MODULUS (number c.args.r) level n k twice inside (map number items) _ _ _ c.loop-at.invariant
    (read number items (2 * k) c.index.result.now (omega arith) c.index.ensures)
    (read number items (2 * k + 1) c.index-in-loop-at.result.now (omega arith) c.index-in-loop-at.ensures)
    (rw (c.plus.ensures, c.times.ensures))

pub returns : goal.returns
returns g c =
    let number = g.F.Field.number in
    let level = map number c.args.list.now.items in
    let n : ℕ = c.len-pairs.result / 2 in
    let twice : length level ≡ 2 * n = omega (arith, length-map c.args.list.now.items number, c.args.list.now.ok.0, c.requires, c.len-pairs.ensures) in
    ap (map number) c.truncate.ensures.items ∙ sym (take-map number n c.loop-at.list.items) ∙ ap (take n) c.loop-at.invariant
    ∙ all_pairs g.F.Field.MODULUS (number c.args.r) level n c.loop-at.at twice c.loop-at-test.false
