use Rattle.std.proofs.Common.{◌≡◌, ◌≢◌, ◌^◌, ◌<◌, ◌+◌, pos, get_or, drop, map, refl, sym, ap, ◌∙◌, arith}
use Rattle.std.proofs.lemmas.List.{append-nil, drop_more, drop_all}
use Rattle.sip_field.specs.Residue.{residue}
use Rattle.sip_vector.specs.inside.Gathered.{as_pair}
use Rattle.sip_vector.specs.Levels.{index_and_residue, residues_of}
use Rattle.sip_vector.specs.declared.update.Entry.{Entry}
use Rattle.sip_vector.proofs.Dense.{length-dense}
use Rattle.sip_vector.proofs.Finds.{abs_sum-at}
use Rattle.sip_vector.proofs.Folds.{IsSparse-residues_of, dense-residues_of}
use Rattle.sip_vector.proofs.Kept.{same_z}
use Rattle.sip_vector.proofs.SpotsAbove.{residues_of_more, residues_of_none}
use Rattle.sip_vector.proofs.level.Level.of_list.Goals as goal

pub loop-entry-init : goal.loop-entry-init
loop-entry-init g c = rw c.in_ok-spots.ensures.items refl

pub loop-entry-preserved-then-number-eq0 : goal.loop-entry-preserved-then-number-eq0
loop-entry-preserved-then-number-eq0 g c =
    let es = c.args.list.now in
    let i = c.loop-entry.entry-index in
    let d : Entry = record { index = 0; value = pos 0 } in
    let e = get_or es i d in
    let light = abs_sum-at es i d c.loop-entry-test.true in
    let room = c.requires.light in
    let value : g.F.Field.number c.of_signed-value.result ≡ residue g.F.Field.MODULUS e.value = rw (same_z e.value (omega (arith, light, room))) at c.of_signed-value.ensures in
    let none : g.F.Field.number c.of_signed-value.result ≡ 0 = sym c.number.ensures ∙ c.if-number-eq0.true in
    residues_of_none g.F.Field.number g.F.Field.MODULUS c.loop-entry.spots.items _ (as_pair e) (map as_pair (drop (i + 1) es)) _ value none
    (rw (drop_more es i d c.loop-entry-test.true) at c.loop-entry.invariant)

pub loop-entry-preserved : goal.loop-entry-preserved
loop-entry-preserved g c =
    let es = c.args.list.now in
    let i = c.loop-entry.entry-index in
    let d : Entry = record { index = 0; value = pos 0 } in
    let e = get_or es i d in
    let light = abs_sum-at es i d c.loop-entry-test.true in
    let room = c.requires.light in
    let value : g.F.Field.number c.of_signed-value.result ≡ residue g.F.Field.MODULUS e.value = rw (same_z e.value (omega (arith, light, room))) at c.of_signed-value.ensures in
    let some : g.F.Field.number c.of_signed-value.result ≢ 0 = rw c.number.ensures at c.if-number-eq0.false in
    rw c.in_ok-push.ensures.items (residues_of_more g.F.Field.number g.F.Field.MODULUS c.loop-entry.spots.items _ (as_pair e) (map as_pair (drop (i + 1) es)) _ refl value some
    (rw (drop_more es i d c.loop-entry-test.true) at c.loop-entry.invariant))

pub invariant_of-result : goal.invariant_of-result
invariant_of-result g c =
    let entries = map (index_and_residue g.F.Field.number) c.loop-entry.spots.items in
    let rest = drop_all c.loop-entry.entry-index c.args.list.now (omega (arith, c.loop-entry-test.false)) in
    let spots : entries ≡ residues_of g.F.Field.MODULUS (map as_pair c.args.list.now) = sym (append-nil entries) ∙ (rw rest at c.loop-entry.invariant) in
    (omega (arith, c.get.ensures.most), rw (spots, c.get.ensures.same) (IsSparse-residues_of g.F.Field.MODULUS 0 _ _ c.requires.sparse))

pub returns-clause-residues : goal.returns-clause-residues
returns-clause-residues g c =
    let some : 0 < g.F.Field.MODULUS = omega (arith, g.met.F.Field.at_least) in
    let entries = map (index_and_residue g.F.Field.number) c.loop-entry.spots.items in
    let rest = drop_all c.loop-entry.entry-index c.args.list.now (omega (arith, c.loop-entry-test.false)) in
    let spots : entries ≡ residues_of g.F.Field.MODULUS (map as_pair c.args.list.now) = sym (append-nil entries) ∙ (rw rest at c.loop-entry.invariant) in
    rw (spots, c.get.ensures.same) (dense-residues_of g.F.Field.MODULUS 0 _ _ some c.requires.sparse)

pub returns-clause-length : goal.returns-clause-length
returns-clause-length g c = length-dense 0 (2 ^ c.get.result) (map (index_and_residue g.F.Field.number) c.loop-entry.spots.items) ∙ ap (λ n. 2 ^ n) c.get.ensures.same
