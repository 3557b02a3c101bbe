-- One more record was spelled.
use Rattle.std.proofs.Common.{◌≡◌, ◌∷◌, [], ◌+◌, ◌-◌, ◌++◌, ◌∙◌, ap, arith, length, Ok, refl, rules, sym, subst, take, drop, append-nil, append_assoc}
use Rattle.std.proofs.Math.Seq.{take-add}
use Rattle.sip_stream.specs.Layouts.{deepest_in, layout_of, record_size}
use Rattle.sip_stream.specs.Reading.{HasRead, HasRoom}
use Rattle.sip_stream.specs.Pieces.{record_said}
use Rattle.sip_stream.specs.Spellings.{all_spelled, spelled}
use Rattle.sip_stream.proofs.ManyRead.{HasRead-none, HasRead-one}
use Rattle.sip_stream.proofs.PassedRecords.{all_spelled-one}
use Rattle.sip_stream.proofs.ReadBack.{below_deeper}
use Rattle.sip_stream.proofs.ReadStreams.{none_against}
use Rattle.sip_stream.proofs.reader.Reader.spell_records.Goals as goal

pub loop-to-init : goal.loop-to-init
loop-to-init g c = record {
  within = omega arith;
  same_to = refl;
  grown = ([], sym (append-nil c.args.gathered.now.items), HasRead-none c.args.self.now);
}

pub add-requires : goal.add-requires
add-requires g c =
    c.has_room.ensures.0 c.if-not-has_room.false

pub put_update-requires : goal.put_update-requires
put_update-requires g c =
    let has : HasRoom c.loop-to.reader c.in-Ok.update = c.has_room.ensures.0 c.if-not-has_room.false in
    let depth = c.loop-to.invariant.grown.2.depth in
    let item = rw depth at has.item in
    (search rules, (below_deeper c.in-Ok.update.item c.args.self.now.depth (deepest_in c.args.to) item c.requires.depth, search rules))

pub loop-to-preserved : goal.loop-to-preserved
loop-to-preserved g c =
    let bytes = c.args.bytes.now in
    let used = c.loop-to.used in
    let size = c.size_of-size.result in
    let u = c.in-Ok.update in
    let to = c.args.to in
    let old = c.args.self.now in
    let before = c.args.gathered.now.items in
    let had = c.loop-to.invariant.grown in
    let has : HasRoom c.loop-to.reader u = c.has_room.ensures.0 c.if-not-has_room.false in
    let piece = take size (drop used bytes) in
    let span : used + size - used ≡ size = omega arith in
    let len : length piece ≡ record_size g.row.WIDTH = search rules in
    let said = subst (λ n. Ok u ≡ record_said g.row.WIDTH (take n (drop used bytes))) span (sym c.in-Ok.is ∙ c.said_by.ensures) in
    record {
      within = search rules;
      same_to = search rules;
      grown = (
        had.0 ++ u ∷ [],
        c.put_update.ensures.items ∙ ap (λ l. l ++ spelled (layout_of to) u) had.1 ∙ append_assoc before (all_spelled to had.0) (spelled (layout_of to) u)
            ∙ ap (λ l. before ++ l) (sym (all_spelled-one to had.0 u)),
        subst (λ l. HasRead old c.add.new.self l (had.0 ++ u ∷ [])) (sym (take-add used size bytes))
            (HasRead-one g.row.WIDTH old c.loop-to.reader c.add.new.self (take used bytes) piece had.0 u c.requires.layout had.2 len said
            (λ before is. none_against c.loop-to.reader before u is has) has c.add.ensures.after c.add.ensures.heavier c.add.ensures.depth c.add.ensures.form c.add.ensures.spent),
      );
    }
