-- One more record was read.
use Rattle.std.proofs.Common.{◌≡◌, ◌<◌, ◌≤◌, ◌∷◌, [], ◌+◌, ◌-◌, ◌*◌, ◌++◌, ◌∙◌, ap, arith, length, Ok, refl, rules, slice_set, sym, subst, take, drop}
use Rattle.std.proofs.Math.Seq.{take-add}
use Rattle.std.proofs.lemmas.List.{take_more_set}
use Rattle.sip_stream.specs.Layouts.{record_size}
use Rattle.sip_stream.specs.Reading.{HasRead, HasRoom}
use Rattle.sip_stream.specs.Pieces.{record_said}
use Rattle.sip_stream.proofs.ManyRead.{HasRead-none, HasRead-one}
use Rattle.sip_stream.proofs.ReadStreams.{none_against}
use Rattle.sip_stream.proofs.RecordsRead.{whole_fits}
use Rattle.sip_stream.proofs.reader.Reader.take_records.Goals as goal

pub loop-count-init : goal.loop-count-init
loop-count-init g c = record {
  within = omega arith;
  few = omega arith;
  len = refl;
  took = subst (λ l. HasRead c.args.self.now c.args.self.now l []) (let same : 0 ≡ 0 * c.size_of-size.result = omega arith in ap (λ n. take n c.args.bytes.now) same) (HasRead-none c.args.self.now);
}

pub add-requires : goal.add-requires
add-requires g c =
    c.has_room.ensures.0 c.if-not-has_room.false

pub loop-count-preserved : goal.loop-count-preserved
loop-count-preserved g c =
    let bytes = c.args.bytes.now in
    let size = c.size_of-size.result in
    let block = c.loop-count.block in
    let count = c.loop-count.count in
    let at = count * size in
    let u = c.in-Ok.update in
    let old = c.args.self.now in
    let had = c.loop-count.invariant.took in
    let fits : at + size ≤ length bytes = whole_fits (length bytes) size count (search rules) in
    let room : count < length block = search rules in
    let more : take (count + 1) (slice_set block count c.write_over.new.place) ≡ take count block ++ u ∷ [] = ap (λ v. take (count + 1) (slice_set block count v)) c.write_over.ensures ∙ take_more_set block count u room in
    let next : (count + 1) * size ≡ at + size = omega arith in
    let has : HasRoom c.loop-count.reader u = c.has_room.ensures.0 c.if-not-has_room.false in
    let piece = take size (drop at bytes) in
    let span : at + size - at ≡ size = omega arith in
    let len : length piece ≡ record_size g.row.WIDTH = search rules in
    let said = subst (λ n. Ok u ≡ record_said g.row.WIDTH (take n (drop at bytes))) span (sym c.in-Ok.is ∙ c.said_by.ensures) in
    let whole : take at bytes ++ piece ≡ take ((count + 1) * size) bytes = sym (take-add at size bytes) ∙ ap (λ n. take n bytes) (sym next) in
    record {
      within = omega (arith, next, fits);
      few = search rules;
      len = search rules;
      took = subst (HasRead old c.add.new.self (take ((count + 1) * size) bytes)) (sym more)
          (subst (λ l. HasRead old c.add.new.self l (take count block ++ u ∷ [])) whole
          (HasRead-one g.row.WIDTH old c.loop-count.reader c.add.new.self (take at bytes) piece (take count block) u c.requires.layout had len said
          (λ before is. none_against c.loop-count.reader before u is has) has c.add.ensures.after c.add.ensures.heavier c.add.ensures.depth c.add.ensures.form c.add.ensures.spent));
    }
