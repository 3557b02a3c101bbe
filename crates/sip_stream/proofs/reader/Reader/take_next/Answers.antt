-- One more record was counted, and its update written.
use Rattle.std.proofs.Common.{◌≡◌, ◌≤◌, ◌<◌, ◌∷◌, [], ◌+◌, ◌-◌, ◌*◌, ◌++◌, ◌∙◌, ap, arith, length, refl, rules, slice_set, sym, subst, take, drop}
use Rattle.std.specs.Prelude.{Ok}
use Rattle.std.proofs.Math.Seq.{take-add}
use Rattle.std.proofs.lemmas.List.{length-take-le, take_more_set}
use Rattle.std.proofs.Common.{length-drop}
use Rattle.sip_stream.specs.Layouts.{record_size}
use Rattle.sip_stream.specs.Reading.{HasRead}
use Rattle.sip_stream.specs.Pieces.{record_said}
use Rattle.sip_stream.specs.Batches.{reader_of}
use Rattle.sip_stream.proofs.ManyRead.{HasRead-one}
use Rattle.sip_stream.proofs.ReadStreams.{none_against}
use Rattle.sip_stream.proofs.reader.Reader.take_next.Goals as goal

pub returns : goal.returns
returns g c =
    let bytes = c.args.bytes.now in
    let size = record_size g.row.WIDTH in
    let block = c.args.block.now in
    let count = c.args.count in
    let at = count * size in
    let u = c.in-Ok.update in
    let old = c.args.self.now in
    let mid = reader_of old c.args.batch.now in
    let new = reader_of old c.note.new.self in
    let more : take (count + 1) (slice_set block count c.write_over.new.place) ≡ take count block ++ u ∷ [] = ap (λ v. take (count + 1) (slice_set block count v)) c.write_over.ensures ∙ take_more_set block count u c.requires.room in
    let next : (count + 1) * size ≡ at + size = omega arith in
    let piece = take size (drop at bytes) in
    let held : at + size ≤ length bytes = c.requires.held in
    let behind = length-drop at bytes in
    let len : length piece ≡ size = length-take-le size (drop at bytes) (omega (arith, held, behind)) in
    let span : at + size - at ≡ size = omega arith in
    let there = subst (λ s. Ok u ≡ record_said g.row.WIDTH (take (count * s + s - count * s) (drop (count * s) bytes))) c.size_of-size.ensures.size (sym c.in-Ok.is ∙ c.said_by.ensures) in
    let said = subst (λ n. Ok u ≡ record_said g.row.WIDTH (take n (drop at bytes))) span there in
    let whole : take at bytes ++ piece ≡ take ((count + 1) * size) bytes = sym (take-add at size bytes) ∙ ap (λ n. take n bytes) (sym next) in
    record {
      came = record {
        few = c.note.ensures.few count (count + 1) (omega arith) (omega (arith, c.requires.few)) c.requires.came.few;
        took = λ clean.
            let had = c.requires.came.took (c.note.ensures.clean old.depth count (omega (arith, c.requires.few)) c.requires.came.few clean) in
            let one = c.note.ensures.one old clean had.0 in
            let heavier : mid.first + mid.second < new.first + new.second = omega (arith, one.heavier, had.0.second, one.light.second) in (
              one.light,
              subst (HasRead old new (take ((count + 1) * size) bytes)) (sym more)
                  (subst (λ l. HasRead old new l (take count block ++ u ∷ [])) whole
                  (HasRead-one g.row.WIDTH old mid new (take at bytes) piece (take count block) u c.requires.layout had.1 len said
                  (λ before so. none_against mid before u so one.room) one.room one.after heavier refl refl refl)),
            );
      };
      len = search rules;
    }
