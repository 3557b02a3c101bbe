-- One more record was counted.
use Rattle.std.proofs.Common.{◌≡◌, ◌≤◌, ◌<◌, ◌∷◌, [], ◌+◌, ◌-◌, ◌++◌, ◌∙◌, arith, length, refl, rules, sym, subst, take, drop}
use Rattle.std.specs.Prelude.{Ok}
use Rattle.std.proofs.Math.Seq.{take-add}
use Rattle.sip_stream.specs.Layouts.{record_size}
use Rattle.sip_stream.specs.Reading.{HasRead, Reading}
use Rattle.sip_stream.specs.Pieces.{record_said}
use Rattle.sip_stream.specs.Batches.{reader_of}
use Rattle.sip_stream.proofs.ManyRead.{HasRead-none, HasRead-one}
use Rattle.sip_stream.proofs.PassedRecords.{AreBytes, part_bytes, passed_one}
use Rattle.sip_stream.proofs.ReadStreams.{none_against}
use Rattle.sip_stream.proofs.reader.Reader.pass_all.Goals as goal

pub loop-used-init : goal.loop-used-init
loop-used-init g c = record {
  within = omega arith;
  few = search rules;
  passed = λ clean. (
    c.batch-batch.ensures.light,
    [],
    refl,
    subst (λ (r : Reading). HasRead c.args.self.now r [] []) (sym c.batch-batch.ensures.same) (HasRead-none c.args.self.now),
  );
}

pub loop-used-preserved : goal.loop-used-preserved
loop-used-preserved g c =
    let bytes = c.args.bytes.now in
    let used = c.loop-used.used in
    let size = c.size_of-size.result in
    let u = c.in-Ok.update in
    let old = c.args.self.now in
    let mid = reader_of old c.loop-used.batch in
    let new = reader_of old c.note.new.self in
    let piece = take size (drop used bytes) in
    let span : used + size - used ≡ size = omega arith in
    let len : length piece ≡ record_size g.row.WIDTH = search rules in
    let said = subst (λ n. Ok u ≡ record_said g.row.WIDTH (take n (drop used bytes))) span (sym c.in-Ok.is ∙ c.said_by.ensures) in
    let within : used + size ≤ length bytes = omega (arith, c.loop-used-test.true, c.loop-used.invariant.within) in
    let some : 0 < size = omega (arith, c.size_of-size.ensures.size) in
    let short : length bytes ≤ 4294967296 = search rules in
    let are : AreBytes bytes = λ k. omega (arith, c.type_inv.bytes k) in
    record {
      within = within;
      few = c.note.ensures.few used (used + size) (omega (arith, some)) (omega (arith, within, short)) c.loop-used.invariant.few;
      passed = λ clean.
          let had = c.loop-used.invariant.passed (c.note.ensures.clean old.depth used (omega (arith, within, short)) c.loop-used.invariant.few clean) in
          let one = c.note.ensures.one old clean had.0 in
          let heavier : mid.first + mid.second < new.first + new.second = omega (arith, one.heavier, had.0.second, one.light.second) in (
            one.light,
            had.1 ++ u ∷ [],
            passed_one g.row.WIDTH old.form had.1 u (take used bytes) piece c.requires.layout had.2 len (part_bytes used size bytes are) said ∙ sym (take-add used size bytes),
            subst (λ l. HasRead old new l (had.1 ++ u ∷ [])) (sym (take-add used size bytes))
                (HasRead-one g.row.WIDTH old mid new (take used bytes) piece had.1 u c.requires.layout had.3 len said
                (λ before so. none_against mid before u so one.room) one.room one.after heavier refl refl refl),
          );
    }
