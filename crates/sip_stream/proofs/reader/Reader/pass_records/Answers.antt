-- One more record was passed.
use Rattle.std.proofs.Common.{◌≡◌, ◌∷◌, [], ◌+◌, ◌-◌, ◌++◌, ◌∙◌, arith, length, Ok, refl, rules, sym, subst, take, drop}
use Rattle.std.proofs.Math.Seq.{take-add}
use Rattle.sip_stream.specs.Layouts.{record_size}
use Rattle.sip_stream.specs.Reading.{HasRead, HasRoom}
use Rattle.sip_stream.specs.Pieces.{record_said}
use Rattle.sip_stream.proofs.ManyRead.{HasRead-none, HasRead-one}
use Rattle.sip_stream.proofs.PassedRecords.{AreBytes, part_bytes, passed_one}
use Rattle.sip_stream.proofs.ReadStreams.{none_against}
use Rattle.sip_stream.proofs.reader.Reader.pass_records.Goals as goal

pub loop-used-init : goal.loop-used-init
loop-used-init g c = record { within = omega arith; passed = ([], refl, HasRead-none c.args.self.now) }

pub overflow_sub-bytes : goal.overflow_sub-bytes
overflow_sub-bytes g c = c.loop-used.invariant.within

pub loop-used-smaller : goal.loop-used-smaller
loop-used-smaller g c = omega (arith, c.loop-used-test.true, c.size_of-size.ensures.size)

pub add-requires : goal.add-requires
add-requires g c =
    c.has_room.ensures.0 c.if-not-has_room.false

pub loop-used-preserved : goal.loop-used-preserved
loop-used-preserved g c =
    let bytes = c.args.bytes.now in
    let used = c.loop-used.used in
    let size = c.size_of-size.result in
    let u = c.in-Ok.update in
    let old = c.args.self.now in
    let had = c.loop-used.invariant.passed in
    let has : HasRoom c.loop-used.reader u = c.has_room.ensures.0 c.if-not-has_room.false in
    let piece = take size (drop used bytes) in
    let span : used + size - used ≡ size = omega arith in
    let len : length piece ≡ record_size g.row.WIDTH = search rules in
    let said = subst (λ n. Ok u ≡ record_said g.row.WIDTH (take n (drop used bytes))) span (sym c.in-Ok.is ∙ c.said_by.ensures) in
    let are : AreBytes bytes = λ k. omega (arith, c.type_inv.bytes k) in
    record {
      within = omega (arith, c.loop-used-test.true, c.loop-used.invariant.within);
      passed = (
        had.0 ++ u ∷ [],
        passed_one g.row.WIDTH old.form had.0 u (take used bytes) piece c.requires.layout had.1 len (part_bytes used size bytes are) said ∙ sym (take-add used size bytes),
        subst (λ l. HasRead old c.add.new.self l (had.0 ++ u ∷ [])) (sym (take-add used size bytes))
            (HasRead-one g.row.WIDTH old c.loop-used.reader c.add.new.self (take used bytes) piece had.0 u c.requires.layout had.2 len said
            (λ before is. none_against c.loop-used.reader before u is has) has c.add.ensures.after c.add.ensures.heavier c.add.ensures.depth c.add.ensures.form c.add.ensures.spent),
      );
    }

pub returns-after-loop-used-clause-within : goal.returns-after-loop-used-clause-within
returns-after-loop-used-clause-within g c = c.loop-used.invariant.within

pub returns-after-loop-used-clause-passed : goal.returns-after-loop-used-clause-passed
returns-after-loop-used-clause-passed g c = c.loop-used.invariant.passed

pub returns-in_default-clause-passed : goal.returns-in_default-clause-passed
returns-in_default-clause-passed g c = c.loop-used.invariant.passed

pub returns-then-not-has_room-clause-passed : goal.returns-then-not-has_room-clause-passed
returns-then-not-has_room-clause-passed g c = c.loop-used.invariant.passed
