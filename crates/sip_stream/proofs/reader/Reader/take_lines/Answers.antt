-- One more line was read.
use Rattle.std.proofs.Common.{◌≡◌, ◌∷◌, [], ◌+◌, ◌-◌, ◌++◌, ◌∙◌, ap, arith, length, length-drop, Ok, refl, rules, slice_set, sym, subst, take, drop}
use Rattle.std.proofs.Math.Seq.{take-add}
use Rattle.std.proofs.lemmas.List.{take_more_set}
use Rattle.sip_stream.specs.Pieces.{line_said}
use Rattle.sip_stream.specs.Reading.{HasRead, HasRoom}
use Rattle.sip_stream.proofs.ManyRead.{HasRead-none, HasRead-line}
use Rattle.sip_stream.proofs.RecordsRead.{rest_at}
use Rattle.sip_stream.proofs.ReadStreams.{none_against}
use Rattle.sip_stream.proofs.reader.Reader.take_lines.Goals as goal

pub loop-count-init : goal.loop-count-init
loop-count-init c = record {
  within = omega arith;
  few = omega arith;
  len = refl;
  took = HasRead-none c.args.self.now;
}

pub loop-count-smaller : goal.loop-count-smaller
loop-count-smaller c =
    let bytes = c.args.bytes.now in
    let used = c.loop-count.used in
    let rest : length (take (length bytes - used) (drop used bytes)) ≡ length bytes - used = ap length (rest_at used bytes) ∙ length-drop used bytes in
    omega (arith, c.loop-count.invariant.within, c.in-Some.ensures.some, c.in-Some.ensures.within, rest)

pub add-requires : goal.add-requires
add-requires c =
    c.has_room.ensures.0 c.if-not-has_room.false

pub loop-count-preserved : goal.loop-count-preserved
loop-count-preserved c =
    let bytes = c.args.bytes.now in
    let used = c.loop-count.used in
    let size = c.in-Some.size in
    let u = c.in-Ok.update in
    let old = c.args.self.now in
    let block = c.loop-count.block in
    let count = c.loop-count.count in
    let had = c.loop-count.invariant.took in
    let more : take (count + 1) (slice_set block count c.write_over.new.place) ≡ take count block ++ u ∷ [] = ap (λ v. take (count + 1) (slice_set block count v)) c.write_over.ensures ∙ take_more_set block count u c.loop-count-test.true in
    let has : HasRoom c.loop-count.reader u = c.has_room.ensures.0 c.if-not-has_room.false in
    let behind = rest_at used bytes in
    let front = c.in-Some.ensures.line in
    let line = front.line in
    let rest : length (take (length bytes - used) (drop used bytes)) ≡ length bytes - used = ap length behind ∙ length-drop used bytes in
    let said : Ok u ≡ line_said line = sym c.in-Ok.is ∙ front.says in
    let piece : take size (drop used bytes) ≡ line ++ 10 ∷ [] = ap (take size) (sym behind) ∙ front.order in
    let whole : take used bytes ++ (line ++ 10 ∷ []) ≡ take (used + size) bytes = ap (λ l. take used bytes ++ l) (sym piece) ∙ sym (take-add used size bytes) in
    record {
      within = omega (arith, c.loop-count.invariant.within, c.in-Some.ensures.within, rest);
      few = search rules;
      len = search rules;
      took = subst (HasRead old c.add.new.self (take (used + size) bytes)) (sym more)
          (subst (λ l. HasRead old c.add.new.self l (take count block ++ u ∷ [])) whole
          (HasRead-line old c.loop-count.reader c.add.new.self (take used bytes) line (take count block) u c.requires.layout had front.clean front.short said
          (λ before is. none_against c.loop-count.reader before u is has) has c.add.ensures.after c.add.ensures.heavier c.add.ensures.depth c.add.ensures.form c.add.ensures.spent));
    }
