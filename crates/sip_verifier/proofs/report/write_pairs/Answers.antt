use Rattle.std.proofs.Common.{◌≡◌, ◌++◌, ◌∷◌, [], length, sym, ap, ◌<◌, true, false, ◌∙◌, append_assoc, append-nil, pos, arith}
use Rattle.sip_vector.specs.Answers.{pairs}
use Rattle.std.specs.Prelude.{codes}
use Rattle.sip_verifier.specs.Reports.{line, query_word}
use Rattle.sip_ports.proofs.TalkLemmas.{GoesOn-refl}
use Rattle.sip_verifier.proofs.Lines.{in_parts, none_if, at_err, grown, none_is, front_sent, whole_sent, sent_more, so_far_more, line_is}
use Rattle.sip_verifier.proofs.report.write_pairs.Goals as goal
use Rattle.sip_verifier.proofs.report.write_pairs.Goals.{then-is_empty, else-is_empty}
use Rattle.sip_verifier.proofs.report.write_pairs.Given as given

-- what is gathered first
begun : (g : given.Over) (c : goal.Joined-is_empty g) → (c.if-is_empty.gathered.items ≡ query_word c.args.query.now ++ none_if c.args.entries.now) × (length c.if-is_empty.gathered.items < 1024)
begun g c = elim c.if-is_empty.branch [
  | then-is_empty w ↦
      let none = none_is c.args.entries.now true (sym w.if-is_empty.true ∙ c.is_empty.ensures) in (
        rw w.gathered-is (w.put.ensures.items ∙ ap (λ front. front ++ codes " none") c.query_word-gathered.ensures.items ∙ ap (λ text. query_word c.args.query.now ++ text) none),
        rw w.gathered-is (omega (arith, w.put.ensures.len, c.query_word-gathered.ensures.len)),
      )
  | else-is_empty w ↦
      let none = none_is c.args.entries.now false (sym w.if-is_empty.false ∙ c.is_empty.ensures) in (
        rw w.gathered-is (c.query_word-gathered.ensures.items ∙ sym (append-nil (query_word c.args.query.now)) ∙ ap (λ text. query_word c.args.query.now ++ text) none),
        rw w.gathered-is (omega (arith, c.query_word-gathered.ensures.len)),
      )
]

pub loop-entry-init : goal.loop-entry-init
loop-entry-init g c =
    let (items, few) = begun g c in
    (([], append-nil _ ∙ sym items, GoesOn-refl _), few, omega arith, omega arith, λ sure. sure)

pub returns-in_err-make_room-clause-talk : goal.returns-in_err-make_room-clause-talk
returns-in_err-make_room-clause-talk g c =
    let (sent, is, went) = c.loop-entry.invariant.0 in
    let (n, fewer, part) = c.in_err-make_room.ensures.talk in
    let (rest, split) = in_parts c.args.query.now c.args.entries.now c.loop-entry.entry-index sent c.loop-entry.gathered.items is in
    at_err _ c.from_residual.result c.from_residual.ensures.0 (front_sent _ _ _ sent c.loop-entry.gathered.items rest _ n went fewer part split)

pub loop-entry-preserved : goal.loop-entry-preserved
loop-entry-preserved g c =
    let (sent, is, went) = c.loop-entry.invariant.0 in
    let (part, parts, more) = c.in_ok-make_room.ensures.talk in
    let longer = so_far_more c.args.query.now c.args.entries.now c.loop-entry.entry-index (record { index = 0; value = pos 0 }) c.loop-entry-test.true in
    let split = grown _ _ _ sent part c.loop-entry.gathered.items c.make_room.new.gathered.items c.put_pair.new.gathered.items longer is parts c.put_pair.ensures.items in (
      (sent ++ part, split, sent_more _ _ _ sent part went more),
      omega (arith, c.put_pair.ensures.len, c.in_ok-make_room.ensures.room),
      omega (arith, c.in_ok-make_room.ensures.cause.later),
      omega (arith, c.in_ok-make_room.ensures.cause.wants_later),
      λ sure. c.in_ok-make_room.ensures.cause.sure (c.loop-entry.invariant.4 sure),
    )

pub returns-clause-talk : goal.returns-clause-talk
returns-clause-talk g c =
    let (sent, is, went) = c.loop-entry.invariant.0 in
    let all : c.loop-entry.entry-index ≡ length c.args.entries.now = omega arith in
    let text = line_is c.args.query.now c.args.entries.now in
    let parts : line c.args.query.now (pairs c.args.entries.now) ≡ sent ++ c.put-2.new.gathered.items =
    text ∙ (ap (λ front. front ++ 10 ∷ []) (rw all at is) ∙ (append_assoc sent c.loop-entry.gathered.items (10 ∷ []) ∙ ap (λ items. sent ++ items) (sym c.put-2.ensures.items))) in
    whole_sent _ _ _ c.write_whole.result sent c.put-2.new.gathered.items _ went (rw c.as_slice.ensures.value at c.write_whole.ensures.talk) parts
