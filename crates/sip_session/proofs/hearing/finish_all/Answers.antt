-- What went out is a frame of those that waited, where there were any, and the end.
use Rattle.std.proofs.Common.{◌≡◌, ◌<◌, ◌≤◌, [], ◌∙◌, length, Err, sym, ap, arith, rules}
use Rattle.std.proofs.lemmas.List.{nil_from_length}
use Rattle.std.proofs.lemmas.Result.{err_from_is_err_and}
use Rattle.sip_wire.specs.declared.message.Message.TheVariants as messages
use Rattle.sip_wire.specs.Spelling.{spelling}
use Rattle.sip_verifier.specs.Feeding.{due_at_end}
use Rattle.sip_verifier.proofs.DueFrames.{due-none, due-some}
use Rattle.sip_session.specs.Links.{talks_of}
use Rattle.sip_session.proofs.Heard.{all_same, all_short, all_then}
use Rattle.sip_session.proofs.LinkLemmas.{links_then}
use Rattle.sip_session.proofs.Places.{told_length}
use Rattle.sip_session.proofs.hearing.finish_all.Goals as goal

pub returns-then-is_empty-clause-talks : goal.returns-then-is_empty-clause-talks
returns-then-is_empty-clause-talks g c =
    let waiting = c.args.feed.now.waiting in
    let none : waiting ≡ [] = nil_from_length waiting (search rules) in
    let due = ap (due_at_end c.args.version) none ∙ due-none c.args.version in
    all_same _ _ _ _ c.end_all.result (sym due) c.end_all.ensures.talks

pub returns-in_err-copy_all-clause-talks : goal.returns-in_err-copy_all-clause-talks
returns-in_err-copy_all-clause-talks g c =
    let waiting = c.args.feed.now.waiting in
    let some : 0 < length waiting = search rules in
    let few : length waiting ≤ 512 = omega (arith, c.requires.few) in
    let p = err_from_is_err_and c.from_residual.result c.from_residual.ensures.1 in
    let said = rw (c.in_err-copy_all.was, sym c.requires.version) at c.copy_all.ensures.talks in
    rw p.1 (all_same _ _ _ _ (Err p.0) (sym (due-some c.args.version waiting some few))
    (all_short _ _ _ (spelling c.args.version messages.EndStream) c.in_err-copy_all.field-0.0 p.0
    said))

pub returns-clause-talks : goal.returns-clause-talks
returns-clause-talks g c =
    let waiting = c.args.feed.now.waiting in
    let some : 0 < length waiting = search rules in
    let few : length waiting ≤ 512 = omega (arith, c.requires.few) in
    let said = rw (c.in_ok-copy_all.was, sym c.requires.version) at c.copy_all.ensures.talks in
    all_same _ _ _ _ c.end_all-2.result (sym (due-some c.args.version waiting some few))
    (all_then _ (talks_of c.copy_all.new.links) _ _ _ c.end_all-2.result
    (told_length (λ l. l.kept.talk.items) c.args.links.now c.copy_all.new.links
    c.copy_all.ensures.count) said c.end_all-2.ensures.talks)

pub returns-clause-sure : goal.returns-clause-sure
returns-clause-sure g c =
    links_then _ _ _ c.args.links.now c.copy_all.new.links c.end_all-2.new.links
    c.end_all-2.ensures.count (λ place l m n p q k. q (p k)) c.copy_all.ensures.sure
    c.end_all-2.ensures.sure

pub returns-then-is_empty-clause-sure : goal.returns-then-is_empty-clause-sure
returns-then-is_empty-clause-sure g c = c.end_all.ensures.sure

pub returns-in_err-copy_all-clause-sure : goal.returns-in_err-copy_all-clause-sure
returns-in_err-copy_all-clause-sure g c = c.copy_all.ensures.sure
