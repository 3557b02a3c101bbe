-- The seats took the frame's updates where there was one, and each helper heard it.
use Rattle.std.proofs.Common.{List, ◌≡◌, ◌≢◌, length, Err, Ok, [], ◌∷◌, ◌++◌, ◌∙◌, ap, sym, subst, rules}
use Rattle.std.proofs.lemmas.Result.{err_from_is_err_and}
use Rattle.sip_vector.specs.declared.update.Side.{Side}
use Rattle.sip_vector.specs.declared.update.Update.{Update}
use Rattle.sip_verifier.specs.QuerySeats.{HaveRoom}
use Rattle.sip_session.specs.Links.{talks_of}
use Rattle.sip_session.proofs.Heard.{all_nothing, all_same, due_full, due_nothing, seats_took}
use Rattle.sip_session.proofs.LinkLemmas.{links_stay}
use Rattle.sip_session.proofs.hearing.pass_on_all.Goals as goal

pub returns-then-not-is_full-clause-talks : goal.returns-then-not-is_full-clause-talks
returns-then-not-is_full-clause-talks g c =
    let waiting = c.args.feed.now.waiting in
    let u = c.args.update.now in
    let other : length c.push.new.self.waiting ≢ 512 = search rules in
    let talks = talks_of c.args.links.now in
    all_same talks talks [] _ (Ok tt)
    (sym (due_nothing waiting u c.args.feed.now.version
    (λ e. other (ap length c.push.ensures.waiting ∙ e)))) (all_nothing talks)

pub returns-in_err-copy_all-clause-talks : goal.returns-in_err-copy_all-clause-talks
returns-in_err-copy_all-clause-talks g c =
    let waiting = c.args.feed.now.waiting in
    let u = c.args.update.now in
    let filled : length c.push.new.self.waiting ≡ 512 = search rules in
    let due = due_full waiting u c.args.feed.now.version (sym (ap length c.push.ensures.waiting)
    ∙ filled) in
    let p = err_from_is_err_and c.from_residual.result c.from_residual.ensures.1 in
    let said = rw (
      c.in_err-copy_all.was,
      c.push.ensures.version,
      c.push.ensures.waiting,
    ) at c.copy_all.ensures.talks in
    rw p.1 (all_same _ _ _ _ (Err p.0) (sym due) said)

pub returns-in_err-copy_all-clause-stands : goal.returns-in_err-copy_all-clause-stands
returns-in_err-copy_all-clause-stands g c = λ depth queries blocks stream are.
    seats_took c.args.feed.now.waiting c.args.update.now c.push.new.self.waiting
    c.waiting.result.now depth queries blocks stream c.update_all.new.self
    c.push.ensures.waiting (search rules) (search rules)
    (c.update_all.ensures.stands depth queries blocks stream are)

pub returns-clause-talks : goal.returns-clause-talks
returns-clause-talks g c =
    let waiting = c.args.feed.now.waiting in
    let u = c.args.update.now in
    let filled : length c.push.new.self.waiting ≡ 512 = search rules in
    let due = due_full waiting u c.args.feed.now.version (sym (ap length c.push.ensures.waiting)
    ∙ filled) in
    let said = rw (
      c.in_ok-copy_all.was,
      c.push.ensures.version,
      c.push.ensures.waiting,
    ) at c.copy_all.ensures.talks in
    all_same _ (talks_of c.copy_all.new.links) _ _ (Ok tt) (sym due) said

pub returns-clause-stands : goal.returns-clause-stands
returns-clause-stands g c = λ depth queries blocks stream are.
    seats_took c.args.feed.now.waiting c.args.update.now c.push.new.self.waiting
    c.waiting.result.now depth queries blocks stream c.update_all.new.self
    c.push.ensures.waiting (search rules) (search rules)
    (c.update_all.ensures.stands depth queries blocks stream are)

pub update_all-requires-clause-room : goal.update_all-requires-clause-room
update_all-requires-clause-room g c =
    let block : c.waiting.result.now ≡ c.args.feed.now.waiting ++ c.args.update.now ∷ [] =
    search rules in
    subst (λ (l : List Update). (side : Side)
    → HaveRoom c.args.seats.now.seats l side) (sym block) c.requires.room

pub returns-then-not-is_full-clause-sure : goal.returns-then-not-is_full-clause-sure
returns-then-not-is_full-clause-sure g c = links_stay _ _ (λ place l k. k)

pub returns-in_err-copy_all-clause-sure : goal.returns-in_err-copy_all-clause-sure
returns-in_err-copy_all-clause-sure g c = c.copy_all.ensures.sure

pub returns-clause-sure : goal.returns-clause-sure
returns-clause-sure g c = c.copy_all.ensures.sure
