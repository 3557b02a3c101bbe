-- What came of the attempt is added to those before it.
use Rattle.std.proofs.Common.{◌≡◌, ◌+◌, ◌<◌, None, Ok, Err, length, refl, ap, ◌∙◌, arith, add-one, le_refl}
use Rattle.std.proofs.lemmas.Result.{err_from_is_err_and}
use Rattle.sip_duel.specs.Story.{IsHonestTalk}
use Rattle.sip_session.specs.declared.panel_asking.Came.{Came}
use Rattle.sip_session.specs.declared.panel_asking.Came.TheVariants as cames
use Rattle.sip_session.proofs.Asked.{asked_answered, asked_dropped, asked_out, asked_stopped, left_behind, seat_tried, stand_behind}
use Rattle.sip_verifier.specs.declared.status.Status.TheVariants as statuses
use Rattle.sip_session.proofs.AskedLinks.{asked_is, asked_lasts, asked_tells, dropped_aside, others_stay}
use Rattle.sip_session.proofs.AskedOn.{answered_on, ended_on, stopped_on}
use Rattle.sip_session.proofs.panel_asking.ask_at.Goals as goal

pub returns-in_err-ask_helper-clause-leads : goal.returns-in_err-ask_helper-clause-leads
returns-in_err-ask_helper-clause-leads g c = λ stream asks old blank stand given size to.
    let s = c.args.session.now in
    let h = length c.args.links.now in
    let at = c.args.at in
    let next = rw c.left.ensures at c.skip_seats.ensures.next in
    let t = seat_tried stream asks s c.skip_seats.new.session h c.args.queries at.gone at.asked _ _ _ _ c.ask_helper.result _ c.requires.gone c.requires.asked c.requires.left next c.skip_seats.ensures.version c.skip_seats.ensures.depth stand given c.in_err-ask_helper.was (c.ask_helper.ensures.tries stream) in
    let p = err_from_is_err_and c.from_residual.result c.from_residual.ensures.1 in
    rw (p.1, p.2) (asked_stopped (λ l. l.kept.talk.items) s.version s.depth stream h c.args.queries asks old c.args.links.now blank _ _ at.gone at.asked to size refl c.requires.gone c.requires.asked t.0 t.1 c.ask_helper.new.link c.index-links-at.result c.in_err-ask_helper.field-0.0 t.2)

pub returns-in_err-ask_helper-clause-next : goal.returns-in_err-ask_helper-clause-next
returns-in_err-ask_helper-clause-next g c =
    let s = c.args.session.now in
    let next = rw c.left.ensures at c.skip_seats.ensures.next in
    left_behind s.left c.skip_seats.new.session.left _ _ next c.ask_helper.ensures.next

pub returns-in-Answered-clause-leads : goal.returns-in-Answered-clause-leads
returns-in-Answered-clause-leads g c = λ stream asks old blank stand given size to.
    let s = c.args.session.now in
    let h = length c.args.links.now in
    let at = c.args.at in
    let next = rw c.left.ensures at c.skip_seats.ensures.next in
    let t = seat_tried stream asks s c.skip_seats.new.session h c.args.queries at.gone at.asked _ _ _ _ c.ask_helper.result _ c.requires.gone c.requires.asked c.requires.left next c.skip_seats.ensures.version c.skip_seats.ensures.depth stand given (c.in_ok-ask_helper.was ∙ ap (λ (v : Came). Ok v) c.in-Answered.is) (c.ask_helper.ensures.tries stream) in
    rw (add-one at.asked) (asked_answered (λ l. l.kept.talk.items) s.version s.depth stream h c.args.queries asks old c.args.links.now blank _ _ at.gone at.asked to size refl c.requires.gone c.requires.asked t.0 t.1 c.ask_helper.new.link c.index-links-at.result t.2)

pub returns-in-Answered-clause-next : goal.returns-in-Answered-clause-next
returns-in-Answered-clause-next g c =
    let s = c.args.session.now in
    let next = rw c.left.ensures at c.skip_seats.ensures.next in
    left_behind s.left c.skip_seats.new.session.left _ _ next c.ask_helper.ensures.next

pub returns-then-at-helpers-clause-leads : goal.returns-then-at-helpers-clause-leads
returns-then-at-helpers-clause-leads g c = λ stream asks old blank stand given size to.
    let s = c.args.session.now in
    let h = length c.args.links.now in
    let at = c.args.at in
    let next = rw c.left.ensures at c.skip_seats.ensures.next in
    let t = seat_tried stream asks s c.skip_seats.new.session h c.args.queries at.gone at.asked _ _ _ _ c.ask_helper.result _ c.requires.gone c.requires.asked c.requires.left next c.skip_seats.ensures.version c.skip_seats.ensures.depth stand given (c.in_ok-ask_helper.was ∙ ap (λ (v : Came). Ok v) c.in-Dropped.is) (c.ask_helper.ensures.tries stream) in
    rw (add-one at.asked) (asked_out (λ l. l.kept.talk.items) s.version s.depth stream h c.args.queries asks old c.args.links.now blank _ _ at.gone at.asked to size refl c.requires.gone c.requires.asked t.0 t.1 c.ask_helper.new.link c.index-links-at.result c.in-Dropped.round c.in-Dropped.reason t.2 (omega arith))

pub returns-then-at-helpers-clause-next : goal.returns-then-at-helpers-clause-next
returns-then-at-helpers-clause-next g c =
    let s = c.args.session.now in
    let next = rw c.left.ensures at c.skip_seats.ensures.next in
    left_behind s.left c.skip_seats.new.session.left _ _ next c.ask_helper.ensures.next

pub returns-else-at-helpers-clause-leads : goal.returns-else-at-helpers-clause-leads
returns-else-at-helpers-clause-leads g c = λ stream asks old blank stand given size to.
    let s = c.args.session.now in
    let h = length c.args.links.now in
    let at = c.args.at in
    let next = rw c.left.ensures at c.skip_seats.ensures.next in
    let t = seat_tried stream asks s c.skip_seats.new.session h c.args.queries at.gone at.asked _ _ _ _ c.ask_helper.result _ c.requires.gone c.requires.asked c.requires.left next c.skip_seats.ensures.version c.skip_seats.ensures.depth stand given (c.in_ok-ask_helper.was ∙ ap (λ (v : Came). Ok v) c.in-Dropped.is) (c.ask_helper.ensures.tries stream) in
    rw (add-one at.gone) (asked_dropped (λ l. l.kept.talk.items) s.version s.depth stream h c.args.queries asks old c.args.links.now blank _ _ at.gone at.asked to size refl c.requires.gone c.requires.asked t.0 t.1 c.ask_helper.new.link c.index-links-at.result c.in-Dropped.round c.in-Dropped.reason t.2)

pub returns-else-at-helpers-clause-next : goal.returns-else-at-helpers-clause-next
returns-else-at-helpers-clause-next g c =
    let s = c.args.session.now in
    let next = rw c.left.ensures at c.skip_seats.ensures.next in
    left_behind s.left c.skip_seats.new.session.left _ _ next c.ask_helper.ensures.next

-- ---- what was done to the links

pub returns-in_err-ask_helper-clause-others : goal.returns-in_err-ask_helper-clause-others
returns-in_err-ask_helper-clause-others g c =
    others_stay c.args.links.now c.args.at.gone c.ask_helper.new.link
    c.index-links-at.result c.requires.gone

pub returns-in_err-ask_helper-clause-honest : goal.returns-in_err-ask_helper-clause-honest
returns-in_err-ask_helper-clause-honest g c =
    asked_tells _ (λ m. IsHonestTalk m.kept.talk.items) c.args.links.now c.args.at.gone
    c.ask_helper.new.link c.index-links-at.result c.requires.gone c.ask_helper.ensures.honest

pub returns-in-Answered-clause-others : goal.returns-in-Answered-clause-others
returns-in-Answered-clause-others g c =
    others_stay c.args.links.now c.args.at.gone c.ask_helper.new.link
    c.index-links-at.result c.requires.gone

pub returns-in-Answered-clause-honest : goal.returns-in-Answered-clause-honest
returns-in-Answered-clause-honest g c =
    asked_tells _ (λ m. IsHonestTalk m.kept.talk.items) c.args.links.now c.args.at.gone
    c.ask_helper.new.link c.index-links-at.result c.requires.gone c.ask_helper.ensures.honest

pub returns-then-at-helpers-clause-others : goal.returns-then-at-helpers-clause-others
returns-then-at-helpers-clause-others g c =
    others_stay c.args.links.now c.args.at.gone c.ask_helper.new.link
    c.index-links-at.result c.requires.gone

pub returns-then-at-helpers-clause-honest : goal.returns-then-at-helpers-clause-honest
returns-then-at-helpers-clause-honest g c =
    asked_tells _ (λ m. IsHonestTalk m.kept.talk.items) c.args.links.now c.args.at.gone
    c.ask_helper.new.link c.index-links-at.result c.requires.gone c.ask_helper.ensures.honest

pub returns-else-at-helpers-clause-others : goal.returns-else-at-helpers-clause-others
returns-else-at-helpers-clause-others g c =
    others_stay c.args.links.now c.args.at.gone c.ask_helper.new.link
    c.index-links-at.result c.requires.gone

pub returns-else-at-helpers-clause-honest : goal.returns-else-at-helpers-clause-honest
returns-else-at-helpers-clause-honest g c =
    asked_tells _ (λ m. IsHonestTalk m.kept.talk.items) c.args.links.now c.args.at.gone
    c.ask_helper.new.link c.index-links-at.result c.requires.gone c.ask_helper.ensures.honest

pub returns-in-Answered-clause-sure : goal.returns-in-Answered-clause-sure
returns-in-Answered-clause-sure g c =
    let same : c.ask_helper.result ≡ Ok cames.Answered =
    c.in_ok-ask_helper.was ∙ ap (λ (v : Came). Ok v) c.in-Answered.is in
    asked_lasts _ c.args.links.now c.args.at.gone c.ask_helper.new.link
    c.index-links-at.result c.requires.gone (c.ask_helper.ensures.sure same)

pub returns-else-at-helpers-clause-sure : goal.returns-else-at-helpers-clause-sure
returns-else-at-helpers-clause-sure g c =
    dropped_aside _ c.args.links.now c.args.at.gone (c.args.at.gone + 1)
    c.ask_helper.new.link c.index-links-at.result c.requires.gone (omega arith)

-- ---- what is kept, and that who was dropped is gone

pub returns-in_err-ask_helper-clause-keeps : goal.returns-in_err-ask_helper-clause-keeps
returns-in_err-ask_helper-clause-keeps g c =
    let e = c.skip_seats.ensures in
    let p = err_from_is_err_and c.from_residual.result c.from_residual.ensures.1 in
    rw (p.1, p.2) (stopped_on _ _ _ (λ stream all. stand_behind stream _ _ _ _ _ e.depth e.next all) e.version e.depth _ _ _ (le_refl _) c.in_err-ask_helper.field-0.0 (rw c.in_err-ask_helper.was at c.ask_helper.ensures.keeps))

pub returns-in-Answered-clause-keeps : goal.returns-in-Answered-clause-keeps
returns-in-Answered-clause-keeps g c =
    let e = c.skip_seats.ensures in
    answered_on _ _ _ (λ stream all. stand_behind stream _ _ _ _ _ e.depth e.next all) e.version e.depth _ _ _ (le_refl _) _ _ (rw c.in_ok-ask_helper.was at c.ask_helper.ensures.keeps)

pub returns-then-at-helpers-clause-keeps : goal.returns-then-at-helpers-clause-keeps
returns-then-at-helpers-clause-keeps g c =
    let e = c.skip_seats.ensures in
    ended_on _ _ _ (λ stream all. stand_behind stream _ _ _ _ _ e.depth e.next all) e.version e.depth _ _ _ (le_refl _) _ _ _ _ (rw c.in_ok-ask_helper.was at c.ask_helper.ensures.keeps)

pub returns-else-at-helpers-clause-keeps : goal.returns-else-at-helpers-clause-keeps
returns-else-at-helpers-clause-keeps g c =
    let e = c.skip_seats.ensures in
    answered_on _ _ _ (λ stream all. stand_behind stream _ _ _ _ _ e.depth e.next all) e.version e.depth _ _ _ (le_refl _) _ _ (rw c.in_ok-ask_helper.was at c.ask_helper.ensures.keeps)

pub returns-in-Answered-clause-dropped : goal.returns-in-Answered-clause-dropped
returns-in-Answered-clause-dropped g c =
    asked_is (λ m. c.args.at.gone < c.args.at.gone → m.helper ≡ None) c.args.links.now c.args.at.gone
    c.ask_helper.new.link c.index-links-at.result c.requires.gone (λ less. absurd (omega (arith, less)))

pub returns-else-at-helpers-clause-dropped : goal.returns-else-at-helpers-clause-dropped
returns-else-at-helpers-clause-dropped g c =
    let same : c.ask_helper.result ≡ Ok (cames.Dropped c.in-Dropped.round c.in-Dropped.reason) = c.in_ok-ask_helper.was ∙ ap (λ (v : Came). Ok v) c.in-Dropped.is in
    asked_is (λ m. c.args.at.gone < c.args.at.gone + 1 → m.helper ≡ None) c.args.links.now c.args.at.gone
    c.ask_helper.new.link c.index-links-at.result c.requires.gone (λ less. c.ask_helper.ensures.dropped _ _ same)

pub returns-in_err-ask_helper-clause-out : goal.returns-in_err-ask_helper-clause-out
returns-in_err-ask_helper-clause-out g c = λ query round reason is.
    let p = err_from_is_err_and c.from_residual.result c.from_residual.ensures.1 in
    let first = p.1 in
    let second = p.2 in
    let was = c.in_err-ask_helper.was in
    let other : c.ask_helper.result ≡ Err (statuses.Rejected query round reason) = cc in
    absurd (c.ask_helper.ensures.goes_on query round reason other)

pub returns-then-at-helpers-clause-out : goal.returns-then-at-helpers-clause-out
returns-then-at-helpers-clause-out g c = λ query round reason is.
    let same : c.ask_helper.result ≡ Ok (cames.Dropped c.in-Dropped.round c.in-Dropped.reason) = c.in_ok-ask_helper.was ∙ ap (λ (v : Came). Ok v) c.in-Dropped.is in (
      omega arith,
      asked_is (λ m. m.helper ≡ None) c.args.links.now c.args.at.gone
          c.ask_helper.new.link c.index-links-at.result c.requires.gone (c.ask_helper.ensures.dropped _ _ same),
    )
