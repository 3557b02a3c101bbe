-- The front that was asked for was heard, and what it comes to is told.
use Rattle.std.proofs.Common.{rules, ◌≡◌, ◌≤◌, ◌<◌, Err, Some, false, length, [], ap, sym, subst, ◌∙◌}
use Rattle.std.specs.Prelude.{is_err, is_none}
use Rattle.std.proofs.lemmas.Result.{err_from_is_err_and}
use Rattle.sip_vector.specs.declared.tally.Tally.{Tally}
use Rattle.sip_vector.specs.Tallies.{tally}
use Rattle.sip_wire.specs.declared.message.Message.TheVariants as messages
use Rattle.sip_helper.specs.Turns.{HelperState, step}
use Rattle.sip_stream.specs.declared.fault.StreamFault.{StreamFault}
use Rattle.sip_stream.specs.Reading.{Reading}
use Rattle.sip_helper.proofs.Turning.{on_ok_holds}
use Rattle.sip_questions.specs.declared.store_status.StoreStatus.TheVariants as statuses
use Rattle.sip_questions.specs.StoreFronts.{heard_of, status_of_fault}
use Rattle.sip_questions.specs.inside.StoreHearing.{IsReadOut, StopsWithin}
use Rattle.sip_questions.proofs.StoreHeard.{depth_is, end_fits, none_legal, shown_some, whole_then}
use Rattle.sip_questions.proofs.StoreReading.{hears_front, read_only, unheard}
use Rattle.sip_questions.proofs.store_hearing.hear_records.Goals as goal

pub hear_front-requires-clause-behind : goal.hear_front-requires-clause-behind
hear_front-requires-clause-behind g c = c.resumed-reader.ensures.after [] (none_legal c.in-Some.depth) (sym c.nothing_told.ensures)

pub returns-in_err-hear_front-clause-hears : goal.returns-in_err-hear_front-clause-hears
returns-in_err-hear_front-clause-hears g c = λ r refused is same.
    let p = err_from_is_err_and c.from_residual.result c.from_residual.ensures.1 in
    let fault = c.in_err-hear_front.field-0.0 in
    let unread = c.resumed-reader.ensures.after [] (none_legal c.in-Some.depth) (sym c.nothing_told.ensures) in
    let depth = depth_is r.number r.depth refused c.args.stream.now c.depth.result c.in-Some.depth is c.depth.ensures c.in-Some.is in
    let behind = c.resumed-reader.ensures.behind in
    let stops = subst (λ n. StopsWithin c.resumed-reader.result (g.A.Source.left c.args.first.now) n fault) same c.in_err-hear_front.ensures.hears in
    rw (p.1, p.2) (unheard r c.args.form c.resumed-reader.result (ap (λ (x : Reading). x.depth) behind ∙ depth) (ap (λ (x : Reading). x.form) behind) unread (g.A.Source.left c.args.first.now) fault stops)

pub returns-in_err-hear_front-clause-cause : goal.returns-in_err-hear_front-clause-cause
returns-in_err-hear_front-clause-cause g c = λ is.
    let p = err_from_is_err_and c.from_residual.result c.from_residual.ensures.1 in
    let fault = c.in_err-hear_front.field-0.0 in
    let told = rw (p.1, p.2) at is in
    let same : status_of_fault fault ≡ statuses.ReadFault = cc in
    c.in_err-hear_front.ensures.cause (ap (λ (x : StreamFault). Err x) (read_only fault same))

pub hear-requires-clause-fits : goal.hear-requires-clause-fits
hear-requires-clause-fits g c = end_fits

pub unreachable-requires-in_default-tally : goal.unreachable-requires-in_default-tally
unreachable-requires-in_default-tally g c =
    let (us, few, hears, out) = c.in_ok-hear_front.ensures.hears in
    let unread = c.resumed-reader.ensures.after [] (none_legal c.in-Some.depth) (sym c.nothing_told.ensures) in
    let told = c.resumed-reader.ensures.told ∙ ap (λ (t : Tally). Some t) c.nothing_told.ensures in
    c.in_default-tally.not-Some (tally us) (c.tally.ensures ∙ hears.takes.tells [] unread told)

pub returns-clause-hears : goal.returns-clause-hears
returns-clause-hears g c = λ r refused is same.
    let (us, few, hears, out) = c.in_ok-hear_front.ensures.hears in
    let unread = c.resumed-reader.ensures.after [] (none_legal c.in-Some.depth) (sym c.nothing_told.ensures) in
    let told = c.resumed-reader.ensures.told ∙ ap (λ (t : Tally). Some t) c.nothing_told.ensures in
    let depth = depth_is r.number r.depth refused c.args.stream.now c.depth.result c.in-Some.depth is c.depth.ensures c.in-Some.is in
    let behind = c.resumed-reader.ensures.behind in
    let store = g.A.Source.left c.args.first.now in
    let left = g.A.Source.left c.hear_front.new.first in
    let most = subst (λ n. length us ≤ n) same few in
    let ended = subst (λ n. length us < n → IsReadOut c.resumed-reader.result store left) same out in
    let went : is_err c.hear.result ≡ false = search rules in
    let last = on_ok_holds _ c.hear.result went c.hear.ensures.heard in
    let next = last.1 ∙ ap (λ (h : HelperState). step h last.0 messages.EndStream) (hears.heard.1 ∙ ap (λ (h : HelperState). step h hears.heard.0 (messages.Updates (record { items = heard_of c.args.sizes us }))) is) in
    let there : is_none c.vector.result ≡ false = search rules in
    let vector = shown_some _ _ c.vector.result there c.vector.ensures.shown in
    let some : Some c.in-Some-tally.tally ≡ Some (tally us) = sym c.in-Some-tally.is ∙ c.tally.ensures ∙ hears.takes.tells [] unread told in
    let one : c.in-Some-tally.tally ≡ tally us = cc in (
      us,
      hears_front r c.args.form c.resumed-reader.result c.hear_front.new.reader store left us (ap (λ (x : Reading). x.depth) behind ∙ depth) (ap (λ (x : Reading). x.form) behind) unread hears.takes most ended,
      whole_then r.number r.depth refused hears.heard.0 last.0 (heard_of c.args.sizes us) c.hear.new.self vector.0 next vector.1,
      one,
    )
