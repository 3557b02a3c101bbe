-- While large entries or a moment are open, all but a farewell and what asks for something new goes
-- to them.
use Rattle.std.proofs.Common.{◌≡◌, ℕ, Bool, None, Option, refl, subst}
use Rattle.std.specs.Prelude.{IsOk, IsTrue, OnOk, ◌↔◌}
use Rattle.std.specs.Option.{is_some, option_map}
use Rattle.sip_vector.specs.declared.query.Query.TheVariants as queries
use Rattle.sip_wire.specs.declared.message.Message.{Message}
use Rattle.sip_wire.specs.declared.version.Version.TheVariants.{Two}
use Rattle.sip_wire.specs.Spelling.{fits}
use Rattle.sip_helper.proofs.EachKind.{fits_below}
use Rattle.sip_helper.specs.Turns.{HelperState}
use Rattle.sip_above.specs.declared.under_way.LargeUnderWay.{LargeUnderWay}
use Rattle.sip_above.specs.UnderWay as larges
use Rattle.sip_lookup.specs.declared.lookup.Lookup.{Lookup}
use Rattle.sip_moments.specs.declared.under_way.MomentUnderWay.{MomentUnderWay}
use Rattle.sip_moments.specs.UnderWay.{open_of}
use Rattle.sip_questions.specs.Serving.{QuestionHelper, is_allowed, step}
use Rattle.sip_questions.specs.declared.sizes.Sizes.{Sizes}
use Rattle.sip_questions.specs.inside.Keeping.{again_of}
use Rattle.sip_questions.proofs.HelperKept.{allowed_by, allowed_idle, allowed_large, by_memory}
use Rattle.sip_questions.proofs.HelperKept.{fewer_then, heard_on, live_still, none_large, none_open}
use Rattle.sip_questions.proofs.HelperKept.{not_last, some_large, some_open}
use Rattle.sip_questions.proofs.serving.QuestionCoreHelps.take.Goals as goal

-- what is seen of such a helper
abbrev view : HelperState → ℕ → Option Lookup → ℕ → Option MomentUnderWay → Sizes → Option LargeUnderWay → QuestionHelper
view helper lookups sought moments moment sizes large = record {
  helper = helper;
  lookups = lookups;
  sought = sought;
  moments = moments;
  moment = option_map open_of moment;
  again = again_of helper sizes;
  large = option_map larges.open_of large;
}

pub pose_large-requires : goal.pose_large-requires
pose_large-requires c =
    let large = c.in-Some.large in
    let fit = subst (λ (m : Message). IsTrue (fits Two m)) c.in-Some.ensures.asks c.requires.fits in
    record { some = (fits_below Two 0 (queries.Above large.side large.at_least) fit refl).0 }

pub returns-then-is_some : goal.returns-then-is_some
returns-then-is_some c =
    let s = c.args.self.now in
    let m = c.args.message.now in
    let result = c.learn_large.result in
    let next = c.learn_large.new.self in
    let learnt = c.learn_large.ensures in
    let some =
    subst (λ (q : QuestionHelper). IsTrue (is_some q.large)) c.self-in_default-message.view_is
    (some_large c.self-in_default-message.inside.large c.if-is_some.ensures) in
    record {
      turn = allowed_large result s s.large m refl some (record {
        bye = c.in_default-message.not-Bye;
        look = c.in_default-message.not-AskLook;
        moment = c.in_default-message.not-AskMoment;
        above = λ side at_least. c.in_default.ensures.none refl (record { side = side; at_least = at_least });
      }) learnt.turn;
      heard = by_memory result s next m learnt.heard;
      same = learnt.same;
      live = live_still result s next c.requires.live learnt.stream;
      fewer = fewer_then result s next learnt.fewer;
      last = not_last result s next m c.requires.going learnt.stream;
    }

pub returns-then-is_some-2 : goal.returns-then-is_some-2
returns-then-is_some-2 c =
    let s = c.args.self.now in
    let m = c.args.message.now in
    let result = c.learn.result in
    let next = c.learn.new.self in
    let learnt = c.learn.ensures in
    let some =
    subst (λ (q : QuestionHelper). IsTrue (is_some q.moment)) c.self-in_default-message.view_is
    (some_open c.self-in_default-message.inside.moment c.if-is_some-2.ensures) in
    let shut =
    subst (λ (q : QuestionHelper). q.large ≡ None) c.self-in_default-message.view_is
    (none_large c.self-in_default-message.inside.large c.if-is_some.ensures) in
    record {
      turn = allowed_by result s s.moment m shut refl some (record {
        bye = c.in_default-message.not-Bye;
        look = c.in_default-message.not-AskLook;
        moment = c.in_default-message.not-AskMoment;
        above = λ side at_least. c.in_default.ensures.none refl (record { side = side; at_least = at_least });
      }) learnt.turn;
      heard = by_memory result s next m learnt.heard;
      same = learnt.same;
      live = live_still result s next c.requires.live learnt.stream;
      fewer = fewer_then result s next learnt.fewer;
      last = not_last result s next m c.requires.going learnt.stream;
    }

pub returns-else-is_some-2-clause-turn : goal.returns-else-is_some-2-clause-turn
returns-else-is_some-2-clause-turn c =
    let i = c.self-in_default-message.inside in
    let m = c.args.message.now in
    subst (λ (q : QuestionHelper). IsOk c.hear_on.result ↔ IsTrue (is_allowed q m)) c.self-in_default-message.view_is
    (allowed_idle c.hear_on.result (view i.core i.lookups i.sought i.moments i.moment i.sizes i.large) m
    (none_large i.large c.if-is_some.ensures) (none_open i.moment c.if-is_some-2.ensures)
    (record {
      bye = c.in_default-message.not-Bye;
      look = c.in_default-message.not-AskLook;
      moment = c.in_default-message.not-AskMoment;
      above = λ side at_least. c.in_default.ensures.none refl (record { side = side; at_least = at_least });
    })
    c.hear_on.ensures.turn)

pub returns-else-is_some-2-clause-heard : goal.returns-else-is_some-2-clause-heard
returns-else-is_some-2-clause-heard c =
    let i = c.self-in_default-message.inside in
    let m = c.args.message.now in
    subst (λ (q : QuestionHelper). OnOk c.hear_on.result ((refused : Bool)
    × (view c.hear_on.new.self i.lookups i.sought i.moments i.moment i.sizes i.large ≡ step q refused m))) c.self-in_default-message.view_is
    (heard_on c.hear_on.result (view i.core i.lookups i.sought i.moments i.moment i.sizes i.large) c.hear_on.new.self i.sizes m
    (none_large i.large c.if-is_some.ensures) (none_open i.moment c.if-is_some-2.ensures) refl
    c.self-in_default-message.invariant.read c.hear_on.ensures.turn.0 c.hear_on.ensures.heard)
