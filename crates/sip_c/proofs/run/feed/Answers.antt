use Rattle.std.proofs.Common.{◌≡◌, ◌<◌, length, take, true, subst, rules, arith}
use Rattle.std.proofs.lemmas.Result.{err_from_is_err_and}
use Rattle.sip_c.specs.Runs.{IsBadBehind}
use Rattle.sip_c.specs.Weighing.{updates_of}
use Rattle.sip_c.specs.declared.codes.UpdateCode.{UpdateCode}
use Rattle.sip_c.proofs.Followed.{bad_behind, hears_next, hears_still, sides_next}
use Rattle.sip_c.proofs.run.feed.Goals as goal

pub returns-in_err-take-clause-feeds : goal.returns-in_err-take-clause-feeds
returns-in_err-take-clause-feeds g c =
    let codes = g.C.Codes.codes c.args.codes.now in
    let k = c.loop-place.place in
    let f = c.args.run.now in
    let so = c.loop-place.invariant in
    let us = updates_of (take k codes) in
    let lt : k < length codes = omega (arith, c.loop-place-test.true, c.count-place-end.ensures) in
    let bad = c.in_err-take.ensures.bad in
    let why = c.in_err-take.field-0.0 in
    let e = err_from_is_err_and c.from_residual.result c.from_residual.ensures.1 in
    rw (e.1, e.2) (
      so.sides,
      hears_still f c.loop-place.run c.take.new.run us so.hears bad.0,
      (
        lt,
        λ d.
            subst (λ (x : UpdateCode). IsBadBehind f us x why) (c.at.ensures d) (bad_behind f c.loop-place.run us c.at.result why so.hears bad.1),
      ),
    )

pub loop-place-preserved : goal.loop-place-preserved
loop-place-preserved g c =
    let codes = g.C.Codes.codes c.args.codes.now in
    let k = c.loop-place.place in
    let so = c.loop-place.invariant in
    let lt : k < length codes = omega (arith, c.loop-place-test.true, c.count-place-end.ensures) in
    let did : c.in_ok-take.field-0 ≡ true = search rules in
    record {
      begun = c.take.ensures.begun;
      sides = sides_next codes k c.at.result lt c.at.ensures so.sides c.in_ok-take.ensures.side;
      hears = hears_next codes k c.at.result c.args.run.now c.loop-place.run c.take.new.run lt c.at.ensures so.hears (c.in_ok-take.ensures.came did);
    }
