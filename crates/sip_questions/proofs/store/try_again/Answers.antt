-- The store is read again for the first question for large entries.
use Rattle.std.proofs.Common.{inr, refl, sym}
use Rattle.sip_questions.specs.inside.Keeping.{again_of}
use Rattle.sip_questions.proofs.WeighedAgain.{depth_is, idle_says, number_is, sizes_fit, sizes_weigh}
use Rattle.sip_questions.proofs.store.try_again.Goals as goal

pub sizes_again-requires : goal.sizes_again-requires
sizes_again-requires g c =
    let (r, us, is) = c.requires.stands in
    let idle = c.in-Some.ensures.idle in
    let says = idle_says c.args.core.now c.in-Some.depth idle.1 in
    record { recalls = (r, number_is r us c.args.core.now is.stream idle.0, depth_is r us c.args.core.now is.stream c.in-Some.depth says.1, sym is.count) }

pub weigh-requires-clause-read : goal.weigh-requires-clause-read
weigh-requires-clause-read g c =
    let (r, us, is) = c.requires.stands in
    let idle = c.in-Some.ensures.idle in
    let says = idle_says c.args.core.now c.in-Some.depth idle.1 in
    let are = c.sizes_again.ensures.sizes r us (number_is r us c.args.core.now is.stream idle.0) (depth_is r us c.args.core.now is.stream c.in-Some.depth says.1) (sym is.count) is.comes in
    sizes_fit r us c.args.core.now is.stream c.args.form _ _ c.sizes_again.result are

pub returns-clause-tries : goal.returns-clause-tries
returns-clause-tries g c = λ r us is.
    let idle = c.in-Some.ensures.idle in
    let says = idle_says c.args.core.now c.in-Some.depth idle.1 in
    let are = c.sizes_again.ensures.sizes r us (number_is r us c.args.core.now is.stream idle.0) (depth_is r us c.args.core.now is.stream c.in-Some.depth says.1) (sym is.count) is.comes in
    inr (record {
      first = c.if-tried.false;
      now_tried = refl;
      weights = again_of c.args.core.now.helper c.sizes_again.result;
      is = c.weigh.ensures;
      read = sizes_weigh r us c.args.core.now is.stream c.args.form _ _ c.sizes_again.result are;
    })
