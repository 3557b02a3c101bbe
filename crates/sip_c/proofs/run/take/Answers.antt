use Rattle.std.proofs.Common.{List, ◌∷◌, [], Err, sym, subst, rules}
use Rattle.sip_ports.specs.declared.port.TalkEvent.{TalkEvent}
use Rattle.sip_vector.specs.declared.update.Update.{Update}
use Rattle.sip_runs.specs.Plans.{Plan}
use Rattle.sip_runs.specs.Runs.{Feeds, IsFollowed}
use Rattle.sip_c.specs.Codes.{HasSide, update_of}
use Rattle.sip_c.specs.Runs.{IsBadBehind}
use Rattle.sip_c.specs.declared.refusal.Refusal.{Refusal}
use Rattle.sip_c.proofs.Followed.{bad_one, why_one}
use Rattle.sip_c.proofs.run.take.Goals as goal

pub returns-in-Err-clause-bad : goal.returns-in-Err-clause-bad
returns-in-Err-clause-bad c =
    let f = c.args.run.now in
    let g = c.feed.new.self in
    let code = c.args.code.now in
    let bad = c.in-Err.bad in
    let side : HasSide code = search rules in
    let fed : (p : Plan) (stream : List Update) (events : List TalkEvent) → IsFollowed p stream events f → Feeds p stream events (update_of code ∷ []) g (Err bad) =
    λ p stream events is. subst (λ (u : Update). Feeds p stream events (u ∷ []) g (Err bad)) c.update.ensures (c.in-Err.ensures.feeds p stream events is) in
    (bad_one f g (update_of code) bad fed, subst (λ (why : Refusal). IsBadBehind f [] code why) (sym c.refusal_of.ensures) (why_one f g code bad side fed))
