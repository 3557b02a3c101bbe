-- No more seats than questions, and none of them refuses its question.
use Rattle.std.proofs.Common.{length, ap, arith}
use Rattle.std.proofs.lemmas.List.{length-map}
use Rattle.sip_vector.specs.declared.tally.Tally.{Tally}
use Rattle.sip_questions.specs.Sittings.{ask_at}
use Rattle.sip_ask.proofs.Chosen.{asks-few}
use Rattle.sip_ask.proofs.Narrow.{starts-none}
use Rattle.sip_ask.proofs.desk_asking.ready.Goals as goal

pub new-requires-clause-most : goal.new-requires-clause-most
new-requires-clause-most c =
    omega (arith, ap length c.in-Ok.ensures.asks, length-map c.in-Ok.seats.items ask_at, asks-few c.args.sketch c.args.questions.now c.args.places.now.items, c.requires.most)

pub wanting-requires : goal.wanting-requires
wanting-requires c =
    starts-none c.args.version c.depth.result c.args.sketch.tally (record { first = c.tally-tally.result.first; second = c.tally-tally.result.second }) c.in-Ok.seats.items c.in-Err.status
    (ap (λ (t : Tally). t.first) c.tally-tally.ensures) (ap (λ (t : Tally). t.second) c.tally-tally.ensures) c.in-Ok.ensures.free c.in-Err.ensures
