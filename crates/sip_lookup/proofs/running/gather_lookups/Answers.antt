-- The seats that were gathered are those of the lookups: a root for each.
use Rattle.std.proofs.Common.{length, sym, ap, ◌∙◌}
use Rattle.std.proofs.lemmas.List.{length-map, length-replicate}
use Rattle.std.proofs.lemmas.Result.{IfOk-weaker}
use Rattle.sip_verifier.specs.QuerySeats.{Seated}
use Rattle.sip_verifier.specs.Snapshots.{no_port}
use Rattle.sip_lookup.specs.inside.Seating.{IsRooted}
use Rattle.sip_lookup.proofs.RootedTasks.{rooted_can, seats_rooted}
use Rattle.sip_lookup.proofs.running.gather_lookups.Goals as goal

pub gather-requires : goal.gather-requires
gather-requires g c = rooted_can c.args.task.now c.rooted.result c.rooted.ensures.depth c.rooted.ensures.form c.rooted.ensures.queries c.requires

pub seat_lookups-requires-clause-rooted : goal.seat_lookups-requires-clause-rooted
seat_lookups-requires-clause-rooted g c =
    IfOk-weaker c.gather.new.gathered _ _ (λ seats seated. seats_rooted _ _ (seated.1 ∙ c.rooted.ensures.queries)) (c.gather.ensures.keeps no_port no_port).seated

pub seat_lookups-requires-clause-levels : goal.seat_lookups-requires-clause-levels
seat_lookups-requires-clause-levels g c =
    IfOk-weaker c.gather.new.gathered _ _ (λ seats seated. seated.0 ∙ c.rooted.ensures.depth) (c.gather.ensures.keeps no_port no_port).seated

pub seat_lookups-requires-clause-each : goal.seat_lookups-requires-clause-each
seat_lookups-requires-clause-each g c =
    IfOk-weaker c.gather.new.gathered _ _ (λ seats seated. sym (length-map seats.seats (λ (s : Seated). s.query)) ∙ ap length (seated.1 ∙ c.rooted.ensures.queries) ∙ length-replicate _ _) (c.gather.ensures.keeps no_port no_port).seated

pub returns-clause-gathers : goal.returns-clause-gathers
returns-clause-gathers g c =
    let rooted : IsRooted c.args.task.now c.rooted.result = record {
      depth = c.rooted.ensures.depth;
      form = c.rooted.ensures.form;
      queries = c.rooted.ensures.queries;
      few = c.rooted.ensures.few;
    } in
    (c.rooted.result, rooted, c.gather.new.gathered, c.gather.result, c.gather.ensures.keeps, c.seat_lookups.ensures)
