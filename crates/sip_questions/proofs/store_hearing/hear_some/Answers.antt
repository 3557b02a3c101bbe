-- Records that a reader took may come.
use Rattle.std.proofs.Common.{◌≡◌, List, true, false, rules, subst, sym, take, arith}
use Rattle.std.specs.Prelude.{IsTrue, is_err}
use Rattle.std.proofs.lemmas.Bool.{both_ways}
use Rattle.std.proofs.lemmas.List.{length-take-le}
use Rattle.sip_vector.specs.declared.update.Update.{Update}
use Rattle.sip_wire.specs.declared.message.Message.TheVariants as messages
use Rattle.sip_helper.specs.Turns.{is_allowed}
use Rattle.sip_helper.proofs.Turning.{not_allowed, on_ok_holds}
use Rattle.sip_questions.proofs.StoreHeard.{far_then, front_heard, may_come, small_then}
use Rattle.sip_questions.proofs.store_hearing.hear_some.Goals as goal

pub unreachable-requires : goal.unreachable-requires
unreachable-requires g c =
    let (few, takes, out) = c.in_ok-came.ensures.takes in
    let (before, behind) = c.requires.behind in
    let us = take c.in_ok-came.came c.take_some.new.block in
    let may = may_come c.args.sizes c.args.stream.now c.args.reader.now c.take_some.new.reader before us c.requires.far behind takes.depth (takes.after before behind) in
    let failed : is_err c.hear_updates.result ≡ true = search rules in
    let front = front_heard c.args.sizes c.in_ok-came.came c.take_some.new.block c.take_sizes.new.block few c.take_sizes.ensures in
    let may_too = subst (λ (l : List Update). IsTrue (is_allowed c.args.stream.now (messages.Updates (record { items = l })))) (sym front) may in
    both_ways _ (not_allowed c.hear_updates.result _ c.hear_updates.ensures.turn failed) may_too

pub take_sizes-requires : goal.take_sizes-requires
take_sizes-requires g c =
    let (few, takes, out) = c.in_ok-came.ensures.takes in
    let (before, behind) = c.requires.behind in
    record { small = small_then c.take_some.new.reader before (take c.in_ok-came.came c.take_some.new.block) (takes.after before behind) }

pub returns-clause-hears : goal.returns-clause-hears
returns-clause-hears g c =
    let (few, takes, out) = c.in_ok-came.ensures.takes in
    let (before, behind) = c.requires.behind in
    let us = take c.in_ok-came.came c.take_some.new.block in
    let went : is_err c.hear_updates.result ≡ false = search rules in
    let front = front_heard c.args.sizes c.in_ok-came.came c.take_some.new.block c.take_sizes.new.block few c.take_sizes.ensures in
    let heard = rw front at (on_ok_holds _ c.hear_updates.result went c.hear_updates.ensures.heard) in (
      us,
      length-take-le c.in_ok-came.came c.take_some.new.block few,
      omega (arith, few, c.take_some.ensures.len),
      record {
        takes = takes;
        heard = heard;
        far = far_then c.args.sizes c.args.stream.now c.hear_updates.new.self c.args.reader.now c.take_some.new.reader before us c.requires.far behind takes.depth (takes.after before behind) heard;
      },
      out,
    )
