-- The updates of one side and then those of the other lead to the same vectors.
use Rattle.std.proofs.Common.{◌≡◌, ◌++◌, All, List, sym, subst}
use Rattle.sip_vector.specs.declared.update.Side.TheVariants.{First, Second}
use Rattle.sip_vector.specs.declared.update.Update.{Update}
use Rattle.sip_vector.specs.Streams.{IsLegal, of_side}
use Rattle.sip_verifier.proofs.Seating.{all_own}
use Rattle.sip_runs.specs.Seats.{IsSeated}
use Rattle.sip_runs.proofs.Seated.{legal_first, legal_second, same_seats}
use Rattle.sip_runs.proofs.seats.raise_all.Goals as goal

pub raise-requires-clause-sides : goal.raise-requires-clause-sides
raise-requires-clause-sides c =
    subst (All (λ (u : Update). u.side ≡ First)) (sym c.take_side-firsts.ensures.taken) (all_own c.args.updates.now First)

pub raise-requires-clause-legal : goal.raise-requires-clause-legal
raise-requires-clause-legal c =
    let (version, depth, stream, deep, all, legal) = c.requires.legal in
    (version, depth, stream, deep, all, subst (λ (l : List Update). IsLegal depth (stream ++ l)) (sym c.take_side-firsts.ensures.taken) (legal_first depth stream c.args.updates.now legal))

pub raise-requires-2-clause-sides : goal.raise-requires-2-clause-sides
raise-requires-2-clause-sides c =
    subst (All (λ (u : Update). u.side ≡ Second)) (sym c.take_side-seconds.ensures.taken) (all_own c.args.updates.now Second)

pub raise-requires-2-clause-legal : goal.raise-requires-2-clause-legal
raise-requires-2-clause-legal c =
    let (version, depth, stream, deep, all, legal) = c.requires.legal in
    let us = c.args.updates.now in
    let one = subst (λ (l : List Update). All (IsSeated version depth (stream ++ l)) c.raise.new.seats) c.take_side-firsts.ensures.taken (c.raise.ensures.seated version depth stream all) in
    (version, depth, stream ++ of_side us First, deep, one, subst (λ (l : List Update). IsLegal depth ((stream ++ of_side us First) ++ l)) (sym c.take_side-seconds.ensures.taken) (legal_second depth stream us legal))

pub returns-clause-seated : goal.returns-clause-seated
returns-clause-seated c = λ version depth stream all.
    let us = c.args.updates.now in
    let one = subst (λ (l : List Update). All (IsSeated version depth (stream ++ l)) c.raise.new.seats) c.take_side-firsts.ensures.taken (c.raise.ensures.seated version depth stream all) in
    let other = subst (λ (l : List Update). All (IsSeated version depth ((stream ++ of_side us First) ++ l)) c.raise-2.new.seats) c.take_side-seconds.ensures.taken
    (c.raise-2.ensures.seated version depth (stream ++ of_side us First) one) in
    same_seats version depth stream us _ other
