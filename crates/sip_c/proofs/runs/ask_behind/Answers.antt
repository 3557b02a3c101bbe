use Rattle.std.proofs.Common.{Err, sym, subst}
use Rattle.sip_c.specs.RunAsking.{AsksBehind, told_by}
use Rattle.sip_c.specs.declared.ending.Ending.{Ending}
use Rattle.sip_c.specs.declared.refusal.Refusal.{Refusal}
use Rattle.sip_c.proofs.Behind.{asked_behind, refused_behind}
use Rattle.sip_c.proofs.runs.ask_behind.Goals as goal

pub begin-requires : goal.begin-requires
begin-requires c =
    let (p, stream, events, is) = c.requires.begun in
    record { run = (p, stream, (c.in-Ok.ensures p stream events is).0) }

pub returns-in_ok-asking-in-Ok-clause-asks : goal.returns-in_ok-asking-in-Ok-clause-asks
returns-in_ok-asking-in-Ok-clause-asks c =
    asked_behind c.args.following c.args.told.now c.begin-in-Ok.new.self.spot.held c.in-Ok.left c.in_ok-asking-in-Ok.asking c.begin-in-Ok.result c.in_ok-asking-in-Ok.ensures.turns (λ p stream events is.
    c.in-Ok.ensures p stream events is) c.begin-in-Ok.ensures.given c.begin-in-Ok.ensures.none c.begin-in-Ok.ensures.why

pub returns-in-Err-clause-asks : goal.returns-in-Err-clause-asks
returns-in-Err-clause-asks c =
    let f = c.args.following in
    let told = c.args.told.now in
    let new = c.args.handle.now.spot.held in
    let status = c.in-Err.status in
    subst (λ (t : Ending). AsksBehind f told t (Err c.refusal_of.result) new) (sym c.tell.ensures)
    (subst (λ (why : Refusal). AsksBehind f told (told_by status told) (Err why) new) (sym c.refusal_of.ensures)
    (refused_behind f told new status c.requires.empty (λ p stream events is. c.in-Err.ensures p stream events is)))
