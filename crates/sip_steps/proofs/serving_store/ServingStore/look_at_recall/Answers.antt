-- What came of the frame behind the opening: a part, how many records are to be heard, or an end.
use Rattle.std.proofs.Common.{◌≡◌, ◌≤◌, ◌++◌, [], true, Some, None, Err, inl, inr, refl, sym, ap, subst, ◌∙◌}
use Rattle.sip_ports.specs.Ports.{ins, outs}
use Rattle.sip_ports.proofs.FaultLemmas.{Rose-since}
use Rattle.sip_ports.proofs.TalkLemmas.{GoesOn-trans}
use Rattle.sip_stream.specs.declared.form.Form.{Form}
use Rattle.sip_wire.specs.Frames.{frame_bytes}
use Rattle.sip_helper.specs.inside.Measures.{most_received}
use Rattle.sip_questions.specs.declared.recalling.Recalling.{Recalling as Recaller}
use Rattle.sip_questions.specs.declared.store_status.StoreStatus.{StoreStatus}
use Rattle.sip_questions.specs.declared.store_status.StoreStatus.TheVariants.{OutOfMemory, PeerFault, ReadFault}
use Rattle.sip_questions.specs.StoreFronts.{opening}
use Rattle.sip_questions.specs.inside.StoreTurns.{recalls_left}
use Rattle.sip_questions.specs.Stores.{status_of}
use Rattle.sip_steps.specs.declared.serving_store.ServingStore.{ServingStore}
use Rattle.sip_steps.specs.declared.serving_store.StoreStage.TheVariants.{Answering, Recalling}
use Rattle.sip_steps.specs.Served.{Passes}
use Rattle.sip_steps.specs.StoreServed.{IsStoreServed, is_behind, is_read}
use Rattle.sip_steps.specs.inside.StoreTurning.{TellsBy, TellsHeld}
use Rattle.sip_steps.proofs.OneTalk.{passes_piece}
use Rattle.sip_steps.proofs.OverStore.{held_then, tells_end}
use Rattle.sip_steps.proofs.StoreCalls.{at_recall, ended_cause, ended_fault, ended_want, over, passes_read, passes_unread, said, still, wait_end, wait_part, wait_ready, went_behind, went_silent}
use Rattle.sip_steps.proofs.serving_store.ServingStore.look_at_recall.Goals as goal

pub look-requires : goal.look-requires
look-requires g c =
    let a = c.args.self.now in
    let (form, read, events, was, piece, put) = c.requires.put.put in
    let at = at_recall form events a.core was read a.stage c.requires.stage c.args.version c.new-recalling.result c.new-recalling.ensures c.requires.put.spoken put.goes in
    let needs = wait_ready form events a.core was at.0 c.new-recalling.result at.1 in
    record {
      live = refl;
      going = needs.0;
      version = sym (ap (λ (h : Recaller). h.version) c.new-recalling.ensures);
      place = refl;
      within = c.requires.put.within;
      few = subst (λ n. n ≤ most_received) (sym put.at) needs.1;
    }

pub returns-in-Part-clause-passes : goal.returns-in-Part-clause-passes
returns-in-Part-clause-passes g c form read events was piece put =
    let a = c.args.self.now in
    let came = c.in-Part.ensures.comes in
    let at = at_recall form events a.core was read a.stage c.requires.stage c.args.version c.new-recalling.result c.new-recalling.ensures c.requires.put.spoken put.goes in
    let s : ServingStore = record a { coming = c.look.new.self } in
    let left = g.A.Source.left c.args.first.now in
    let out = g.K.Sink.talk c.args.out.now in
    let now = g.K.Sink.talk c.look.new.out in
    let before = ins (opening at.0.number at.0.depth) in
    let after = wait_part form events a.core was at.0 c.new-recalling.result at.1 recalls_left (λ h. true) a.coming c.look.new.self came.0 c.look.new.helper put.at came.2 in
    passes_unread form read s (is_read a) (is_read s) left left refl out now piece events
    (subst (λ o. Passes out now piece events (λ all. IsStoreServed form o all s)) (sym at.2)
    (passes_piece out now events before (frame_bytes was.frame) (frame_bytes a.coming.frame) piece came.0 (λ all. IsStoreServed form None all s) at.0.part.last put.puts came.1
    (still form ((before ++ ins (frame_bytes a.coming.frame)) ++ outs came.0) s put.same_form None Recalling c.requires.put.going c.requires.stage after)))

pub returns-in-Part-clause-silent : goal.returns-in-Part-clause-silent
returns-in-Part-clause-silent g c = λ unread none. went_silent (g.K.Sink.talk c.args.out.now) (g.K.Sink.talk c.look.new.out) c.in-Part.ensures.comes.0 c.in-Part.ensures.comes.2.silent c.in-Part.ensures.comes.1

pub returns-in-End-clause-passes : goal.returns-in-End-clause-passes
returns-in-End-clause-passes g c form read events was piece put =
    let a = c.args.self.now in
    let came = c.in-End.ensures.comes in
    let at = at_recall form events a.core was read a.stage c.requires.stage c.args.version c.new-recalling.result c.new-recalling.ensures c.requires.put.spoken put.goes in
    let s : ServingStore = record a { coming = c.look.new.self; status = Some c.from.result } in
    let left = g.A.Source.left c.args.first.now in
    let out = g.K.Sink.talk c.args.out.now in
    let now = g.K.Sink.talk c.look.new.out in
    let before = ins (opening at.0.number at.0.depth) in
    let after = wait_end form events a.core was at.0 c.new-recalling.result at.1 recalls_left (λ h. true) a.coming c.look.new.self came.0 c.look.new.helper put.at c.in-End.how came.2 in
    passes_unread form read s (is_read a) (is_read s) left left refl out now piece events
    (subst (λ o. Passes out now piece events (λ all. IsStoreServed form o all s)) (sym at.2)
    (passes_piece out now events before (frame_bytes was.frame) (frame_bytes a.coming.frame) piece came.0 (λ all. IsStoreServed form None all s) at.0.part.last put.puts came.1
    (over form ((before ++ ins (frame_bytes a.coming.frame)) ++ outs came.0) s put.same_form None (status_of c.in-End.how) (ap (λ x. Some x) c.from.ensures) after)))

pub returns-in-End-clause-causes : goal.returns-in-End-clause-causes
returns-in-End-clause-causes g c = record {
  fault = λ e. absurd (ended_fault c.in-End.how c.from.result c.from.ensures e);
  cause = ended_cause c.in-End.how c.from.result c.from.ensures c.in-End.ensures.cause;
}

pub returns-in-End-clause-memory : goal.returns-in-End-clause-memory
returns-in-End-clause-memory g c = λ e. inr (ended_want c.in-End.how c.from.result c.from.ensures c.in-End.ensures.memory e)

pub recall-requires : goal.recall-requires
recall-requires g c =
    let a = c.args.self.now in
    let (form, read, events, was, piece, put) = c.requires.put.put in
    let at = at_recall form events a.core was read a.stage c.requires.stage c.args.version c.new-recalling.result c.new-recalling.ensures c.requires.put.spoken put.goes in
    let came = c.in-Turn.ensures.comes in
    let t = said form events a.core was at.0 c.new-recalling.result at.1 recalls_left (λ h. true) a.coming c.look.new.self came.0 c.look.new.helper put.at came.2 in
    let same : c.in-Some.count ≡ t.recalls.count = (let some = sym c.in-Some.is ∙ t.count in cc) in
    record { opened = (t.recalls, t.refused, t.state, same) }

pub returns-in-Err-clause-passes : goal.returns-in-Err-clause-passes
returns-in-Err-clause-passes g c form read events was piece put =
    let a = c.args.self.now in
    let came = c.in-Turn.ensures.comes in
    let at = at_recall form events a.core was read a.stage c.requires.stage c.args.version c.new-recalling.result c.new-recalling.ensures c.requires.put.spoken put.goes in
    let t = said form events a.core was at.0 c.new-recalling.result at.1 recalls_left (λ h. true) a.coming c.look.new.self came.0 c.look.new.helper put.at came.2 in
    let same : c.in-Some.count ≡ t.recalls.count = (let some = sym c.in-Some.is ∙ t.count in cc) in
    let tells = c.in-Err.ensures.tells t.recalls t.refused t.state same in
    let s : ServingStore = record a { core = c.recall.new.core; coming = c.look.new.self; stage = Answering; status = Some c.in-Err.status } in
    let had = g.A.Source.left c.args.first.now in
    let has = g.A.Source.left c.recall.new.first in
    let out = g.K.Sink.talk c.args.out.now in
    let now = g.K.Sink.talk c.recall.new.out in
    let before = ins (opening at.0.number at.0.depth) in
    let got = before ++ ins (frame_bytes a.coming.frame) in
    passes_read form read s (is_read a) (is_read s) had has (ap is_behind c.requires.stage) refl out now piece events
    (passes_piece out now events before (frame_bytes was.frame) (frame_bytes a.coming.frame) piece tells.0 (λ all. IsStoreServed form (Some (record { store = had; left = has })) all s) at.0.part.last put.puts
    (went_behind out (g.K.Sink.talk c.look.new.out) now came.0 tells.0 t.silent came.1 tells.1)
    (over form (got ++ outs tells.0) s put.same_form (Some (record { store = had; left = has })) c.in-Err.status refl (tells_end form t.recalls had has c.recall.new.core tells.0 got t.talk c.in-Err.status (subst (λ (f : Form). TellsBy t.recalls f had has c.recall.new.core tells.0 (Err c.in-Err.status)) put.same_form tells.2))))

pub returns-in_default-recall-clause-passes : goal.returns-in_default-recall-clause-passes
returns-in_default-recall-clause-passes g c form read events was piece put =
    let a = c.args.self.now in
    let at = at_recall form events a.core was read a.stage c.requires.stage c.args.version c.new-recalling.result c.new-recalling.ensures c.requires.put.spoken put.goes in
    let came = c.in-Turn.ensures.comes in
    let t = said form events a.core was at.0 c.new-recalling.result at.1 recalls_left (λ h. true) a.coming c.look.new.self came.0 c.look.new.helper put.at came.2 in
    let same : c.in-Some.count ≡ t.recalls.count = (let some = sym c.in-Some.is ∙ t.count in cc) in
    let tells = c.in_default-recall.ensures.tells t.recalls t.refused t.state same in
    let s : ServingStore = record a { core = c.recall.new.core; coming = c.look.new.self; stage = Answering } in
    let out = g.K.Sink.talk c.args.out.now in
    let now = g.K.Sink.talk c.recall.new.out in
    let had = g.A.Source.left c.args.first.now in
    let has = g.A.Source.left c.recall.new.first in
    let before = ins (opening at.0.number at.0.depth) in
    let got = before ++ ins (frame_bytes a.coming.frame) in
    passes_read form read s (is_read a) (is_read s) had has (ap is_behind c.requires.stage) refl out now piece events
    (passes_piece out now events before (frame_bytes was.frame) (frame_bytes a.coming.frame) piece tells.0 (λ all. IsStoreServed form (Some (record { store = had; left = has })) all s) at.0.part.last put.puts
    (went_behind out (g.K.Sink.talk c.look.new.out) now came.0 tells.0 t.silent came.1 tells.1)
    (still form (got ++ outs tells.0) s put.same_form (Some (record { store = had; left = has })) Answering c.requires.put.going refl
    (held_then form t.recalls had has c.recall.new.core tells.0 got t.talk c.look.new.self (subst (λ (f : Form). TellsHeld t.recalls f had has c.recall.new.core tells.0) put.same_form tells.2) t.at t.empty t.unknown)))

pub returns-in-Err-clause-memory : goal.returns-in-Err-clause-memory
returns-in-Err-clause-memory g c = λ e.
    let a = c.args.self.now in
    let (form, read, events, was, piece, put) = c.requires.put.put in
    let came = c.in-Turn.ensures.comes in
    let at = at_recall form events a.core was read a.stage c.requires.stage c.args.version c.new-recalling.result c.new-recalling.ensures c.requires.put.spoken put.goes in
    let t = said form events a.core was at.0 c.new-recalling.result at.1 recalls_left (λ h. true) a.coming c.look.new.self came.0 c.look.new.helper put.at came.2 in
    let want : c.in-Err.status ≡ OutOfMemory = (let some = e in cc) in
    elim (c.in-Err.ensures.memory (ap (λ (x : StoreStatus). Err x) want)) [
      | inl silent ↦ inl (GoesOn-trans (g.K.Sink.talk c.args.out.now) (g.K.Sink.talk c.look.new.out) (g.K.Sink.talk c.recall.new.out) [] [] (went_silent (g.K.Sink.talk c.args.out.now) (g.K.Sink.talk c.look.new.out) came.0 t.silent came.1) silent)
      | inr rose ↦ inr (Rose-since (g.K.Sink.wants c.args.out.now) (g.K.Sink.wants c.look.new.out) (g.K.Sink.wants c.recall.new.out) c.look.ensures.lasts.wants_later rose)
    ]

pub returns-in-Err-clause-causes : goal.returns-in-Err-clause-causes
returns-in-Err-clause-causes g c = record {
  fault = λ e.
      let unread : c.in-Err.status ≡ ReadFault = (let some = e in cc) in
      c.in-Err.ensures.fault (ap (λ (x : StoreStatus). Err x) unread);
  cause = λ e.
      let unsent : c.in-Err.status ≡ PeerFault = (let some = e in cc) in
      Rose-since (g.K.Sink.faults c.args.out.now) (g.K.Sink.faults c.look.new.out) (g.K.Sink.faults c.recall.new.out) c.look.ensures.lasts.later (c.in-Err.ensures.cause (ap (λ (x : StoreStatus). Err x) unsent));
}
