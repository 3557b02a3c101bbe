-- What came of an opening, or of what is asked: a part, a message, or an end.
use Rattle.std.proofs.Common.{◌≡◌, ◌++◌, ◌≤◌, true, false, Some, refl, sym, ap, subst, ◌∙◌}
use Rattle.sip_ports.specs.Ports.{ins, outs}
use Rattle.sip_wire.specs.Frames.{frame_bytes}
use Rattle.sip_helper.specs.inside.Measures.{most_received}
use Rattle.sip_questions.specs.Stores.{status_of}
use Rattle.sip_steps.specs.declared.serving_store.ServingStore.{ServingStore}
use Rattle.sip_steps.specs.declared.serving_store.StoreStage.TheVariants.{Answering, Recalling}
use Rattle.sip_steps.specs.StoreServed.{GoesAt, IsStoreServed, is_behind}
use Rattle.sip_steps.proofs.OneTalk.{passes_piece}
use Rattle.sip_steps.proofs.StoreCalls.{at_end, at_part, at_silent, at_turn, ended_cause, ended_fault, ended_want, only_answering, over, ready, stage_behind, still, went_silent}
use Rattle.sip_steps.proofs.serving_store.ServingStore.look_at_turn.Goals as goal

pub look-requires : goal.look-requires
look-requires g c =
    let a = c.args.self.now in
    let (form, read, events, was, piece, is) = c.requires.put.put in
    let so = ready form events a.core was read a.stage c.requires.stage is.goes in
    record {
      live = so.live;
      going = so.going;
      version = c.requires.put.spoken;
      place = refl;
      within = c.requires.put.within;
      few = subst (λ n. n ≤ most_received) (sym is.at) so.few;
    }

pub returns-in-Part-clause-passes : goal.returns-in-Part-clause-passes
returns-in-Part-clause-passes g c form read events was piece is =
    let a = c.args.self.now in
    let came = c.in-Part.ensures.comes in
    let s : ServingStore = record a { core = c.look.new.helper; coming = c.look.new.self } in
    let b = at_part form events a.core was a.coming c.look.new.self came.0 c.look.new.helper is.at read a.stage c.requires.stage is.goes came.2 in
    passes_piece (g.K.Sink.talk c.args.out.now) (g.K.Sink.talk c.look.new.out) events b.before (frame_bytes was.frame) (frame_bytes a.coming.frame) piece came.0
    (λ all. IsStoreServed form read all s) b.last is.puts came.1 (still form ((b.before ++ ins (frame_bytes a.coming.frame)) ++ outs came.0) s is.same_form read a.stage c.requires.put.going refl b.after)

pub returns-in-Part-clause-silent : goal.returns-in-Part-clause-silent
returns-in-Part-clause-silent g c = λ unread none. went_silent (g.K.Sink.talk c.args.out.now) (g.K.Sink.talk c.look.new.out) c.in-Part.ensures.comes.0 c.in-Part.ensures.comes.2.silent c.in-Part.ensures.comes.1

pub returns-in-End-clause-passes : goal.returns-in-End-clause-passes
returns-in-End-clause-passes g c form read events was piece is =
    let a = c.args.self.now in
    let came = c.in-End.ensures.comes in
    let s : ServingStore = record a { core = c.look.new.helper; coming = c.look.new.self; status = Some c.from.result } in
    let b = at_end form events a.core was a.coming c.look.new.self came.0 c.look.new.helper is.at read a.stage c.requires.stage is.goes c.in-End.how came.2 in
    passes_piece (g.K.Sink.talk c.args.out.now) (g.K.Sink.talk c.look.new.out) events b.before (frame_bytes was.frame) (frame_bytes a.coming.frame) piece came.0
    (λ all. IsStoreServed form read all s) b.last is.puts came.1 (over form ((b.before ++ ins (frame_bytes a.coming.frame)) ++ outs came.0) s is.same_form read (status_of c.in-End.how) (ap (λ x. Some x) c.from.ensures) b.after)

pub returns-in-End-clause-cause : goal.returns-in-End-clause-cause
returns-in-End-clause-cause g c = ended_cause c.in-End.how c.from.result c.from.ensures c.in-End.ensures.cause

pub returns-in-End-clause-memory : goal.returns-in-End-clause-memory
returns-in-End-clause-memory g c = ended_want c.in-End.how c.from.result c.from.ensures c.in-End.ensures.memory

pub returns-in-End-clause-fault : goal.returns-in-End-clause-fault
returns-in-End-clause-fault g c = ended_fault c.in-End.how c.from.result c.from.ensures

pub returns-in-Opening-clause-passes : goal.returns-in-Opening-clause-passes
returns-in-Opening-clause-passes g c form read events was piece is =
    let a = c.args.self.now in
    let came = c.in-Turn.ensures.comes in
    let s : ServingStore = record a { core = c.look.new.helper; coming = c.look.new.self; stage = Recalling } in
    let b = at_turn form events a.core was a.coming c.look.new.self came.0 c.look.new.helper is.at read a.stage c.requires.stage is.goes came.2 in
    let all = (b.before ++ ins (frame_bytes a.coming.frame)) ++ outs came.0 in
    passes_piece (g.K.Sink.talk c.args.out.now) (g.K.Sink.talk c.look.new.out) events b.before (frame_bytes was.frame) (frame_bytes a.coming.frame) piece came.0
    (λ e. IsStoreServed form read e s) b.last is.puts came.1 (still form all s is.same_form read Recalling c.requires.put.going refl (subst (λ x. GoesAt form all c.look.new.helper c.look.new.self read (stage_behind x)) c.in-Opening.is b.after))

pub returns-in-Opening-clause-silent : goal.returns-in-Opening-clause-silent
returns-in-Opening-clause-silent g c = λ unread none.
    let a = c.args.self.now in
    let came = c.in-Turn.ensures.comes in
    let (form, read, events, was, piece, is) = c.requires.put.put in
    let silent = at_silent form events a.core was a.coming c.look.new.self came.0 c.look.new.helper is.at read a.stage (ap is_behind c.in-Opening.is) c.requires.stage is.goes came.2 in
    went_silent (g.K.Sink.talk c.args.out.now) (g.K.Sink.talk c.look.new.out) came.0 silent came.1

pub returns-in_default-clause-passes : goal.returns-in_default-clause-passes
returns-in_default-clause-passes g c form read events was piece is =
    let a = c.args.self.now in
    let came = c.in-Turn.ensures.comes in
    let s : ServingStore = record a { core = c.look.new.helper; coming = c.look.new.self } in
    let answering = only_answering a.stage c.in_default.not-Opening c.requires.stage in
    let b = at_turn form events a.core was a.coming c.look.new.self came.0 c.look.new.helper is.at read a.stage c.requires.stage is.goes came.2 in
    let all = (b.before ++ ins (frame_bytes a.coming.frame)) ++ outs came.0 in
    passes_piece (g.K.Sink.talk c.args.out.now) (g.K.Sink.talk c.look.new.out) events b.before (frame_bytes was.frame) (frame_bytes a.coming.frame) piece came.0
    (λ e. IsStoreServed form read e s) b.last is.puts came.1 (still form all s is.same_form read Answering c.requires.put.going answering (subst (λ x. GoesAt form all c.look.new.helper c.look.new.self read (stage_behind x)) answering b.after))

pub returns-in_default-clause-silent : goal.returns-in_default-clause-silent
returns-in_default-clause-silent g c = λ unread none.
    let answering = only_answering c.args.self.now.stage c.in_default.not-Opening c.requires.stage in
    absurd (let no : true ≡ false = sym (ap is_behind answering) ∙ unread in cc)
