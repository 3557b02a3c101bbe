-- Some bytes came of a frame, and what came of it was looked at.
use Rattle.std.proofs.Common.{◌≡◌, ◌<◌, ◌++◌, true, false, inl, inr, length, take, sym, ap, subst, ◌∙◌}
use Rattle.sip_wire.specs.declared.kind.Place.TheVariants as places
use Rattle.sip_wire.specs.declared.version.Version.{Version}
use Rattle.sip_wire.specs.Frames.{frame_bytes}
use Rattle.sip_wire.specs.Spelling.{asked}
use Rattle.sip_steps.specs.StoreServed.{is_behind, is_read, read_then}
use Rattle.sip_steps.proofs.StoreCalls.{goes_still, has_put, passes_unread, put_then, short_at}
use Rattle.sip_steps.proofs.serving_store.ServingStore.piece.Goals as goal

pub put-taken-requires-clause-short : goal.put-taken-requires-clause-short
put-taken-requires-clause-short g c =
    let a = c.args.self.now in
    let (form, read, events, served) = c.requires.begun in
    let got = frame_bytes a.coming.frame in
    subst (λ (v : Version). length got < asked v places.AskedQuestion got) (sym c.version_due-version.ensures) (short_at form events a.core a.coming read a.stage (goes_still form read events a c.requires.going served))

pub look_at_recall-requires : goal.look_at_recall-requires
look_at_recall-requires g c =
    let a = c.args.self.now in
    let (form, read, events, served) = c.requires.begun in
    let did = c.put-taken.ensures in
    record {
      stage = c.in-Recalling.is;
      put = has_put form read events a c.put-taken.new.self (take c.put-taken.result c.args.bytes.now) c.version_due-version.result c.requires.going served did.offset did.puts c.version_due-version.ensures did.within;
    }

pub look_at_turn-requires : goal.look_at_turn-requires
look_at_turn-requires g c =
    let a = c.args.self.now in
    let (form, read, events, served) = c.requires.begun in
    let did = c.put-taken.ensures in
    record {
      stage = c.in_default.not-Recalling;
      put = has_put form read events a c.put-taken.new.self (take c.put-taken.result c.args.bytes.now) c.version_due-version.result c.requires.going served did.offset did.puts c.version_due-version.ensures did.within;
    }

pub returns-in-Recalling-clause-passes : goal.returns-in-Recalling-clause-passes
returns-in-Recalling-clause-passes g c form read events served =
    let a = c.args.self.now in
    let did = c.put-taken.ensures in
    c.look_at_recall.ensures.passes form read events a.coming (take c.put-taken.result c.args.bytes.now) (put_then form read events a c.put-taken.new.self (take c.put-taken.result c.args.bytes.now) c.requires.going served did.offset did.puts)

pub returns-in-Recalling-clause-begun : goal.returns-in-Recalling-clause-begun
returns-in-Recalling-clause-begun g c =
    let (form, read, events, served) = c.requires.begun in
    let did = c.look_at_recall.new in
    let known = read_then (is_read c.args.self.now) (is_read did.self) (g.A.Source.left c.args.first.now) (g.A.Source.left did.first) read in
    let p = returns-in-Recalling-clause-passes g c form read events served in
    (form, known, events ++ p.more, p.after)

pub returns-in-Recalling-clause-memory : goal.returns-in-Recalling-clause-memory
returns-in-Recalling-clause-memory g c = λ e. elim (c.look_at_recall.ensures.memory e) [
  | inl silent ↦ inl (ap is_behind c.in-Recalling.is, silent)
  | inr rose ↦ inr rose
]

pub returns-in-Recalling-clause-once : goal.returns-in-Recalling-clause-once
returns-in-Recalling-clause-once g c = λ e. absurd (let no : true ≡ false = sym e ∙ ap is_behind c.in-Recalling.is in cc)

pub returns-in-Recalling-clause-unread : goal.returns-in-Recalling-clause-unread
returns-in-Recalling-clause-unread g c = λ e. c.look_at_recall.ensures.unread (e ∙ ap is_behind c.in-Recalling.is)

pub returns-clause-passes : goal.returns-clause-passes
returns-clause-passes g c form read events served =
    let a = c.args.self.now in
    let did = c.put-taken.ensures in
    let came = take c.put-taken.result c.args.bytes.now in
    let left = g.A.Source.left c.args.first.now in
    let s = c.look_at_turn.new.self in
    passes_unread form read s (is_read a) (is_read s) left left c.look_at_turn.ensures.unread (g.K.Sink.talk c.args.out.now) (g.K.Sink.talk c.look_at_turn.new.out) came events
    (c.look_at_turn.ensures.passes form read events a.coming came (put_then form read events a c.put-taken.new.self came c.requires.going served did.offset did.puts))

pub returns-clause-once : goal.returns-clause-once
returns-clause-once g c = λ e. c.look_at_turn.ensures.unread ∙ e

pub returns-clause-causes : goal.returns-clause-causes
returns-clause-causes g c = record { fault = λ e. absurd (c.look_at_turn.ensures.fault e); cause = c.look_at_turn.ensures.cause }

pub returns-clause-memory : goal.returns-clause-memory
returns-clause-memory g c = λ e. inr (c.look_at_turn.ensures.memory e)

pub returns-clause-begun : goal.returns-clause-begun
returns-clause-begun g c =
    let (form, read, events, served) = c.requires.begun in
    let left = g.A.Source.left c.args.first.now in
    let known = read_then (is_read c.args.self.now) (is_read c.look_at_turn.new.self) left left read in
    let p = returns-clause-passes g c form read events served in
    (form, known, events ++ p.more, p.after)
