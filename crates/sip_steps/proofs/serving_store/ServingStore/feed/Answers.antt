-- One more piece was passed on.
use Rattle.std.proofs.Common.{◌≡◌, ◌-◌, List, ℕ, [], None, inl, inr, length, take, drop, refl, sym, ap, subst, ◌∙◌, arith, length-drop, take_all}
use lib.Seq.{take-add}
use Rattle.sip_ports.proofs.TalkLemmas.{GoesOn-refl, GoesOn-trans}
use Rattle.sip_ports.proofs.FaultLemmas.{Lasts-trans, Rose-since}
use Rattle.sip_steps.specs.Served.{Passes}
use Rattle.sip_steps.specs.StoreServed.{IsStoreServed, is_read, read_then}
use Rattle.sip_steps.proofs.OneTalk.{none_of, passes_more, passes_none, some_of}
use Rattle.sip_steps.proofs.StoreCalls.{false_before, read_once, read_same, same_between}
use Rattle.sip_steps.proofs.serving_store.ServingStore.feed.Goals as goal

pub loop-taken-init : goal.loop-taken-init
loop-taken-init g c =
    let talk = g.K.Sink.talk c.args.out.now in
    let a = c.args.self.now in
    let left = g.A.Source.left c.args.first.now in
    record {
      most = omega arith;
      begun = c.requires.begun;
      none = λ ended. (refl, ended);
      passes = λ form read events served. passes_none talk events (λ all. IsStoreServed form (read_then (is_read a) (is_read a) left left read) all a) (GoesOn-refl talk)
          (subst (λ o. IsStoreServed form o events a) (sym (read_same (is_read a) (is_read a) left left read refl)) served);
      once = λ was. was;
      unread = λ same. refl;
      told = λ some. some;
      silent = λ unread none. GoesOn-refl talk;
      cause = λ before ended. absurd (let both = sym before ∙ ended in cc);
      fault = λ before ended. absurd (let both = sym before ∙ ended in cc);
      memory = λ before ended. absurd (let both = sym before ∙ ended in cc);
      first = record { later = omega arith; wants_later = omega arith; sure = λ sure. sure };
      lasts = record { later = omega arith; wants_later = omega arith; sure = λ sure. sure };
    }

pub loop-taken-preserved : goal.loop-taken-preserved
loop-taken-preserved g c =
    let sink = g.K.Sink in
    let store = g.A.Source in
    let so = c.loop-taken.invariant in
    let next = c.piece-taken.ensures in
    let bytes = c.args.bytes.now in
    let n = c.loop-taken.taken in
    let m = c.piece-taken.result in
    let was = c.args.self.now in
    let mid = c.loop-taken.self in
    let now = c.piece-taken.new.self in
    let had = store.left c.args.first.now in
    let between = store.left c.loop-taken.first in
    let has = store.left c.piece-taken.new.first in
    let none : mid.status ≡ None = none_of mid.status (sym c.is_some.ensures ∙ c.if-is_some.false) in
    let rest : take (length bytes - n) (drop n bytes) ≡ drop n bytes = take_all (length bytes - n) (drop n bytes) (omega (arith, length-drop n bytes)) in
    record {
      most = omega (arith, length-drop n bytes, next.most, so.most);
      begun = next.begun;
      none = λ ended. absurd (some_of mid.status none (so.none ended).1);
      passes = λ form read events served.
          let read_so = read_then (is_read was) (is_read mid) had between read in
          let same = read_once (is_read was) (is_read mid) (is_read now) had between has read so.once next.once (λ e. ap store.left (so.unread e)) (λ e. ap store.left (next.unread e)) in
          subst (λ (l : List ℕ). Passes (sink.talk c.args.out.now) (sink.talk c.piece-taken.new.out) l events (λ all. IsStoreServed form (read_then (is_read was) (is_read now) had has read) all now)) (sym (take-add n m bytes))
          (passes_more (sink.talk c.args.out.now) (sink.talk c.loop-taken.out) (sink.talk c.piece-taken.new.out) (take n bytes) (take m (drop n bytes)) events (λ all. IsStoreServed form read_so all mid) (λ all. IsStoreServed form (read_then (is_read was) (is_read now) had has read) all now)
          (so.passes form read events served)
          (λ all during. subst (λ o. Passes (sink.talk c.loop-taken.out) (sink.talk c.piece-taken.new.out) (take m (drop n bytes)) all (λ e. IsStoreServed form o e now)) same
          (subst (λ (l : List ℕ). Passes (sink.talk c.loop-taken.out) (sink.talk c.piece-taken.new.out) (take m l) all (λ e. IsStoreServed form (read_then (is_read mid) (is_read now) between has read_so) e now)) rest (next.passes form read_so all during))));
      once = λ e. next.once (so.once e);
      unread = λ e.
          let one = same_between (is_read was) (is_read mid) (is_read now) so.once next.once e in
          next.unread one.1 ∙ so.unread one.0;
      told = λ some. next.told (so.told some);
      silent = λ unread going. GoesOn-trans (sink.talk c.args.out.now) (sink.talk c.loop-taken.out) (sink.talk c.piece-taken.new.out) [] [] (so.silent (false_before (is_read mid) (is_read now) next.once unread) none) (next.silent unread going);
      cause = λ before ended. Rose-since (sink.faults c.args.out.now) (sink.faults c.loop-taken.out) (sink.faults c.piece-taken.new.out) so.lasts.later (next.causes.cause ended);
      fault = λ before ended. Rose-since (store.faults c.args.first.now) (store.faults c.loop-taken.first) (store.faults c.piece-taken.new.first) so.first.later (next.causes.fault ended);
      memory = λ before ended. elim (next.memory ended) [
        | inl silent ↦ inl (false_before (is_read was) (is_read mid) so.once silent.0, GoesOn-trans (sink.talk c.args.out.now) (sink.talk c.loop-taken.out) (sink.talk c.piece-taken.new.out) [] [] (so.silent silent.0 none) silent.1)
        | inr rose ↦ inr (Rose-since (sink.wants c.args.out.now) (sink.wants c.loop-taken.out) (sink.wants c.piece-taken.new.out) so.lasts.wants_later rose)
      ];
      first = Lasts-trans store.faults store.wants store.is_sure c.args.first.now c.loop-taken.first c.piece-taken.new.first so.first next.first;
      lasts = Lasts-trans sink.faults sink.wants sink.is_sure c.args.out.now c.loop-taken.out c.piece-taken.new.out so.lasts next.lasts;
    }
