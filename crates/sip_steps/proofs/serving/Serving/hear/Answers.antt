-- One more piece was passed on.
use Rattle.std.proofs.Common.{◌≡◌, ◌-◌, List, ℕ, None, length, take, drop, refl, sym, subst, ◌∙◌, arith, length-drop, take_all}
use lib.Seq.{take-add}
use Rattle.sip_ports.proofs.TalkLemmas.{GoesOn-refl}
use Rattle.sip_ports.proofs.FaultLemmas.{Lasts-trans, Rose-since}
use Rattle.sip_steps.specs.Served.{IsServed, Passes}
use Rattle.sip_steps.proofs.OneTalk.{none_of, passes_more, passes_none, some_of}
use Rattle.sip_steps.proofs.serving.Serving.hear.Goals as goal

pub loop-taken-init : goal.loop-taken-init
loop-taken-init g c =
    let talk = g.K.Sink.talk c.args.out.now in
    record {
      most = omega arith;
      begun = c.requires.begun;
      none = λ ended. (refl, ended);
      passes = λ first events served. passes_none talk events (λ all. IsServed g.H.Helps.rules g.H.Helps.turns_left g.H.Helps.is_live first all c.args.self.now) (GoesOn-refl talk) served;
      cause = λ before ended. absurd (let both = sym before ∙ ended in cc);
      memory = λ before ended. absurd (let both = sym before ∙ ended in cc);
      lasts = record { later = omega arith; wants_later = omega arith; sure = λ sure. sure };
    }

pub loop-taken-preserved : goal.loop-taken-preserved
loop-taken-preserved g c =
    let r = g.H.Helps.rules in
    let left = g.H.Helps.turns_left in
    let is_live = g.H.Helps.is_live in
    let sink = g.K.Sink in
    let so = c.loop-taken.invariant in
    let next = c.piece-taken.ensures in
    let bytes = c.args.bytes.now in
    let a = c.loop-taken.taken in
    let n = c.piece-taken.result in
    let none : c.loop-taken.self.status ≡ None = none_of c.loop-taken.self.status (sym c.is_some.ensures ∙ c.if-is_some.false) in
    let rest : take (length bytes - a) (drop a bytes) ≡ drop a bytes = take_all (length bytes - a) (drop a bytes) (omega (arith, length-drop a bytes)) in
    record {
      most = omega (arith, length-drop a bytes, next.most, so.most);
      begun = next.begun;
      none = λ ended. absurd (some_of c.loop-taken.self.status none (so.none ended).1);
      passes = λ first events served.
          subst (λ (l : List ℕ). Passes (sink.talk c.args.out.now) (sink.talk c.piece-taken.new.out) l events (λ all. IsServed r left is_live first all c.piece-taken.new.self)) (sym (take-add a n bytes))
          (passes_more (sink.talk c.args.out.now) (sink.talk c.loop-taken.out) (sink.talk c.piece-taken.new.out) (take a bytes) (take n (drop a bytes)) events (λ all. IsServed r left is_live first all c.loop-taken.self) (λ all. IsServed r left is_live first all c.piece-taken.new.self)
          (so.passes first events served)
          (λ all during. subst (λ (l : List ℕ). Passes (sink.talk c.loop-taken.out) (sink.talk c.piece-taken.new.out) (take n l) all (λ e. IsServed r left is_live first e c.piece-taken.new.self)) rest (next.passes first all during)));
      cause = λ before ended. Rose-since (sink.faults c.args.out.now) (sink.faults c.loop-taken.out) (sink.faults c.piece-taken.new.out) so.lasts.later (next.cause ended);
      memory = λ before ended. Rose-since (sink.wants c.args.out.now) (sink.wants c.loop-taken.out) (sink.wants c.piece-taken.new.out) so.lasts.wants_later (next.memory ended);
      lasts = Lasts-trans sink.faults sink.wants sink.is_sure c.args.out.now c.loop-taken.out c.piece-taken.new.out so.lasts next.lasts;
    }
