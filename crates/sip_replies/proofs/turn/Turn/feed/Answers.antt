use Rattle.std.proofs.Common.{◌≡◌, ℕ, ◌-◌, ◌++◌, true, List, length, take, drop, refl, sym, ap, subst, ◌∙◌, append_assoc, append-nil, arith, length-drop, take_all}
use Rattle.sip_ports.specs.declared.port.TalkEvent.{TalkEvent}
use Rattle.sip_ports.specs.declared.port.TalkEvent.TheVariants.{In}
use Rattle.sip_ports.specs.Ports.{ins}
use Rattle.sip_ports.proofs.Steps.{take_steps}
use Rattle.sip_wire.specs.Frames.{frame_bytes}
use Rattle.sip_replies.specs.Feeding.{IsFed}
use Rattle.sip_replies.specs.Following.{is_hearing}
use Rattle.sip_replies.proofs.Stepping.{open_hearing}
use Rattle.sip_replies.proofs.turn.Turn.feed.Goals as goal

pub loop-taken-init : goal.loop-taken-init
loop-taken-init g c = record {
  most = omega arith;
  none = λ silent. (refl, silent);
  at = λ at. at;
  at_hears = c.requires.at;
  block = λ still_open. refl;
  lent = refl;
  places = refl;
  stands = λ asked s stands short still_open. (s, stands, short);
  fed = λ asked request block events same fed.
      subst (λ (e : List TalkEvent). IsFed (g.C.Check.protocol asked) request block e (λ s. g.C.Check.stands asked s c.args.check.now c.args.places.now) c.args.places.now c.args.self.now (frame_bytes c.args.frame.now)) (sym (append-nil events)) fed;
}

pub loop-taken-preserved : goal.loop-taken-preserved
loop-taken-preserved g c =
    let hearing : is_hearing c.loop-taken.self.stage ≡ true = sym c.is_hearing.ensures ∙ c.if-not-is_hearing.false in
    let open_before = open_hearing c.loop-taken.self.stage hearing in
    let next = c.piece-taken.ensures in
    let bytes = c.args.bytes.now in
    let a = c.loop-taken.taken in
    let n = c.piece-taken.result in
    record {
      most = omega (arith, length-drop a bytes, next.most, c.loop-taken.invariant.most);
      none = λ silent. absurd (let silent_now = (c.loop-taken.invariant.none silent).1 in cc);
      at = λ at still_open. next.at still_open;
      at_hears = λ hears. next.at (open_hearing c.piece-taken.new.self.stage hears);
      block = λ still_open. next.block still_open ∙ c.loop-taken.invariant.block open_before;
      lent = next.lent ∙ c.loop-taken.invariant.lent;
      places = next.places ∙ c.loop-taken.invariant.places;
      stands = λ asked s stands short still_open. let before = c.loop-taken.invariant.stands asked s stands short open_before in next.stands asked before.0 before.1 still_open;
      fed = λ asked request block events same fed.
          let so_far = c.loop-taken.invariant.fed asked request block events same fed in
          let after = next.fed asked request block (events ++ ins (take a bytes)) (c.loop-taken.invariant.block open_before ∙ same) so_far in
          let rest : take (length bytes - a) (drop a bytes) ≡ drop a bytes = take_all (length bytes - a) (drop a bytes) (omega (arith, length-drop a bytes)) in
          subst (λ (e : List TalkEvent). IsFed (g.C.Check.protocol asked) request block e (λ s. g.C.Check.stands asked s c.piece-taken.new.check c.piece-taken.new.places) c.piece-taken.new.places c.piece-taken.new.self (frame_bytes c.piece-taken.new.frame))
          (ap (λ (l : List ℕ). (events ++ ins (take a bytes)) ++ ins (take n l)) rest ∙ append_assoc events (ins (take a bytes)) (ins (take n (drop a bytes))) ∙ ap (λ (l : List TalkEvent). events ++ l) (take_steps In a n bytes)) after;
    }
