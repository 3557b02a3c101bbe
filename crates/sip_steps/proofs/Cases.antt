-- A question by its kind, behind a call.
use Rattle.std.proofs.Common.{◌≡◌, List, Result, Ok, Err, sym, subst}
use Rattle.std.specs.Prelude.{OnErr, OnOk}
use Rattle.sip_ports.specs.declared.port.TalkEvent.{TalkEvent}
use Rattle.sip_steps.specs.declared.posing.Posing.{Posing}
use Rattle.sip_steps.specs.Openings.{Subject}
use Rattle.sip_steps.specs.Posed.{HasBegun, IsPosed}

pub on_ok : {T E A B : Type 0} (r : Result T E) → (A → B) → OnOk r A → OnOk r B
on_ok (Ok t) f a = f a
on_ok (Err e) f a = a

pub on_err : {T E A B : Type 0} (r : Result T E) → (A → B) → OnErr r A → OnErr r B
on_err (Ok t) f a = a
on_err (Err e) f a = f a

-- what was posed is so still
pub begun_after : {T E : Type 0} (r : Result T E) (s : Subject) (before after : List TalkEvent) (old new : Posing) → IsPosed s before old → OnOk r (IsPosed s after new) → OnErr r (new ≡ old) → HasBegun new
begun_after (Ok t) s before after old new is posed same = (s, after, posed)
begun_after (Err e) s before after old new is posed same = (s, before, subst (λ (p : Posing). IsPosed s before p) (sym same) is)
