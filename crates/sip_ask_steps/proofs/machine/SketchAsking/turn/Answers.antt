-- The next question takes a seat, or none.
use Rattle.std.proofs.Common.{◌≡◌, ℕ, List, [], ◌∷◌, sym, ap, subst, ◌∙◌, add-one}
use Rattle.std.specs.Prelude.{vec_capacity}
use Rattle.sip_ask_steps.specs.Steps.{IsKept, IsPast, IsToStore}
use Rattle.sip_ask_steps.specs.Told.{IsTold}
use Rattle.sip_ask_steps.specs.declared.turn.Turn.{Turn}
use Rattle.sip_ask_steps.specs.declared.turn.Turn.TheVariants as turns
use Rattle.sip_ask_steps.proofs.NextTurn.{inside, kept_on, to_store, turned_idle}
use Rattle.sip_ask_steps.proofs.machine.SketchAsking.turn.Goals as goal

pub mark-requires-clause-place : goal.mark-requires-clause-place
mark-requires-clause-place c =
    let m = c.args.self.now in
    let left = c.first_of.new.left.items in
    let order : m.left.items ≡ turns.Takes c.in-Takes.place c.in-Takes.asking ∷ left = c.in-Some.ensures.order ∙ ap (λ (t : Turn). t ∷ left) c.in-Takes.is in
    let (p, events, t) = c.requires.turns in
    inside p m.sketch m.number left events c.in-Takes.place c.in-Takes.asking (subst (λ (l : List Turn). IsPast p m.sketch m.number l events) order t.1)

pub returns-in-Idle-clause-done : goal.returns-in-Idle-clause-done
returns-in-Idle-clause-done c p events t =
    let m = c.args.self.now in
    let left = c.first_of.new.left.items in
    let given = c.in-Idle.given in
    let room = vec_capacity m.file in
    let order : m.left.items ≡ turns.Idle given ∷ left = c.in-Some.ensures.order ∙ ap (λ (t : Turn). t ∷ left) c.in-Idle.is in
    let kept = kept_on p m.sketch m.sketch m.number (turns.Idle given) left m.version room room (subst (λ (l : List Turn). IsKept p m.sketch m.number l m.version room) order t.0) t.0.enough in
    let told = turned_idle p m.sketch m.number left events given (subst (λ (l : List Turn). IsPast p m.sketch m.number l events) order t.1) in
    let both = subst (λ (n : ℕ). IsKept p m.sketch n left m.version room × (IsTold p events [] n given × IsPast p m.sketch n left events)) (sym (add-one m.number)) (kept, told) in
    rw c.go-in-Idle.ensures (record { kept = both.0; at = both.1 })

pub returns-in-Takes-clause-done : goal.returns-in-Takes-clause-done
returns-in-Takes-clause-done c p events t =
    let m = c.args.self.now in
    let left = c.first_of.new.left.items in
    let place = c.in-Takes.place in
    let a = c.in-Takes.asking in
    let next = c.mark.new.sketch in
    let file = c.mark.new.file in
    let order : m.left.items ≡ turns.Takes place a ∷ left = c.in-Some.ensures.order ∙ ap (λ (t : Turn). t ∷ left) c.in-Takes.is in
    let kept = kept_on p m.sketch next m.number (turns.Takes place a) left m.version (vec_capacity m.file) (vec_capacity file)
    (subst (λ (l : List Turn). IsKept p m.sketch m.number l m.version (vec_capacity m.file)) order t.0) c.mark.ensures.room in
    let stores = to_store p m.sketch m.number left events place a next file.items c.mark.ensures.sketch c.mark.ensures.file
    (subst (λ (l : List Turn). IsPast p m.sketch m.number l events) order t.1) in
    let both = subst (λ (n : ℕ). IsKept p next n left m.version (vec_capacity file) × IsToStore p next n left events file.items a) (sym (add-one m.number)) (kept, stores) in
    rw c.go-in-Takes.ensures (record { kept = both.0; at = both.1 })
