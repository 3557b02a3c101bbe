-- A run behind the sending of what was due.
use Rattle.std.proofs.Common.{◌≡◌, ◌++◌, ℕ, true, List, [], ap, ap₂, subst, sym, ◌∙◌, append-nil}
use Rattle.sip_ports.specs.declared.port.TalkEvent.{TalkEvent}
use Rattle.sip_ports.specs.Ports.{outs}
use Rattle.sip_vector.specs.declared.update.Update.{Update}
use Rattle.sip_wire.specs.declared.version.Version.{Version}
use Rattle.sip_runs.specs.declared.following.Following.{Following}
use Rattle.sip_runs.specs.declared.step.Step.{Step}
use Rattle.sip_runs.specs.Plans.{Plan}
use Rattle.sip_runs.specs.Runs.{IsFollowed, IsPassed, Said, due_at, due_bytes, is_due, step_after}
use Rattle.sip_runs.proofs.Steps.{said_more}

pub sent_on : (p : Plan) (stream : List Update) (events : List TalkEvent) (f g : Following) (step : Step) → IsFollowed p stream events f → IsPassed p stream g → is_due f.step ≡ true → step ≡ step_after f.step
    → IsFollowed p stream (events ++ outs (due_bytes f)) (record g { step = step })
sent_on p stream events f g step is passed due next =
    let waiting = f.feed.value.waiting in
    let bytes : due_at f.step p.version p.depth waiting ≡ due_bytes f = sym (ap₂ (λ (v : Version) (d : ℕ). due_at f.step v d waiting) is.version is.depth) in
    let said = said_more p.version p.depth is.sent waiting events f.step due is.said in
    let whole = subst (λ (l : List Update). Said p.version p.depth l [] (events ++ outs (due_at f.step p.version p.depth waiting)) (step_after f.step)) (sym is.order) said in
    let sent = subst (λ (l : List ℕ). Said p.version p.depth stream [] (events ++ outs l) (step_after f.step)) bytes whole in
    let none = subst (λ (l : List Update). Said p.version p.depth stream l (events ++ outs (due_bytes f)) (step_after f.step)) (sym passed.none) sent in
    record {
      version = passed.version;
      depth = passed.depth;
      shallow = is.shallow;
      questions = passed.questions;
      at_blocks = passed.at_blocks;
      few = is.few;
      measured = passed.measured;
      sent = stream;
      order = sym (ap (λ (l : List Update). stream ++ l) passed.none ∙ append-nil stream);
      in_version = passed.in_version;
      seated = passed.seated;
      said = subst (λ (s : Step). Said p.version p.depth stream g.feed.value.waiting (events ++ outs (due_bytes f)) s) (sym next) none;
    }
