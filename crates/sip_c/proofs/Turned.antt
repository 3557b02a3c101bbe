-- The next question of a run that is asked.
use Rattle.std.proofs.Common.{◌≡◌, ℕ, List, [], sym, subst}
use Rattle.sip_vector.specs.declared.update.Update.{Update}
use Rattle.sip_wire.specs.declared.version.Version.{Version}
use Rattle.sip_runs.specs.Plans.{Plan}
use Rattle.sip_runs.specs.Runs.{IsFirstOf, IsToBeAsked}
use Rattle.sip_runs.specs.Seats.{IsSeated}
use Rattle.sip_runs.specs.declared.seat.RunSeat.{RunSeat}
use Rattle.sip_runs.specs.declared.to_ask.ToAsk.{ToAsk}
use Rattle.sip_steps.specs.Questioned.{IsAskedOf, about}
use Rattle.sip_c.specs.RunAsking.{IsTaken, TurnsTo}
use Rattle.sip_c.specs.declared.run_asking.RunStep.TheVariants as at
use Rattle.sip_c.specs.declared.talk.Talk.{Talk}

-- its numbers are those of the stream
pub seated_of : (p : Plan) (stream : List Update) (t : ToAsk) (s : RunSeat) → IsToBeAsked p stream t → IsFirstOf p stream s → IsSeated t.version t.depth stream s
seated_of p stream t s r first =
    subst (λ (v : Version). IsSeated v t.depth stream s) (sym r.version) (subst (λ (d : ℕ). IsSeated p.version d stream s) (sym r.depth) first.seated)

-- its talk begins
pub turned : (number depth : ℕ) (version : Version) (old left : ToAsk) (seat : RunSeat) (talk : Talk) → version ≡ old.version → depth ≡ old.depth → IsTaken old seat left → talk.number ≡ number
    → IsAskedOf (about version depth seat.question seat.running) [] talk.asking → TurnsTo number old left (at.Question talk)
turned number depth version old left seat talk version_is depth_is taken number_is asked = (
  number_is,
  (
    seat,
    taken,
    subst (λ (v : Version). IsAskedOf (about v old.depth seat.question seat.running) [] talk.asking) version_is
        (subst (λ (d : ℕ). IsAskedOf (about version d seat.question seat.running) [] talk.asking) depth_is asked),
  ),
)
