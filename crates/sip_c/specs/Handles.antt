-- What a call does through a handle.
use Rattle.std.specs.Prelude.{◌≡◌, Option, Some, None, Ok, Err}
use Rattle.sip_sketch.specs.Sketches.{SketchValues}
use Rattle.sip_ask_steps.specs.Steps.{HasBegun}
use Rattle.sip_ask_steps.specs.declared.machine.SketchAsking.{SketchAsking}
use Rattle.sip_runs.specs.Runs as runs
use Rattle.sip_runs.specs.declared.following.Following.{Following}
use Rattle.sip_c.specs.RunAsking.{IsRunAsked}
use Rattle.sip_c.specs.Statuses.{Answer}
use Rattle.sip_c.specs.declared.kept.Kept.{Kept}
use Rattle.sip_c.specs.declared.kept.Kept.TheVariants as kept
use Rattle.sip_c.specs.declared.refusal.Refusal.{Refusal}
use Rattle.sip_c.specs.declared.run_asking.RunAsking.{RunAsking}
use Rattle.sip_c.specs.declared.refusal.Refusal.TheVariants.{Empty, Full, OtherHandle}

-- An empty handle stays so, which is an answer, and nothing is written. Of what another one has,
-- this holds.
abbrev pub Through : Type 0 → (Kept → Answer → Kept → Type 0) → Option Kept → Answer → Option Kept
    → Type 0
Through Unwritten P None answer new = (answer ≡ Err Empty) × (new ≡ None) × Unwritten
Through Unwritten P (Some old) answer None = ⊥
Through Unwritten P (Some old) answer (Some new) = P old answer new

-- Of a sketch this holds, which stays one. What is none stays as it was, which is an answer, and
-- nothing is written.
abbrev pub OnSketch : Type 0 → (SketchValues → Answer → SketchValues → Type 0) → Kept → Answer
    → Kept → Type 0
OnSketch Unwritten P (kept.Sketch s) answer (kept.Sketch t) = P s answer t
OnSketch Unwritten P (kept.Sketch s) answer _ = ⊥
OnSketch Unwritten P old answer new = (answer ≡ Err OtherHandle) × (new ≡ old) × Unwritten

-- and through a handle
abbrev pub ThroughSketch : Type 0 → (SketchValues → Answer → SketchValues → Type 0) → Option Kept
    → Answer → Option Kept → Type 0
ThroughSketch Unwritten P = Through Unwritten (OnSketch Unwritten P)

-- the same of a run while its stream goes by
abbrev pub OnRun : Type 0 → (Following → Answer → Following → Type 0) → Kept → Answer → Kept
    → Type 0
OnRun Unwritten P (kept.Run f) answer (kept.Run g) = P f answer g
OnRun Unwritten P (kept.Run f) answer _ = ⊥
OnRun Unwritten P old answer new = (answer ≡ Err OtherHandle) × (new ≡ old) × Unwritten

abbrev pub ThroughRun : Type 0 → (Following → Answer → Following → Type 0) → Option Kept → Answer
    → Option Kept → Type 0
ThroughRun Unwritten P = Through Unwritten (OnRun Unwritten P)

-- of what is asked: the first of a sketch, the second of a run
abbrev pub OnAsking : Type 0 → (SketchAsking → Answer → SketchAsking → Type 0)
    → (RunAsking → Answer → RunAsking → Type 0) → Kept → Answer → Kept → Type 0
OnAsking Unwritten P Q (kept.Asking a) answer (kept.Asking b) = P a answer b
OnAsking Unwritten P Q (kept.Asking a) answer _ = ⊥
OnAsking Unwritten P Q (kept.RunAsking a) answer (kept.RunAsking b) = Q a answer b
OnAsking Unwritten P Q (kept.RunAsking a) answer _ = ⊥
OnAsking Unwritten P Q old answer new = (answer ≡ Err OtherHandle) × (new ≡ old) × Unwritten

abbrev pub ThroughAsking : Type 0 → (SketchAsking → Answer → SketchAsking → Type 0)
    → (RunAsking → Answer → RunAsking → Type 0) → Option Kept → Answer → Option Kept → Type 0
ThroughAsking Unwritten P Q = Through Unwritten (OnAsking Unwritten P Q)

-- what a handle has was begun by a call of the library, and nothing but its calls changed it
abbrev pub IsBegunAs : Kept → Type 0
IsBegunAs (kept.Sketch s) = Unit {0}
IsBegunAs (kept.Asking a) = HasBegun a
IsBegunAs (kept.Run f) = runs.HasBegun f
IsBegunAs (kept.RunAsking a) = IsRunAsked a

abbrev pub IsBegun : Option Kept → Type 0
IsBegun None = Unit {0}
IsBegun (Some kept) = IsBegunAs kept

-- A full handle stays as it was, which is an answer, and nothing is written. In an empty one a
-- sketch begins of which the first holds; or it stays empty, for a reason of which the second
-- holds.
abbrev pub BeginsSketch : Type 0 → (SketchValues → Type 0) → (Refusal → Type 0) → Option Kept
    → Answer → Option Kept → Type 0
BeginsSketch Unwritten P Q (Some old) answer new =
    (answer ≡ Err Full) × (new ≡ Some old) × Unwritten
BeginsSketch Unwritten P Q None (Ok done) (Some (kept.Sketch s)) = P s
BeginsSketch Unwritten P Q None (Ok done) _ = ⊥
BeginsSketch Unwritten P Q None (Err why) new = (new ≡ None) × Q why
