-- What the calls of a port do to what it tells, and when they may fail.
use Rattle.std.specs.Prelude.{◌≡◌, ℕ, ◌+◌, ◌-◌, ◌^◌, ◌<◌, ◌≤◌, min, List, [], ◌∷◌, ◌++◌, length}
use Rattle.std.specs.Prelude.{take, map, ⊤, None, Some, Result, MatchResult, IsErrOf, zero, suc}
use Rattle.std.specs.Prelude.{nat_lt, if◌then◌else◌, Ok, Err}
use Rattle.std.specs.declared.option.Option.{Option}
use Rattle.std.specs.Io.KnownBytes.{Consumes, IsAtEnd}
use Rattle.sip_ports.specs.declared.port.PortStop.{PortStop}
use Rattle.sip_ports.specs.declared.port.PortStop.TheVariants.{Failed, OutOfMemory}
use Rattle.sip_ports.specs.declared.port.TalkEvent.{TalkEvent}
use Rattle.sip_ports.specs.declared.port.TalkEvent.TheVariants.{Out, In, Ended, Fresh, Stored}
use Rattle.sip_ports.specs.declared.port.TalkEvent.TheVariants.{Renames, Kept}

-- a count rose, or it stands at its type's end
abbrev pub Rose : ℕ → ℕ → Type 0
Rose before now = min (before + 1) (2 ^ 64 - 1) ≤ now

-- The counts of faults and of wants of memory never fall. `Failed` is answered only where the first
-- rose, `OutOfMemory` only where the second did. One that never fails stays so.
pub record HasCause {P T : Type 0} (faults wants : P → ℕ) (is_sure : P → Type 0) (before now : P)
    (result : Result T PortStop) : Type 0 where
  pub later : faults before ≤ faults now
  pub wants_later : wants before ≤ wants now
  pub failed : IsErrOf result Failed → Rose (faults before) (faults now)
  pub wanted : IsErrOf result OutOfMemory → Rose (wants before) (wants now)
  pub sure : is_sure before → is_sure now

-- neither count falls, and one that never fails stays so, whatever was answered
pub record Lasts {P : Type 0} (faults wants : P → ℕ) (is_sure : P → Type 0)
    (before now : P) : Type 0 where
  pub later : faults before ≤ faults now
  pub wants_later : wants before ≤ wants now
  pub sure : is_sure before → is_sure now

-- neither count changes
pub record StandsStill {P : Type 0} (faults wants : P → ℕ) (before now : P) : Type 0 where
  pub faults_same : faults now ≡ faults before
  pub wants_same : wants now ≡ wants before

-- these bytes, sent
abbrev pub outs : List ℕ → List TalkEvent
outs bytes = map Out bytes

-- these bytes, received
abbrev pub ins : List ℕ → List TalkEvent
ins bytes = map In bytes

-- the bytes that were sent
abbrev pub written : List TalkEvent → List ℕ
written [] = []
written (Out byte ∷ talk) = byte ∷ written talk
written (In _ ∷ talk) = written talk
written (Ended ∷ talk) = written talk
written (Fresh ∷ talk) = written talk
written (Stored _ ∷ talk) = written talk
written (Renames ∷ talk) = written talk
written (Kept ∷ talk) = written talk

-- the bytes that were received
abbrev pub heard : List TalkEvent → List ℕ
heard [] = []
heard (Out _ ∷ talk) = heard talk
heard (In byte ∷ talk) = byte ∷ heard talk
heard (Ended ∷ talk) = heard talk
heard (Fresh ∷ talk) = heard talk
heard (Stored _ ∷ talk) = heard talk
heard (Renames ∷ talk) = heard talk
heard (Kept ∷ talk) = heard talk

-- a talk that is told goes on by these events
abbrev pub GoesOn : Option (List TalkEvent) → Option (List TalkEvent) → List TalkEvent → Type 0
GoesOn None new events = ⊤
GoesOn (Some talk) None events = ⊥
GoesOn (Some talk) (Some more) events = more ≡ talk ++ events

-- `write(buf)` sent the n bytes that it took at `Ok(n)`, and nothing at `Err`
abbrev pub Sends : {E : Type 0} → Option (List TalkEvent) → Option (List TalkEvent) → Result ℕ E
    → List ℕ → Type 0
Sends old new r buf =
    MatchResult r (λ n. GoesOn old new (outs (take n buf))) (λ _. GoesOn old new [])

-- what receiving n bytes adds to a talk: the bytes, or that the other end had closed
abbrev pub received : ℕ → List ℕ → List TalkEvent
received zero [] = []
received zero (_ ∷ _) = Ended ∷ []
received (suc n) buf = ins (take (suc n) buf)

-- `recv(buf)` received the n bytes that it gave at `Ok(n)`, and nothing at `Err`
abbrev pub Hears : {E : Type 0} → Option (List TalkEvent) → Option (List TalkEvent) → Result ℕ E
    → List ℕ → Type 0
Hears old new r buf = MatchResult r (λ n. GoesOn old new (received n buf)) (λ _. GoesOn old new [])

-- A whole read took the n bytes that it gave at `Ok(n)`, fewer than asked only at the end.
-- At `Err` it took fewer bytes than asked, which stand at the front.
abbrev pub ReadsWhole : {E : Type 0} → Option (List ℕ) → Option (List ℕ) → Result ℕ E → List ℕ
    → Type 0
ReadsWhole old new r buf = MatchResult r
    (λ n. (n ≤ length buf) × Consumes old new (take n buf) × (n < length buf → IsAtEnd new))
    (λ _. (n : ℕ) × (n < length buf) × Consumes old new (take n buf))

-- A whole write sent all at `Ok`, and at `Err` a shorter front.
abbrev pub SendsWhole : {T E : Type 0} → Option (List TalkEvent) → Option (List TalkEvent)
    → Result T E → List ℕ → Type 0
SendsWhole old new r buf = MatchResult r
    (λ _. GoesOn old new (outs buf))
    (λ _. (n : ℕ) × (n < length buf) × GoesOn old new (outs (take n buf)))

-- that the other end had closed, where fewer bytes came than were asked for
abbrev pub ended_if : ℕ → ℕ → List TalkEvent
ended_if came asked = if nat_lt came asked then Ended ∷ [] else []

-- A whole receive took the n bytes that it gave at `Ok(n)`, fewer than asked only where the other
-- end had closed. At `Err` it took fewer bytes than asked, which stand at the front.
abbrev pub HearsWhole : {E : Type 0} → Option (List TalkEvent) → Option (List TalkEvent)
    → Result ℕ E → List ℕ → Type 0
HearsWhole old new r buf = MatchResult r
    (λ n. (n ≤ length buf) × GoesOn old new (ins (take n buf) ++ ended_if n (length buf)))
    (λ _. (n : ℕ) × (n < length buf) × GoesOn old new (ins (take n buf)))

-- the count rose at `Failed`, which is the only failure, and stays otherwise
abbrev pub Counts : {T : Type 0} → ℕ → ℕ → Result T PortStop → Type 0
Counts before now r =
    MatchResult r (λ _. now ≡ before) (λ e. (e ≡ Failed) × (now ≡ min (before + 1) (2 ^ 64 - 1)))

-- the count rose at `OutOfMemory`, and stays otherwise
abbrev pub CountsWants : {T : Type 0} → ℕ → ℕ → Result T PortStop → Type 0
CountsWants before now (Ok _) = now ≡ before
CountsWants before now (Err Failed) = now ≡ before
CountsWants before now (Err OutOfMemory) = now ≡ min (before + 1) (2 ^ 64 - 1)

-- what was written before, and then these bytes
abbrev pub Writes : Option (List TalkEvent) → Option (List TalkEvent) → List ℕ → Type 0
Writes None new bytes = ⊤
Writes (Some talk) None bytes = ⊥
Writes (Some talk) (Some more) bytes = written more ≡ written talk ++ bytes
