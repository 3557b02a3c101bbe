-- What a crash leaves while one file is stored over a desk, and so while a sketch is begun.
use Rattle.std.proofs.Common.{◌≡◌, ◌⊎◌, ℕ, ◌+◌, List, [], ◌∷◌, ◌++◌, length, take, Some, inl, inr, sym, ap, subst, ◌∙◌, arith, append-nil, take_all, take-take}
use Rattle.std.proofs.Math.Seq.{take-length}
use Rattle.std.proofs.lemmas.Bool.{cases_lt}
use Rattle.std.proofs.lemmas.List.{append_cancel_left, length-take}
use Rattle.std.proofs.lemmas.List.Elements.{Contains-push_cases}
use Rattle.std.specs.Prelude.{Contains}
use Rattle.std.specs.declared.option.Option.{Option}
use Rattle.sip_ports.specs.Desk.{may_hold, steps}
use Rattle.sip_ports.specs.declared.port.TalkEvent.{TalkEvent}
use Rattle.sip_ports.proofs.DeskLemmas.{length-steps, may_hold-before, may_hold-kept, may_hold-renamed}
use Rattle.sip_sketch.specs.Beginnings.{Begins, IsFirstFile, IsNew}
use Rattle.sip_sketch.specs.declared.kind.SeatKind.{SeatKind}
use Rattle.sip_sketch.specs.declared.parts.Parts.{Parts}
use Rattle.sip_sketch.specs.declared.status.SketchPort.TheVariants as ports
use Rattle.sip_sketch.specs.declared.status.SketchStatus.{SketchStatus}
use Rattle.sip_sketch.specs.declared.status.SketchStatus.TheVariants as statuses

-- one content alone
pub only_one : (x y : Option (List ℕ)) → Contains (x ∷ []) y → y ≡ x
only_one x y h = elim (Contains-push_cases [] x y h) [
  | inl none ↦ absurd (omega (arith, none.1))
  | inr e ↦ sym e
]

-- behind a front of a replacement's steps
pub front_left : (start : Option (List ℕ)) (talk : List TalkEvent) (file : List ℕ) (k : ℕ) (content : Option (List ℕ))
    → Contains (may_hold start (talk ++ take k (steps file))) content → Contains (may_hold start talk) content ⊎ (content ≡ Some file)
front_left start talk file k content h = elim (cases_lt k (length file + 2)) [
  | inl less ↦
      inl (subst (λ (l : List (Option (List ℕ))). Contains l content) (may_hold-before start talk file k less) h)
  | inr more ↦ elim (cases_lt (length file + 2) k) [
    | inl all ↦
        let whole : take k (steps file) ≡ steps file = take_all k (steps file) (omega (arith, length-steps file)) in
        let kept : may_hold start (talk ++ take k (steps file)) ≡ Some file ∷ [] =
        ap (λ (es : List TalkEvent). may_hold start (talk ++ es)) whole ∙ may_hold-kept start talk file in
        inr (only_one (Some file) content (subst (λ (l : List (Option (List ℕ))). Contains l content) kept h))
    | inr few ↦
        let e : k ≡ length file + 2 = omega arith in
        elim (Contains-push_cases (may_hold start talk) (Some file) content
        (subst (λ (l : List (Option (List ℕ))). Contains l content) (may_hold-renamed start talk file k e) h)) [
          | inl before ↦ inl before
          | inr is ↦ inr (sym is)
        ]
  ]
]

-- a front of a front is a front
pub front_again : (events : List TalkEvent) (n m : ℕ) → (k : ℕ) × (take n (take m events) ≡ take k events)
front_again events n m = elim (cases_lt m n) [
  | inl less ↦ (m, take_all n (take m events) (omega (arith, length-take m events)))
  | inr le ↦ (n, take-take n m events le)
]

-- so the same holds behind a front of a front of them
pub part_left : (start : Option (List ℕ)) (talk : List TalkEvent) (file : List ℕ) (n m : ℕ) (content : Option (List ℕ))
    → Contains (may_hold start (talk ++ take n (take m (steps file)))) content
    → Contains (may_hold start talk) content ⊎ (content ≡ Some file)
part_left start talk file n m content h =
    let k = front_again (steps file) n m in
    front_left start talk file k.0 content
    (subst (λ (es : List TalkEvent). Contains (may_hold start (talk ++ es)) content) k.1 h)

-- ---- what a call did that stores at most one file

-- nothing was done, or some of the steps of such a file
abbrev pub HasSteps : (List ℕ → Type 0) → List TalkEvent → Type 0
HasSteps IsOwn events = (events ≡ []) ⊎ ((file : List ℕ) × (m : ℕ) × IsOwn file × (events ≡ take m (steps file)))

module _ (IsOwn : List ℕ → Type 0) (talk events : List TalkEvent) where
  pub no_steps : talk ++ events ≡ talk ++ [] → HasSteps IsOwn events
  no_steps same = inl (append_cancel_left talk events [] same)

  pub all_steps : (file : List ℕ) → IsOwn file → talk ++ events ≡ talk ++ steps file → HasSteps IsOwn events
  all_steps file own same =
      inr (file, length (steps file), own, append_cancel_left talk events (steps file) same ∙ sym (take-length (steps file)))

  pub some_steps : (file : List ℕ) (m : ℕ) → IsOwn file → talk ++ events ≡ talk ++ take m (steps file) → HasSteps IsOwn events
  some_steps file m own same = inr (file, m, own, append_cancel_left talk events (take m (steps file)) same)

  -- so a crash leaves what was there, or such a file
  pub steps_leave : (start : Option (List ℕ)) (n : ℕ) (content : Option (List ℕ)) → HasSteps IsOwn events
      → Contains (may_hold start (talk ++ take n events)) content
      → Contains (may_hold start talk) content ⊎ ((file : List ℕ) × IsOwn file × (content ≡ Some file))
  steps_leave start n content (inl none) held =
      let empty : take n events ≡ events = take_all n events (omega (arith, ap length none)) in
      let same : talk ++ take n events ≡ talk = ap (λ (es : List TalkEvent). talk ++ es) (empty ∙ none) ∙ append-nil talk in
      inl (subst (λ (es : List TalkEvent). Contains (may_hold start es) content) same held)
  steps_leave start n content (inr (file, m, own, is)) held =
      let cut = subst (λ (es : List TalkEvent). Contains (may_hold start (talk ++ take n es)) content) is held in
      elim (part_left start talk file n m content cut) [
        | inl before ↦ inl before
        | inr new ↦ inr (file, own, new)
      ]

-- ---- while a sketch is begun

module _ (depth : ℕ) (part : Parts) (kinds : List SeatKind) (left start : Option (List ℕ)) (talk events : List TalkEvent) where
  abbrev IsFirst : List ℕ → Type 0
  IsFirst = IsFirstFile depth part kinds left

  begun_steps : (status : SketchStatus) → Begins depth part kinds left start (Some talk) (Some (talk ++ events)) status → HasSteps IsFirst events
  begun_steps statuses.Wrote h = all_steps IsFirst talk events h.1.file h.1.first h.1.talk
  begun_steps statuses.Exists h = no_steps IsFirst talk events h.2
  begun_steps (statuses.BadSketch number offset) h = absurd h
  begun_steps statuses.BadSeed h = no_steps IsFirst talk events h.2
  begun_steps statuses.SeedSpent h = no_steps IsFirst talk events h.2
  begun_steps statuses.Busy h = no_steps IsFirst talk events h
  begun_steps (statuses.BadStream at why) h = absurd h
  begun_steps (statuses.BadStart records is_sum) h = absurd h
  begun_steps (statuses.Behind at) h = absurd h
  begun_steps (statuses.Unlike number why) h = absurd h
  begun_steps (statuses.ReadFault ports.First) h = absurd h
  begun_steps (statuses.ReadFault ports.Second) h = no_steps IsFirst talk events h.1
  begun_steps (statuses.ReadFault ports.Sketch) h = no_steps IsFirst talk events h
  begun_steps (statuses.ReadFault (ports.Part number)) h = absurd h
  begun_steps (statuses.ReadFault ports.Report) h = absurd h
  begun_steps (statuses.WriteFault ports.First) h = absurd h
  begun_steps (statuses.WriteFault ports.Second) h = absurd h
  begun_steps (statuses.WriteFault ports.Sketch) h = some_steps IsFirst talk events h.1.file h.1.count h.1.first h.1.talk
  begun_steps (statuses.WriteFault (ports.Part number)) h = absurd h
  begun_steps (statuses.WriteFault ports.Report) h = absurd h
  begun_steps statuses.OutOfMemory (inl h) = no_steps IsFirst talk events h
  begun_steps statuses.OutOfMemory (inr h) = some_steps IsFirst talk events h.1.file h.1.count h.1.first h.1.talk

  pub crash_leaves : (status : SketchStatus) (n : ℕ) (content : Option (List ℕ)) → Begins depth part kinds left start (Some talk) (Some (talk ++ events)) status
      → Contains (may_hold start (talk ++ take n events)) content → Contains (may_hold start talk) content ⊎ IsNew depth part kinds left content
  crash_leaves status n content began held = steps_leave IsFirst talk events start n content (begun_steps status began) held

-- behind `Wrote` there is the file of the call alone
pub begin_keeps : (depth : ℕ) (part : Parts) (kinds : List SeatKind) (left start : Option (List ℕ)) (talk now : List TalkEvent)
    → Begins depth part kinds left start (Some talk) (Some now) statuses.Wrote
    → (file : List ℕ) × IsFirstFile depth part kinds left file × (may_hold start now ≡ Some file ∷ [])
begin_keeps depth part kinds left start talk now began =
    let d = began.1 in
    (d.file, d.first, ap (may_hold start) d.talk ∙ may_hold-kept start talk d.file)
