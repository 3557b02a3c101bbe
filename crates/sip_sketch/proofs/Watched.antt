-- What a call did that watched a stream, by how its steps ended.
use Rattle.std.proofs.Common.{◌≡◌, ℕ, ◌+◌, ◌<◌, List, [], length, Some, inl, inr, refl, sym, ap, subst, ◌∙◌, ◌≤◌, arith}
use Rattle.std.specs.Prelude.{flat_map, take}
use Rattle.std.specs.declared.option.Option.{Option}
use Rattle.sip_ports.specs.Desk.{Loads, steps}
use Rattle.sip_ports.specs.Ports.{GoesOn}
use Rattle.sip_ports.specs.declared.port.TalkEvent.{TalkEvent}
use Rattle.sip_ports.proofs.TalkLemmas.{GoesOn-trans}
use Rattle.sip_stream.specs.declared.fault.StreamFault.{StreamFault}
use Rattle.sip_stream.specs.declared.fault.StreamFault.TheVariants as faults
use Rattle.sip_stream.specs.declared.form.Form.{Form}
use Rattle.sip_vector.specs.declared.tally.Tally.{Tally}
use Rattle.sip_vector.specs.declared.update.Update.{Update}
use Rattle.sip_sketch.specs.Sketches.{IsSketch, SketchValues, spelled_file}
use Rattle.sip_sketch.specs.Watching.{Came, IsBehind, IsCut, IsFollowed, IsOpened, IsRead, IsStored, ReadsTo, Watches, begins_at, due, multiples}
use Rattle.sip_sketch.specs.declared.filling.Pause.{Pause}
use Rattle.sip_sketch.specs.declared.filling.Pause.TheVariants.{Full, Ended, Stopped}
use Rattle.sip_sketch.specs.declared.status.SketchPort.TheVariants as ports
use Rattle.sip_sketch.specs.declared.status.SketchStatus.{SketchStatus}
use Rattle.sip_sketch.specs.declared.status.SketchStatus.TheVariants as statuses
use Rattle.sip_sketch.specs.inside.Following.{Adds, AreAdded, Cut, Stored, status_of}
use Rattle.sip_sketch.specs.inside.Keeping.{Closes}
use Rattle.sip_sketch.specs.inside.Loading.{IsUnloaded, IsUnread}
use Rattle.sip_sketch.proofs.Followed.{IsAt, begins, cut_at_end, stores, was_stored}
use Rattle.sip_sketch.proofs.Rounds.{no_multiples}
use Rattle.sip_sketch.proofs.Unread.{unloaded_is, unread_is}

module _ (form : Form) (at every : Option ℕ) (start left : Option (List ℕ)) (old : Option (List TalkEvent)) where
  -- the file was not loaded
  pub unloaded : (left' : Option (List ℕ)) (new : Option (List TalkEvent)) (status : SketchStatus) → IsUnloaded status → left' ≡ left → GoesOn old new []
      → Watches form at every start left old left' new status
  unloaded left' new status is same talk = elim (unloaded_is status is) [
    | inl busy ↦ subst (Watches form at every start left old left' new) (sym busy) (same, talk)
    | inr other ↦ elim other [
      | inl failed ↦ subst (Watches form at every start left old left' new) (sym failed) (same, talk)
      | inr refused ↦ subst (Watches form at every start left old left' new) (sym refused) (inl (same, talk))
    ]
  ]

  -- its bytes were no sketch, or there was no memory for one
  pub unread : (left' : Option (List ℕ)) (new : Option (List TalkEvent)) (bytes : List ℕ) (status : SketchStatus) → IsUnread 0 bytes status → Loads start old (Some bytes) → left' ≡ left → GoesOn old new []
      → Watches form at every start left old left' new status
  unread left' new bytes status is loads same talk = elim (unread_is 0 bytes status is) [
    | inl (offset, bad, here) ↦ subst (Watches form at every start left old left' new) (sym here) (refl, Some bytes, loads, bad, (same, talk))
    | inr refused ↦ subst (Watches form at every start left old left' new) (sym refused) (inl (same, talk))
  ]

-- ---- behind the load

-- this sketch was loaded, and the stream begins at a record that it may begin at
pub record IsReady (form : Form) (at every : Option ℕ) (start left : Option (List ℕ)) (old mid : Option (List TalkEvent)) (s : SketchValues) (number : ℕ) : Type 0 where
  pub opened : IsOpened form at every start left old s
  pub talk : GoesOn old mid []
  pub place : number ≡ begins_at at s.tally.count

pub ready : (form : Form) (at every : Option ℕ) (start left : Option (List ℕ)) (old mid : Option (List TalkEvent)) (s : SketchValues) (t : Tally) (number : ℕ) {bytes items : List ℕ}
    → IsSketch s × (bytes ≡ spelled_file s) → bytes ≡ items → Loads start old (Some items) → GoesOn old mid [] → t ≡ s.tally → number ≡ begins_at at t.count
    → s.parts.first ≡ s.parts.last → number ≤ t.count → IsReady form at every start left old mid s number
ready form at every start left old mid s t number (is, spelled) same loads talk told begins one within =
    let count = ap (λ (x : Tally). x.count) told in
    let place : number ≡ begins_at at s.tally.count = begins ∙ ap (begins_at at) count in
    record {
      opened = record {
        is = is;
        loads = subst (λ (l : List ℕ). Loads start old (Some l)) (sym same ∙ spelled) loads;
        one = one;
        begins = omega (arith, place, count, within);
      };
      talk = talk;
      place = place;
    }

module _ {form : Form} {at every : Option ℕ} {start left : Option (List ℕ)} {old mid : Option (List TalkEvent)} {s : SketchValues} {number : ℕ}
    (here : IsReady form at every start left old mid s number) where
  stored_since : (added : List Update) (new : Option (List TalkEvent)) → IsStored every s added mid new → IsStored every s added old new
  stored_since added new stored = record {
    files = stored.files;
    each = stored.each;
    talk = GoesOn-trans old mid new [] (flat_map steps stored.files) here.talk stored.talk;
  }

  cut_since : (added : List Update) (new : Option (List TalkEvent)) → IsCut every s added mid new → IsCut every s added old new
  cut_since added new cut = record {
    files = cut.files;
    each = cut.each;
    count = cut.count;
    short = cut.short;
    talk = GoesOn-trans old mid new [] (take cut.count (flat_map steps cut.files)) here.talk cut.talk;
  }

  -- ---- all that the sketch has was read

  module _ (between : Option (List ℕ)) (passed : List Update) (all : number + length passed ≡ s.tally.count)
      (read : (bytes : List ℕ) → left ≡ Some bytes → ReadsTo s.depth form [] bytes between passed Full) where
    followed : (left' : Option (List ℕ)) (added : List Update) (pause : Pause) → AreAdded form s between left' added pause → (bytes : List ℕ) → left ≡ Some bytes → IsFollowed form at every s bytes left' added pause
    followed left' added pause reads bytes told =
        let (rest, lie, is) = read bytes told in
        record { passed = passed; count = subst (λ n. n + length passed ≡ s.tally.count) here.place all; rest = rest; behind = lie; reads = λ stream stands. reads rest is stream stands }

    was_added : (left' : Option (List ℕ)) (new : Option (List TalkEvent)) (pause : Pause) → Stored form every s between mid left' new pause
        → Came form at every start left old (λ x added. IsStored every x added old new) (λ x bytes added. IsFollowed form at every x bytes left' added pause)
    was_added left' new pause (added, stored, reads) = (s, here.opened, added, stored_since added new stored, followed left' added pause reads)

    was_cut : (left' : Option (List ℕ)) (new : Option (List TalkEvent)) → Cut form every s between mid left' new
        → Came form at every start left old (λ x added. IsCut every x added old new) (λ x bytes added. (pause : Pause) × IsRead form at every x bytes left' added pause)
    was_cut left' new (added, pause, cut, reads) =
        (s, here.opened, added, cut_since added new cut, λ bytes told. (pause, inl (followed left' added pause reads bytes told)))

    pub added_to : (left' : Option (List ℕ)) (new : Option (List TalkEvent)) (status : SketchStatus) → Adds form every s between mid left' new status → Watches form at every start left old left' new status
    added_to left' new statuses.Wrote has = was_added left' new Ended has
    added_to left' new (statuses.BadStream number why) (added, stored, reads) =
        (s, here.opened, added, stored_since added new stored, λ bytes told. inl (followed left' added (Stopped (faults.Bad number why)) reads bytes told))
    added_to left' new (statuses.ReadFault ports.First) (added, stored, reads) =
        (s, here.opened, added, stored_since added new stored, λ bytes told. inl (followed left' added (Stopped faults.ReadFault) reads bytes told))
    added_to left' new (statuses.WriteFault ports.Sketch) has = was_cut left' new has
    added_to left' new statuses.OutOfMemory (inl (added, stored, reads)) =
        inr (inl (s, here.opened, added, stored_since added new stored, λ bytes told. inl (followed left' added (Stopped faults.OutOfMemory) reads bytes told)))
    added_to left' new statuses.OutOfMemory (inr has) = inr (inr (was_cut left' new has))
    added_to left' new statuses.Busy has = absurd has
    added_to left' new (statuses.ReadFault ports.Second) has = absurd has
    added_to left' new (statuses.ReadFault ports.Sketch) has = absurd has
    added_to left' new (statuses.ReadFault (ports.Part number)) has = absurd has
    added_to left' new (statuses.ReadFault ports.Report) has = absurd has
    added_to left' new statuses.Exists has = absurd has
    added_to left' new (statuses.BadSketch part offset) has = absurd has
    added_to left' new statuses.BadSeed has = absurd has
    added_to left' new statuses.SeedSpent has = absurd has
    added_to left' new (statuses.BadStart records is_sum) has = absurd has
    added_to left' new (statuses.Behind number) has = absurd has
    added_to left' new (statuses.Unlike part why) has = absurd has
    added_to left' new (statuses.WriteFault ports.First) has = absurd has
    added_to left' new (statuses.WriteFault ports.Second) has = absurd has
    added_to left' new (statuses.WriteFault (ports.Part number)) has = absurd has
    added_to left' new (statuses.WriteFault ports.Report) has = absurd has

  -- ---- reading paused before

  module _ (left' : Option (List ℕ)) (place : ℕ) (passed : List Update) (along : place ≡ number + length passed) (fewer : place < s.tally.count) where
    behind : (pause : Pause) → ((bytes : List ℕ) → left ≡ Some bytes → ReadsTo s.depth form [] bytes left' passed pause) → (bytes : List ℕ) → left ≡ Some bytes → IsBehind form at every s bytes left' place pause
    behind pause read bytes told = record { passed = passed; number = along ∙ ap (λ n. n + length passed) here.place; fewer = fewer; reads = read bytes told }

    pub ended_before : (new : Option (List TalkEvent)) → GoesOn mid new [] → ((bytes : List ℕ) → left ≡ Some bytes → ReadsTo s.depth form [] bytes left' passed Ended) → Watches form at every start left old left' new (statuses.Behind place)
    ended_before new same read = (s, here.opened, [], (refl, GoesOn-trans old mid new [] [] here.talk same), behind Ended read)

    -- and the sketch was stored as it is, or this was cut
    unchanged : IsAt s mid [] (multiples every 0) s mid
    unchanged = subst (λ (l : List ℕ). IsAt s mid [] l s mid) (sym (no_multiples every)) (begins s mid here.opened.is)

    stored_again : (new : Option (List TalkEvent)) → GoesOn mid new (steps (spelled_file s)) → IsStored every s [] old new
    stored_again new went = stored_since [] new (was_stored s mid every [] (due every 0) s new (stores s mid [] (multiples every 0) s mid new unchanged here.opened.is went) refl)

    pub stopped_before : (new : Option (List TalkEvent)) (fault : StreamFault) (result : SketchStatus) → ((bytes : List ℕ) → left ≡ Some bytes → ReadsTo s.depth form [] bytes left' passed (Stopped fault))
        → Closes mid new (spelled_file s) (status_of fault place) result → Watches form at every start left old left' new result
    stopped_before new (faults.Bad inner why) result read (inl (went, is)) =
        subst (Watches form at every start left old left' new) (sym is)
        (s, here.opened, [], stored_again new went, λ bytes told. inr (refl, inner, behind (Stopped (faults.Bad inner why)) read bytes told))
    stopped_before new faults.ReadFault result read (inl (went, is)) =
        subst (Watches form at every start left old left' new) (sym is)
        (s, here.opened, [], stored_again new went, λ bytes told. inr (refl, place, behind (Stopped faults.ReadFault) read bytes told))
    stopped_before new faults.OutOfMemory result read (inl (went, is)) =
        subst (Watches form at every start left old left' new) (sym is)
        (inr (inl (s, here.opened, [], stored_again new went, λ bytes told. inr (refl, place, behind (Stopped faults.OutOfMemory) read bytes told))))
    stopped_before new fault result read (inr (stopped, inl is)) =
        subst (Watches form at every start left old left' new) (sym is)
        (s, here.opened, [], cut_since [] new (cut_at_end s mid every [] s mid new unchanged here.opened.is stopped), λ bytes told. (Stopped fault, inr (refl, place, behind (Stopped fault) read bytes told)))
    stopped_before new fault result read (inr (stopped, inr is)) =
        subst (Watches form at every start left old left' new) (sym is)
        (inr (inr (s, here.opened, [], cut_since [] new (cut_at_end s mid every [] s mid new unchanged here.opened.is stopped), λ bytes told. (Stopped fault, inr (refl, place, behind (Stopped fault) read bytes told)))))
