-- A sketch to which the records of a stream come, and which is stored again and again.
use Rattle.std.proofs.Common.{◌≡◌, ◌⊎◌, ℕ, ◌+◌, ◌≤◌, List, [], ◌∷◌, ◌++◌, length, take, Some, inl, inr, refl, sym, ap, subst, ◌∙◌, arith, append_assoc, append-nil, length-append}
use Rattle.std.specs.Prelude.{flat_map}
use Rattle.std.specs.List.{AllZip}
use Rattle.std.specs.declared.option.Option.{Option}
use Rattle.std.proofs.Math.Seq.{take-append-add}
use Rattle.std.proofs.lemmas.List.{take-append-le}
use Rattle.std.proofs.lemmas.List.Concat.{flat_map-append}
use Rattle.sip_ports.specs.Desk.{steps}
use Rattle.sip_ports.specs.Ports.{GoesOn}
use Rattle.sip_ports.specs.declared.port.TalkEvent.{TalkEvent}
use Rattle.sip_ports.proofs.TalkLemmas.{GoesOn-refl, GoesOn-trans}
use Rattle.sip_stream.specs.declared.fault.StreamFault.{StreamFault}
use Rattle.sip_stream.specs.declared.fault.StreamFault.TheVariants as faults
use Rattle.sip_stream.specs.declared.form.Form.{Form}
use Rattle.sip_stream.specs.declared.why.Why.{Why}
use Rattle.sip_vector.specs.declared.tally.Tally.{Tally}
use Rattle.sip_vector.specs.declared.update.Update.{Update}
use Rattle.sip_sketch.specs.Sketches.{IsSketch, SketchValues, spelled_file}
use Rattle.sip_sketch.specs.Standing.{Stands}
use Rattle.sip_sketch.specs.inside.Raising.{IsGrown}
use Rattle.sip_sketch.specs.Watching.{IsCut, IsFileAt, IsStored, ReadsTo, due, multiples}
use Rattle.sip_sketch.specs.declared.filling.Pause.{Pause}
use Rattle.sip_sketch.specs.declared.filling.Pause.TheVariants.{Full, Ended, Stopped}
use Rattle.sip_sketch.specs.declared.status.SketchPort.TheVariants as ports
use Rattle.sip_sketch.specs.declared.status.SketchStatus.{SketchStatus}
use Rattle.sip_sketch.specs.declared.status.SketchStatus.TheVariants as statuses
use Rattle.sip_sketch.specs.inside.Following.{Adds, AreAdded, Cut, Stored, status_of}
use Rattle.sip_sketch.specs.inside.Keeping.{Closes, StopsWith}
use Rattle.sip_sketch.specs.inside.Storing.{IsStopped}
use Rattle.sip_sketch.proofs.Compound.{file_later, file_now, grown_more, grown_none, zip_append, zip_lift}
use Rattle.sip_sketch.proofs.Paused.{reads_more, reads_none}

-- ---- what was stored

-- These came to the sketch, which is this one now and was stored at some numbers of them.
pub record IsAt (s : SketchValues) (old : Option (List TalkEvent)) (added : List Update) (marks : List ℕ) (now : SketchValues) (mid : Option (List TalkEvent)) : Type 0 where
  pub grown : IsGrown added s now
  pub files : List (List ℕ)
  pub each : AllZip (IsFileAt s added) marks files
  pub talk : GoesOn old mid (flat_map steps files)

-- some bytes, and a front of those behind them
front_of : (xs ys zs : List TalkEvent) (n : ℕ) → n ≤ length ys → take (length xs + n) ((xs ++ ys) ++ zs) ≡ xs ++ take n ys
front_of xs ys zs n few =
    ap (take (length xs + n)) (append_assoc xs ys zs) ∙ take-append-add xs (ys ++ zs) n ∙ ap (λ l. xs ++ l) (take-append-le n ys zs few)

steps_more : (files : List (List ℕ)) (file : List ℕ) → flat_map steps (files ++ file ∷ []) ≡ flat_map steps files ++ steps file
steps_more files file =
    flat_map-append steps files (file ∷ []) ∙ ap (λ l. flat_map steps files ++ l) (append-nil (steps file))

module _ (s : SketchValues) (old : Option (List TalkEvent)) where
  pub begins : IsSketch s → IsAt s old [] [] s old
  begins is = record { grown = grown_none s is; files = []; each = tt; talk = GoesOn-refl old }

  pub grows : (added us : List Update) (marks : List ℕ) (now next : SketchValues) (mid : Option (List TalkEvent))
      → IsAt s old added marks now mid → IsGrown us now next → IsAt s old (added ++ us) marks next mid
  grows added us marks now next mid so grown = record {
    grown = grown_more s now next added us so.grown grown;
    files = so.files;
    each = zip_lift (IsFileAt s added) (IsFileAt s (added ++ us)) marks so.files (λ count file was. file_later s added us count file was) so.each;
    talk = so.talk;
  }

  pub stores : (added : List Update) (marks : List ℕ) (now : SketchValues) (mid new : Option (List TalkEvent))
      → IsAt s old added marks now mid → IsSketch now → GoesOn mid new (steps (spelled_file now)) → IsAt s old added (marks ++ length added ∷ []) now new
  stores added marks now mid new so is went = record {
    grown = so.grown;
    files = so.files ++ spelled_file now ∷ [];
    each = zip_append (IsFileAt s added) marks (length added ∷ []) so.files (spelled_file now ∷ []) so.each (file_now s now added so.grown is, tt);
    talk = subst (GoesOn old new) (sym (steps_more so.files (spelled_file now)))
        (GoesOn-trans old mid new (flat_map steps so.files) (steps (spelled_file now)) so.talk went);
  }

  pub was_stored : (every : Option ℕ) (added : List Update) (marks : List ℕ) (now : SketchValues) (new : Option (List TalkEvent))
      → IsAt s old added marks now new → marks ≡ due every (length added) → IsStored every s added old new
  was_stored every added marks now new so is = record {
    files = so.files;
    each = subst (λ (l : List ℕ). AllZip (IsFileAt s added) l so.files) is so.each;
    talk = so.talk;
  }

  -- it was to be stored once more, and perhaps again
  pub was_cut : (every : Option ℕ) (added : List Update) (marks others : List ℕ) (now : SketchValues) (mid new : Option (List TalkEvent)) (more : List (List ℕ))
      → IsAt s old added marks now mid → IsSketch now → IsStopped mid new (spelled_file now) → AllZip (IsFileAt s added) others more
      → (marks ++ length added ∷ []) ++ others ≡ due every (length added) → IsCut every s added old new
  was_cut every added marks others now mid new more so is (n, few, went) again all =
      let file = spelled_file now in
      let before = flat_map steps so.files in
      let here = flat_map steps (so.files ++ file ∷ []) in
      let whole : flat_map steps ((so.files ++ file ∷ []) ++ more) ≡ (before ++ steps file) ++ flat_map steps more =
      flat_map-append steps (so.files ++ file ∷ []) more ∙ ap (λ l. l ++ flat_map steps more) (steps_more so.files file) in
      let first = zip_append (IsFileAt s added) marks (length added ∷ []) so.files (file ∷ []) so.each (file_now s now added so.grown is, tt) in
      let front : take (length before + n) (flat_map steps ((so.files ++ file ∷ []) ++ more)) ≡ before ++ take n (steps file) =
      ap (take (length before + n)) whole ∙ front_of before (steps file) (flat_map steps more) n (omega (arith, few)) in
      record {
        files = (so.files ++ file ∷ []) ++ more;
        each = subst (λ (l : List ℕ). AllZip (IsFileAt s added) l ((so.files ++ file ∷ []) ++ more)) all
            (zip_append (IsFileAt s added) (marks ++ length added ∷ []) others (so.files ++ file ∷ []) more first again);
        count = length before + n;
        short = omega (arith, few, ap length whole, length-append (before ++ steps file) (flat_map steps more), length-append before (steps file));
        talk = subst (GoesOn old new) (sym front) (GoesOn-trans old mid new before (take n (steps file)) so.talk went);
      }

  -- it was to be stored for the last time
  pub cut_at_end : (every : Option ℕ) (added : List Update) (now : SketchValues) (mid new : Option (List TalkEvent))
      → IsAt s old added (multiples every (length added)) now mid → IsSketch now → IsStopped mid new (spelled_file now) → IsCut every s added old new
  cut_at_end every added now mid new so is stopped =
      was_cut every added (multiples every (length added)) [] now mid new [] so is stopped tt (append-nil (due every (length added)))

  -- it was to be stored at a multiple, and then at the end
  pub cut_between : (every : Option ℕ) (added : List Update) (marks : List ℕ) (now : SketchValues) (mid new : Option (List TalkEvent))
      → IsAt s old added marks now mid → IsSketch now → IsStopped mid new (spelled_file now) → multiples every (length added) ≡ marks ++ length added ∷ [] → IsCut every s added old new
  cut_between every added marks now mid new so is stopped grown =
      was_cut every added marks (length added ∷ []) now mid new (spelled_file now ∷ []) so is stopped (file_now s now added so.grown is, tt)
      (ap (λ (l : List ℕ). l ++ length added ∷ []) (sym grown))

-- ---- what was read

module _ (form : Form) (s : SketchValues) (left : Option (List ℕ)) where
  pub none_added : AreAdded form s left left [] Full
  none_added = λ bytes told stream stands. reads_none s.depth form stream bytes left told

  -- some, and then others, each legal after all of the sketch as it was then
  pub more_added : (mid left' : Option (List ℕ)) (added us : List Update) (now : SketchValues) (pause : Pause) → AreAdded form s left mid added Full → IsGrown added s now
      → ((stream : List Update) (bytes : List ℕ) → Stands stream now → mid ≡ Some bytes → ReadsTo now.depth form stream bytes left' us pause) → AreAdded form s left left' (added ++ us) pause
  more_added mid left' added us now pause so grown then = λ bytes told stream stands.
      reads_more s.depth form stream bytes mid left' added us pause (so bytes told stream stands)
      (λ rest is. rw grown.kept.depth at (then (stream ++ added) rest (grown.stands stream stands) is))

  -- the number of a record that is not legal is that of the records of the sketch
  pub numbered : (left' : Option (List ℕ)) (added : List Update) (now : SketchValues) (at : ℕ) (why : Why) → IsGrown added s now
      → AreAdded form s left left' added (Stopped (faults.Bad at why)) → AreAdded form s left left' added (Stopped (faults.Bad now.tally.count why))
  numbered left' added now at why grown so = λ bytes told stream stands.
      let (front, number, all) = so bytes told stream stands in
      (front, ap (λ (t : Tally). t.count) (grown.stands stream stands).told, all)

-- ---- how it ended

module _ (form : Form) (every : Option ℕ) (s : SketchValues) (left : Option (List ℕ)) (old : Option (List TalkEvent)) (left' : Option (List ℕ)) where
  -- whatever came before, that the sketch was not stored is the status
  stops_with : (new : Option (List TalkEvent)) (status : SketchStatus) → Cut form every s left old left' new
      → (status ≡ statuses.WriteFault ports.Sketch) ⊎ (status ≡ statuses.OutOfMemory) → Adds form every s left old left' new status
  stops_with new status cut (inl is) = subst (Adds form every s left old left' new) (sym is) cut
  stops_with new status cut (inr is) = subst (Adds form every s left old left' new) (sym is) (inr cut)

  -- stored for the last time, or not
  closes_as : (added : List Update) (now : SketchValues) (mid new : Option (List TalkEvent)) (pause : Pause) (status result : SketchStatus)
      → IsAt s old added (multiples every (length added)) now mid → IsSketch now → AreAdded form s left left' added pause
      → (Stored form every s left old left' new pause → Adds form every s left old left' new status)
      → Closes mid new (spelled_file now) status result → Adds form every s left old left' new result
  closes_as added now mid new pause status result so is reads well (inl (went, same)) =
      let last = stores s old added (multiples every (length added)) now mid new so is went in
      subst (Adds form every s left old left' new) (sym same) (well (added, was_stored s old every added (due every (length added)) now new last refl, reads))
  closes_as added now mid new pause status result so is reads well (inr (stopped, which)) =
      stops_with new result (added, pause, cut_at_end s old every added now mid new so is stopped, reads) which

  pub closes_ended : (added : List Update) (now : SketchValues) (mid new : Option (List TalkEvent)) (result : SketchStatus)
      → IsAt s old added (multiples every (length added)) now mid → IsSketch now → AreAdded form s left left' added Ended
      → Closes mid new (spelled_file now) statuses.Wrote result → Adds form every s left old left' new result
  closes_ended added now mid new result so is reads closed =
      closes_as added now mid new Ended statuses.Wrote result so is reads (λ stored. stored) closed

  pub closes_stopped : (added : List Update) (now : SketchValues) (mid new : Option (List TalkEvent)) (fault : StreamFault) (result : SketchStatus)
      → IsAt s old added (multiples every (length added)) now mid → IsSketch now → AreAdded form s left left' added (Stopped fault)
      → Closes mid new (spelled_file now) (status_of fault now.tally.count) result → Adds form every s left old left' new result
  closes_stopped added now mid new (faults.Bad at why) result so is reads closed =
      closes_as added now mid new (Stopped (faults.Bad now.tally.count why)) (statuses.BadStream now.tally.count why) result so is
      (numbered form s left left' added now at why so.grown reads) (λ stored. stored) closed
  closes_stopped added now mid new faults.ReadFault result so is reads closed =
      closes_as added now mid new (Stopped faults.ReadFault) (statuses.ReadFault ports.First) result so is reads (λ stored. stored) closed
  closes_stopped added now mid new faults.OutOfMemory result so is reads closed =
      closes_as added now mid new (Stopped faults.OutOfMemory) statuses.OutOfMemory result so is reads (λ stored. inl stored) closed

  -- not stored at a multiple
  pub stops_between : (added : List Update) (marks : List ℕ) (now : SketchValues) (mid new : Option (List TalkEvent)) (pause : Pause) (result : SketchStatus)
      → IsAt s old added marks now mid → IsSketch now → AreAdded form s left left' added pause → multiples every (length added) ≡ marks ++ length added ∷ []
      → StopsWith mid new (spelled_file now) result → Adds form every s left old left' new result
  stops_between added marks now mid new pause result so is reads grown (stopped, which) =
      stops_with new result (added, pause, cut_between s old every added marks now mid new so is stopped grown, reads) which

-- a status that is not that all went well says that storing stopped
pub still_stops : (old new : Option (List TalkEvent)) (file : List ℕ) (status result : SketchStatus) → Closes old new file statuses.Wrote result → (result ≡ statuses.Wrote → ⊥) → Closes old new file status result
still_stops old new file status result (inl (went, is)) other = absurd (other is)
still_stops old new file status result (inr stopped) other = inr stopped
