-- One block more of a stream.
use Rattle.std.proofs.Common.{◌≡◌, ℕ, ◌+◌, ◌*◌, ◌-◌, ◌<◌, ◌≤◌, true, false, List, [], ◌∷◌, ◌++◌, length, None, Some, inl, inr, refl, sym, ap, subst, ◌∙◌, arith, append-nil, length-append, map}
use Rattle.std.specs.Prelude.{IfSome}
use Rattle.std.specs.List.{range_with_len}
use Rattle.std.specs.declared.option.Option.{Option}
use Rattle.std.proofs.Math.Nat.{zero-div}
use Rattle.sip_ports.specs.Desk.{steps}
use Rattle.sip_ports.specs.Ports.{GoesOn}
use Rattle.sip_ports.specs.declared.port.TalkEvent.{TalkEvent}
use Rattle.sip_stream.specs.declared.fault.StreamFault.{StreamFault}
use Rattle.sip_stream.specs.declared.form.Form.{Form}
use Rattle.sip_vector.specs.Streams.{most_weight}
use Rattle.sip_vector.specs.declared.update.Update.{Update}
use Rattle.sip_sketch.specs.Sketches.{IsSketch, SketchValues, spelled_file}
use Rattle.sip_sketch.specs.Watching.{multiples}
use Rattle.sip_sketch.specs.declared.filling.Pause.{Pause}
use Rattle.sip_sketch.specs.declared.filling.Pause.TheVariants.{Ended, Full, Stopped}
use Rattle.sip_sketch.specs.declared.pace.Pace.{Pace}
use Rattle.sip_sketch.specs.declared.status.SketchStatus.{SketchStatus}
use Rattle.sip_sketch.specs.declared.status.SketchStatus.TheVariants as statuses
use Rattle.sip_sketch.specs.inside.Following.{Adds, AreAdded, HasCome, status_of}
use Rattle.sip_sketch.specs.inside.Keeping.{Closes, StopsWith}
use Rattle.sip_sketch.specs.inside.Pacing.{IsPace, IsUntil, Paces}
use Rattle.sip_sketch.proofs.Compound.{heavier}
use Rattle.sip_sketch.proofs.Followed.{IsAt, begins, closes_ended, closes_stopped, grows, more_added, none_added, stops_between, stores}
use Rattle.sip_sketch.proofs.Paces.{fewer_same}

-- ---- how a sketch was stored

stopped_with : (old new : Option (List TalkEvent)) (file : List ℕ) (result : SketchStatus) → Closes old new file statuses.Wrote result → (result ≡ statuses.Wrote → ⊥) → StopsWith old new file result
stopped_with old new file result (inl (went, is)) other = absurd (other is)
stopped_with old new file result (inr stopped) other = stopped

went_well : (old new : Option (List TalkEvent)) (file : List ℕ) (result : SketchStatus) → Closes old new file statuses.Wrote result → result ≡ statuses.Wrote → GoesOn old new (steps file)
went_well old new file result (inl (went, is)) well = went
went_well old new file result (inr (stopped, inl is)) well = absurd cc
went_well old new file result (inr (stopped, inr is)) well = absurd cc

-- ---- how many are to come

pub no_multiples : (every : Option ℕ) → multiples every 0 ≡ []
no_multiples None = refl
no_multiples (Some every) = ap (λ n. map (λ k. (k + 1) * every) (range_with_len 0 n)) (zero-div every)

pub until_some : (every until : Option ℕ) (count : ℕ) → IsUntil every until count → IfSome until (λ n. 0 < n)
until_some None None count is = tt
until_some None (Some until) count is = absurd is
until_some (Some every) None count is = absurd is
until_some (Some every) (Some until) count (times, some, most, is) = omega (arith, some)

less_than : (until : Option ℕ) (few most : ℕ) → IfSome until (λ n. most ≤ n) → few < most → IfSome until (λ n. few < n)
less_than None few most within less = tt
less_than (Some until) few most within less = omega (arith, within, less)

-- ---- the sketch behind it

-- what came to a sketch, as it stands in a loop
pub record IsRound (form : Form) (every : Option ℕ) (s : SketchValues) (left : Option (List ℕ)) (old : Option (List TalkEvent))
    (pace : Pace) (now : SketchValues) (left' : Option (List ℕ)) (mid : Option (List TalkEvent)) : Type 0 where
  pub added : List Update
  pub same : pace.every ≡ every
  pub until : IsPace pace (length added)
  pub at : IsAt s old added (multiples every (length added)) now mid
  pub reads : AreAdded form s left left' added Full

pub first_round : (form : Form) (every : Option ℕ) (s : SketchValues) (left : Option (List ℕ)) (old : Option (List TalkEvent)) (pace : Pace)
    → pace.every ≡ every → IsPace pace 0 → IsSketch s → IsRound form every s left old pace s left old
first_round form every s left old pace same is sketch = record {
  added = [];
  same = same;
  until = is;
  at = subst (λ (l : List ℕ). IsAt s old [] l s old) (sym (no_multiples every)) (begins s old sketch);
  reads = none_added form s left;
}

module _ {form : Form} {every : Option ℕ} {s : SketchValues} {left : Option (List ℕ)} {old : Option (List TalkEvent)} {pace : Pace} {now next : SketchValues}
    {left' last : Option (List ℕ)} {mid : Option (List TalkEvent)} {count : ℕ} where
  module _ {pause : Pause} (so : IsRound form every s left old pace now left' mid) (has : HasCome form now next left' last count pause) where
    abbrev all_added : List Update
    all_added = so.added ++ has.us

    many : length all_added ≡ length so.added + count
    many = length-append so.added has.us ∙ ap (λ n. length so.added + n) has.many

    all_at : IsAt s old all_added (multiples every (length so.added)) next mid
    all_at = grows s old so.added has.us (multiples every (length so.added)) now next mid so.at has.grown

    all_read : AreAdded form s left last all_added pause
    all_read = more_added form s left left' last so.added has.us now pause so.reads so.at.grown has.reads

    -- there is no multiple among them
    short_at : (most : ℕ) → IfSome pace.until (λ n. most ≤ n) → count < most → IsAt s old all_added (multiples every (length all_added)) next mid
    short_at most within less =
        let here : IsUntil every pace.until (length so.added) = subst (λ (e : Option ℕ). IsUntil e pace.until (length so.added)) so.same so.until in
        let same = fewer_same every pace.until (length so.added) count here (less_than pace.until count most within less) in
        let all : multiples every (length all_added) ≡ multiples every (length so.added) = ap (multiples every) many ∙ same in
        subst (λ (l : List ℕ). IsAt s old all_added l next mid) (sym all) all_at

    -- the last one is a multiple
    due_now : {pace' : Pace} → Paces pace pace' (length so.added) (length so.added + count) true → multiples every (length all_added) ≡ multiples every (length so.added) ++ length all_added ∷ []
    due_now paces =
        let due = subst (λ (e : Option ℕ). multiples e (length so.added + count) ≡ multiples e (length so.added) ++ (length so.added + count) ∷ []) so.same paces.due in
        subst (λ n. multiples every n ≡ multiples every (length so.added) ++ n ∷ []) (sym many) due

    -- it is heavier, which has a limit
    pub nearer : 1 ≤ count → 2 * most_weight - (next.tally.first + next.tally.second) < 2 * most_weight - (now.tally.first + now.tally.second)
    nearer some =
        let h = heavier now next has.us has.come has.grown (omega (arith, has.many, some)) in
        omega (arith, h.0, h.1)

  -- the stream ended in it, and the sketch was stored
  pub ended : (so : IsRound form every s left old pace now left' mid) (has : HasCome form now next left' last count Ended)
      → (most : ℕ) → IfSome pace.until (λ n. most ≤ n) → count < most → (new : Option (List TalkEvent)) (result : SketchStatus) → IsSketch next
      → Closes mid new (spelled_file next) statuses.Wrote result → Adds form every s left old last new result
  ended so has most within fewer new result is closed =
      closes_ended form every s left old last (all_added so has) next mid new result (short_at so has most within fewer) is (all_read so has) closed

  -- reading it stopped, and the sketch was stored
  pub stopped : (fault : StreamFault) (so : IsRound form every s left old pace now left' mid) (has : HasCome form now next left' last count (Stopped fault))
      → (most : ℕ) → IfSome pace.until (λ n. most ≤ n) → count < most → (new : Option (List TalkEvent)) (status result : SketchStatus) → IsSketch next
      → status ≡ status_of fault next.tally.count → Closes mid new (spelled_file next) status result → Adds form every s left old last new result
  stopped fault so has most within fewer new status result is same closed =
      closes_stopped form every s left old last (all_added so has) next mid new fault result (short_at so has most within fewer) is (all_read so has)
      (subst (λ (x : SketchStatus). Closes mid new (spelled_file next) x result) same closed)

  module _ {pace' : Pace} (so : IsRound form every s left old pace now left' mid) (has : HasCome form now next left' last count Full) where
    -- the sketch was stored, as it was due
    pub next_round : Paces pace pace' (length so.added) (length so.added + count) true → (new : Option (List TalkEvent)) (result : SketchStatus)
        → IsSketch next → Closes mid new (spelled_file next) statuses.Wrote result → result ≡ statuses.Wrote → IsRound form every s left old pace' next last new
    next_round paces new result is closed well =
        let at = stores s old (all_added so has) (multiples every (length so.added)) next mid new (all_at so has) is (went_well mid new (spelled_file next) result closed well) in
        record {
          added = all_added so has;
          same = paces.every ∙ so.same;
          until = subst (IsPace pace') (sym (many so has)) paces.pace;
          at = subst (λ (l : List ℕ). IsAt s old (all_added so has) l next new) (sym (due_now so has paces)) at;
          reads = all_read so has;
        }

    -- it was due and not stored
    pub unstored : Paces pace pace' (length so.added) (length so.added + count) true → (new : Option (List TalkEvent)) (result : SketchStatus)
        → IsSketch next → Closes mid new (spelled_file next) statuses.Wrote result → (result ≡ statuses.Wrote → ⊥) → Adds form every s left old last new result
    unstored paces new result is closed other =
        stops_between form every s left old last (all_added so has) (multiples every (length so.added)) next mid new Full result (all_at so has) is (all_read so has)
        (due_now so has paces) (stopped_with mid new (spelled_file next) result closed other)

    -- it was not due
    pub later_round : Paces pace pace' (length so.added) (length so.added + count) false → IsRound form every s left old pace' next last mid
    later_round paces =
        let all = all_added so has in
        let due = subst (λ (e : Option ℕ). multiples e (length so.added + count) ≡ multiples e (length so.added) ++ []) so.same paces.due in
        let none : multiples every (length all) ≡ multiples every (length so.added) = ap (multiples every) (many so has) ∙ due ∙ append-nil (multiples every (length so.added)) in
        record {
          added = all;
          same = paces.every ∙ so.same;
          until = subst (IsPace pace') (sym (many so has)) paces.pace;
          at = subst (λ (l : List ℕ). IsAt s old all l next mid) (sym none) (all_at so has);
          reads = all_read so has;
        }
