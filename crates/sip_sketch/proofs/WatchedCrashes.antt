-- What a crash leaves while a stream is watched.
use Rattle.std.proofs.Common.{◌≡◌, ◌⊎◌, ℕ, zero, suc, ◌+◌, ◌-◌, List, [], ◌∷◌, ◌++◌, length, take, Some, inl, inr, refl, sym, ap, subst, ◌∙◌, arith, append-nil, append_assoc}
use Rattle.std.specs.Prelude.{Contains, flat_map}
use Rattle.std.specs.List.{AllZip}
use Rattle.std.specs.declared.option.Option.{Option}
use Rattle.std.proofs.Math.Seq.{take-append-add}
use Rattle.std.proofs.lemmas.Bool.{cases_lt}
use Rattle.std.proofs.lemmas.List.{append_cancel_left, take-append-le}
use Rattle.sip_ports.specs.Desk.{may_hold, steps}
use Rattle.sip_ports.specs.Ports.{GoesOn}
use Rattle.sip_ports.specs.declared.port.TalkEvent.{TalkEvent}
use Rattle.sip_stream.specs.declared.form.Form.{Form}
use Rattle.sip_vector.specs.declared.update.Update.{Update}
use Rattle.sip_sketch.specs.Sketches.{SketchValues}
use Rattle.sip_sketch.specs.Watching.{IsCut, IsFileAt, IsOneOf, IsOpened, IsOwnFile, IsStored, Watches, due}
use Rattle.sip_sketch.specs.declared.status.SketchPort.TheVariants as ports
use Rattle.sip_sketch.specs.declared.status.SketchStatus.{SketchStatus}
use Rattle.sip_sketch.specs.declared.status.SketchStatus.TheVariants as statuses
use Rattle.sip_ports.proofs.DeskLemmas.{may_hold-kept}
use Rattle.sip_sketch.proofs.Crashes.{front_again, front_left, only_one}

none_taken : (n : ℕ) → ◌≡◌ {A = List TalkEvent} (take n []) []
none_taken zero = refl
none_taken (suc n) = refl

contains_later : (y x : ℕ) (xs : List ℕ) → Contains xs x → Contains (y ∷ xs) x
contains_later y x xs h = (suc h.0, omega (arith, h.1), h.2)

-- behind a front of several replacements
pub fronts_left : (R : ℕ → List ℕ → Type 0) (start : Option (List ℕ)) (talk : List TalkEvent) (marks : List ℕ) (files : List (List ℕ)) (n : ℕ) (content : Option (List ℕ))
    → AllZip R marks files → Contains (may_hold start (talk ++ take n (flat_map steps files))) content → Contains (may_hold start talk) content ⊎ IsOneOf R marks content
fronts_left R start talk [] [] n content each h =
    inl (subst (λ (es : List TalkEvent). Contains (may_hold start es) content) (ap (λ (es : List TalkEvent). talk ++ es) (none_taken n) ∙ append-nil talk) h)
fronts_left R start talk [] (file ∷ files) n content each h = absurd each
fronts_left R start talk (mark ∷ marks) [] n content each h = absurd each
fronts_left R start talk (mark ∷ marks) (file ∷ files) n content (one, each) h = elim (cases_lt (length (steps file)) n) [
  | inl more ↦
      let rest = flat_map steps files in
      let m = n - length (steps file) in
      let whole : n ≡ length (steps file) + m = omega (arith, more) in
      let taken : take n (steps file ++ rest) ≡ steps file ++ take m rest = ap (λ k. take k (steps file ++ rest)) whole ∙ take-append-add (steps file) rest m in
      let same : talk ++ take n (steps file ++ rest) ≡ (talk ++ steps file) ++ take m rest = ap (λ (es : List TalkEvent). talk ++ es) taken ∙ sym (append_assoc talk (steps file) (take m rest)) in
      elim (fronts_left R start (talk ++ steps file) marks files m content each (subst (λ (es : List TalkEvent). Contains (may_hold start es) content) same h)) [
        | inl here ↦ inr (mark, file, (0, omega arith, refl), one, only_one (Some file) content (subst (λ (l : List (Option (List ℕ))). Contains l content) (may_hold-kept start talk file) here))
        | inr (k, f, among, is, e) ↦ inr (k, f, contains_later mark k marks among, is, e)
      ]
  | inr few ↦
      let taken : take n (steps file ++ flat_map steps files) ≡ take n (steps file) = take-append-le n (steps file) (flat_map steps files) few in
      elim (front_left start talk file n content (subst (λ (es : List TalkEvent). Contains (may_hold start (talk ++ es)) content) taken h)) [
        | inl before ↦ inl before
        | inr is ↦ inr (mark, file, (0, omega arith, refl), one, is)
      ]
]

module _ (form : Form) (at every : Option ℕ) (start left left' : Option (List ℕ)) (talk events : List TalkEvent) (n : ℕ) (content : Option (List ℕ))
    (held : Contains (may_hold start (talk ++ take n events)) content) where
  abbrev Leaves : Type 0
  Leaves = Contains (may_hold start talk) content ⊎ IsOwnFile every start (Some talk) content

  untouched : GoesOn (Some talk) (Some (talk ++ events)) [] → Leaves
  untouched same =
      let none : events ≡ [] = append_cancel_left talk events [] same in
      let is : talk ++ take n events ≡ talk = ap (λ (es : List TalkEvent). talk ++ take n es) none ∙ ap (λ (es : List TalkEvent). talk ++ es) (none_taken n) ∙ append-nil talk in
      inl (subst (λ (es : List TalkEvent). Contains (may_hold start es) content) is held)

  own : (s : SketchValues) (added : List Update) (files : List (List ℕ)) (k : ℕ) → IsOpened form at every start left (Some talk) s → AllZip (IsFileAt s added) (due every (length added)) files
      → take n events ≡ take k (flat_map steps files) → Leaves
  own s added files k here each is =
      elim (fronts_left (IsFileAt s added) start talk (due every (length added)) files k content each (subst (λ (es : List TalkEvent). Contains (may_hold start (talk ++ es)) content) is held)) [
        | inl before ↦ inl before
        | inr one ↦ inr (s, here.loads, added, one)
      ]

  was_stored : (s : SketchValues) (added : List Update) → IsOpened form at every start left (Some talk) s → IsStored every s added (Some talk) (Some (talk ++ events)) → Leaves
  was_stored s added here stored =
      own s added stored.files n here stored.each (ap (take n) (append_cancel_left talk events (flat_map steps stored.files) stored.talk))

  was_cut : (s : SketchValues) (added : List Update) → IsOpened form at every start left (Some talk) s → IsCut every s added (Some talk) (Some (talk ++ events)) → Leaves
  was_cut s added here cut =
      let all = flat_map steps cut.files in
      let k = front_again all n cut.count in
      own s added cut.files k.0 here cut.each (ap (take n) (append_cancel_left talk events (take cut.count all) cut.talk) ∙ k.1)

  pub watch_leaves : (status : SketchStatus) → Watches form at every start left (Some talk) left' (Some (talk ++ events)) status → Leaves
  watch_leaves statuses.Wrote (s, here, added, stored, holds) = was_stored s added here stored
  watch_leaves (statuses.BadStream number why) (s, here, added, stored, holds) = was_stored s added here stored
  watch_leaves (statuses.ReadFault ports.First) (s, here, added, stored, holds) = was_stored s added here stored
  watch_leaves (statuses.WriteFault ports.Sketch) (s, here, added, cut, holds) = was_cut s added here cut
  watch_leaves (statuses.Behind number) (s, here, added, same, holds) = untouched same.1
  watch_leaves (statuses.BadSketch part offset) (part_zero, file, loads, bad, same) = untouched same.1
  watch_leaves (statuses.BadStart records is_sum) (s, is, loads, count, why, same) = untouched same.1
  watch_leaves statuses.Busy same = untouched same.1
  watch_leaves (statuses.ReadFault ports.Sketch) same = untouched same.1
  watch_leaves statuses.OutOfMemory (inl same) = untouched same.1
  watch_leaves statuses.OutOfMemory (inr (inl (s, here, added, stored, holds))) = was_stored s added here stored
  watch_leaves statuses.OutOfMemory (inr (inr (s, here, added, cut, holds))) = was_cut s added here cut
  watch_leaves (statuses.ReadFault ports.Second) h = absurd h
  watch_leaves (statuses.ReadFault (ports.Part number)) h = absurd h
  watch_leaves (statuses.ReadFault ports.Report) h = absurd h
  watch_leaves (statuses.WriteFault ports.First) h = absurd h
  watch_leaves (statuses.WriteFault ports.Second) h = absurd h
  watch_leaves (statuses.WriteFault (ports.Part number)) h = absurd h
  watch_leaves (statuses.WriteFault ports.Report) h = absurd h
  watch_leaves statuses.Exists h = absurd h
  watch_leaves statuses.BadSeed h = absurd h
  watch_leaves statuses.SeedSpent h = absurd h
  watch_leaves (statuses.Unlike part why) h = absurd h
