-- What a crash leaves while the parts of a stream are added up.
use Rattle.std.proofs.Common.{◌≡◌, ◌⊎◌, ℕ, List, [], ◌++◌, take, Some, inl, inr, refl, ap, ◌∙◌}
use Rattle.std.specs.Prelude.{Contains}
use Rattle.std.specs.declared.option.Option.{Option}
use Rattle.sip_ports.specs.Desk.{may_hold}
use Rattle.sip_ports.specs.declared.port.TalkEvent.{TalkEvent}
use Rattle.sip_sketch.specs.Merging.{IsCut, IsNew, IsNewFile, Merges}
use Rattle.sip_sketch.specs.Sketches.{SketchValues, spelled_file}
use Rattle.sip_sketch.specs.declared.status.SketchPort.TheVariants as ports
use Rattle.sip_sketch.specs.declared.status.SketchStatus.{SketchStatus}
use Rattle.sip_sketch.specs.declared.status.SketchStatus.TheVariants as statuses
use Rattle.sip_sketch.proofs.Crashes.{HasSteps, all_steps, no_steps, some_steps, steps_leave}

module _ (files : Option (ℕ → Option (List ℕ))) (count : ℕ) (start : Option (List ℕ)) (talk events : List TalkEvent) where
  abbrev IsSumFile : List ℕ → Type 0
  IsSumFile file = (sketch : Option SketchValues) × (parts : List SketchValues) × (sum : SketchValues)
      × IsNew files count start (Some talk) sketch parts sum × (file ≡ spelled_file sum)

  none : talk ++ events ≡ talk ++ [] → HasSteps IsSumFile events
  none same = no_steps IsSumFile talk events same

  cut : IsCut files count start (Some talk) (Some (talk ++ events)) → HasSteps IsSumFile events
  cut (sketch, parts, sum, is, (m, short, went)) = some_steps IsSumFile talk events (spelled_file sum) m (sketch, parts, sum, is, refl) went

  merged_steps : (status : SketchStatus) → Merges files count start (Some talk) (Some (talk ++ events)) status → HasSteps IsSumFile events
  merged_steps statuses.Wrote (sketch, parts, sum, is, went) = all_steps IsSumFile talk events (spelled_file sum) (sketch, parts, sum, is, refl) went
  merged_steps statuses.Exists h = absurd h
  merged_steps (statuses.BadSketch number offset) h = none h.1
  merged_steps statuses.BadSeed h = absurd h
  merged_steps statuses.SeedSpent h = absurd h
  merged_steps statuses.Busy h = none h
  merged_steps (statuses.BadStream at why) h = absurd h
  merged_steps (statuses.BadStart records is_sum) h = absurd h
  merged_steps (statuses.Behind at) h = absurd h
  merged_steps (statuses.Unlike number why) h = none h.1
  merged_steps (statuses.ReadFault ports.First) h = absurd h
  merged_steps (statuses.ReadFault ports.Second) h = absurd h
  merged_steps (statuses.ReadFault ports.Sketch) h = none h
  merged_steps (statuses.ReadFault (ports.Part number)) h = none h.1
  merged_steps (statuses.ReadFault ports.Report) h = absurd h
  merged_steps (statuses.WriteFault ports.First) h = absurd h
  merged_steps (statuses.WriteFault ports.Second) h = absurd h
  merged_steps (statuses.WriteFault ports.Sketch) h = cut h
  merged_steps (statuses.WriteFault (ports.Part number)) h = absurd h
  merged_steps (statuses.WriteFault ports.Report) h = absurd h
  merged_steps statuses.OutOfMemory (inl h) = none h
  merged_steps statuses.OutOfMemory (inr h) = cut h

  pub merge_leaves : (status : SketchStatus) (n : ℕ) (content : Option (List ℕ)) → Merges files count start (Some talk) (Some (talk ++ events)) status
      → Contains (may_hold start (talk ++ take n events)) content
      → Contains (may_hold start talk) content ⊎ IsNewFile files count start (Some talk) content
  merge_leaves status n content merges held = elim (steps_leave IsSumFile talk events start n content (merged_steps status merges) held) [
    | inl before ↦ inl before
    | inr (file, (sketch, parts, sum, is, spelled), new) ↦ inr (sketch, parts, sum, is, new ∙ ap Some spelled)
  ]
