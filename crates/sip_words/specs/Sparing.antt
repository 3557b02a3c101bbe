-- What of a plan is not opened, since it is a file of another opening.
use Rattle.std.specs.Prelude.{◌≡◌, ◌⊎◌, List, [], ◌∷◌, Option, Some, None}
use Rattle.sip_words.specs.declared.plan.Opening.{Opening}
use Rattle.sip_words.specs.declared.plan.Opening.TheVariants.{Nothing, Spared}
use Rattle.sip_words.specs.declared.plan.PortPlan.{PortPlan}
use Rattle.sip_words.specs.declared.sparing.FileId.{FileId}
use Rattle.sip_words.specs.declared.sparing.PlanFiles.{PlanFiles}

-- it is a regular file, and one of these
abbrev pub IsAmong : Option FileId → List (Option FileId) → Type 0
IsAmong None others = ⊥
IsAmong (Some file) [] = ⊥
IsAmong (Some file) (other ∷ others) = (Some file ≡ other) ⊎ IsAmong (Some file) others

-- spared exactly where this holds, and else the opening
abbrev pub OpensUnless : Type 0 → Opening → Opening → Type 0
OpensUnless taken opening is = (taken × (is ≡ Spared)) ⊎ ((taken → ⊥) × (is ≡ opening))

-- The stream of a helper is what FROM is, so that to read it would take the other side's bytes. A
-- helper has no seed.
abbrev pub IsHeard : PlanFiles → PortPlan → Type 0
IsHeard files plan = (plan.second ≡ Nothing) × IsAmong files.first (files.from ∷ [])

-- TO and the file of the transcript are spared where they are an input or each other, so is the
-- stream of a helper where it is FROM, and all else is opened as it was to be
pub record Spares (files : PlanFiles) (plan is : PortPlan) : Type 0 where
  pub first : OpensUnless (IsHeard files plan) plan.first is.first
  pub second : is.second ≡ plan.second
  pub from : is.from ≡ plan.from
  pub to : OpensUnless
      (IsAmong files.to (files.first ∷ files.second ∷ files.from ∷ files.keep ∷ []))
      plan.to is.to
  pub keep : OpensUnless
      (IsAmong files.keep (files.first ∷ files.second ∷ files.from ∷ files.to ∷ []))
      plan.keep is.keep
