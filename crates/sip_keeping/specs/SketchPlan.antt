-- The files that a command opens that keeps a sketch.
use Rattle.std.specs.Prelude.{◌≡◌, ℕ, ◌+◌, ◌≤◌, List}
use Rattle.sip_stream.specs.declared.form.Form.{Form}
use Rattle.sip_stream.specs.declared.form.Form.TheVariants as forms
use Rattle.sip_words.specs.declared.plan.Opening.{Opening}
use Rattle.sip_words.specs.declared.plan.Opening.TheVariants.{Nothing, Path}
use Rattle.sip_words.specs.Plan.{HasName}
use Rattle.sip_keeping.specs.declared.command.SketchCommand.{SketchCommand}
use Rattle.sip_keeping.specs.declared.command.SketchCommand.TheVariants as command
use Rattle.sip_keeping.specs.declared.sketch_plan.SketchPlan.{SketchPlan}

-- the stream of word 2, whose path stands behind `text:` and `wide:`
abbrev pub stream_opening : Form → Opening
stream_opening forms.Binary = Path 2 0
stream_opening forms.Text = Path 2 5
stream_opening forms.Wide = Path 2 5

-- `watch` has a stream, and `begin` a seed
abbrev pub plan_of : SketchCommand → SketchPlan
plan_of (command.Begin depth part parts kinds) = record { first = Nothing; second = Path 2 0 }
plan_of (command.Watch form at every) =
    record { first = stream_opening form; second = Nothing }
plan_of (command.Merge parts) = record { first = Nothing; second = Nothing }
plan_of command.Seats = record { first = Nothing; second = Nothing }

-- the file of this number: that of the sketch, and behind it those of the parts
abbrev pub file_opening : ℕ → Opening
file_opening number = Path (number + 1) 0

-- the command has a file of this number
abbrev pub HasFile : SketchCommand → ℕ → Type 0
HasFile (command.Begin depth part parts kinds) number = number ≡ 0
HasFile (command.Watch form at every) number = number ≡ 0
HasFile (command.Merge parts) number = number ≤ parts
HasFile command.Seats number = number ≡ 0

-- the words name all that is opened
pub record AreNamed (command : SketchCommand) (words : List (List ℕ)) : Type 0 where
  pub first : HasName words (plan_of command).first
  pub second : HasName words (plan_of command).second
  pub files : (number : ℕ) → HasFile command number → HasName words (file_opening number)
