-- How a command ends that keeps a sketch or asks one, by what it did.
use Rattle.std.specs.Prelude.{◌≡◌, ℕ, List}
use Rattle.std.specs.declared.option.Option.{Option}
use Rattle.sip_ports.specs.Ports.{SendsWhole}
use Rattle.sip_ports.specs.declared.port.TalkEvent.{TalkEvent}
use Rattle.sip_advice.specs.declared.exit.Ending.{Ending}
use Rattle.sip_questions.specs.declared.question.Question.{Question}
use Rattle.sip_sketch.specs.declared.status.SketchStatus.{SketchStatus}
use Rattle.sip_ask.specs.Asking.{Asks}
use Rattle.sip_ask.specs.declared.status.AskStatus.{AskStatus}
use Rattle.sip_keeping.specs.AskEndings.{code_of_ask, line_of_ask}
use Rattle.sip_keeping.specs.Endings.{code_of_sketch, line_of_sketch}
use Rattle.sip_keeping.specs.SketchClause.{Does, Told}
use Rattle.sip_keeping.specs.declared.command.SketchCommand.{SketchCommand}

-- A command that keeps a sketch did this between two moments. The code of the program is that of
-- its status, and so is the line on standard error, which told `old` and tells `new`; a front of
-- the line was written where writing it failed.
pub record SketchIsDone (command : SketchCommand) (before now : Told)
    (old new : Option (List TalkEvent)) (status : SketchStatus) (ending : Ending) : Type 0 where
  pub does : Does command before now status
  pub code : ending.code ≡ code_of_sketch status
  pub line : SendsWhole old new ending.line (line_of_sketch status)

-- What the ports of an ask tell at a moment: what the desk's file had at the start, the talk of the
-- desk, the report, and standard error.
pub record AskTold : Type 0 where
  pub start : Option (List ℕ)
  pub desk : Option (List TalkEvent)
  pub report : Option (List TalkEvent)
  pub errors : Option (List TalkEvent)

abbrev pub ask_told : Option (List ℕ) → Option (List TalkEvent) → Option (List TalkEvent)
    → Option (List TalkEvent) → AskTold
ask_told start desk report errors =
    record { start = start; desk = desk; report = report; errors = errors }

-- The same of the command that asks one.
pub record AskIsDone (asked : List Question) (before now : AskTold) (status : AskStatus)
    (ending : Ending) : Type 0 where
  pub asks : Asks asked before.start before.desk now.desk before.report now.report status
  pub code : ending.code ≡ code_of_ask status
  pub line : SendsWhole before.errors now.errors ending.line (line_of_ask status)
