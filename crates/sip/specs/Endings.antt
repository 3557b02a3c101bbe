-- How the program ends, by its words. What a port tells that is over a file of the machine can be
-- named by no contract; so these say that some ports tell what was done.
use Rattle.std.specs.Prelude.{◌≡◌, ◌⊎◌, ℕ, List}
use Rattle.std.specs.declared.option.Option.{Option}
use Rattle.sip_ports.specs.declared.port.TalkEvent.{TalkEvent}
use Rattle.sip_verifier.specs.declared.status.Status.{Status}
use Rattle.sip_verifier.specs.declared.status.Status.TheVariants.{Usage}
use Rattle.sip_advice.specs.Exit.{code_of}
use Rattle.sip_advice.specs.Pages.{AsksText, PageClause}
use Rattle.sip_advice.specs.declared.exit.Ending.{Ending}
use Rattle.sip_questions.specs.declared.question.Question.{Question}
use Rattle.sip_sketch.specs.declared.status.SketchStatus.{SketchStatus}
use Rattle.sip_sketch.specs.declared.status.SketchStatus.TheVariants as sketches
use Rattle.sip_ask.specs.declared.status.AskStatus.{AskStatus}
use Rattle.sip_ask.specs.declared.status.AskStatus.TheVariants as asks
use Rattle.sip_keeping.specs.AskEndings.{code_of_ask}
use Rattle.sip_keeping.specs.AskWords.{IsAskRefusedAt, SpellsAsk}
use Rattle.sip_keeping.specs.Endings.{code_of_sketch}
use Rattle.sip_keeping.specs.Finishing.{AskIsDone, AskTold, SketchIsDone}
use Rattle.sip_keeping.specs.SketchClause.{Told}
use Rattle.sip_keeping.specs.Words.{IsRefusedAt, Spells}
use Rattle.sip_keeping.specs.declared.command.SketchCommand.{SketchCommand}

-- the words ask for a text, which was written, or a front of it, and the code is that of the status
abbrev pub PageEnds : List (List ℕ) → Ending → Type 0
PageEnds words ending = AsksText words × (text : List ℕ) × (old new : Option (List TalkEvent))
    × (status : Status) × PageClause old new text status × (ending.code ≡ code_of status)

-- the words are refused at a word, with the code of that; or they ask for a text
abbrev pub RefusalEnds : (List (List ℕ) → ℕ → Type 0) → List (List ℕ) → Ending → Type 0
RefusalEnds IsRefused words ending =
    (n : ℕ) × IsRefused words n × ((ending.code ≡ code_of (Usage n)) ⊎ PageEnds words ending)

-- ---- commands that keep a sketch

-- the command did this, with this status
abbrev pub SketchCame : SketchCommand → SketchStatus → Ending → Type 0
SketchCame command status ending = (before now : Told) × (old new : Option (List TalkEvent))
    × SketchIsDone command before now old new status ending

-- the program ends by the status of what the command did; or memory was refused to a port before
abbrev pub SketchEnds : SketchCommand → Ending → Type 0
SketchEnds command ending = ((status : SketchStatus) × SketchCame command status ending)
    ⊎ (ending.code ≡ code_of_sketch sketches.OutOfMemory)

-- the words are such a command, or ask for a text, or are refused
abbrev pub SketchWordsEnd : List (List ℕ) → Ending → Type 0
SketchWordsEnd words ending =
    ((command : SketchCommand) × Spells command words
    × (SketchEnds command ending ⊎ PageEnds words ending))
    ⊎ RefusalEnds IsRefusedAt words ending

-- ---- the command that asks one

abbrev pub AskCame : List Question → AskStatus → Ending → Type 0
AskCame asked status ending = (before now : AskTold) × AskIsDone asked before now status ending

abbrev pub AskEnds : List Question → Ending → Type 0
AskEnds asked ending = ((status : AskStatus) × AskCame asked status ending)
    ⊎ (ending.code ≡ code_of_ask asks.OutOfMemory)

abbrev pub AskWordsEnd : List (List ℕ) → Ending → Type 0
AskWordsEnd words ending =
    ((asked : List Question) × SpellsAsk asked words × AskEnds asked ending)
    ⊎ RefusalEnds IsAskRefusedAt words ending

-- ---- all words

-- The program ends by what the words of a sketch came to; or by a status of another command, or of
-- words that could not be had.
abbrev pub ProgramEnds : Ending → Type 0
ProgramEnds ending =
    ((words : List (List ℕ)) × (SketchWordsEnd words ending ⊎ AskWordsEnd words ending))
    ⊎ ((status : Status) × (ending.code ≡ code_of status))
