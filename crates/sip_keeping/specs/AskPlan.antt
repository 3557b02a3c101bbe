-- The files that the command opens which asks a sketch.
use Rattle.std.specs.Prelude.{◌≡◌, ℕ, List}
use Rattle.sip_words.specs.declared.plan.Opening.TheVariants.{Path}
use Rattle.sip_words.specs.Plan.{HasName, IsEnd}
use Rattle.sip_words.specs.Words.{word}
use Rattle.sip_keeping.specs.SketchPlan.{file_opening}
use Rattle.sip_keeping.specs.declared.ask_plan.AskPlan.{AskPlan}

-- FROM may be standard input; the desk is over the file of number 0
pub record OpensAsk (words : List (List ℕ)) (plan : AskPlan) : Type 0 where
  pub from : IsEnd (word words 2) 2 plan.from
  pub to : plan.to ≡ Path 3 0

-- the words name all that is opened
pub record AskIsNamed (words : List (List ℕ)) (plan : AskPlan) : Type 0 where
  pub from : HasName words plan.from
  pub to : HasName words plan.to
  pub sketch : HasName words (file_opening 0)
