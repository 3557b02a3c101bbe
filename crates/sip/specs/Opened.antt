-- What the program opens for an ask.
use Rattle.std.specs.Prelude.{◌≡◌, ◌⊎◌, ℕ, List}
use Rattle.sip_words.specs.Plan.{IsEnd}
use Rattle.sip_words.specs.Words.{word}
use Rattle.sip_words.specs.declared.plan.Opening.TheVariants.{Path, Spared}
use Rattle.sip_keeping.specs.declared.ask_plan.AskPlan.{AskPlan}

-- FROM is opened, and TO; or TO is spared
pub record OpensOrSpares (words : List (List ℕ)) (plan : AskPlan) : Type 0 where
  pub from : IsEnd (word words 2) 2 plan.from
  pub to : (plan.to ≡ Path 3 0) ⊎ (plan.to ≡ Spared)
