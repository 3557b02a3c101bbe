-- The words of `ask` name the files that it opens.
use Rattle.std.proofs.Common.{ℕ, ◌<◌, List, length, sym, refl, subst, inl, inr, arith}
use Rattle.sip_words.specs.declared.plan.Opening.{Opening}
use Rattle.sip_words.specs.Plan.{HasName, IsEnd}
use Rattle.sip_words.specs.Words.{word}
use Rattle.sip_questions.specs.declared.question.Question.{Question}
use Rattle.sip_keeping.specs.AskPlan.{AskIsNamed, OpensAsk}
use Rattle.sip_keeping.specs.AskWords.{SpellsAsk}
use Rattle.sip_keeping.specs.declared.ask_plan.AskPlan.{AskPlan}
use Rattle.sip_keeping.proofs.AskRead.{long_ask}

-- an end of the link is a file that word 2 names, or a standard stream
end_named : (words : List (List ℕ)) (opening : Opening) → 2 < length words → IsEnd (word words 2) 2 opening → HasName words opening
end_named words opening long (inl (dash, is)) = subst (HasName words) (sym is) tt
end_named words opening long (inr (other, is)) = subst (HasName words) (sym is) (long, inl refl)

pub long_enough : (words : List (List ℕ)) → ((asked : List Question) × SpellsAsk asked words) → 3 < length words
long_enough words (asked, s) = let long = long_ask asked words s in omega arith

pub all_named : (words : List (List ℕ)) (plan : AskPlan) → ((asked : List Question) × SpellsAsk asked words) → OpensAsk words plan → AskIsNamed words plan
all_named words plan spelled opens =
    let long = long_enough words spelled in
    record {
      from = end_named words plan.from (omega arith) opens.from;
      to = subst (HasName words) (sym opens.to) (long, inl refl);
      sketch = (omega arith, inl refl);
    }
