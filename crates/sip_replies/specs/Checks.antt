-- What a check's calls did.
use Rattle.std.specs.Prelude.{◌≡◌, List, take, Result, Ok, Err}
use Rattle.sip_vector.specs.declared.update.Entry.{Entry}
use Rattle.sip_vector.specs.Answers.{Answer, pairs, number}
use Rattle.sip_wire.specs.declared.message.Reason.{Reason}
use Rattle.sip_replies.specs.declared.check.More.{More}
use Rattle.sip_replies.specs.declared.check.Said.{Said}
use Rattle.sip_replies.specs.declared.check.Said.TheVariants as saids

-- a call answers as the definition's step does; where that passes, `Stands` holds of what it gives
abbrev pub Steps : {S : Type 0} → Result (More × S) Reason → (S → Type 0) → Result More Reason
    → Type 0
Steps (Ok x) Stands result = (result ≡ Ok x.0) × Stands x.1
Steps (Err reason) Stands result = result ≡ Err reason

-- the answer that is said, where these are the places of its pairs
abbrev pub answer_of : List Entry → Said → Answer
answer_of places (saids.Number n) = number n
answer_of places (saids.Pairs found) = pairs (take found places)

abbrev pub answered : List Entry → Result Said Reason → Result Answer Reason
answered places (Ok said) = Ok (answer_of places said)
answered places (Err reason) = Err reason
