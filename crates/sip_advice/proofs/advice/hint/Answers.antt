-- Of the other statuses the line follows from what is said of the status, or from a file.
use Rattle.std.proofs.Common.{◌≡◌, ℕ, List, MatchOption, Option, refl}
use Rattle.sip_stream.specs.declared.why.Why.{Why}
use Rattle.sip_verifier.specs.declared.status.Status.{Status}
use Rattle.sip_verifier.specs.declared.status.Status.TheVariants as statuses
use Rattle.sip_advice.specs.declared.noted.Noted.{Noted}
use Rattle.sip_advice.specs.Hints.{IsFileHint, IsHint, status_hint}
use Rattle.sip_advice.specs.Noting.{cause_of}
use Rattle.sip_advice.proofs.advice.hint.Goals as goal

-- what a file or the status says is the hint, where no word is refused and no record
as_other : {L : Type 0} (items : L → List ℕ) (words : List (List ℕ)) (noted : Noted) (status : Status) (line : Option L)
    → ((n : ℕ) → status ≡ statuses.Usage n → ⊥) → ((at : ℕ) (why : Why) → status ≡ statuses.BadStream at why → ⊥)
    → MatchOption line ((text : List ℕ) → IsFileHint words (cause_of noted status) (status_hint status) text → ⊥) (λ l. IsFileHint words (cause_of noted status) (status_hint status) (items l))
    → MatchOption line ((text : List ℕ) → IsHint words noted status text → ⊥) (λ l. IsHint words noted status (items l))
as_other items words noted (statuses.Usage n) line usage stream is = absurd (usage n refl)
as_other items words noted (statuses.BadStream at why) line usage stream is = absurd (stream at why refl)
as_other items words noted _ line usage stream is = is

pub returns-in-BadStream : goal.returns-in-BadStream
returns-in-BadStream c = rw c.in-BadStream.is (c.stream_line.ensures c.args.noted.now)

pub returns-in_default : goal.returns-in_default
returns-in_default c =
    as_other (λ line. line.items) c.args.words.now c.args.noted.now c.args.status.now c.other_line.result c.in_default.not-Usage c.in_default.not-BadStream
    (rw c.cause_of.ensures at c.other_line.ensures)
