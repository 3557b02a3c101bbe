-- What is accepted, by whether the answer is known without a reply.
use Rattle.std.proofs.Common.{◌≡◌, ℕ, Option, Some, None, List, [], subst}
use Rattle.sip_vector.specs.Answers.{Answer}
use Rattle.sip_replies.specs.Protocols.{Protocol}
use Rattle.sip_replies.specs.Replies.{IsAccepted, IsStated}

module _ {S : Type 0} (P : Protocol S) (rs : List ℕ) (replies : List (List ℕ)) (answer : Answer) where
  abbrev accepted_where : Option Answer → Type 0
  accepted_where unasked = elim unasked [
    | None ↦ IsStated P rs replies answer
    | Some known ↦ (replies ≡ []) × (answer ≡ known)
  ]

  -- where replies are asked for, they state the answer
  pub accepted_asked : P.unasked ≡ None → IsAccepted P rs replies answer → IsStated P rs replies answer
  accepted_asked e h = subst accepted_where e h

  -- where none is, there is none
  pub accepted_unasked : (known : Answer) → P.unasked ≡ Some known → IsAccepted P rs replies answer → (replies ≡ []) × (answer ≡ known)
  accepted_unasked known e h = subst accepted_where e h
