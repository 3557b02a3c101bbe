-- No test of a sum's replies has the end of the link as its reason.
use Rattle.std.proofs.Common.{◌≡◌, ◌≢◌, ℕ, Bool, true, false, ℤ, Option, Some, None, Result, Ok}
use Rattle.std.proofs.Common.{Err}
use Rattle.std.specs.Prelude.{◌==◌}
use Rattle.sip_vector.specs.Answers.{Answer, number}
use Rattle.sip_vector.specs.Steps.{◌>>=◌, needs}
use Rattle.sip_wire.specs.declared.message.Message.{Message}
use Rattle.sip_wire.specs.declared.message.Message.TheVariants as messages
use Rattle.sip_wire.specs.declared.message.Reason.{Reason}
use Rattle.sip_wire.specs.declared.message.Reason.TheVariants as reasons
use Rattle.sip_replies.specs.declared.check.More.{More}
use Rattle.sip_replies.specs.declared.check.More.TheVariants as mores
use Rattle.sip_replies.specs.LawProofs.Refusals.{same_err, wrong_kind}
use Rattle.sip_sums.specs.AcceptsSum.{Coefficients, sum_of_ends}
use Rattle.sip_sums.specs.Protocol.{SumAsked, SumState, claim_step, claimed, poly_step}
use Rattle.sip_sums.specs.Protocol.{sum_protocol}

-- ---- the tests of a frame

-- that of a claim
by_claim : (p : ℕ) (s : SumState) (before : Option ℤ) (claim : ℤ) (reason : Reason)
    → claim_step p s before claim ≡ Err reason → reason ≢ reasons.Closed
by_claim p s None claim reason e c = absurd cc
by_claim p s (Some before) claim reason e c = wrong_kind {X = More × SumState} reason e c

-- that of the values at 0 and 1
by_sum : (test : Bool) (s : SumState) (reason : Reason)
    → ◌≡◌ {A = Result (More × SumState) Reason} (needs test reasons.Sum
    >>= λ _. Ok (mores.Complete, s)) (Err reason)
    → reason ≢ reasons.Closed
by_sum true s reason e c = absurd cc
by_sum false s reason e c = let f = same_err {X = More × SumState} reasons.Sum reason e in cc

-- those of a polynomial
by_poly : (p : ℕ) (s : SumState) (claim : Option ℤ) (x : Coefficients) (reason : Reason)
    → poly_step p s claim x ≡ Err reason → reason ≢ reasons.Closed
by_poly p s None x reason e = wrong_kind {X = More × SumState} reason e
by_poly p s (Some claim) x reason e =
    by_sum (sum_of_ends p x == s.expected) (record s { last = x }) reason e

-- no frame's test
pub sum_tests : (asked : SumAsked) (s : SumState) (m : Message) (reason : Reason)
    → (sum_protocol asked).rules.step s m ≡ Err reason → reason ≢ reasons.Closed
sum_tests asked s (messages.Claim claim) reason e =
    by_claim asked.modulus s s.claim claim reason e
sum_tests asked s (messages.Poly c0 c1 c2) reason e =
    by_poly asked.modulus s s.claim (record { c0 = c0; c1 = c1; c2 = c2 }) reason e
sum_tests asked s (messages.Refuse code) reason e = λ c.
    (let f = same_err {X = More × SumState} (reasons.Refused code) reason e in cc)
sum_tests asked s (messages.Open version depth) reason e = wrong_kind {X = More × SumState} reason e
sum_tests asked s (messages.Updates us) reason e = wrong_kind {X = More × SumState} reason e
sum_tests asked s messages.EndStream reason e = wrong_kind {X = More × SumState} reason e
sum_tests asked s (messages.Query q) reason e = wrong_kind {X = More × SumState} reason e
sum_tests asked s (messages.Reveal r) reason e = wrong_kind {X = More × SumState} reason e
sum_tests asked s messages.Bye reason e = wrong_kind {X = More × SumState} reason e
sum_tests asked s (messages.Entries v) reason e = wrong_kind {X = More × SumState} reason e
sum_tests asked s (messages.AskLook code item) reason e = wrong_kind {X = More × SumState} reason e
sum_tests asked s (messages.Found flag index) reason e = wrong_kind {X = More × SumState} reason e
sum_tests asked s messages.End reason e = wrong_kind {X = More × SumState} reason e
sum_tests asked s (messages.AskMoment side degree) reason e =
    wrong_kind {X = More × SumState} reason e
sum_tests asked s (messages.Held held) reason e = wrong_kind {X = More × SumState} reason e
sum_tests asked s (messages.Recall count) reason e = wrong_kind {X = More × SumState} reason e
sum_tests asked s (messages.Marks v) reason e = wrong_kind {X = More × SumState} reason e
sum_tests asked s (messages.Power v) reason e = wrong_kind {X = More × SumState} reason e
sum_tests asked s (messages.Siblings left right) reason e =
    wrong_kind {X = More × SumState} reason e
sum_tests asked s (messages.Leaves v) reason e = wrong_kind {X = More × SumState} reason e
sum_tests asked s (messages.Nodes v) reason e = wrong_kind {X = More × SumState} reason e
sum_tests asked s messages.LevelEnd reason e = wrong_kind {X = More × SumState} reason e

-- ---- the test behind the last reply

by_root : (test : Bool) (claim : ℤ) (reason : Reason)
    → ◌≡◌ {A = Result Answer Reason} (needs test reasons.Root >>= λ _. Ok (number claim))
    (Err reason)
    → reason ≢ reasons.Closed
by_root true claim reason e c = absurd cc
by_root false claim reason e c = let f = same_err {X = Answer} reasons.Root reason e in cc

by_end : (asked : SumAsked) (s : SumState) (claim : Option ℤ) (reason : Reason)
    → claimed asked s claim ≡ Err reason → reason ≢ reasons.Closed
by_end asked s None reason e c = let f = same_err {X = Answer} reasons.Root reason e in cc
by_end asked s (Some claim) reason e c = by_root (s.expected == asked.product) claim reason e c

-- and not the test of the product
pub sum_ends : (asked : SumAsked) (s : SumState) (reason : Reason)
    → (sum_protocol asked).finish s ≡ Err reason → reason ≢ reasons.Closed
sum_ends asked s reason e = by_end asked s s.claim reason e
