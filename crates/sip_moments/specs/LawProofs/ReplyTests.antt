-- No test of a moment's replies has the end of the link as its reason.
use Rattle.std.proofs.Common.{◌≡◌, ◌≢◌, ℕ, ◌+◌, Bool, true, false, ℤ, List, length, Option, Some}
use Rattle.std.proofs.Common.{None, Result, Ok, Err}
use Rattle.std.specs.Prelude.{◌==◌}
use Rattle.sip_vector.specs.Answers.{Answer, number}
use Rattle.sip_vector.specs.Steps.{◌>>=◌, needs}
use Rattle.sip_wire.specs.declared.message.Message.{Message}
use Rattle.sip_wire.specs.declared.message.Message.TheVariants as messages
use Rattle.sip_wire.specs.declared.message.Reason.{Reason}
use Rattle.sip_wire.specs.declared.message.Reason.TheVariants as reasons
use Rattle.sip_counts.specs.Rounds.{sum_of_ends}
use Rattle.sip_replies.specs.declared.check.More.{More}
use Rattle.sip_replies.specs.declared.check.More.TheVariants as mores
use Rattle.sip_replies.specs.LawProofs.Refusals.{same_err, wrong_kind}
use Rattle.sip_moments.specs.Protocol.{MomentAsked, MomentState, claim_step, claimed}
use Rattle.sip_moments.specs.Protocol.{moment_protocol, power_step}

-- ---- the tests of a frame

-- that of a claim
by_claim : (p : ℕ) (s : MomentState) (before : Option ℤ) (claim : ℤ) (reason : Reason)
    → claim_step p s before claim ≡ Err reason → reason ≢ reasons.Closed
by_claim p s None claim reason e c = absurd cc
by_claim p s (Some before) claim reason e c = wrong_kind {X = More × MomentState} reason e c

-- those of the number of coefficients, and of the values at 0 and 1
by_tests : (long adds : Bool) (s : MomentState) (reason : Reason)
    → ◌≡◌ {A = Result (More × MomentState) Reason} (needs long reasons.BadLength
    >>= λ _. needs adds reasons.Sum >>= λ _. Ok (mores.Complete, s)) (Err reason)
    → reason ≢ reasons.Closed
by_tests true true s reason e c = absurd cc
by_tests true false s reason e c =
    let f = same_err {X = More × MomentState} reasons.Sum reason e in cc
by_tests false adds s reason e c =
    let f = same_err {X = More × MomentState} reasons.BadLength reason e in cc

-- those of a polynomial
by_power : (p k : ℕ) (s : MomentState) (claim : Option ℤ) (x : List ℕ) (reason : Reason)
    → power_step p k s claim x ≡ Err reason → reason ≢ reasons.Closed
by_power p k s None x reason e = wrong_kind {X = More × MomentState} reason e
by_power p k s (Some claim) x reason e =
    by_tests (length x == k + 1) (sum_of_ends p x == s.expected) (record s { last = x }) reason e

-- no frame's test
pub moment_tests : (asked : MomentAsked) (s : MomentState) (m : Message) (reason : Reason)
    → (moment_protocol asked).rules.step s m ≡ Err reason → reason ≢ reasons.Closed
moment_tests asked s (messages.Claim claim) reason e =
    by_claim asked.modulus s s.claim claim reason e
moment_tests asked s (messages.Power c) reason e =
    by_power asked.modulus asked.degree s s.claim c.items reason e
moment_tests asked s (messages.Refuse code) reason e = λ c.
    (let f = same_err {X = More × MomentState} (reasons.Refused code) reason e in cc)
moment_tests asked s (messages.Open version depth) reason e =
    wrong_kind {X = More × MomentState} reason e
moment_tests asked s (messages.Updates us) reason e = wrong_kind {X = More × MomentState} reason e
moment_tests asked s messages.EndStream reason e = wrong_kind {X = More × MomentState} reason e
moment_tests asked s (messages.Query q) reason e = wrong_kind {X = More × MomentState} reason e
moment_tests asked s (messages.Reveal r) reason e = wrong_kind {X = More × MomentState} reason e
moment_tests asked s messages.Bye reason e = wrong_kind {X = More × MomentState} reason e
moment_tests asked s (messages.Poly c0 c1 c2) reason e =
    wrong_kind {X = More × MomentState} reason e
moment_tests asked s (messages.Entries v) reason e = wrong_kind {X = More × MomentState} reason e
moment_tests asked s (messages.AskLook code item) reason e =
    wrong_kind {X = More × MomentState} reason e
moment_tests asked s (messages.Found flag index) reason e =
    wrong_kind {X = More × MomentState} reason e
moment_tests asked s messages.End reason e = wrong_kind {X = More × MomentState} reason e
moment_tests asked s (messages.AskMoment side degree) reason e =
    wrong_kind {X = More × MomentState} reason e
moment_tests asked s (messages.Held held) reason e =
    wrong_kind {X = More × MomentState} reason e
moment_tests asked s (messages.Recall count) reason e =
    wrong_kind {X = More × MomentState} reason e
moment_tests asked s (messages.Marks v) reason e =
    wrong_kind {X = More × MomentState} reason e
moment_tests asked s (messages.Siblings left right) reason e =
    wrong_kind {X = More × MomentState} reason e
moment_tests asked s (messages.Leaves v) reason e = wrong_kind {X = More × MomentState} reason e
moment_tests asked s (messages.Nodes v) reason e = wrong_kind {X = More × MomentState} reason e
moment_tests asked s messages.LevelEnd reason e = wrong_kind {X = More × MomentState} reason e

-- ---- the test behind the last reply

by_root : (test : Bool) (claim : ℤ) (reason : Reason)
    → ◌≡◌ {A = Result Answer Reason} (needs test reasons.Root >>= λ _. Ok (number claim))
    (Err reason)
    → reason ≢ reasons.Closed
by_root true claim reason e c = absurd cc
by_root false claim reason e c = let f = same_err {X = Answer} reasons.Root reason e in cc

by_end : (asked : MomentAsked) (s : MomentState) (claim : Option ℤ) (reason : Reason)
    → claimed asked s claim ≡ Err reason → reason ≢ reasons.Closed
by_end asked s None reason e c = let f = same_err {X = Answer} reasons.Root reason e in cc
by_end asked s (Some claim) reason e c = by_root (s.expected == asked.power) claim reason e c

-- and not the test of the power
pub moment_ends : (asked : MomentAsked) (s : MomentState) (reason : Reason)
    → (moment_protocol asked).finish s ≡ Err reason → reason ≢ reasons.Closed
moment_ends asked s reason e = by_end asked s s.claim reason e
