-- No test of a sub-vector's replies has the end of the link as its reason.
use Rattle.std.proofs.Common.{◌≡◌, ◌≢◌, ℕ, Bool, true, false, ◌&&◌, Result, Ok, Err, List, [], ◌∷◌}
use Rattle.std.proofs.Common.{◌++◌, length, refl, ap, ◌∙◌}
use Rattle.std.specs.Prelude.{nat_lt}
use Rattle.std.specs.List.{list_all}
use Rattle.sip_vector.specs.declared.update.Entry.{Entry}
use Rattle.sip_vector.specs.Answers.{Answer, pairs, is_within}
use Rattle.sip_vector.specs.Steps.{◌>>=◌, needs}
use Rattle.sip_wire.specs.declared.message.Message.{Message}
use Rattle.sip_wire.specs.declared.message.Message.TheVariants as messages
use Rattle.sip_wire.specs.declared.message.Reason.{Reason}
use Rattle.sip_wire.specs.declared.message.Reason.TheVariants as reasons
use Rattle.sip_replies.specs.declared.check.More.{More}
use Rattle.sip_replies.specs.declared.check.More.TheVariants as mores
use Rattle.sip_replies.specs.LawProofs.Refusals.{same_err, wrong_kind}
use Rattle.sip_subvec.specs.AcceptsSub.{Siblings, Stated, gives_root}
use Rattle.sip_subvec.specs.Protocol.{SubAsked, at_level, entries_step, sub_protocol}
use Rattle.sip_subvec.specs.Replies.{with_entries, are_asked, most_entries}

-- ---- the tests of a frame

-- the two tests of one entry, and those of the entries behind it
by_tests : (order room : Bool) (r : Result (List Entry) Reason) (reason : Reason)
    → (r ≡ Err reason → reason ≢ reasons.Closed)
    → (needs order reasons.BadOrder >>= λ _. needs room reasons.TooMany >>= λ _. r) ≡ Err reason
    → reason ≢ reasons.Closed
by_tests true true r reason rest is c = rest is c
by_tests true false r reason rest is c =
    let f = same_err {X = List Entry} reasons.TooMany reason is in cc
by_tests false room r reason rest is c =
    let f = same_err {X = List Entry} reasons.BadOrder reason is in cc

-- the tests of entries
by_entries : (lo hi : ℕ) (before es : List Entry) (reason : Reason) → with_entries lo hi before es
    ≡ Err reason → reason ≢ reasons.Closed
by_entries lo hi before [] reason is = absurd cc
by_entries lo hi before (e ∷ es) reason is =
    by_tests (is_within lo hi e.index && list_all (λ b. nat_lt b.index e.index) before)
    (nat_lt (length before) most_entries) (with_entries lo hi (before ++ e ∷ []) es) reason
    (by_entries lo hi (before ++ e ∷ []) es reason) is

-- those of a frame of entries in reply 0
by_all : (lo hi : ℕ) (before es : List Entry) (r : Result (List Entry) Reason)
    → with_entries lo hi before es ≡ r → (reason : Reason)
    → ◌≡◌ {A = Result (More × Stated) Reason} (r
    >>= λ all. Ok (mores.Due, record { entries = all; siblings = [] })) (Err reason)
    → reason ≢ reasons.Closed
by_all lo hi before es (Ok all) is reason e = absurd cc
by_all lo hi before es (Err other) is reason e =
    let f = same_err {X = More × Stated} other reason e in
    by_entries lo hi before es reason (is ∙ ap (λ (r : Reason). Err r) f)

-- those of a frame of entries
by_frame : (lo hi : ℕ) (xs : List Siblings) (before es : List Entry) (reason : Reason)
    → entries_step lo hi xs before es ≡ Err reason → reason ≢ reasons.Closed
by_frame lo hi [] before es reason e = by_all lo hi before es
    (with_entries lo hi before es) refl reason e
by_frame lo hi (x ∷ xs) before es reason e = wrong_kind {X = More × Stated} reason e

-- the test of siblings
by_flags : (test : Bool) (given : Siblings) (s : Stated) (reason : Reason)
    → ◌≡◌ {A = Result (More × Stated) Reason} ((needs test reasons.BadFlags >>= λ _. Ok given)
    >>= λ x. Ok (mores.Complete, record s { siblings = s.siblings ++ x ∷ [] })) (Err reason)
    → reason ≢ reasons.Closed
by_flags true given s reason e c = absurd cc
by_flags false given s reason e c =
    let f = same_err {X = More × Stated} reasons.BadFlags reason e in cc

-- no frame's test
pub sub_tests : (asked : SubAsked) (s : Stated) (m : Message) (reason : Reason)
    → (sub_protocol asked).rules.step s m ≡ Err reason → reason ≢ reasons.Closed
sub_tests asked s
    (messages.Entries es) reason e =
    by_frame asked.lo asked.hi s.siblings s.entries es.items reason e
sub_tests asked s (messages.Siblings left right) reason e =
    by_flags (are_asked (at_level s.siblings asked.lo) (at_level s.siblings asked.hi)
    (record { left = left; right = right })) (record { left = left; right = right }) s reason e
sub_tests asked s (messages.Refuse code) reason e = λ c.
    (let f = same_err {X = More × Stated} (reasons.Refused code) reason e in cc)
sub_tests asked s (messages.Open version depth) reason e = wrong_kind {X = More × Stated} reason e
sub_tests asked s (messages.Updates us) reason e = wrong_kind {X = More × Stated} reason e
sub_tests asked s messages.EndStream reason e = wrong_kind {X = More × Stated} reason e
sub_tests asked s (messages.Query q) reason e = wrong_kind {X = More × Stated} reason e
sub_tests asked s (messages.Reveal r) reason e = wrong_kind {X = More × Stated} reason e
sub_tests asked s messages.Bye reason e = wrong_kind {X = More × Stated} reason e
sub_tests asked s (messages.Claim v) reason e = wrong_kind {X = More × Stated} reason e
sub_tests asked s (messages.Poly a b c) reason e = wrong_kind {X = More × Stated} reason e
sub_tests asked s (messages.Leaves v) reason e = wrong_kind {X = More × Stated} reason e
sub_tests asked s (messages.Nodes v) reason e = wrong_kind {X = More × Stated} reason e
sub_tests asked s messages.LevelEnd reason e = wrong_kind {X = More × Stated} reason e
sub_tests asked s (messages.AskLook code item) reason e = wrong_kind {X = More × Stated} reason e
sub_tests asked s (messages.Found flag index) reason e = wrong_kind {X = More × Stated} reason e
sub_tests asked s messages.End reason e = wrong_kind {X = More × Stated} reason e
sub_tests asked s (messages.AskMoment side degree) reason e =
    wrong_kind {X = More × Stated} reason e
sub_tests asked s (messages.Held held) reason e = wrong_kind {X = More × Stated} reason e
sub_tests asked s (messages.Recall count) reason e = wrong_kind {X = More × Stated} reason e
sub_tests asked s (messages.Marks v) reason e = wrong_kind {X = More × Stated} reason e
sub_tests asked s (messages.Power v) reason e = wrong_kind {X = More × Stated} reason e

-- ---- the test behind the last reply

by_root : (test : Bool) (es : List Entry) (reason : Reason)
    → ◌≡◌ {A = Result Answer Reason} (needs test reasons.Root >>= λ _. Ok (pairs es)) (Err reason)
    → reason ≢ reasons.Closed
by_root true es reason e c = absurd cc
by_root false es reason e c = let f = same_err {X = Answer} reasons.Root reason e in cc

-- and not the test of the root
pub sub_ends : (asked : SubAsked) (s : Stated) (reason : Reason) → (sub_protocol asked).finish s
    ≡ Err reason → reason ≢ reasons.Closed
sub_ends asked s reason e = by_root
    (gives_root asked.modulus asked.root asked.lo asked.hi asked.challenges s) s.entries reason e
