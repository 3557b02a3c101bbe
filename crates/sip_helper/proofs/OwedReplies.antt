-- What replies are owed in a talk that keeps to the turns.
use Rattle.std.proofs.Common.{◌≡◌, ◌≢◌, ℕ, ◌+◌, ◌<◌, Bool, true, false, not, IsTrue, List, [], ◌∷◌, ◌++◌, length, Option, Some, None, refl, sym, ap, ◌∙◌, subst, append_assoc, append-nil, arith, length-append}
use Rattle.std.specs.Prelude.{is_some, nat_le, if◌then◌else◌, ◌||◌}
use Rattle.std.specs.List.{flat_map}
use Rattle.std.specs.Option.{option_and_then, option_map}
use Rattle.std.proofs.lemmas.Bool.Decides.{nat_tests}
use Rattle.std.proofs.lemmas.List.Sums.{fold-append}
use Rattle.sip_vector.specs.declared.query.Query.{Query}
use Rattle.sip_vector.specs.declared.query.Query.TheVariants.{Sub, Range, F2, Inner, Heavy, Share, Above}
use Rattle.sip_vector.specs.declared.update.Update.{Update}
use Rattle.sip_vector.specs.declared.update.Side.TheVariants.{First, Second}
use Rattle.sip_vector.specs.Vectors.{with_update}
use Rattle.sip_vector.proofs.Sides.{fold-with_update}
use Rattle.sip_wire.specs.declared.message.Message.{Message}
use Rattle.sip_wire.specs.declared.message.Message.TheVariants as messages
use Rattle.sip_wire.specs.declared.version.Version.{Version}
use Rattle.sip_wire.specs.Spelling.{spelling}
use Rattle.sip_wire.proofs.ReadingLaws.{length-spelling}
use Rattle.sip_heavy.specs.Honest.{honest_messages as heavy_messages}
use Rattle.sip_subvec.specs.Honest.{honest_messages as sub_messages}
use Rattle.sip_sums.specs.Honest.{honest_messages as sum_messages}
use Rattle.sip_helper.specs.declared.heard.Heard.TheVariants.{Whole}
use Rattle.sip_helper.specs.Kinds.{help_row}
use Rattle.sip_helper.specs.KindRows.{HelpRow, out_of_turn, refusal, reply_by, want_of_memory}
use Rattle.sip_helper.specs.Streams.{challenges_heard, query_heard, stream_heard, updates_heard, vectors_of}
use Rattle.sip_helper.specs.Turns.{HelperState, OpenQuery, after_answer, after_reply, depth_of, fresh, is_refused, owed, owes, reply_to, step, version_opened, with_challenge, with_updates, zero_vectors}
use Rattle.sip_helper.specs.Vectors.{Vectors}

-- ---- the stream

-- updates that are added one piece after another are added at once
pub added_again : (v : Vectors) (us more : List Update) → with_updates (with_updates v us) more ≡ with_updates v (us ++ more)
added_again v us more = rw (fold-append (with_update First) v.first us more, fold-append (with_update Second) v.second us more) refl

-- updates in pieces are all of them, one after another
heard_vectors : (s : HelperState) (v : Vectors) (pieces : List (List Update)) → s.vectors ≡ Some v → (updates_heard s pieces).vectors ≡ Some (with_updates v (flat_map (λ us. us) pieces))
heard_vectors s v [] e = e
heard_vectors s v (us ∷ pieces) e =
    heard_vectors (step s false (messages.Updates (record { items = us }))) (with_updates v us) pieces (ap (option_map (λ x. with_updates x us)) e)
    ∙ ap Some (added_again v us (flat_map (λ x. x) pieces))

-- what is added to nothing
pub from_zero : (depth : ℕ) (us : List Update) → with_updates (zero_vectors depth) us ≡ vectors_of depth us
from_zero depth us = rw (fold-with_update depth us First, fold-with_update depth us Second) refl

-- the vectors of a stream
pub stream_vectors : (number depth : ℕ) (pieces : List (List Update)) → (stream_heard number depth pieces).vectors ≡ Some (vectors_of depth (flat_map (λ us. us) pieces))
stream_vectors number depth pieces =
    heard_vectors (step fresh false (messages.Open number depth)) (zero_vectors depth) pieces refl ∙ ap Some (from_zero depth (flat_map (λ x. x) pieces))

-- updates change neither the depth nor the version
heard_depth : (s : HelperState) (pieces : List (List Update)) → (updates_heard s pieces).heard ≡ s.heard
heard_depth s [] = refl
heard_depth s (us ∷ pieces) = heard_depth (step s false (messages.Updates (record { items = us }))) pieces

heard_version : (s : HelperState) (pieces : List (List Update)) → (updates_heard s pieces).version ≡ s.version
heard_version s [] = refl
heard_version s (us ∷ pieces) = heard_version (step s false (messages.Updates (record { items = us }))) pieces

-- ---- a query

-- a query that is open, and whose reply is owed
abbrev pub due : Query → List ℕ → OpenQuery
due q revealed = record { query = q; revealed = revealed; given = false; refused = false }

-- its reply, where its row does not refuse it
pub owed_honest : (s : HelperState) (v : Vectors) (q : Query) (revealed : List ℕ) → s.vectors ≡ Some v → s.open_query ≡ Some (due q revealed) → (help_row q).refused_by v ≡ None
    → owed s ≡ flat_map (spelling s.version) ((help_row q).honest v revealed)
owed_honest s v q revealed ev eo none = ap (flat_map (spelling s.version)) (said s.vectors s.open_query ev eo)
  where
    said : (vectors : Option Vectors) (standing : Option OpenQuery) → vectors ≡ Some v → standing ≡ Some (due q revealed) → elim standing [ Some o ↦ if o.given then [] else reply_to vectors o | None ↦ [] ] ≡ (help_row q).honest v revealed
    said vectors standing ev eo =
        ap (λ o. elim o [ Some o ↦ if o.given then [] else reply_to vectors o | None ↦ [] ]) eo
        ∙ ap (λ x. reply_to x (due q revealed)) ev
        ∙ ap (λ r. elim r [ Some code ↦ refusal code | None ↦ (help_row q).honest v revealed ]) none

pub left_above : (n m : ℕ) → n < m → nat_le m n ≡ false
left_above n m less = grind (arith, nat_tests)

-- it stays open behind its reply and a challenge, where a level is left
pub next_due : (s : HelperState) (depth : ℕ) (v : Vectors) (q : Query) (revealed : List ℕ) (r : ℕ) → s.heard ≡ Whole depth → s.vectors ≡ Some v → s.open_query ≡ Some (due q revealed) → (help_row q).refused_by v ≡ None → length revealed + 1 < depth
    → (step (after_answer s) false (messages.Reveal r)).open_query ≡ Some (due q (revealed ++ r ∷ []))
next_due s depth v q revealed r eh ev eo none more =
    ap (λ x. option_map (with_challenge r) (option_and_then (after_reply (depth_of x) s.vectors) s.open_query)) eh
    ∙ ap (λ x. option_map (with_challenge r) (option_and_then (after_reply depth x) s.open_query)) ev
    ∙ ap (λ x. option_map (with_challenge r) (option_and_then (after_reply depth (Some v)) x)) eo
    ∙ ap (λ x. option_map (with_challenge r) (if is_some x || nat_le depth (length revealed + 1) then None else Some (record (due q revealed) { given = true }))) none
    ∙ ap (λ x. option_map (with_challenge r) (if x then None else Some (record (due q revealed) { given = true }))) (left_above (length revealed + 1) depth more)

replies_owed : (s : HelperState) (depth : ℕ) (v : Vectors) (q : Query) (before revealed : List ℕ) → s.heard ≡ Whole depth → s.vectors ≡ Some v → s.open_query ≡ Some (due q before) → (help_row q).refused_by v ≡ None → length before + length revealed < depth
    → owed (challenges_heard s revealed) ≡ flat_map (spelling s.version) ((help_row q).honest v (before ++ revealed))
replies_owed s depth v q before [] eh ev eo none less = owed_honest s v q before ev eo none ∙ ap (λ l. flat_map (spelling s.version) ((help_row q).honest v l)) (sym (append-nil before))
replies_owed s depth v q before (r ∷ revealed) eh ev eo none less =
    replies_owed (step (after_answer s) false (messages.Reveal r)) depth v q (before ++ r ∷ []) revealed eh ev (next_due s depth v q before r eh ev eo none (omega (arith, less))) none (omega (arith, less, length-append before (r ∷ [])))
    ∙ ap (λ l. flat_map (spelling s.version) ((help_row q).honest v l)) (append_assoc before (r ∷ []) revealed)

-- the honest replies of a stream's own vectors are owed
pub stream_replies : (number depth : ℕ) (pieces : List (List Update)) (q : Query) (revealed : List ℕ) → length revealed < depth → (help_row q).refused_by (vectors_of depth (flat_map (λ us. us) pieces)) ≡ None
    → owed (query_heard (stream_heard number depth pieces) q revealed) ≡ flat_map (spelling (version_opened number)) ((help_row q).honest (vectors_of depth (flat_map (λ us. us) pieces)) revealed)
stream_replies number depth pieces q revealed less none =
    replies_owed (step (stream_heard number depth pieces) false (messages.Query q)) depth (vectors_of depth (flat_map (λ us. us) pieces)) q [] revealed
    (ap (λ h. Whole (depth_of h)) (heard_depth (step fresh false (messages.Open number depth)) pieces)) (stream_vectors number depth pieces) refl none (omega (arith, less))
    ∙ ap (λ w. flat_map (spelling w) ((help_row q).honest (vectors_of depth (flat_map (λ us. us) pieces)) revealed)) (heard_version (step fresh false (messages.Open number depth)) pieces)

-- ---- refusals

-- what stays open behind a reply was not refused, and is the same query
kept_by : (given refused last : Bool) (p o : OpenQuery) → given ≡ false → (if given then Some p else if refused || last then None else Some (record p { given = true })) ≡ Some o
    → (refused ≡ false) × (o ≡ record p { given = true })
kept_by true refused last p o owed kept = absurd cc
kept_by false true last p o owed kept = absurd cc
kept_by false false true p o owed kept = absurd cc
kept_by false false false p o owed kept = (refl, let same : Some o ≡ Some (record p { given = true }) = sym kept in cc)

-- whether a query is refused depends on neither its challenges nor its replies
given_refused : (vectors : Option Vectors) (p : OpenQuery) → is_refused vectors (record p { given = true }) ≡ is_refused vectors p
given_refused None p = refl
given_refused (Some v) p = refl

revealed_refused : (vectors : Option Vectors) (p : OpenQuery) (r : ℕ) → is_refused vectors (with_challenge r p) ≡ is_refused vectors p
revealed_refused None p r = refl
revealed_refused (Some v) p r = refl

not_given : (given : Bool) → IsTrue (not given) → given ≡ false
not_given true h = absurd cc
not_given false h = refl

kept_open : (depth : ℕ) (vectors : Option Vectors) (standing : Option OpenQuery) (o : OpenQuery) → IsTrue (elim standing [ Some p ↦ not p.given | None ↦ false ]) → option_and_then (after_reply depth vectors) standing ≡ Some o → is_refused vectors o ≡ false
kept_open depth vectors None o owed kept = absurd cc
kept_open depth vectors (Some p) o owed kept =
    let both = kept_by p.given (is_refused vectors p) (nat_le depth (length p.revealed + 1)) p o (not_given p.given owed) kept in
    ap (is_refused vectors) both.1 ∙ given_refused vectors p ∙ both.0

-- a query that is open once its reply was given was not refused
pub given_not_refused : (s : HelperState) (o : OpenQuery) → IsTrue (owes s) → (after_answer s).open_query ≡ Some o → is_refused s.vectors o ≡ false
given_not_refused s o owed kept = kept_open (depth_of s.heard) s.vectors s.open_query o owed kept

-- and neither is it behind a challenge
pub revealed_not_refused : (s : HelperState) (o now : OpenQuery) (refused : Bool) (r : ℕ) → s.open_query ≡ Some o → is_refused s.vectors o ≡ false → (step s refused (messages.Reveal r)).open_query ≡ Some now → is_refused s.vectors now ≡ false
revealed_not_refused s o now refused r e well is =
    let same : Some now ≡ Some (with_challenge r o) = sym is ∙ ap (option_map (with_challenge r)) e in
    let one : now ≡ with_challenge r o = cc in
    ap (is_refused s.vectors) one ∙ revealed_refused s.vectors o r ∙ well

-- ---- no reply is empty

said_something : (version : Version) (ms : List Message) → ms ≢ [] → flat_map (spelling version) ms ≢ []
said_something version [] some e = some refl
said_something version (m ∷ ms) some e = omega (arith, length-spelling version m, length-append (spelling version m) (flat_map (spelling version) ms), ap (λ (l : List ℕ). length l) e)

ends_in_one : (ms : List Message) (m : Message) → ms ++ m ∷ [] ≢ []
ends_in_one ms m e = omega (arith, length-append ms (m ∷ []), ap (λ (l : List Message). length l) e)

one_alone : (code : ℕ) → refusal code ≢ []
one_alone code e = cc

-- what a row says, a line for each kind
row_says : (q : Query) (v : Vectors) (revealed : List ℕ) → (help_row q).honest v revealed ≢ []
unfolding sub_messages sum_messages heavy_messages
row_says (Sub lo hi) v revealed = ends_in_one _ _
row_says (Range side lo hi) v revealed = ends_in_one _ _
row_says (F2 side) v revealed = ends_in_one _ _
row_says Inner v revealed = ends_in_one _ _
row_says (Heavy side n) v revealed = ends_in_one _ _
row_says (Share side n d) v revealed = ends_in_one _ _
row_says (Above side n) v revealed = one_alone out_of_turn

reply_says : (refused : Option ℕ) (row : HelpRow) (v : Vectors) (revealed : List ℕ) → row.honest v revealed ≢ [] → row.refused_by v ≡ refused → reply_by row v revealed ≢ []
reply_says (Some code) row v revealed some e = subst (λ r. elim r as (λ _. List Message) [ Some c ↦ refusal c | None ↦ row.honest v revealed ] ≢ []) (sym e) (one_alone code)
reply_says None row v revealed some e = subst (λ r. elim r as (λ _. List Message) [ Some c ↦ refusal c | None ↦ row.honest v revealed ] ≢ []) (sym e) some

open_says : (vectors : Option Vectors) (o : OpenQuery) (refused : Bool) → o.refused ≡ refused → reply_to vectors o ≢ []
open_says None o refused e = one_alone want_of_memory
open_says (Some v) o true e = rw e (one_alone want_of_memory)
open_says (Some v) o false e = rw e (reply_says _ (help_row o.query) v o.revealed (row_says o.query v o.revealed) refl)

due_says : (vectors : Option Vectors) (standing : Option OpenQuery) → IsTrue (elim standing [ Some p ↦ not p.given | None ↦ false ]) → (elim standing as (λ _. List Message) [ Some p ↦ if p.given then [] else reply_to vectors p | None ↦ [] ]) ≢ []
due_says vectors None is = absurd cc
due_says vectors (Some p) is = subst (λ b. (if b then [] else reply_to vectors p) ≢ []) (sym (not_given p.given is)) (open_says vectors p p.refused refl)

-- a reply that is owed has bytes
pub owed_has_bytes : (s : HelperState) → IsTrue (owes s) → owed s ≢ []
owed_has_bytes s is = said_something s.version _ (due_says s.vectors s.open_query is)
