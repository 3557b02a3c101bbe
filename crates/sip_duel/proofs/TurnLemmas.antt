-- The steps of a helper as turns, the first one first: each message with the reply that is owed behind it.
use Rattle.std.proofs.Common.{◌≡◌, ◌≢◌, ◌⊎◌, ℕ, ◌+◌, Bool, true, false, not, IsTrue, List, [], ◌∷◌, ◌++◌, length, Option, Some, None, inl, inr, refl, sym, ap, ◌∙◌, subst, append_assoc, append-nil}
use Rattle.std.specs.Prelude.{⊤, nat_le, if◌then◌else◌, ◌||◌}
use Rattle.std.specs.Option.{option_and_then}
use Rattle.std.proofs.lemmas.Bool.{and_parts}
use Rattle.sip_wire.specs.declared.message.Message.{Message}
use Rattle.sip_wire.specs.declared.message.Message.TheVariants as messages
use Rattle.sip_wire.specs.Spelling.{spelling}
use Rattle.sip_helper.specs.declared.heard.Heard.{Heard as Hearing}
use Rattle.sip_helper.specs.declared.heard.Heard.TheVariants.{Nothing, Part, Whole}
use Rattle.sip_helper.specs.Serving.{IsMessage, Turn, heard_in, after_turn, state_after as state_behind}
use Rattle.sip_helper.specs.Turns.{HelperState, OpenQuery, fresh, is_allowed, step, owed, owes, reply_to, after_answer, after_reply, depth_of, is_refused}
use Rattle.sip_helper.specs.Vectors.{Vectors}
use Rattle.sip_helper.proofs.OwedReplies.{owed_has_bytes}
use Rattle.sip_duel.specs.Story.{Step, Heard, Answered, state_after, said, frames, AreSteps}

-- ---- nothing is owed

-- the query that is open, if one is, has its reply
abbrev pub IsSettled : Option OpenQuery → Type 0
IsSettled None = ⊤
IsSettled (Some o) = o.given ≡ true

settled_query : (depth : ℕ) (vectors : Option Vectors) (q : Option OpenQuery) → IsSettled q → option_and_then (after_reply depth vectors) q ≡ q
settled_query depth vectors None is = refl
settled_query depth vectors (Some o) is = ap (λ b. if b then Some o else if is_refused vectors o || nat_le depth (length o.revealed + 1) then None else Some (record o { given = true })) is

-- an answer changes nothing then
pub settled_state : (s : HelperState) → IsSettled s.open_query → after_answer s ≡ s
settled_state s is = ap (λ q. record s { open_query = q }) (settled_query (depth_of s.heard) s.vectors s.open_query is)

settled_messages : (vectors : Option Vectors) (q : Option OpenQuery) → IsSettled q → elim q as (λ _. List Message) [ Some o ↦ if o.given then [] else reply_to vectors o | None ↦ [] ] ≡ []
settled_messages vectors None is = refl
settled_messages vectors (Some o) is = ap (λ b. if b then [] else reply_to vectors o) is

-- and nothing is owed
pub settled_owed : (s : HelperState) → IsSettled s.open_query → owed s ≡ []
settled_owed s is = ap (λ ms. Rattle.std.specs.List.flat_map (spelling s.version) ms) (settled_messages s.vectors s.open_query is)

settles : (depth : ℕ) (vectors : Option Vectors) (o : OpenQuery) (given closed : Bool) → o.given ≡ given → (is_refused vectors o || nat_le depth (length o.revealed + 1)) ≡ closed → IsSettled (after_reply depth vectors o)
settles depth vectors o true closed e f = subst (λ b. IsSettled (if b then Some o else if is_refused vectors o || nat_le depth (length o.revealed + 1) then None else Some (record o { given = true }))) (sym e) e
settles depth vectors o false true e f = subst (λ b. IsSettled (if b then Some o else if is_refused vectors o || nat_le depth (length o.revealed + 1) then None else Some (record o { given = true }))) (sym e) (subst (λ b. IsSettled (if b then None else Some (record o { given = true }))) (sym f) tt)
settles depth vectors o false false e f = subst (λ b. IsSettled (if b then Some o else if is_refused vectors o || nat_le depth (length o.revealed + 1) then None else Some (record o { given = true }))) (sym e) (subst (λ b. IsSettled (if b then None else Some (record o { given = true }))) (sym f) refl)

answered_query : (depth : ℕ) (vectors : Option Vectors) (q : Option OpenQuery) → IsSettled (option_and_then (after_reply depth vectors) q)
answered_query depth vectors None = tt
answered_query depth vectors (Some o) = settles depth vectors o o.given (is_refused vectors o || nat_le depth (length o.revealed + 1)) refl refl

-- behind an answer nothing is owed
pub answered_settled : (s : HelperState) → IsSettled (after_answer s).open_query
answered_settled s = answered_query (depth_of s.heard) s.vectors s.open_query

pub answered_again : (s : HelperState) → after_answer (after_answer s) ≡ after_answer s
answered_again s = settled_state (after_answer s) (answered_settled s)

pub answered_owed : (s : HelperState) → owed (after_answer s) ≡ []
answered_owed s = settled_owed (after_answer s) (answered_settled s)

-- where nothing is owed by the test, the query has its reply
owes_not : (q : Option OpenQuery) → (elim q as (λ _. Bool) [ Some o ↦ not o.given | None ↦ false ]) ≡ false → IsSettled q
owes_not None e = tt
owes_not (Some o) e = by_given o.given refl e
  where
    by_given : (g : Bool) → o.given ≡ g → not o.given ≡ false → o.given ≡ true
    by_given true f n = f
    by_given false f n = absurd (let no : true ≡ false = sym (ap not f) ∙ n in cc)

-- ---- which messages may come

-- a query is open only behind the stream
abbrev pub IsBehind : HelperState → Type 0
IsBehind s = (o : OpenQuery) → s.open_query ≡ Some o → (depth : ℕ) × (s.heard ≡ Whole depth)

not_whole : (s : HelperState) (q : Option OpenQuery) → s.open_query ≡ q → IsBehind s → ((depth : ℕ) → s.heard ≢ Whole depth) → IsSettled q
not_whole s None e behind other = tt
not_whole s (Some o) e behind other = let whole = behind o e in absurd (other whole.0 whole.1)

-- a message but a farewell may come only where nothing is owed
allowed_settled : (s : HelperState) (m : Message) → IsBehind s → IsTrue (is_allowed s m) → (m ≡ messages.Bye) ⊎ IsSettled s.open_query
allowed_settled s (messages.Open number depth) behind may = inr (by_heard s.heard refl may)
  where
    by_heard : (h : Hearing) → s.heard ≡ h → IsTrue (elim h as (λ _. Bool) [ Nothing ↦ true | _ ↦ false ]) → IsSettled s.open_query
    by_heard Nothing e may = not_whole s s.open_query refl behind (λ d f. let other : Nothing ≡ Whole d = sym e ∙ f in cc)
    by_heard (Part d) e may = absurd cc
    by_heard (Whole d) e may = absurd cc
allowed_settled s (messages.Updates us) behind may = inr (by_heard s.heard refl may)
  where
    by_heard : (h : Hearing) → s.heard ≡ h → IsTrue (elim h as (λ _. Bool) [ Part depth ↦ Rattle.sip_helper.specs.Turns.stays_legal depth s.weights us.items | _ ↦ false ]) → IsSettled s.open_query
    by_heard Nothing e may = absurd cc
    by_heard (Part d) e may = not_whole s s.open_query refl behind (λ w f. let other : Part d ≡ Whole w = sym e ∙ f in cc)
    by_heard (Whole d) e may = absurd cc
allowed_settled s messages.EndStream behind may = inr (by_heard s.heard refl may)
  where
    by_heard : (h : Hearing) → s.heard ≡ h → IsTrue (elim h as (λ _. Bool) [ Part depth ↦ true | _ ↦ false ]) → IsSettled s.open_query
    by_heard Nothing e may = absurd cc
    by_heard (Part d) e may = not_whole s s.open_query refl behind (λ w f. let other : Part d ≡ Whole w = sym e ∙ f in cc)
    by_heard (Whole d) e may = absurd cc
allowed_settled s (messages.Query q) behind may = inr (by_heard s.heard may)
  where
    none_open : (o : Option OpenQuery) → IsTrue (Rattle.std.specs.Prelude.is_none o) → IsSettled o
    none_open None may = tt
    none_open (Some o) may = absurd cc

    by_heard : (h : Hearing) → IsTrue (elim h as (λ _. Bool) [ Whole depth ↦ Rattle.sip_helper.specs.Turns.may_ask depth s q | _ ↦ false ]) → IsSettled s.open_query
    by_heard Nothing may = absurd cc
    by_heard (Part d) may = absurd cc
    by_heard (Whole d) may = none_open s.open_query ((and_parts _ _ ((and_parts _ _ ((and_parts _ _ may).0)).0)).0)
allowed_settled s (messages.Reveal r) behind may = inr (by_open s.open_query may)
  where
    by_open : (q : Option OpenQuery) → IsTrue (elim q as (λ _. Bool) [ Some o ↦ Rattle.sip_helper.specs.Turns.may_reveal (depth_of s.heard) o | None ↦ false ]) → IsSettled q
    by_open None may = tt
    by_open (Some o) may = (and_parts _ _ may).0
allowed_settled s messages.Bye behind may = inl refl
allowed_settled s (messages.Claim v) behind may = absurd cc
allowed_settled s (messages.Poly a b c) behind may = absurd cc
allowed_settled s (messages.Entries es) behind may = absurd cc
allowed_settled s (messages.Siblings a b) behind may = absurd cc
allowed_settled s (messages.Leaves ls) behind may = absurd cc
allowed_settled s (messages.Nodes ns) behind may = absurd cc
allowed_settled s messages.LevelEnd behind may = absurd cc
allowed_settled s (messages.Refuse code) behind may = absurd cc
allowed_settled s (messages.AskLook code item) behind may = absurd cc
allowed_settled s (messages.Found flag index) behind may = absurd cc
allowed_settled s messages.End behind may = absurd cc
allowed_settled s (messages.AskMoment side degree) behind may = absurd cc
allowed_settled s (messages.Held held) behind may = absurd cc
allowed_settled s (messages.Recall count) behind may = absurd cc
allowed_settled s (messages.Marks v) behind may = absurd cc
allowed_settled s (messages.Power v) behind may = absurd cc

-- ---- turns

abbrev pub turns_of : List Step → List Turn → List Turn
turns_of [] later = later
turns_of (Heard m refused ∷ before) later = turns_of before (record { message = m; refused = refused } ∷ later)
turns_of (Answered ∷ before) later = turns_of before later

-- the replies that are owed in turns
abbrev pub replies_of : HelperState → List Turn → List ℕ
replies_of s [] = []
replies_of s (t ∷ ts) = owed (heard_in s t) ++ replies_of (after_turn s t) ts

-- the frames of their messages
abbrev pub frames_of : HelperState → List Turn → List ℕ
frames_of s [] = []
frames_of s (t ∷ ts) = spelling s.version t.message ++ frames_of (after_turn s t) ts

-- each is a message to the helper, in the version of its turn
abbrev pub AreMessages : HelperState → List Turn → Type 0
AreMessages s [] = ⊤
AreMessages s (t ∷ ts) = IsMessage s.version t.message × AreMessages (after_turn s t) ts

-- what a message does where its reply before is given first
record Commutes (s : HelperState) (m : Message) (refused : Bool) : Type 0 where
  said : owed s ++ owed (step (after_answer s) refused m) ≡ owed (step s refused m)
  state : after_answer (step (after_answer s) refused m) ≡ after_answer (step s refused m)

commutes : (s : HelperState) (m : Message) (refused : Bool) → (m ≡ messages.Bye) ⊎ IsSettled s.open_query → Commutes s m refused
commutes s m refused (inl bye) = rw bye (record {
  said = ap (λ l. owed s ++ l) (answered_owed s) ∙ append-nil (owed s);
  state = ap (λ x. step x refused messages.Bye) (answered_again s);
})
commutes s m refused (inr settled) = record {
  said = ap (λ l. l ++ owed (step (after_answer s) refused m)) (settled_owed s settled) ∙ ap (λ x. owed (step x refused m)) (settled_state s settled);
  state = ap (λ x. after_answer (step x refused m)) (settled_state s settled);
}

-- a query is open only behind the stream, behind steps
behind_heard : (s : HelperState) (m : Message) (refused : Bool) → IsBehind s → IsTrue (is_allowed s m) → IsBehind (step s refused m)
behind_heard s (messages.Open number depth) refused behind may = by_heard s.heard refl may
  where
    by_heard : (h : Hearing) → s.heard ≡ h → IsTrue (elim h as (λ _. Bool) [ Nothing ↦ true | _ ↦ false ]) → (o : OpenQuery) → s.open_query ≡ Some o → (d : ℕ) × (Part depth ≡ Whole d)
    by_heard Nothing e may o f = let w = behind o f in absurd (let other : Nothing ≡ Whole w.0 = sym e ∙ w.1 in cc)
    by_heard (Part d) e may o f = absurd cc
    by_heard (Whole d) e may o f = absurd cc
behind_heard s (messages.Updates us) refused behind may = behind
behind_heard s messages.EndStream refused behind may = λ o e. (depth_of s.heard, refl)
behind_heard s (messages.Query q) refused behind may = λ o e. by_heard s.heard refl may
  where
    by_heard : (h : Hearing) → s.heard ≡ h → IsTrue (elim h as (λ _. Bool) [ Whole depth ↦ Rattle.sip_helper.specs.Turns.may_ask depth s q | _ ↦ false ]) → (d : ℕ) × (s.heard ≡ Whole d)
    by_heard Nothing e may = absurd cc
    by_heard (Part d) e may = absurd cc
    by_heard (Whole d) e may = (d, e)
behind_heard s (messages.Reveal r) refused behind may = λ o e. by_open s.open_query refl may
  where
    by_open : (q : Option OpenQuery) → s.open_query ≡ q → IsTrue (elim q as (λ _. Bool) [ Some o ↦ Rattle.sip_helper.specs.Turns.may_reveal (depth_of s.heard) o | None ↦ false ]) → (d : ℕ) × (s.heard ≡ Whole d)
    by_open None e may = absurd cc
    by_open (Some o) e may = behind o e
behind_heard s messages.Bye refused behind may = behind
behind_heard s (messages.Claim v) refused behind may = behind
behind_heard s (messages.Poly a b c) refused behind may = behind
behind_heard s (messages.Entries es) refused behind may = behind
behind_heard s (messages.Siblings a b) refused behind may = behind
behind_heard s (messages.Leaves ls) refused behind may = behind
behind_heard s (messages.Nodes ns) refused behind may = behind
behind_heard s messages.LevelEnd refused behind may = behind
behind_heard s (messages.Refuse code) refused behind may = behind
behind_heard s (messages.AskLook code item) refused behind may = behind
behind_heard s (messages.Found flag index) refused behind may = behind
behind_heard s messages.End refused behind may = behind
behind_heard s (messages.AskMoment side degree) refused behind may = behind
behind_heard s (messages.Held held) refused behind may = behind
behind_heard s (messages.Recall count) refused behind may = behind
behind_heard s (messages.Marks v) refused behind may = behind
behind_heard s (messages.Power v) refused behind may = behind

open_before : (depth : ℕ) (vectors : Option Vectors) (q : Option OpenQuery) (o : OpenQuery) → option_and_then (after_reply depth vectors) q ≡ Some o → (p : OpenQuery) × (q ≡ Some p)
open_before depth vectors None o e = absurd cc
open_before depth vectors (Some p) o e = (p, refl)

behind_steps : (steps : List Step) → AreSteps steps → IsBehind (state_after steps)
behind_steps [] are = λ o e. absurd cc
behind_steps (Heard m refused ∷ before) are = behind_heard (state_after before) m refused (behind_steps before are.2) are.1
behind_steps (Answered ∷ before) are = λ o e. let p = open_before (depth_of (state_after before).heard) (state_after before).vectors (state_after before).open_query o e in behind_steps before are p.0 p.1

-- what steps said and owe is what their turns owe
pub record Turned (steps : List Step) (later : List Turn) : Type 0 where
  pub said : replies_of fresh (turns_of steps later) ≡ (said steps ++ owed (state_after steps)) ++ replies_of (after_answer (state_after steps)) later
  pub frames : frames_of fresh (turns_of steps later) ≡ frames steps ++ frames_of (after_answer (state_after steps)) later

-- the messages of steps
pub are_messages : (steps : List Step) (later : List Turn) → AreSteps steps → AreMessages (after_answer (state_after steps)) later → AreMessages fresh (turns_of steps later)
are_messages [] later are more = more
are_messages (Heard m refused ∷ before) later are more =
    let s : HelperState = state_after before in
    let c = commutes s m refused (allowed_settled s m (behind_steps before are.2) are.1) in
    are_messages before (record { message = m; refused = refused } ∷ later) are.2 (are.0, subst (λ x. AreMessages x later) (sym c.state) more)
are_messages (Answered ∷ before) later are more = are_messages before later are (subst (λ x. AreMessages x later) (answered_again (state_after before)) more)

-- and the state behind them
pub same_state : (steps : List Step) (later : List Turn) → AreSteps steps → state_behind fresh (turns_of steps later) ≡ state_behind (after_answer (state_after steps)) later
same_state [] later are = refl
same_state (Heard m refused ∷ before) later are =
    let s : HelperState = state_after before in
    let c = commutes s m refused (allowed_settled s m (behind_steps before are.2) are.1) in
    same_state before (record { message = m; refused = refused } ∷ later) are.2 ∙ ap (λ x. state_behind x later) c.state
same_state (Answered ∷ before) later are = same_state before later are ∙ ap (λ x. state_behind x later) (sym (answered_again (state_after before)))

pub turned : (steps : List Step) (later : List Turn) → AreSteps steps → Turned steps later
turned [] later are = record { said = refl; frames = refl }
turned (Heard m refused ∷ before) later are =
    let t : Turn = record { message = m; refused = refused } in
    let rest = turned before (t ∷ later) are.2 in
    let s : HelperState = state_after before in
    let c = commutes s m refused (allowed_settled s m (behind_steps before are.2) are.1) in
    record {
      said = rest.said ∙ append_assoc (said before) (owed s) (owed (heard_in (after_answer s) t) ++ replies_of (after_turn (after_answer s) t) later)
          ∙ ap (λ l. said before ++ l) (sym (append_assoc (owed s) (owed (heard_in (after_answer s) t)) (replies_of (after_turn (after_answer s) t) later))
          ∙ ap (λ l. l ++ replies_of (after_turn (after_answer s) t) later) c.said
          ∙ ap (λ x. owed (step s refused m) ++ replies_of x later) c.state)
          ∙ sym (append_assoc (said before) (owed (step s refused m)) (replies_of (after_answer (step s refused m)) later));
      frames = rest.frames ∙ ap (λ x. frames before ++ (spelling s.version m ++ frames_of x later)) c.state
          ∙ sym (append_assoc (frames before) (spelling s.version m) (frames_of (after_answer (step s refused m)) later));
    }
turned (Answered ∷ before) later are =
    let rest = turned before later are in
    let s : HelperState = state_after before in
    record {
      said = rest.said ∙ ap (λ x. (said before ++ owed s) ++ replies_of x later) (sym (answered_again s))
          ∙ ap (λ l. l ++ replies_of (after_answer (after_answer s)) later) (sym (append-nil (said before ++ owed s)) ∙ ap (λ l. (said before ++ owed s) ++ l) (sym (answered_owed s)));
      frames = rest.frames ∙ ap (λ x. frames before ++ frames_of x later) (sym (answered_again s));
    }

-- where no byte is owed, an answer changes nothing
pub unowed_state : (s : HelperState) → owed s ≡ [] → after_answer s ≡ s
unowed_state s none = by_owes (owes s) refl
  where
    by_owes : (b : Bool) → owes s ≡ b → after_answer s ≡ s
    by_owes true e = absurd (owed_has_bytes s e none)
    by_owes false e = settled_state s (owes_not s.open_query e)
