-- A small protocol whose answer is pairs: in each reply any number of values, one to a frame, and
-- the end of a level. Only tests have a check of it.
use Rattle.std.specs.Prelude.{◌≡◌, ◌≢◌, ◌≤◌, ℕ, ◌==◌, Bool, true, false, nat_lt, ℤ, List, [], ◌∷◌}
use Rattle.std.specs.Prelude.{◌++◌, length, take, slice_index, Some, None, Result, Ok, Err}
use Rattle.std.specs.Prelude.{if◌then◌else◌}
use Rattle.sip_vector.specs.declared.update.Entry.{Entry}
use Rattle.sip_vector.specs.Answers.{Answer, pairs}
use Rattle.sip_wire.specs.declared.kind.Place.TheVariants as places
use Rattle.sip_wire.specs.declared.message.Message.{Message}
use Rattle.sip_wire.specs.declared.message.Message.TheVariants as messages
use Rattle.sip_wire.specs.declared.message.Reason.{Reason}
use Rattle.sip_wire.specs.declared.message.Reason.TheVariants as reasons
use Rattle.sip_wire.specs.declared.version.Version.TheVariants as versions
use Rattle.sip_replies.specs.Protocols.{Rules, Protocol}
use Rattle.sip_replies.specs.declared.check.More.{More}
use Rattle.sip_replies.specs.declared.check.More.TheVariants as mores

-- how many values there may be
pub record ListAsked : Type 0 where
  pub most : ℕ

-- the values so far, by their positions, and the challenges
pub record ListState : Type 0 where
  pub said : List Entry
  pub learnt : List ℕ

abbrev pub valued : Bool → ListState → ℤ → Result (More × ListState) Reason
valued has_room s v =
    if has_room
    then Ok (
      mores.Due,
      record s {
        said = s.said ++ record { index = length s.said; value = v } ∷ [];
      },
    )
    else Err reasons.TooMany

abbrev pub list_step : ListAsked → ListState → Message → Result (More × ListState) Reason
list_step asked s (messages.Claim v) = valued (nat_lt (length s.said) asked.most) s v
list_step asked s messages.LevelEnd = Ok (mores.Complete, s)
list_step asked s (messages.Refuse code) = Err (reasons.Refused code)
list_step asked s _ = Err reasons.BadKind

abbrev pub list_rules : ListAsked → Rules ListState
list_rules asked = record {
  version = versions.One;
  start = record { said = []; learnt = [] };
  place = λ s. places.ToVerifier;
  step = list_step asked;
  learn = λ s r. record s { learnt = s.learnt ++ r ∷ [] };
}

abbrev pub list_ended : Bool → List Entry → Result Answer Reason
list_ended is said = if is then Ok (pairs said) else Err reasons.Total

-- There have to be as many values as the first challenge says. Where there may be none, nothing is
-- asked.
abbrev pub list_protocol : ListAsked → Protocol ListState
list_protocol asked = record {
  rules = list_rules asked;
  finish = λ s. list_ended (length s.said == slice_index s.learnt 0) s.said;
  unasked = if asked.most == 0 then Some (pairs []) else None;
}

-- the check's fields and the places stand for this state
pub record ListStands (asked : ListAsked) (s : ListState) (most count : ℕ) (learnt : List ℕ)
    (places : List Entry) : Type 0 where
  pub for_most : most ≡ asked.most
  pub shown : take count places ≡ s.said
  pub counted : count ≡ length s.said
  pub of_learnt : learnt ≡ s.learnt
  pub few : count ≤ most
  pub room : most ≤ length places

-- ---- the end of the link is no test's reason

same : {X : Type 0} (a b : Reason) → ◌≡◌ {A = Result X Reason} (Err a) (Err b) → a ≡ b
same a b e = cc

kind : (reason : Reason)
    → ◌≡◌ {A = Result (More × ListState) Reason} (Err reasons.BadKind) (Err reason)
    → reason ≢ reasons.Closed
kind reason e c = let f = same {X = More × ListState} reasons.BadKind reason e in cc

open_valued : (has_room : Bool) (s : ListState) (v : ℤ) (reason : Reason)
    → valued has_room s v ≡ Err reason → reason ≢ reasons.Closed
open_valued true s v reason e c = absurd cc
open_valued false s v reason e c =
    let f = same {X = More × ListState} reasons.TooMany reason e in cc

pub list_tests : (asked : ListAsked) (s : ListState) (m : Message) (reason : Reason)
    → (list_protocol asked).rules.step s m ≡ Err reason → reason ≢ reasons.Closed
list_tests asked s (messages.Claim v) reason e =
    open_valued (nat_lt (length s.said) asked.most) s v reason e
list_tests asked s messages.LevelEnd reason e = λ c. absurd cc
list_tests asked s (messages.Refuse code) reason e =
    λ c. (let f = same {X = More × ListState} (reasons.Refused code) reason e in cc)
list_tests asked s (messages.Open version depth) reason e = kind reason e
list_tests asked s (messages.Updates us) reason e = kind reason e
list_tests asked s messages.EndStream reason e = kind reason e
list_tests asked s (messages.Query q) reason e = kind reason e
list_tests asked s (messages.Reveal r) reason e = kind reason e
list_tests asked s messages.Bye reason e = kind reason e
list_tests asked s (messages.Poly a b c) reason e = kind reason e
list_tests asked s (messages.Entries v) reason e = kind reason e
list_tests asked s (messages.Siblings left right) reason e = kind reason e
list_tests asked s (messages.Leaves v) reason e = kind reason e
list_tests asked s (messages.Nodes v) reason e = kind reason e
list_tests asked s (messages.AskLook code item) reason e = kind reason e
list_tests asked s (messages.Found flag index) reason e = kind reason e
list_tests asked s messages.End reason e = kind reason e
list_tests asked s (messages.AskMoment side degree) reason e = kind reason e
list_tests asked s (messages.Held held) reason e = kind reason e
list_tests asked s (messages.Recall count) reason e = kind reason e
list_tests asked s (messages.Marks v) reason e = kind reason e
list_tests asked s (messages.Power v) reason e = kind reason e

open_ended : (is : Bool) (said : List Entry) (reason : Reason) → list_ended is said ≡ Err reason
    → reason ≢ reasons.Closed
open_ended true said reason e c = absurd cc
open_ended false said reason e c = let f = same {X = Answer} reasons.Total reason e in cc

pub list_ends : (asked : ListAsked) (s : ListState) (reason : Reason)
    → (list_protocol asked).finish s ≡ Err reason → reason ≢ reasons.Closed
list_ends asked s reason e c =
    open_ended (length s.said == slice_index s.learnt 0) s.said reason e c
