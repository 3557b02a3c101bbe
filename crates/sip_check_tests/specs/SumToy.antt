-- A small protocol with a number and a test in each round: the replies to a query for a sum, a
-- claim and a polynomial, and in each later reply a polynomial. Only tests have a check of it.
use Rattle.std.specs.Prelude.{◌≡◌, ◌≢◌, ℕ, ◌+◌, ◌*◌, ◌%◌, ◌==◌, Bool, true, false, ℤ, Option, Some}
use Rattle.std.specs.Prelude.{None, is_none, Result, Ok, Err, if◌then◌else◌}
use Rattle.sip_field.specs.Moduli.{m61_modulus}
use Rattle.sip_field.specs.Residue.{residue}
use Rattle.sip_vector.specs.Answers.{Answer, number}
use Rattle.sip_wire.specs.declared.kind.Place.TheVariants as places
use Rattle.sip_wire.specs.declared.message.Message.{Message}
use Rattle.sip_wire.specs.declared.message.Message.TheVariants as messages
use Rattle.sip_wire.specs.declared.message.Reason.{Reason}
use Rattle.sip_wire.specs.declared.message.Reason.TheVariants as reasons
use Rattle.sip_wire.specs.declared.version.Version.TheVariants as versions
use Rattle.sip_replies.specs.Protocols.{Rules, Protocol}
use Rattle.sip_replies.specs.declared.check.More.{More}
use Rattle.sip_replies.specs.declared.check.More.TheVariants as mores

-- the value that the last polynomial has to have at the last challenge
pub record SumAsked : Type 0 where
  pub value : ℕ

-- the claim, what the next polynomial has to sum to, and the last polynomial
pub record SumState : Type 0 where
  pub claim : Option ℤ
  pub expected : ℕ
  pub c0 : ℕ
  pub c1 : ℕ
  pub c2 : ℕ

-- the value of a polynomial, with remainders at each step
abbrev pub value_of : ℕ → ℕ → ℕ → ℕ → ℕ
value_of a b c r =
    let top = (b + (c * r) % m61_modulus) % m61_modulus in
    (a + (top * r) % m61_modulus) % m61_modulus

-- the sum of its values at 0 and 1
abbrev pub sum_of_ends : ℕ → ℕ → ℕ → ℕ
sum_of_ends a b c = (((a + a) % m61_modulus + b) % m61_modulus + c) % m61_modulus

abbrev pub claimed : Option ℤ → SumState → ℤ → Result (More × SumState) Reason
claimed None s v = Ok (mores.Due, record s { claim = Some v; expected = residue m61_modulus v })
claimed (Some w) s v = Err reasons.BadKind

abbrev pub summed : Option ℤ → SumState → ℕ → ℕ → ℕ → Result (More × SumState) Reason
summed None s a b c = Err reasons.BadKind
summed (Some w) s a b c =
    if sum_of_ends a b c == s.expected
    then Ok (mores.Complete, record s { c0 = a; c1 = b; c2 = c })
    else Err reasons.Sum

abbrev pub sum_step : SumState → Message → Result (More × SumState) Reason
sum_step s (messages.Claim v) = claimed s.claim s v
sum_step s (messages.Poly a b c) =
    summed s.claim s (a % m61_modulus) (b % m61_modulus) (c % m61_modulus)
sum_step s (messages.Refuse code) = Err (reasons.Refused code)
sum_step s _ = Err reasons.BadKind

abbrev pub sum_rules : Rules SumState
sum_rules = record {
  version = versions.One;
  start = record { claim = None; expected = 0; c0 = 0; c1 = 0; c2 = 0 };
  place = λ s. if is_none s.claim then places.Claim else places.Poly;
  step = sum_step;
  learn = λ s r. record s { expected = value_of s.c0 s.c1 s.c2 r };
}

abbrev pub sum_ended : Option ℤ → Bool → Result Answer Reason
sum_ended None is = Err reasons.Root
sum_ended (Some v) is = if is then Ok (number v) else Err reasons.Root

abbrev pub sum_protocol : SumAsked → Protocol SumState
sum_protocol asked = record {
  rules = sum_rules;
  finish = λ s. sum_ended s.claim (s.expected == asked.value);
  unasked = None;
}

-- the check's fields stand for this state
pub record SumStands (asked : SumAsked) (s : SumState) (value : ℕ) (claim : Option ℤ)
    (expected c0 c1 c2 : ℕ) : Type 0 where
  pub for_value : value ≡ asked.value
  pub of_claim : claim ≡ s.claim
  pub of_expected : expected ≡ s.expected
  pub of_c0 : c0 ≡ s.c0
  pub of_c1 : c1 ≡ s.c1
  pub of_c2 : c2 ≡ s.c2

-- ---- the end of the link is no test's reason

same : {X : Type 0} (a b : Reason) → ◌≡◌ {A = Result X Reason} (Err a) (Err b) → a ≡ b
same a b e = cc

kind : {X : Type 0} (reason : Reason) → ◌≡◌ {A = Result X Reason} (Err reasons.BadKind) (Err reason)
    → reason ≢ reasons.Closed
kind reason e c = let f = same reasons.BadKind reason e in cc

open_claimed : (claim : Option ℤ) (s : SumState) (v : ℤ) (reason : Reason)
    → claimed claim s v ≡ Err reason → reason ≢ reasons.Closed
open_claimed None s v reason e c = absurd cc
open_claimed (Some w) s v reason e c = kind {X = More × SumState} reason e c

open_if : (test : Bool) (x : More × SumState) (reason : Reason)
    → ◌≡◌ {A = Result (More × SumState) Reason} (if test then Ok x else Err reasons.Sum)
    (Err reason)
    → reason ≢ reasons.Closed
open_if true x reason e c = absurd cc
open_if false x reason e c = let f = same {X = More × SumState} reasons.Sum reason e in cc

open_summed : (claim : Option ℤ) (s : SumState) (a b d : ℕ) (reason : Reason)
    → summed claim s a b d ≡ Err reason → reason ≢ reasons.Closed
open_summed None s a b d reason e c = kind {X = More × SumState} reason e c
open_summed (Some w) s a b d reason e c = open_if (sum_of_ends a b d == s.expected) _ reason e c

pub sum_tests : (asked : SumAsked) (s : SumState) (m : Message) (reason : Reason)
    → (sum_protocol asked).rules.step s m ≡ Err reason → reason ≢ reasons.Closed
sum_tests asked s (messages.Claim v) reason e = open_claimed s.claim s v reason e
sum_tests asked s (messages.Poly a b d) reason e =
    open_summed s.claim s (a % m61_modulus) (b % m61_modulus) (d % m61_modulus) reason e
sum_tests asked s (messages.Refuse code) reason e =
    λ c. (let f = same {X = More × SumState} (reasons.Refused code) reason e in cc)
sum_tests asked s (messages.Open version depth) reason e = kind {X = More × SumState} reason e
sum_tests asked s (messages.Updates us) reason e = kind {X = More × SumState} reason e
sum_tests asked s messages.EndStream reason e = kind {X = More × SumState} reason e
sum_tests asked s (messages.Query q) reason e = kind {X = More × SumState} reason e
sum_tests asked s (messages.Reveal r) reason e = kind {X = More × SumState} reason e
sum_tests asked s messages.Bye reason e = kind {X = More × SumState} reason e
sum_tests asked s (messages.Entries v) reason e = kind {X = More × SumState} reason e
sum_tests asked s (messages.Siblings left right) reason e = kind {X = More × SumState} reason e
sum_tests asked s (messages.Leaves v) reason e = kind {X = More × SumState} reason e
sum_tests asked s (messages.Nodes v) reason e = kind {X = More × SumState} reason e
sum_tests asked s messages.LevelEnd reason e = kind {X = More × SumState} reason e
sum_tests asked s (messages.AskLook code item) reason e = kind {X = More × SumState} reason e
sum_tests asked s (messages.Found flag index) reason e = kind {X = More × SumState} reason e
sum_tests asked s messages.End reason e = kind {X = More × SumState} reason e
sum_tests asked s (messages.AskMoment side degree) reason e = kind {X = More × SumState} reason e
sum_tests asked s (messages.Held held) reason e = kind {X = More × SumState} reason e
sum_tests asked s (messages.Recall count) reason e = kind {X = More × SumState} reason e
sum_tests asked s (messages.Marks v) reason e = kind {X = More × SumState} reason e
sum_tests asked s (messages.Power v) reason e = kind {X = More × SumState} reason e

open_ended : (claim : Option ℤ) (is : Bool) (reason : Reason) → sum_ended claim is ≡ Err reason
    → reason ≢ reasons.Closed
open_ended None is reason e c = let f = same {X = Answer} reasons.Root reason e in cc
open_ended (Some v) true reason e c = absurd cc
open_ended (Some v) false reason e c = let f = same {X = Answer} reasons.Root reason e in cc

pub sum_ends : (asked : SumAsked) (s : SumState) (reason : Reason)
    → (sum_protocol asked).finish s ≡ Err reason → reason ≢ reasons.Closed
sum_ends asked s reason e c = open_ended s.claim (s.expected == asked.value) reason e c
