-- The frames of a sum's replies: which have a spelling, and how a reply of them is read.
use Rattle.std.proofs.Common.{◌≡◌, ℕ, ◌<◌, ◌≤◌, Bool, true, false, ℤ, nat_abs, Some, Result, Ok, List, [], ◌++◌, refl, sym, ap, ◌∙◌}
use Rattle.std.specs.Prelude.{◌==◌, IsTrue}
use Rattle.std.proofs.lemmas.Bool.{and_from, and_parts, lt-ltb, ltb-true}
use Rattle.std.proofs.lemmas.List.{append-nil}
use Rattle.sip_field.specs.Moduli.{m61_modulus}
use Rattle.sip_field.specs.Residue.{residue}
use Rattle.sip_vector.specs.Steps.{◌>>=◌, needs}
use Rattle.sip_wire.specs.declared.kind.Place.TheVariants as places
use Rattle.sip_wire.specs.declared.message.Message.{Message}
use Rattle.sip_wire.specs.declared.message.Message.TheVariants as messages
use Rattle.sip_wire.specs.declared.message.Reason.{Reason}
use Rattle.sip_wire.specs.declared.message.Reason.TheVariants as reasons
use Rattle.sip_wire.specs.declared.version.Version.{Version}
use Rattle.sip_wire.specs.Decoding.{IsBytes, Spelled}
use Rattle.sip_wire.specs.Spelling.{fits, has_room, all_hold, spelling}
use Rattle.sip_wire.specs.Table.{most_claim}
use Rattle.sip_wire.proofs.Longest.{claim_fits, claim_from_fits}
use Rattle.sip_wire.proofs.ReadingLaws.{read_frame-spelling}
use Rattle.sip_wire.proofs.SmallNumbers.{element_room, in_range}
use Rattle.sip_replies.specs.declared.check.More.{More}
use Rattle.sip_replies.specs.declared.check.More.TheVariants as mores
use Rattle.sip_replies.specs.Protocols.{Rules}
use Rattle.sip_replies.specs.Replies.{read_reply, step_says}
use Rattle.sip_replies.proofs.FirstFrame.{first_frame}
use Rattle.sip_replies.proofs.Passing.{at_end_parts}
use Rattle.sip_replies.proofs.Reading.{read_reply-step}
use Rattle.sip_sums.specs.AcceptsSum.{Coefficients, sum_of_ends}
use Rattle.sip_sums.specs.Checking.{zero_polynomial}
use Rattle.sip_sums.specs.Honest.{poly_message}
use Rattle.sip_sums.specs.Protocol.{SumState, sum_rules, sum_step}
use Rattle.sip_sums.specs.Stating.{AreElements}

-- ---- which have a spelling

-- elements of the field
pub poly_fits : (version : Version) (c : Coefficients) → AreElements c
    → IsTrue (fits version (poly_message c))
unfolding fits has_room all_hold
poly_fits version c h =
    and_from _ _ (and_from _ _ (and_from _ _ (element_room c.c0 h.0)
    (and_from _ _ (element_room c.c1 h.1) (and_from _ _ (element_room c.c2 h.2) refl))) refl)
    (and_from _ _ (lt-ltb c.c0 m61_modulus h.0) (and_from _ _ (lt-ltb c.c1 m61_modulus h.1)
    (and_from _ _ (lt-ltb c.c2 m61_modulus h.2) refl)))

-- and no others
pub poly_below : (version : Version) (a b c : ℕ) → IsTrue (fits version (messages.Poly a b c))
    → (a < m61_modulus) × (b < m61_modulus) × (c < m61_modulus)
unfolding fits has_room all_hold
poly_below version a b c h =
    let hold = and_parts _ _ h in
    let first = and_parts _ _ hold.1 in
    let second = and_parts _ _ first.1 in
    let third = and_parts _ _ second.1 in (
      ltb-true a m61_modulus first.0,
      ltb-true b m61_modulus second.0,
      ltb-true c m61_modulus third.0,
    )

-- the reply of a polynomial alone
abbrev pub poly_reply : Version → Coefficients → List ℕ
poly_reply version c = spelling version (poly_message c)

-- ---- how they are read

-- this claim came
abbrev pub state : ℤ → ℕ → Coefficients → SumState
state claim expected last = record { claim = Some claim; expected = expected; last = last }

-- what a polynomial that was tested makes of the state
abbrev pub tested : ℕ → ℤ → ℕ → Coefficients → Result SumState Reason
tested p claim expected c =
    needs (sum_of_ends p c == expected) reasons.Sum >>= λ _. Ok (state claim expected c)

module _ (version : Version) (p : ℕ) where
  abbrev R : Rules SumState
  R = sum_rules version p

  abbrev step : Bool → SumState → Result (More × SumState) Reason
  step test s = needs test reasons.Sum >>= λ _. Ok (mores.Complete, s)

  ends_here : (f : SumState → List ℕ → Result SumState Reason) (test : Bool) (s : SumState)
      → step_says f [] (step test s) ≡ (needs test reasons.Sum >>= λ _. Ok s)
  ends_here f true s = refl
  ends_here f false s = refl

  -- a later reply
  pub poly_read : (claim : ℤ) (expected : ℕ) (last c : Coefficients) → AreElements c
      → read_reply R (state claim expected last) (spelling version (poly_message c))
      ≡ tested p claim expected c
  poly_read claim expected last c h =
      let s = state claim expected last in
      let bytes = spelling version (poly_message c) in
      ap (read_reply R s) (sym (append-nil bytes))
      ∙ read_reply-step R s (bytes ++ []) [] (poly_message c)
      (step (sum_of_ends p c == expected) (state claim expected c))
      (read_frame-spelling version places.Poly (poly_message c) [] (poly_fits version c h) refl tt)
      refl
      ∙ ends_here (read_reply R) (sum_of_ends p c == expected) (state claim expected c)

  -- reply 0
  pub first_read : (claim : ℤ) (c : Coefficients) → nat_abs claim ≤ most_claim → AreElements c
      → read_reply R R.start
      (spelling version (messages.Claim claim) ++ spelling version (poly_message c))
      ≡ tested p claim (residue p claim) c
  first_read claim c small h =
      let range = in_range claim small in
      let rest = spelling version (poly_message c) in
      read_reply-step R R.start (spelling version (messages.Claim claim) ++ rest) rest
      (messages.Claim claim) (Ok (mores.Due, state claim (residue p claim) zero_polynomial))
      (read_frame-spelling version places.Claim (messages.Claim claim) rest
      (claim_fits version claim range small) refl range) refl
      ∙ poly_read claim (residue p claim) zero_polynomial c h

  -- ---- what was read

  -- a reply is one polynomial, which passed its test
  pub record IsPoly (claim : ℤ) (expected : ℕ) (bytes : List ℕ) (t : SumState) : Type 0 where
    pub c : Coefficients
    pub elements : AreElements c
    pub spelled : bytes ≡ spelling version (poly_message c)
    pub sum : (sum_of_ends p c == expected) ≡ true
    pub then : state claim expected c ≡ t

  module _ (claim : ℤ) (expected : ℕ) (last : Coefficients) (bytes : List ℕ) (t : SumState)
      (fine : IsBytes bytes) where
    abbrev s : SumState
    s = state claim expected last

    by_test : (c : Coefficients) (rest : List ℕ) (test : Bool)
        → (sum_of_ends p c == expected) ≡ test
        → Spelled version places.Poly bytes (poly_message c) rest
        → step_says (read_reply R) rest (step test (state claim expected c)) ≡ Ok t
        → IsPoly claim expected bytes t
    by_test c rest false is sp e = absurd cc
    by_test c rest true is sp e =
        let parts = at_end_parts (state claim expected c) t rest e in
        record {
          c = c;
          elements = poly_below version c.c0 c.c1 c.c2 sp.has_spelling;
          spelled = sp.spelled ∙ ap (λ r. spelling version (poly_message c) ++ r) parts.0
              ∙ append-nil (spelling version (poly_message c));
          sum = is;
          then = parts.1;
        }

    by_message : (m : Message) (rest : List ℕ) → Spelled version places.Poly bytes m rest
        → step_says (read_reply R) rest (sum_step p s m) ≡ Ok t → IsPoly claim expected bytes t
    by_message (messages.Poly a b c) rest sp e =
        let x : Coefficients = record { c0 = a; c1 = b; c2 = c } in
        by_test x rest (sum_of_ends p x == expected) refl sp e
    by_message _ rest sp e = absurd cc

    pub poly_back : read_reply R s bytes ≡ Ok t → IsPoly claim expected bytes t
    poly_back e =
        let first = first_frame R s t bytes fine e in
        by_message first.message first.rest first.spelled first.says

  -- reply 0 is a claim and one polynomial
  pub record IsFirst (bytes : List ℕ) (t : SumState) : Type 0 where
    pub claim : ℤ
    pub small : nat_abs claim ≤ most_claim
    pub behind : List ℕ
    pub spelled : bytes ≡ spelling version (messages.Claim claim) ++ behind
    pub poly : IsPoly claim (residue p claim) behind t

  module _ (bytes : List ℕ) (t : SumState) (fine : IsBytes bytes) where
    of_message : (m : Message) (rest : List ℕ) → IsBytes rest
        → Spelled version places.Claim bytes m rest
        → step_says (read_reply R) rest (sum_step p R.start m) ≡ Ok t → IsFirst bytes t
    of_message (messages.Claim claim) rest fine_rest sp e = record {
      claim = claim;
      small = claim_from_fits version claim sp.in_range sp.has_spelling;
      behind = rest;
      spelled = sp.spelled;
      poly = poly_back claim (residue p claim) zero_polynomial rest t fine_rest e;
    }
    of_message _ rest fine_rest sp e = absurd cc

    pub first_back : read_reply R R.start bytes ≡ Ok t → IsFirst bytes t
    first_back e =
        let first = first_frame R R.start t bytes fine e in
        of_message first.message first.rest first.are_bytes first.spelled first.says
