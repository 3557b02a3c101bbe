-- What is said about an open moment, and what is left of it then.
use Rattle.std.proofs.Common.{◌≡◌, ℕ, ◌+◌, ◌-◌, ◌%◌, ◌^◌, ◌<◌, ◌≤◌, Bool, true, false, ◌||◌, ◌==◌, nat_le, if◌then◌else◌, ℤ, List, [], ◌∷◌, ◌++◌, length, map, All, Option, Some, None, refl, sym, ap, ◌∙◌, append-nil, arith}
use Rattle.std.specs.Prelude.{IsTrue, is_none}
use Rattle.std.specs.List.{flat_map, range_with_len}
use Rattle.std.proofs.Math.Nat.{mod-lt}
use Rattle.std.proofs.lemmas.Bool.Decides.{nat_tests}
use Rattle.std.proofs.lemmas.List.Elements.{All-nil, All-cons}
use Rattle.std.proofs.lemmas.List.FromFn.{length-map-range_with_len}
use Rattle.sip_field.specs.Moduli.{m61_modulus}
use Rattle.sip_vector.specs.Vectors.{SideVector}
use Rattle.sip_wire.specs.declared.message.Message.TheVariants as messages
use Rattle.sip_wire.specs.declared.version.Version.{Version}
use Rattle.sip_wire.specs.Spelling.{fits, spelling}
use Rattle.sip_wire.specs.Table.{most_degree}
use Rattle.sip_helper.specs.declared.heard.Heard.{Heard}
use Rattle.sip_helper.specs.declared.heard.Heard.TheVariants.{Nothing, Part, Whole}
use Rattle.sip_helper.specs.KindRows.{refusal, want_of_memory}
use Rattle.sip_helper.specs.Shown.{shown_vector}
use Rattle.sip_helper.specs.Turns.{HelperState, depth_of, whole_of}
use Rattle.sip_moments.specs.declared.under_way.MomentUnderWay.{MomentUnderWay}
use Rattle.sip_sums.specs.Honest.{over_pairs}
use Rattle.sip_moments.specs.Honest.{Proving, honest_messages, its_coefficient, its_polynomial, of_first, opening, proving, round_polynomial}
use Rattle.sip_moments.specs.Serving.{OpenMoment, after_reply, is_refused, reply_to}
use Rattle.sip_moments.specs.Stating.{IsPolynomial, power_message}
use Rattle.sip_moments.specs.UnderWay.{CanReply, open_of}
use Rattle.sip_moments.specs.inside.Keeping.{claim_due, its_messages}
use Rattle.sip_moments.proofs.MomentCube.{polynomial-is}
use Rattle.sip_moments.proofs.OpenMoments.{at_hand}
use Rattle.sip_moments.proofs.PowerFrames.{power_spelled}

-- ---- a polynomial has a spelling

all_residues : (p : ℕ) → 0 < p → (f : ℕ → ℕ) (l : List ℕ)
    → All (λ n. n < p) (map (λ m. f m % p) l)
all_residues p some f [] = All-nil (λ n. n < p)
all_residues p some f (m ∷ l) =
    All-cons (λ n. n < p) (f m % p) (map (λ j. f j % p) l) (mod-lt (f m) some)
    (all_residues p some f l)

pub polynomial_fits : (version : Version) (s : Proving) → s.degree ≤ most_degree
    → IsTrue (fits version (power_message (its_polynomial m61_modulus s)))
polynomial_fits version s low =
    let is : IsPolynomial s.degree (its_polynomial m61_modulus s) = record {
      long = length-map-range_with_len (its_coefficient m61_modulus s) 0 (s.degree + 1);
      elements = all_residues m61_modulus (omega arith)
          (λ (m : ℕ). over_pairs (of_first m61_modulus s.degree m) s.level s.level)
          (range_with_len 0 (s.degree + 1));
    } in
    (power_spelled version s.degree (its_polynomial m61_modulus s) low is).0

-- ---- the bytes of a prover's messages

pub first_bytes : (version : Version) (is_first : Bool) (s : Proving) → is_first ≡ true
    → flat_map (spelling version) (its_messages is_first s)
    ≡ spelling version (messages.Claim s.claim)
    ++ spelling version (power_message (its_polynomial m61_modulus s))
first_bytes version true s e =
    ap (λ (l : List ℕ). spelling version (messages.Claim s.claim) ++ l)
    (append-nil (spelling version (power_message (its_polynomial m61_modulus s))))
first_bytes version false s e = absurd cc

pub next_bytes : (version : Version) (is_first : Bool) (s : Proving) → is_first ≡ false
    → flat_map (spelling version) (its_messages is_first s)
    ≡ spelling version (power_message (its_polynomial m61_modulus s))
next_bytes version true s e = absurd cc
next_bytes version false s e =
    append-nil (spelling version (power_message (its_polynomial m61_modulus s)))

-- ---- the reply

-- the claim stands before the first polynomial alone
claim_opens : (p k : ℕ) (numbers : List ℤ) (revealed : List ℕ) (s : Proving)
    → s ≡ proving p k numbers revealed
    → opening k numbers revealed ≡ claim_due (length revealed == 0) s.claim
claim_opens p k numbers [] s is = ap (λ (x : Proving). claim_due true x.claim) (sym is)
claim_opens p k numbers (r ∷ revealed) s is =
    let some : (length (r ∷ revealed) == 0) ≡ false = grind (arith, nat_tests) in
    ap (λ (b : Bool). claim_due b s.claim) (sym some)

-- the honest messages are those of a prover that has folded by the challenges
pub honest_is : (k depth : ℕ) (numbers : List ℤ) (revealed : List ℕ) (s : Proving)
    → s ≡ proving m61_modulus k numbers revealed → All (λ r. r < m61_modulus) revealed
    → length numbers ≡ 2 ^ depth → length revealed < depth
    → honest_messages m61_modulus k depth numbers revealed ≡ its_messages (length revealed == 0) s
unfolding honest_messages
honest_is k depth numbers revealed s is elements size less =
    let n = depth - length revealed - 1 in
    let rounds : depth ≡ length revealed + n + 1 = omega (arith, less) in
    let due : round_polynomial m61_modulus k numbers revealed n ≡ its_polynomial m61_modulus s =
    sym (ap (its_polynomial m61_modulus) is
    ∙ polynomial-is m61_modulus k numbers revealed n (omega arith) elements
    (size ∙ ap (λ (d : ℕ). 2 ^ d) rounds)) in
    ap (λ (c : List ℕ). opening k numbers revealed ++ power_message c ∷ []) due
    ∙ ap (λ ms. ms ++ power_message (its_polynomial m61_modulus s) ∷ [])
    (claim_opens m61_modulus k numbers revealed s is)

-- a moment that is refused
pub reply_refused : (shown : Option SideVector) (o : OpenMoment) → o.refused ≡ true
    → reply_to shown o ≡ refusal want_of_memory
reply_refused None o is = refl
reply_refused (Some v) o is = rw is refl

-- one that is not
pub reply_honest : (helper : HelperState) (q : MomentUnderWay) (prover : Proving)
    → q.prover ≡ Some prover → CanReply helper q
    → reply_to (shown_vector helper q.side) (open_of q)
    ≡ its_messages (length q.revealed.items == 0) prover
reply_honest helper q prover is can =
    let has = at_hand helper q prover is can in
    ap (λ (shown : Option SideVector). reply_to shown (open_of q)) has.shown
    ∙ ap (λ (b : Bool). if b then refusal want_of_memory
    else honest_messages m61_modulus q.degree has.vector.depth has.vector.numbers
    q.revealed.items)
    (ap is_none is)
    ∙ ap (λ (d : ℕ). honest_messages m61_modulus q.degree d has.vector.numbers q.revealed.items)
    has.deep
    ∙ honest_is q.degree can.depth has.vector.numbers q.revealed.items prover has.folded
    can.elements has.size can.left

-- ---- what is left

refused_by : (shown : Option SideVector) (o : OpenMoment) → o.refused ≡ true
    → is_refused shown o ≡ true
refused_by None o is = refl
refused_by (Some v) o is = is

-- the reply is a refusal where there is no prover
refused_is : (helper : HelperState) (q : MomentUnderWay) → CanReply helper q
    → is_refused (shown_vector helper q.side) (open_of q) ≡ is_none q.prover
refused_is helper q can = by_prover q.prover refl
  where
    by_prover : (o : Option Proving) → q.prover ≡ o
        → is_refused (shown_vector helper q.side) (open_of q) ≡ is_none o
    by_prover None is = refused_by (shown_vector helper q.side) (open_of q) (ap is_none is)
    by_prover (Some prover) is =
        ap (λ (shown : Option SideVector). is_refused shown (open_of q))
        (at_hand helper q prover is can).shown ∙ ap is_none is

pub depth_is : (heard : Heard) (depth : ℕ) → whole_of heard ≡ Some depth → depth_of heard ≡ depth
depth_is Nothing depth e = absurd cc
depth_is (Part d) depth e = absurd cc
depth_is (Whole d) depth e = cc

-- a refusal closes it, and so does the last reply
pub after_is : (helper : HelperState) (depth : ℕ) (q : MomentUnderWay)
    → whole_of helper.heard ≡ Some depth → CanReply helper q → q.given ≡ false
    → after_reply helper (open_of q)
    ≡ (if is_none q.prover || nat_le depth (length q.revealed.items + 1) then None
    else Some (record (open_of q) { given = true }))
after_is helper depth q whole can owed =
    let o = open_of q in
    let count = length q.revealed.items + 1 in
    let gone : Bool → Option OpenMoment =
    λ (b : Bool). if b then None else Some (record o { given = true }) in
    ap (λ (b : Bool). if b then Some o
    else gone (is_refused (shown_vector helper q.side) o || nat_le (depth_of helper.heard) count))
    owed
    ∙ ap (λ (b : Bool). gone (b || nat_le (depth_of helper.heard) count))
    (refused_is helper q can)
    ∙ ap (λ (d : ℕ). gone (is_none q.prover || nat_le d count))
    (depth_is helper.heard depth whole)
