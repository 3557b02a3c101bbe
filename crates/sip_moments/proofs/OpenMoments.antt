-- What is kept for an open moment stands for it, and goes on doing so.
use Rattle.std.proofs.Common.{◌≡◌, ◌≢◌, ℕ, ◌+◌, ◌-◌, ◌*◌, ◌%◌, ◌^◌, ◌<◌, ◌≤◌, true, false, List, [], ◌∷◌, ◌++◌, length, All, Option, Some, None, sym, ap, subst, ◌∙◌, arith}
use Rattle.std.specs.Prelude.{IfSome, is_none}
use Rattle.std.proofs.Math.Nat.{mod-eq_of_lt}
use Rattle.std.proofs.lemmas.List.{length-map, length_push}
use Rattle.std.proofs.lemmas.List.Elements.{All-nil, All-push}
use Rattle.sip_field.specs.Moduli.{m61_modulus}
use Rattle.sip_field.specs.Residue.{residue}
use Rattle.sip_vector.specs.declared.update.Side.{Side}
use Rattle.sip_vector.specs.Vectors.{SideVector}
use Rattle.sip_helper.specs.Shown.{shown_vector}
use Rattle.sip_helper.specs.Turns.{HelperState, whole_of}
use Rattle.sip_helper.proofs.SubVectors.{half_of, tall}
use Rattle.sip_moments.specs.declared.under_way.MomentUnderWay.{MomentUnderWay}
use Rattle.sip_moments.specs.Honest.{Proving, begun, learnt, proving}
use Rattle.sip_moments.specs.Serving.{newly_asked}
use Rattle.sip_moments.specs.UnderWay.{CanReply, HasFolded, open_of}
use Rattle.sip_moments.proofs.MomentCube.{proving-more}

pub same_depth : (whole : Option ℕ) (a b : ℕ) → whole ≡ Some a → whole ≡ Some b → a ≡ b
same_depth whole a b e f = let same : Some a ≡ Some b = sym e ∙ f in cc

-- ---- the prover at hand

pub at_hand : (helper : HelperState) (q : MomentUnderWay) (prover : Proving) → q.prover ≡ Some prover
    → (can : CanReply helper q) → HasFolded can.depth helper q prover
at_hand helper q prover is can =
    subst (λ (o : Option Proving). IfSome o (HasFolded can.depth helper q)) is can.proves

-- its list has two entries at least
pub tall_at_hand : (helper : HelperState) (q : MomentUnderWay) (prover : Proving)
    → q.prover ≡ Some prover → CanReply helper q → 2 ≤ length prover.level
tall_at_hand helper q prover is can =
    let has = at_hand helper q prover is can in
    tall can.depth (length q.revealed.items) prover.level has.height can.left

-- ---- a moment that was asked

pub asked_is : (q : MomentUnderWay) (side : Side) (degree : ℕ) → q.side ≡ side → q.degree ≡ degree
    → q.revealed.items ≡ [] → q.given ≡ false
    → open_of q ≡ newly_asked side degree (is_none q.prover)
asked_is q side degree a b c d = cc

-- a prover that begins has folded by no challenge
folded_first : (depth : ℕ) (helper : HelperState) (q : MomentUnderWay) (v : SideVector)
    (o : Option Proving) → shown_vector helper q.side ≡ Some v → v.depth ≡ depth
    → q.revealed.items ≡ []
    → IfSome o (λ prover. prover ≡ begun m61_modulus q.degree v.numbers)
    → IfSome o (λ prover. length prover.level ≡ 2 ^ v.depth)
    → IfSome o (HasFolded depth helper q)
folded_first depth helper q v None shown deep none is long = tt
folded_first depth helper q v (Some prover) shown deep none is long =
    let all : 2 ^ depth ≡ 2 ^ (depth - length q.revealed.items) =
    ap (λ (n : ℕ). 2 ^ n) (let count = ap length none in omega (arith, count)) in
    record {
      vector = v;
      shown = shown;
      deep = deep;
      size = sym (length-map v.numbers (residue m61_modulus))
          ∙ ap (λ (s : Proving). length s.level) (sym is) ∙ long ∙ ap (λ (n : ℕ). 2 ^ n) deep;
      folded = is
          ∙ ap (λ (rs : List ℕ). proving m61_modulus q.degree v.numbers rs) (sym none);
      height = long ∙ ap (λ (n : ℕ). 2 ^ n) deep ∙ all;
    }

pub ready_by : (helper : HelperState) (depth : ℕ) (q : MomentUnderWay) (v : SideVector)
    → whole_of helper.heard ≡ Some depth → 1 ≤ depth → shown_vector helper q.side ≡ Some v
    → v.depth ≡ depth → q.revealed.items ≡ [] → q.given ≡ false
    → IfSome q.prover (λ prover. prover ≡ begun m61_modulus q.degree v.numbers)
    → IfSome q.prover (λ prover. length prover.level ≡ 2 ^ v.depth) → CanReply helper q
ready_by helper depth q v whole some shown deep none owed is long = record {
  depth = depth;
  whole = whole;
  left = let count = ap length none in omega (arith, count, some);
  elements = subst (All (λ (r : ℕ). r < m61_modulus)) (sym none) (All-nil (λ r. r < m61_modulus));
  proves = folded_first depth helper q v q.prover shown deep none is long;
  owed = λ _. owed;
}

-- a moment that is refused
pub refused_ready : (helper : HelperState) (depth : ℕ) (q : MomentUnderWay)
    → whole_of helper.heard ≡ Some depth → 1 ≤ depth → q.revealed.items ≡ [] → q.given ≡ false
    → q.prover ≡ None → CanReply helper q
refused_ready helper depth q whole some none owed gone = record {
  depth = depth;
  whole = whole;
  left = let count = ap length none in omega (arith, count, some);
  elements = subst (All (λ (r : ℕ). r < m61_modulus)) (sym none) (All-nil (λ r. r < m61_modulus));
  proves = subst (λ (o : Option Proving). IfSome o (HasFolded depth helper q)) (sym gone) tt;
  owed = λ _. owed;
}

-- ---- a challenge

-- a prover that learns one more challenge has folded by it
folded_more : (depth : ℕ) (helper : HelperState) (q next : MomentUnderWay) (prover after : Proving)
    (r s : ℕ) → HasFolded depth helper q prover → r < m61_modulus → s ≡ r % m61_modulus
    → after ≡ learnt m61_modulus prover s → 2 * length after.level ≡ length prover.level
    → length q.revealed.items + 1 < depth → next.side ≡ q.side → next.degree ≡ q.degree
    → next.revealed.items ≡ q.revealed.items ++ r ∷ [] → HasFolded depth helper next after
folded_more depth helper q next prover after r s has element is above half less side degree more =
    let same : s ≡ r = is ∙ mod-eq_of_lt element in
    let count : length next.revealed.items ≡ length q.revealed.items + 1 =
    ap length more ∙ length_push q.revealed.items r in
    record {
      vector = has.vector;
      shown = ap (shown_vector helper) side ∙ has.shown;
      deep = has.deep;
      size = has.size;
      folded = above ∙ ap (learnt m61_modulus prover) same
          ∙ ap (λ (x : Proving). learnt m61_modulus x r) has.folded
          ∙ sym (proving-more m61_modulus q.degree has.vector.numbers q.revealed.items r)
          ∙ ap (λ (rs : List ℕ). proving m61_modulus q.degree has.vector.numbers rs) (sym more)
          ∙ ap (λ (k : ℕ). proving m61_modulus k has.vector.numbers next.revealed.items)
          (sym degree);
      height = half_of depth (length q.revealed.items) (length prover.level) (length after.level)
          half has.height less
          ∙ ap (λ (n : ℕ). 2 ^ (depth - n)) (sym count);
    }

pub stands_higher : (helper : HelperState) (depth : ℕ) (q next : MomentUnderWay)
    (prover after : Proving) (r s : ℕ) → CanReply helper q → whole_of helper.heard ≡ Some depth
    → q.prover ≡ Some prover → next.prover ≡ Some after → r < m61_modulus
    → s ≡ r % m61_modulus → after ≡ learnt m61_modulus prover s
    → 2 * length after.level ≡ length prover.level → length q.revealed.items + 1 < depth
    → next.side ≡ q.side → next.degree ≡ q.degree
    → next.revealed.items ≡ q.revealed.items ++ r ∷ [] → next.given ≡ false
    → CanReply helper next
stands_higher helper depth q next prover after r s can whole was now element is above half less
    side degree more owed =
    let same = same_depth (whole_of helper.heard) can.depth depth can.whole whole in
    let has =
    subst (λ (d : ℕ). HasFolded d helper q prover) same (at_hand helper q prover was can) in
    let count : length next.revealed.items ≡ length q.revealed.items + 1 =
    ap length more ∙ length_push q.revealed.items r in
    record {
      depth = depth;
      whole = whole;
      left = omega (arith, count, less);
      elements = subst (All (λ (r : ℕ). r < m61_modulus)) (sym more)
          (All-push (λ r. r < m61_modulus) q.revealed.items r can.elements element);
      proves = subst (λ (o : Option Proving). IfSome o (HasFolded depth helper next)) (sym now)
          (folded_more depth helper q next prover after r s has element is above half less side
          degree more);
      owed = λ _. owed;
    }

-- ---- a reply

-- once its reply was given, a moment that was not refused can be asked about further
regiven : (depth : ℕ) (helper : HelperState) (q : MomentUnderWay) (o : Option Proving)
    → IfSome o (HasFolded depth helper q)
    → IfSome o (HasFolded depth helper (record q { given = true }))
regiven depth helper q None has = tt
regiven depth helper q (Some prover) has = record {
  vector = has.vector;
  shown = has.shown;
  deep = has.deep;
  size = has.size;
  folded = has.folded;
  height = has.height;
}

pub can_go_on : (helper : HelperState) (q : MomentUnderWay) → CanReply helper q → q.prover ≢ None
    → CanReply helper (record q { given = true })
can_go_on helper q can some = record {
  depth = can.depth;
  whole = can.whole;
  left = can.left;
  elements = can.elements;
  proves = regiven can.depth helper q q.prover can.proves;
  owed = λ none. absurd (some none);
}
