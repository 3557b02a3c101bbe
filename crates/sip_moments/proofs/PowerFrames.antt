-- The frames of a power: their coefficients are elements of the field, and elements have a frame.
use Rattle.std.proofs.Common.{◌≡◌, ℕ, zero, suc, ◌+◌, ◌-◌, ◌<◌, ◌≤◌, true, List, [], ◌∷◌, ◌++◌, length, get_or, drop, All, refl, sym, ap, subst, ◌∙◌, arith, append_assoc}
use Rattle.std.specs.Prelude.{IsTrue}
use Rattle.std.specs.List.{flat_map}
use Rattle.std.proofs.lemmas.Bool.{and_from, and_parts, eq-eqb, le-leb, lt-ltb, ltb-true}
use Rattle.std.proofs.lemmas.List.{drop_more}
use Rattle.std.proofs.lemmas.List.Elements.{All-nil, All-cons, All-head, All-tail}
use Rattle.arrayvec.specs.ArrayVec.{ArrayVec}
use Rattle.sip_field.specs.Moduli.{m61_modulus}
use Rattle.sip_wire.specs.declared.kind.Place.TheVariants as places
use Rattle.sip_wire.specs.declared.message.Message.TheVariants as messages
use Rattle.sip_wire.specs.declared.version.Version.{Version}
use Rattle.sip_wire.specs.Table.{allows, element, most_degree, repeat}
use Rattle.sip_wire.specs.Spelling.{all_hold, coefficient_numbers, fits, has_room, kind_of}
use Rattle.sip_wire.proofs.SmallNumbers.{element_room}
use Rattle.sip_moments.specs.Stating.{IsPolynomial, power_message}

-- one coefficient more
pub one_more : (done cs : List ℕ) (n i : ℕ) → i < length cs → n ≡ get_or cs i n
    → done ++ drop i cs ≡ cs → (done ++ n ∷ []) ++ drop (i + 1) cs ≡ cs
one_more done cs n i lt is e =
    let more : drop i cs ≡ n ∷ drop (i + 1) cs =
    drop_more cs i n lt ∙ ap (λ (x : ℕ). x ∷ drop (i + 1) cs) (sym is) in
    append_assoc done (n ∷ []) (drop (i + 1) cs)
    ∙ ap (λ (l : List ℕ). done ++ l) (sym more) ∙ e

-- fields of elements hold what is below the modulus
all_below : (n : ℕ) (cs : List ℕ) → length cs ≡ n
    → all_hold (repeat n (element ∷ [])) (flat_map coefficient_numbers cs) ≡ true
    → All (λ c. c < m61_modulus) cs
unfolding all_hold
all_below n [] same h = All-nil (λ c. c < m61_modulus)
all_below (suc n) (c ∷ cs) same h =
    let both = and_parts _ _ h in
    All-cons (λ x. x < m61_modulus) c cs (ltb-true c m61_modulus both.0)
    (all_below n cs (omega (arith, same)) both.1)
all_below zero (c ∷ cs) same h = absurd (omega (arith, same))

-- a power that has a spelling has no coefficient that is not an element
pub power_below : (version : Version) (v : ArrayVec ℕ) → IsTrue (fits version (messages.Power v))
    → All (λ c. c < m61_modulus) v.items
unfolding fits
power_below version v h = by_items v.items refl (and_parts _ _ h).1
  where
    by_items : (cs : List ℕ) → v.items ≡ cs
        → all_hold (repeat (suc (length cs - 1)) (element ∷ [])) (flat_map coefficient_numbers cs)
        ≡ true
        → All (λ c. c < m61_modulus) v.items
    by_items [] is held =
        subst (All (λ c. c < m61_modulus)) (sym is) (All-nil (λ c. c < m61_modulus))
    by_items (c ∷ cs) is held =
        let same : length (c ∷ cs) ≡ suc (length (c ∷ cs) - 1) = omega arith in
        subst (All (λ c. c < m61_modulus)) (sym is)
        (all_below (suc (length (c ∷ cs) - 1)) (c ∷ cs) same held)

-- ---- written

-- elements have room, and are such
all_room : (n : ℕ) (cs : List ℕ) → length cs ≡ n → All (λ c. c < m61_modulus) cs
    → has_room (repeat n (element ∷ [])) (flat_map coefficient_numbers cs) ≡ true
unfolding has_room
all_room n [] same h = subst (λ (k : ℕ). has_room (repeat k (element ∷ [])) [] ≡ true) same refl
all_room (suc n) (c ∷ cs) same h =
    and_from _ _ (element_room c (All-head (λ x. x < m61_modulus) c cs h))
    (all_room n cs (omega (arith, same)) (All-tail (λ x. x < m61_modulus) c cs h))
all_room zero (c ∷ cs) same h = absurd (omega (arith, same))

all_held : (n : ℕ) (cs : List ℕ) → length cs ≡ n → All (λ c. c < m61_modulus) cs
    → all_hold (repeat n (element ∷ [])) (flat_map coefficient_numbers cs) ≡ true
unfolding all_hold
all_held n [] same h = subst (λ (k : ℕ). all_hold (repeat k (element ∷ [])) [] ≡ true) same refl
all_held (suc n) (c ∷ cs) same h =
    and_from _ _ (lt-ltb c m61_modulus (All-head (λ x. x < m61_modulus) c cs h))
    (all_held n cs (omega (arith, same)) (All-tail (λ x. x < m61_modulus) c cs h))
all_held zero (c ∷ cs) same h = absurd (omega (arith, same))

-- a polynomial of a degree that there is has a spelling, and may stand at the place of its degree
pub power_spelled : (version : Version) (k : ℕ) (c : List ℕ) → k ≤ most_degree → IsPolynomial k c
    → IsTrue (fits version (power_message c))
    × IsTrue (allows (places.Power k) (kind_of (power_message c)))
unfolding fits
power_spelled version k c low h =
    let degree : length c - 1 ≡ k = omega (arith, h.long) in
    let count : length c ≡ suc (length c - 1) = omega (arith, h.long) in (
      and_from _ _ (and_from _ _ (and_from _ _ (and_from _ _
          (le-leb (length c - 1) most_degree (omega (arith, degree, low))) refl)
          (all_room (suc (length c - 1)) c count h.elements)) refl)
          (all_held (suc (length c - 1)) c count h.elements),
      eq-eqb (length c - 1) k degree,
    )
