-- Levels that are walked pair by pair.
use Rattle.std.proofs.Common.{◌≡◌, ℕ, suc, ◌+◌, ◌-◌, ◌*◌, ◌/◌, ◌%◌, ◌^◌, ◌<◌, ◌≤◌, Bool, true, List, [], ◌∷◌, ◌++◌, length, get_or, take, drop, All, refl, sym, ap, ◌∙◌, arith, append_assoc, inl, inr}
use Rattle.std.specs.List.{list_all}
use Rattle.std.specs.Prelude.{◌==◌, nat_lt}
use Rattle.std.proofs.Common.{pow-add}
use Rattle.std.proofs.lemmas.Bool.{lt-ltb}
use Rattle.std.proofs.Math.Nat.{pow-zero, pow-succ', div-eq_of_lt, div-lt_iff_lt-mul, one-le-pow, mul-le-mul_left, add-mod-mod, mod-add-mod}
use Rattle.std.proofs.lemmas.Nat.{mul-mod_first}
use Rattle.std.proofs.lemmas.Bool.Decides.{eqb_tells, leb_tells}
use Rattle.std.proofs.lemmas.List.{take_all}
use Rattle.std.proofs.lemmas.List.Elements.{All-take, All-drop}
use Rattle.sip_field.specs.Residue.{product_mod}
use Rattle.sip_field.proofs.Residues.{residues}
use Rattle.sip_wire.specs.declared.message.Node.{Node}
use Rattle.sip_heavy.specs.AcceptsHeavy.{pair_counts, joined, nodes_above}

-- what is left behind the first pair
abbrev pub behind : List Node → List Node
behind xs = take (length xs - 2) (drop 2 xs)

behind-cons : (l h : Node) (xs : List Node) → behind (l ∷ h ∷ xs) ≡ xs
behind-cons l h xs =
    let e : suc (suc (length xs)) - 2 ≡ length xs = omega arith in
    ap (λ n. take n xs) e ∙ take_all (length xs) xs (omega arith)

pub all_behind : (xs : List Node) → All (λ x. x.count < 2 ^ 61) xs → All (λ x. x.count < 2 ^ 61) (behind xs)
all_behind xs all = All-take (λ x. x.count < 2 ^ 61) (length xs - 2) (drop 2 xs) (All-drop (λ x. x.count < 2 ^ 61) 2 xs all)

pub length_behind : (xs : List Node) → 2 ≤ length xs → length (behind xs) + 2 ≡ length xs
length_behind [] two = absurd (omega arith)
length_behind (l ∷ []) two = absurd (omega arith)
length_behind (l ∷ h ∷ xs) two = omega (arith, ap length (behind-cons l h xs))

-- a test of all counts, where the first one passes
pub counts_behind : (test : ℕ → Bool) (xs : List Node) (d : Node) → 2 ≤ length xs → test ((get_or xs 0 d).count + (get_or xs 1 d).count) ≡ true
    → list_all test (pair_counts (behind xs)) ≡ list_all test (pair_counts xs)
counts_behind test [] d two here = absurd (omega arith)
counts_behind test (l ∷ []) d two here = absurd (omega arith)
counts_behind test (l ∷ h ∷ xs) d two here = rw (behind-cons l h xs, here) refl

-- the nodes above, the first one written
pub above_behind : (p r : ℕ) (ys xs : List Node) (d : Node) → 2 ≤ length xs
    → (ys ++ joined p r (get_or xs 0 d) (get_or xs 1 d) ∷ []) ++ nodes_above p r (behind xs) ≡ ys ++ nodes_above p r xs
above_behind p r ys [] d two = absurd (omega arith)
above_behind p r ys (l ∷ []) d two = absurd (omega arith)
above_behind p r ys (l ∷ h ∷ xs) d two = rw (behind-cons l h xs) (append_assoc ys (joined p r l h ∷ []) (nodes_above p r xs))

-- ---- the hash above a pair

square : (r : ℕ) → r ^ 2 ≡ r * r
square r = rw (pow-succ' r 1, pow-succ' r 0, pow-zero r) (omega arith)

cube : (r : ℕ) → r ^ 3 ≡ r * (r * r)
cube r = rw (pow-succ' r 2, square r) refl

-- what a node adds to it as a left child
abbrev pub half_hash : ℕ → ℕ → ℕ → ℕ
half_hash r h n = h + n * r

pub half_residue : (p r h n m : ℕ) → m % p ≡ product_mod p n r → (h + m) % p ≡ half_hash r h (n % p) % p
half_residue p r h n m is = sym (add-mod-mod h m p) ∙ ap (λ k. (h + k) % p) (is ∙ sym (mul-mod_first n r p)) ∙ add-mod-mod h (n % p * r) p

-- the right child's part times the square of the challenge
pub right_residue : (p r h n b s c : ℕ) → b % p ≡ half_hash r (h % p) n % p → s ≡ product_mod p r r → c % p ≡ product_mod p b s → c % p ≡ (h * r ^ 2 + n * r ^ 3) % p
right_residue p r h n b s c half squared product =
    let by_powers : (h + n * r) * (r * r) ≡ h * r ^ 2 + n * r ^ 3 = rw (cube r, square r) (omega arith) in
    product ∙ sym (mul-mod_first b s p) ∙ rw (half, squared) (simp residues (ap (λ k. k % p) by_powers))

pub pair_residue : (p r hl nl hr nr a b s c : ℕ) → a % p ≡ half_hash r (hl % p) nl % p → b % p ≡ half_hash r (hr % p) nr % p → s ≡ product_mod p r r → c % p ≡ product_mod p b s
    → (a + c) % p ≡ (hl + nl * r + hr * r ^ 2 + nr * r ^ 3) % p
pair_residue p r hl nl hr nr a b s c left right squared product =
    let other = right_residue p r hr nr b s c right squared product in
    let regroup : hl + nl * r + (hr * r ^ 2 + nr * r ^ 3) ≡ hl + nl * r + hr * r ^ 2 + nr * r ^ 3 = omega arith in
    sym (mod-add-mod a p c) ∙ sym (add-mod-mod (a % p) c p) ∙ rw (left, other) (simp residues (ap (λ k. k % p) regroup))

-- ---- an index in a level

-- the quotient is 0 exactly where the number is below
pub quotient_tells : (i n : ℕ) → 0 < n → (i / n == 0) ≡ nat_lt i n
quotient_tells i n some = elim (leb_tells (suc i) n) [
  | inl t ↦ rw (t.0, div-eq_of_lt t.1) refl
  | inr t ↦
      elim (eqb_tells (i / n) 0) [
        | inl s ↦ absurd (let iff = div-lt_iff_lt-mul {x = i} {y = 1} some in let less : i < 1 * n = iff.0 (omega (arith, s.1)) in omega arith)
        | inr s ↦ rw (t.0, s.0) refl
      ]
]

-- a number of 64 bits is in a level of 2^64 nodes or more
pub wide_level : (i levels : ℕ) → i < 2 ^ 64 → 64 ≤ levels → nat_lt i (2 ^ levels) ≡ true
wide_level i levels fits wide =
    let e : levels ≡ 64 + (levels - 64) = omega arith in
    let power : 2 ^ levels ≡ 2 ^ 64 * 2 ^ (levels - 64) = ap (λ n. 2 ^ n) e ∙ pow-add 2 64 (levels - 64) in
    let one : 1 ≤ 2 ^ (levels - 64) = one-le-pow (levels - 64) 2 (omega arith) in
    lt-ltb i (2 ^ levels) (omega (arith, power, one, fits, mul-le-mul_left (2 ^ 64) one))
