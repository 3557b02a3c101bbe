-- The list of an interval before and after a fold.
use Rattle.std.proofs.Common.{◌≡◌, ℕ, zero, suc, ◌+◌, ◌-◌, ◌*◌, ◌/◌, ◌%◌, ◌^◌, ◌<◌, ◌≤◌, inl, inr, List, [], ◌∷◌, Bool, cond, true, false, length, get_or, map, refl, sym, ◌∙◌, ap, arith, pos}
use Rattle.std.proofs.Math.Nat.{mod-eq_of_lt, pow-zero, pow-succ', mod_self, zero-mod}
use Rattle.std.proofs.lemmas.Bool.{cases_eq, cases_lt, eq-eqb, ne_eqb}
use Rattle.std.proofs.lemmas.Bool.Decides.{nat_tests}
use Rattle.std.proofs.lemmas.List.FromFn.{fill_by_all, get_or-map-range_with_len, length-map-range_with_len}
use Rattle.std.specs.List.{range_with_len}
use mir.Val.{bool_byte}
use Rattle.sip_field.specs.Residue.{residue, difference_mod}
use Rattle.sip_vector.specs.Answers.{is_within}
use Rattle.sip_vector.specs.Extensions.{line, ones}
use Rattle.sip_mle.specs.Intervals.{entry, interval}
use Rattle.sip_mle.proofs.Folding.{length-line, line_at}

module _ (lo hi left right i : ℕ) where
  pub entry_left : i ≡ lo → entry lo hi left right i ≡ left
  entry_left at = rw (eq-eqb i lo at) refl

  pub entry_right : (i ≡ lo → ⊥) → i ≡ hi → entry lo hi left right i ≡ right
  entry_right not_lo at = rw (ne_eqb i lo not_lo, eq-eqb i hi at) refl

  pub entry_else : (i ≡ lo → ⊥) → (i ≡ hi → ⊥) → entry lo hi left right i ≡ cond (is_within lo hi i) 1 0
  entry_else not_lo not_hi = rw (ne_eqb i lo not_lo, ne_eqb i hi not_hi) refl

  entry_inner : lo < i → i < hi → entry lo hi left right i ≡ 1
  entry_inner above below = entry_else (λ e. omega arith) (λ e. omega arith) ∙ grind (arith, nat_tests)

  entry_before : i < lo → lo ≤ hi → entry lo hi left right i ≡ 0
  entry_before below order = entry_else (λ e. omega arith) (λ e. omega arith) ∙ grind (arith, nat_tests)

  entry_behind : hi < i → lo ≤ hi → entry lo hi left right i ≡ 0
  entry_behind above order = entry_else (λ e. omega arith) (λ e. omega arith) ∙ grind (arith, nat_tests)

-- before any fold the ends are 1 too
is_in : (lo hi i : ℕ) → lo ≤ i → i ≤ hi → is_within lo hi i ≡ true
is_in lo hi i from until = grind (arith, nat_tests)

as_residue : (p : ℕ) (b : Bool) → 1 < p → cond b 1 0 ≡ residue p (cond b (pos 1) (pos 0))
as_residue p true above = sym (mod-eq_of_lt above)
as_residue p false above = sym (zero-mod p)

entry_one : (p lo hi i : ℕ) → 1 < p → lo ≤ hi →
    entry lo hi (1 % p) (1 % p) i ≡ residue p (cond (is_within lo hi i) (pos 1) (pos 0))
entry_one p lo hi i above order = elim (cases_eq i lo) [
  | inl at ↦
      entry_left lo hi (1 % p) (1 % p) i at
      ∙ ap (λ b. residue p (cond b (pos 1) (pos 0))) (sym (is_in lo hi i (omega arith) (omega arith)))
  | inr not_lo ↦ elim (cases_eq i hi) [
    | inl at ↦
        entry_right lo hi (1 % p) (1 % p) i not_lo at
        ∙ ap (λ b. residue p (cond b (pos 1) (pos 0))) (sym (is_in lo hi i (omega arith) (omega arith)))
    | inr not_hi ↦ entry_else lo hi (1 % p) (1 % p) i not_lo not_hi ∙ as_residue p (is_within lo hi i) above
  ]
]

ones_from : (p lo hi : ℕ) (xs : List ℕ) → 1 < p → lo ≤ hi →
    map (entry lo hi (1 % p) (1 % p)) xs ≡ map (residue p) (map (λ i. cond (is_within lo hi i) (pos 1) (pos 0)) xs)
ones_from p lo hi [] above order = refl
ones_from p lo hi (x ∷ xs) above order =
    ap (λ e. e ∷ map (entry lo hi (1 % p) (1 % p)) xs) (entry_one p lo hi x above order)
    ∙ ap (λ es. residue p (cond (is_within lo hi x) (pos 1) (pos 0)) ∷ es) (ones_from p lo hi xs above order)

pub interval_of_ones : (p levels lo hi : ℕ) → 1 < p → lo ≤ hi → interval levels lo hi (1 % p) (1 % p) ≡ map (residue p) (ones levels lo hi)
interval_of_ones p levels lo hi above order = ones_from p lo hi (range_with_len 0 (2 ^ levels)) above order

pub length-interval : (levels lo hi left right : ℕ) → length (interval levels lo hi left right) ≡ 2 ^ levels
length-interval levels lo hi left right = length-map-range_with_len (entry lo hi left right) 0 (2 ^ levels)

pub interval_at_index : (levels lo hi left right i : ℕ) → i < 2 ^ levels → get_or (interval levels lo hi left right) i 0 ≡ entry lo hi left right i
interval_at_index levels lo hi left right i within = get_or-map-range_with_len (entry lo hi left right) 0 (2 ^ levels) i i 0 within (omega arith)

-- an entry of a list that is an interval's
pub entry_read : (levels lo hi left right i : ℕ) (list : List ℕ) → interval levels lo hi left right ≡ list → i < length list →
    get_or list i 0 ≡ entry lo hi left right i
entry_read levels lo hi left right i list is h =
    let within : i < 2 ^ levels = omega (arith, ap length is, length-interval levels lo hi left right) in
    ap (λ l. get_or l i 0) (sym is) ∙ interval_at_index levels lo hi left right i within

-- 1 inside and 0 outside, as the code makes them
pub as_number : (p : ℕ) (b : Bool) → 1 < p → bool_byte b % p ≡ cond b 1 0
as_number p true above = mod-eq_of_lt above
as_number p false above = zero-mod p

-- a list of two or more entries has a level to fold, and a fold leaves half of them
pub levels_left : (levels n : ℕ) → n ≡ 2 ^ levels → 2 ≤ n → 0 < levels
levels_left zero n e h = absurd (omega (arith, pow-zero 2))
levels_left (suc levels) n e h = omega arith

pub half : (levels : ℕ) → 0 < levels → 2 ^ levels ≡ 2 * 2 ^ (levels - 1)
half levels some = let e : levels ≡ suc (levels - 1) = omega arith in ap (λ n. 2 ^ n) e ∙ pow-succ' 2 (levels - 1)

pub pair_within : (levels i n : ℕ) → n ≡ 2 ^ levels → 2 ≤ n → i < n → i / 2 * 2 + 1 < n
pair_within levels i n e h within = omega (arith, half levels (levels_left levels n e h))

-- a pair of equal entries stays what it is
same_pair : (p r x : ℕ) → x < p → (x + r * difference_mod p x x) % p ≡ x
same_pair p r x below =
    let whole : x + (p - x) ≡ p = omega arith in
    let none : difference_mod p x x ≡ 0 = ap (λ n. n % p) whole ∙ mod_self p in
    ap (λ n. (x + r * n) % p) none ∙ ap (λ n. n % p) (let e : x + r * 0 ≡ x = omega arith in e) ∙ mod-eq_of_lt below

module _ (p r levels lo hi left right : ℕ) (above : 1 < p) (some : 0 < levels) (order : lo ≤ hi) (within : hi < 2 ^ levels) where
  length-folded : length (line p (interval levels lo hi left right) r) ≡ 2 ^ (levels - 1)
  length-folded = length-line p r (interval levels lo hi left right) _ (length-interval levels lo hi left right ∙ half levels some)

  pair : (k x : ℕ) → k < 2 ^ (levels - 1) → x < p → entry lo hi left right (k * 2) ≡ x → entry lo hi left right (k * 2 + 1) ≡ x →
      get_or (line p (interval levels lo hi left right) r) k 0 ≡ x
  pair k x inside below first second =
      let size : length (interval levels lo hi left right) ≡ 2 ^ levels = length-interval levels lo hi left right in
      let here : k * 2 < 2 ^ levels = omega (arith, half levels some) in
      let there : k * 2 + 1 < 2 ^ levels = omega (arith, half levels some) in
      let long : k * 2 + 1 < length (interval levels lo hi left right) = omega arith in
      line_at p r (interval levels lo hi left right) k long
      ∙ ap (λ u. (u + r * difference_mod p (get_or (interval levels lo hi left right) (k * 2 + 1) 0) u) % p) (interval_at_index levels lo hi left right (k * 2) here ∙ first)
      ∙ ap (λ w. (x + r * difference_mod p w x) % p) (interval_at_index levels lo hi left right (k * 2 + 1) there ∙ second)
      ∙ same_pair p r x below

  module _ (left' right' : ℕ)
      (at_lo : left' ≡ get_or (line p (interval levels lo hi left right) r) (lo / 2) 0)
      (at_hi : right' ≡ get_or (line p (interval levels lo hi left right) r) (hi / 2) 0) where
    folded_entry : (k : ℕ) → k < 2 ^ (levels - 1) →
        get_or (line p (interval levels lo hi left right) r) k 0 ≡ entry (lo / 2) (hi / 2) left' right' k
    folded_entry k inside = elim (cases_eq k (lo / 2)) [
      | inl at ↦
          ap (λ j. get_or (line p (interval levels lo hi left right) r) j 0) at ∙ sym at_lo
          ∙ sym (entry_left (lo / 2) (hi / 2) left' right' k at)
      | inr not_lo ↦ elim (cases_eq k (hi / 2)) [
        | inl at ↦
            ap (λ j. get_or (line p (interval levels lo hi left right) r) j 0) at ∙ sym at_hi
            ∙ sym (entry_right (lo / 2) (hi / 2) left' right' k not_lo at)
        | inr not_hi ↦ elim (cases_lt k (lo / 2)) [
          | inl before ↦
              pair k 0 inside (omega arith) (entry_before lo hi left right (k * 2) (omega arith) order)
              (entry_before lo hi left right (k * 2 + 1) (omega arith) order)
              ∙ sym (entry_before (lo / 2) (hi / 2) left' right' k before (omega arith))
          | inr from ↦ elim (cases_lt (hi / 2) k) [
            | inl behind ↦
                pair k 0 inside (omega arith) (entry_behind lo hi left right (k * 2) (omega arith) order)
                (entry_behind lo hi left right (k * 2 + 1) (omega arith) order)
                ∙ sym (entry_behind (lo / 2) (hi / 2) left' right' k behind (omega arith))
            | inr until ↦
                pair k 1 inside above (entry_inner lo hi left right (k * 2) (omega arith) (omega arith))
                (entry_inner lo hi left right (k * 2 + 1) (omega arith) (omega arith))
                ∙ sym (entry_inner (lo / 2) (hi / 2) left' right' k (omega arith) (omega arith))
          ]
        ]
      ]
    ]

    -- between two ends stays 1, outside stays 0, and the ends are what their pairs become
    fold_interval : line p (interval levels lo hi left right) r ≡ interval (levels - 1) (lo / 2) (hi / 2) left' right'
    fold_interval = fill_by_all (entry (lo / 2) (hi / 2) left' right') (line p (interval levels lo hi left right) r) (2 ^ (levels - 1)) 0 length-folded folded_entry

  pub fold_of_interval : (list : List ℕ) (left' right' : ℕ) → interval levels lo hi left right ≡ list →
      left' ≡ get_or (line p list r) (lo / 2) 0 → right' ≡ get_or (line p list r) (hi / 2) 0 →
      interval (levels - 1) (lo / 2) (hi / 2) left' right' ≡ line p list r
  fold_of_interval list left' right' is at_lo at_hi =
      sym (fold_interval left' right' (at_lo ∙ ap (λ l. get_or (line p l r) (lo / 2) 0) (sym is)) (at_hi ∙ ap (λ l. get_or (line p l r) (hi / 2) 0) (sym is)))
      ∙ ap (λ l. line p l r) is
