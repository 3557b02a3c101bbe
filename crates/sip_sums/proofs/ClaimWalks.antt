-- Sums over entries, from one to the next, and how large they are.
use Rattle.std.proofs.Common.{◌≡◌, ℕ, suc, ◌+◌, ◌-◌, ◌*◌, ◌^◌, ◌<◌, ◌≤◌, Bool, true, false, cond, FitsSigned, w64, List, [], ◌∷◌, ℤ, pos, ◌+ℤ◌, ◌*ℤ◌, nat_abs, refl, ap, ◌∙◌, arith}
use Rattle.std.proofs.Math.Nat.{mul-le-mul_right}
use Rattle.std.proofs.lemmas.Int.{ints, unsigned_abs-mul, fits_signed_from_abs}
use Rattle.sip_vector.specs.declared.update.Entry.{Entry}
use Rattle.sip_vector.specs.Answers.{is_within}
use Rattle.sip_vector.specs.Streams.{most_weight}
use Rattle.sip_vector.specs.inside.Gathered.{abs_sum}
use Rattle.sip_vector.proofs.Sums.{nat_abs-add-le}
use Rattle.sip_sums.specs.Claims.{value_in, value_within, products_sum, RisesFrom}
use Rattle.sip_sums.proofs.ClaimSums.{value_in-earlier, value_in-here, value_in-later}

-- a product is no larger than the greatest weight times one factor
pub product-light : (a b : ℤ) → nat_abs b ≤ most_weight → nat_abs (a *ℤ b) ≤ most_weight * nat_abs a
product-light a b light =
    let product = unsigned_abs-mul a b in
    let most : nat_abs b * nat_abs a ≤ most_weight * nat_abs a = mul-le-mul_right (nat_abs a) light in
    omega (arith, product, most)

-- the products so far leave room for those that are to come
pub record HasRoom (sum : ℤ) (rest : List Entry) : Type 0 where
  pub room : nat_abs sum + most_weight * abs_sum rest ≤ most_weight * most_weight

pub room-first : (es : List Entry) → abs_sum es ≤ most_weight → HasRoom (pos 0) es
room-first es light = record { room = omega (arith, light) }

pub room-entry : (sum : ℤ) (e : Entry) (rest : List Entry) → HasRoom sum (e ∷ rest) → nat_abs e.value ≤ most_weight
room-entry sum e rest h = omega (arith, h.room)

pub room-next : (sum : ℤ) (e : Entry) (rest : List Entry) (b : ℤ) → HasRoom sum (e ∷ rest) → nat_abs b ≤ most_weight → HasRoom (sum +ℤ e.value *ℤ b) rest
room-next sum e rest b h light = record { room = omega (arith, h.room, product-light e.value b light, nat_abs-add-le sum (e.value *ℤ b)) }

pub room-skip : (sum : ℤ) (e : Entry) (rest : List Entry) → HasRoom sum (e ∷ rest) → HasRoom sum rest
room-skip sum e rest h = record { room = omega (arith, h.room) }

-- so each fits an i64
pub product-fits : (a b : ℤ) → nat_abs a ≤ most_weight → nat_abs b ≤ most_weight → FitsSigned w64 (a *ℤ b)
product-fits a b light light_too = fits_signed_from_abs w64 (a *ℤ b) (omega (arith, light, product-light a b light_too))

pub room-fits : (sum : ℤ) (rest : List Entry) → HasRoom sum rest → FitsSigned w64 sum
room-fits sum rest h = fits_signed_from_abs w64 sum (omega (arith, h.room))

pub room-light : (sum : ℤ) (rest : List Entry) → HasRoom sum rest → nat_abs sum ≤ 2 ^ 60 - 1
room-light sum rest h = omega (arith, h.room)

-- ---- the products with another list's values

products-agree : (least : ℕ) (others others' es : List Entry) → RisesFrom least es → ((i : ℕ) → least ≤ i → value_in others i ≡ value_in others' i)
    → products_sum others es ≡ products_sum others' es
products-agree least others others' [] rise same = refl
products-agree least others others' (e ∷ es) rise same =
    ap (λ z. e.value *ℤ z +ℤ products_sum others es) (same e.index rise.0)
    ∙ ap (λ z. e.value *ℤ value_in others' e.index +ℤ z) (products-agree (suc e.index) others others' es rise.1 (λ i le. same i (omega (arith, rise.0, le))))

times_zero : (z rest : ℤ) → z *ℤ pos 0 +ℤ rest ≡ rest
times_zero z rest = omega (arith, ints)

pub products-none : (es : List Entry) → products_sum [] es ≡ pos 0
products-none [] = refl
products-none (e ∷ es) = times_zero e.value (products_sum [] es) ∙ products-none es

module _ (e o : Entry) (es os : List Entry) where
  pub products-less : RisesFrom 0 (o ∷ os) → e.index < o.index → products_sum (o ∷ os) (e ∷ es) ≡ products_sum (o ∷ os) es
  products-less rise less =
      ap (λ z. e.value *ℤ z +ℤ products_sum (o ∷ os) es) (value_in-earlier o.index e.index (o ∷ os) (omega arith, rise.1) less)
      ∙ times_zero e.value (products_sum (o ∷ os) es)

  pub products-more : RisesFrom 0 (e ∷ es) → o.index < e.index → products_sum (o ∷ os) (e ∷ es) ≡ products_sum os (e ∷ es)
  products-more rise less =
      products-agree e.index (o ∷ os) os (e ∷ es) (omega arith, rise.1) (λ i le. value_in-later o os i (λ same. absurd (omega (arith, same, le, less))))

  pub products-same : RisesFrom 0 (e ∷ es) → o.index ≡ e.index → products_sum (o ∷ os) (e ∷ es) ≡ e.value *ℤ o.value +ℤ products_sum os es
  products-same rise same =
      ap (λ z. e.value *ℤ z +ℤ products_sum (o ∷ os) es) (value_in-here o os e.index same)
      ∙ ap (λ z. e.value *ℤ o.value +ℤ z)
      (products-agree (suc e.index) (o ∷ os) os es rise.1 (λ i le. value_in-later o os i (λ equal. absurd (omega (arith, same, equal, le)))))

pub sums-on : (sum x rest all : ℤ) → sum +ℤ (x +ℤ rest) ≡ all → (sum +ℤ x) +ℤ rest ≡ all
sums-on sum x rest all e = omega (arith, ints, e)

pub no_rest : (sum all : ℤ) → sum +ℤ pos 0 ≡ all → sum ≡ all
no_rest sum all e = omega (arith, ints, e)

pub from_nothing : (all : ℤ) → pos 0 +ℤ all ≡ all
from_nothing all = omega (arith, ints)

value-light : (b : Bool) (x : ℤ) → nat_abs (cond b x (pos 0)) ≤ nat_abs x
value-light true x = omega arith
value-light false x = omega arith

-- a value that is taken into a sum or not
pub within-light : (lo hi : ℕ) (e : Entry) → nat_abs (value_within lo hi e) ≤ nat_abs e.value
within-light lo hi e = value-light (is_within lo hi e.index) e.value
