-- The record of an update says that update.
use Rattle.std.proofs.Common.{◌≡◌, ℕ, ◌+◌, ◌^◌, ◌<◌, List, [], ◌∷◌, ◌++◌, append_assoc, drop_at, length-append, length, take, drop, ◌-◌, ◌≤◌, ◌==◌, cond, ℤ, pos, negsuc, refl, ap, ◌∙◌, arith, w64}
use Rattle.std.specs.Prelude.{FitsSigned}
use Rattle.std.specs.Int.{cast_signed, cast_unsigned}
use Rattle.std.proofs.Math.Nat.{mod-eq_of_lt}
use Rattle.std.proofs.lemmas.Int.{to_z-of_z}
use Rattle.byteorder.specs.Endian.{big_number, big_bytes}
use Rattle.byteorder.proofs.Bytes.{between-bytes_high_first}
use Rattle.byteorder.specs.Numbers.{big_from-bytes, length-bytes_high_first}
use Rattle.sip_vector.specs.declared.update.Side.{Side}
use Rattle.sip_vector.specs.declared.update.Side.TheVariants.{First, Second}
use Rattle.sip_vector.specs.declared.update.Update.{Update}
use Rattle.sip_stream.specs.Layouts.{record_size}
use Rattle.sip_stream.specs.Records.{record_at}
use Rattle.sip_stream.specs.Spellings.{record_bytes, side_number}

pub side_back : (s : Side) → (cond (side_number s == 0) First Second) ≡ s
side_back First = refl
side_back Second = refl

-- a number's bytes are read as the number, whatever follows
number_back : (n x : ℕ) (rest : List ℕ) → x < 256 ^ n → big_number n (big_bytes n x ++ rest) ≡ x
number_back n x rest small = big_from-bytes n x rest ∙ mod-eq_of_lt small

bits_fit : (z : ℤ) → FitsSigned w64 z → cast_unsigned w64 z < 256 ^ 8
bits_fit (pos n) fits = omega (arith, fits.sfits)
bits_fit (negsuc n) fits = omega (arith, fits.sfits)

pub same_parts : (side : Side) (item : ℕ) (delta : ℤ) (u : Update) → side ≡ u.side → item ≡ u.item → delta ≡ u.delta → record { side = side; item = item; delta = delta } ≡ u
same_parts side item delta u s i d = rw (s, i, d) refl

module _ (width : ℕ) (u : Update) where
  -- the bytes in front of the delta
  front : List ℕ
  front = side_number u.side ∷ big_bytes width u.item

  back : List ℕ
  back = big_bytes 8 (cast_unsigned w64 u.delta)

  length-front : length front ≡ 1 + width
  unfolding front
  length-front = omega (arith, length-bytes_high_first width u.item)

  record_parts : record_bytes width u ≡ front ++ back
  unfolding record_bytes front back
  record_parts = refl

  item_back : u.item < 256 ^ width → big_number width (drop 1 (front ++ back)) ≡ u.item
  unfolding front
  item_back small = number_back width u.item back small

  delta_back : FitsSigned w64 u.delta → cast_signed w64 (big_number 8 (drop (1 + width) (front ++ back))) ≡ u.delta
  unfolding back
  delta_back fits =
      let bits : big_number 8 back ≡ cast_unsigned w64 u.delta = number_back 8 (cast_unsigned w64 u.delta) [] (bits_fit u.delta fits) in
      ap (λ l. cast_signed w64 (big_number 8 l)) (drop_at front back (1 + width) length-front) ∙ ap (cast_signed w64) bits ∙ to_z-of_z w64 u.delta fits

  pub record_back : u.item < 256 ^ width → FitsSigned w64 u.delta → record_at width (record_bytes width u) ≡ u
  unfolding front
  record_back small fits = ap (record_at width) record_parts ∙ same_parts _ _ _ u (side_back u.side) (item_back small) (delta_back fits)

  pub length-record : length (record_bytes width u) ≡ record_size width
  unfolding back
  length-record = ap length record_parts ∙ length-append front back ∙ omega (arith, length-front, length-bytes_high_first 8 (cast_unsigned w64 u.delta))

-- the bytes of a record behind others, the item's being the last of eight
pub record_built : (width : ℕ) (u : Update) (start number item back all : List ℕ) → width ≤ 8 → number ≡ start ++ side_number u.side ∷ [] → item ≡ number ++ take (8 - (8 - width)) (drop (8 - width) (big_bytes 8 u.item))
    → back ≡ big_bytes 8 (cast_unsigned w64 u.delta) → all ≡ item ++ back → all ≡ start ++ record_bytes width u
unfolding record_bytes
record_built width u start number item back all le one two three four =
    let low = between-bytes_high_first 8 width u.item le in
    let joined : ((start ++ side_number u.side ∷ []) ++ big_bytes width u.item) ++ big_bytes 8 (cast_unsigned w64 u.delta) ≡ start ++ (side_number u.side ∷ big_bytes width u.item ++ big_bytes 8 (cast_unsigned w64 u.delta)) = simp append_assoc in
    four ∙ rw (two, one, three, low) joined
