-- Two lists, compared one after another, and why a part is not added.
use Rattle.std.proofs.Common.{◌≡◌, ℕ, zero, suc, ◌+◌, ◌<◌, ◌≤◌, Bool, true, false, cond, not, ◌&&◌, ltb, List, [], ◌∷◌, length, get_or, Option, Some, None, refl, sym, ap, arith}
use Rattle.std.specs.Prelude.{bytes_eq, nat_eq}
use Rattle.std.specs.Cmp.Lexicographic.{pointwise}
use Rattle.std.proofs.lemmas.Bool.{and_parts, eqb-true, ltb-false}
use Rattle.std.proofs.lemmas.Slice.Eq.{bytes_eq-Decides}
use Rattle.sip_vector.specs.declared.update.Side.TheVariants.{First, Second}
use Rattle.sip_vector.specs.Streams.{most_weight}
use Rattle.sip_sketch.specs.declared.unlike.Unlike.{Unlike}
use Rattle.sip_sketch.specs.declared.unlike.Unlike.TheVariants as reasons
use Rattle.sip_sketch.specs.Joining.{any_used, is_whole, same_seat, same_shape, unlike}
use Rattle.sip_sketch.specs.Sketches.{SeatValues, SketchValues, code_of}
use Rattle.sip_sketch.proofs.Apart.{kinds_same}
use Rattle.sip_sketch.proofs.Totals.{neither}

-- ---- lists, compared element by element

module _ {A : Type 0} (E : A → A → Bool) where
  -- lists that are alike have one length, and are alike at each place
  pub alike-length : (xs ys : List A) → pointwise E xs ys ≡ true → length xs ≡ length ys
  alike-length [] [] all = refl
  alike-length [] (y ∷ ys) all = absurd cc
  alike-length (x ∷ xs) [] all = absurd cc
  alike-length (x ∷ xs) (y ∷ ys) all = ap suc (alike-length xs ys (and_parts (E x y) (pointwise E xs ys) all).1)

  pub alike-at : (xs ys : List A) (k : ℕ) (d e : A) → pointwise E xs ys ≡ true → k < length xs → E (get_or xs k d) (get_or ys k e) ≡ true
  alike-at [] ys k d e all lt = absurd (omega (arith, lt))
  alike-at (x ∷ xs) [] k d e all lt = absurd cc
  alike-at (x ∷ xs) (y ∷ ys) zero d e all lt = (and_parts (E x y) (pointwise E xs ys) all).0
  alike-at (x ∷ xs) (y ∷ ys) (suc k) d e all lt = alike-at xs ys k d e (and_parts (E x y) (pointwise E xs ys) all).1 (omega (arith, lt))

-- ---- seats

pub seats_kind : (s more : SeatValues) → same_seat s more ≡ true → more.kind ≡ s.kind
seats_kind s more same =
    let codes : code_of s.kind ≡ code_of more.kind = eqb-true _ _ (and_parts (nat_eq (code_of s.kind) (code_of more.kind)) (bytes_eq s.block more.block) same).0 in
    sym (kinds_same s.kind more.kind codes)

pub seats_block : (s more : SeatValues) → same_seat s more ≡ true → more.block ≡ s.block
seats_block s more same =
    sym ((bytes_eq-Decides s.block more.block).0 (and_parts (nat_eq (code_of s.kind) (code_of more.kind)) (bytes_eq s.block more.block) same).1)

pub none_used : (seats : List SeatValues) (k : ℕ) (d : SeatValues) → any_used seats ≡ false → k < length seats → (get_or seats k d).is_used ≡ false
none_used [] k d none lt = absurd (omega (arith, lt))
none_used (s ∷ seats) zero d none lt = (neither s.is_used (any_used seats) none).0
none_used (s ∷ seats) (suc k) d none lt = none_used seats k d (neither s.is_used (any_used seats) none).1 (omega (arith, lt))

-- ---- a part that is added

-- none of the reasons is there
pub record Joins (s part : SketchValues) : Type 0 where
  pub depth : s.depth ≡ part.depth
  pub count : s.parts.count ≡ part.parts.count
  pub seats : pointwise same_seat s.seats part.seats ≡ true
  pub unused : any_used part.seats ≡ false
  pub next : part.parts.first ≡ s.parts.last + 1
  pub first : s.tally.first + part.tally.first ≤ most_weight
  pub second : s.tally.second + part.tally.second ≤ most_weight

pub passed : (b : Bool) (why : Unlike) (rest : Option Unlike) → cond b (Some why) rest ≡ None → (b ≡ false) × (rest ≡ None)
passed true why rest none = absurd cc
passed false why rest none = (refl, none)

pub is_so : (b : Bool) → not b ≡ false → b ≡ true
is_so true fails = refl
is_so false fails = absurd cc

pub joins_from : (s part : SketchValues) → unlike s part ≡ None → Joins s part
joins_from s part free =
    let one = passed (not (same_shape s part)) reasons.Shape _ free in
    let two = passed (is_whole part.parts) reasons.Whole _ one.1 in
    let three = passed (any_used part.seats) reasons.UsedSeat _ two.1 in
    let four = passed (not (nat_eq part.parts.first (s.parts.last + 1))) reasons.NotNext _ three.1 in
    let five = passed (ltb most_weight (s.tally.first + part.tally.first)) (reasons.Heavy First) _ four.1 in
    let six = passed (ltb most_weight (s.tally.second + part.tally.second)) (reasons.Heavy Second) _ five.1 in
    let shape = and_parts (nat_eq s.depth part.depth) (nat_eq s.parts.count part.parts.count && pointwise same_seat s.seats part.seats) (is_so _ one.0) in
    let rest = and_parts (nat_eq s.parts.count part.parts.count) (pointwise same_seat s.seats part.seats) shape.1 in
    record {
      depth = eqb-true _ _ shape.0;
      count = eqb-true _ _ rest.0;
      seats = rest.1;
      unused = three.0;
      next = eqb-true _ _ (is_so _ four.0);
      first = ltb-false _ _ five.0;
      second = ltb-false _ _ six.0;
    }
