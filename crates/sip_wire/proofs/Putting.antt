-- Loops over rows that are there: what was written or tested so far, and what is left.
use Rattle.std.proofs.Common.{◌≡◌, ℕ, suc, ◌+◌, ◌<◌, ◌≤◌, ◌^◌, Bool, true, false, ◌&&◌, nat_lt, List, [], ◌∷◌, ◌++◌, length, get_or, drop, drop-cons, refl, sym, ap, ◌∙◌, append_assoc, arith, length-append}
use Rattle.std.proofs.lemmas.Bool.{and_parts}
use Rattle.std.proofs.lemmas.List.{append-nil}
use Rattle.std.proofs.lemmas.List.Concat.{flat_map-cons}
use Rattle.std.specs.List.{flat_map}
use Rattle.sip_wire.specs.Table.{longest_frame, Field, size}
use Rattle.sip_wire.specs.Rows.{over, rooms, holds, bytes}
use Rattle.sip_wire.specs.Spelling.{in_bytes, spelled, has_room, all_hold}
use Rattle.sip_wire.proofs.Fields.{size-append, and_assoc, fields_size}

-- numbers have room in the fields of two lists where each part has room in its list
room-append : (fs gs : List Field) (xs ys : List ℕ) → length xs ≡ length fs → has_room (fs ++ gs) (xs ++ ys) ≡ (has_room fs xs && has_room gs ys)
unfolding has_room
room-append [] gs [] ys e = refl
room-append [] gs (x ∷ xs) ys e = absurd (omega arith)
room-append (f ∷ fs) gs [] ys e = absurd (omega arith)
room-append (f ∷ fs) gs (x ∷ xs) ys e = ap (λ (b : Bool). nat_lt x (256 ^ f.width) && b) (room-append fs gs xs ys (omega arith)) ∙ and_assoc (nat_lt x (256 ^ f.width)) (has_room fs xs) (has_room gs ys)

-- the fields of two lists may hold their numbers where each list may
hold-append : (fs gs : List Field) (xs ys : List ℕ) → length xs ≡ length fs → all_hold (fs ++ gs) (xs ++ ys) ≡ (all_hold fs xs && all_hold gs ys)
unfolding all_hold
hold-append [] gs [] ys e = refl
hold-append [] gs (x ∷ xs) ys e = absurd (omega arith)
hold-append (f ∷ fs) gs [] ys e = absurd (omega arith)
hold-append (f ∷ fs) gs (x ∷ xs) ys e = ap (λ (b : Bool). f.holds x && b) (hold-append fs gs xs ys (omega arith)) ∙ and_assoc (f.holds x) (all_hold fs xs) (all_hold gs ys)

-- the numbers of two lists are spelled one after the other
spelled-append : (fs gs : List Field) (xs ys : List ℕ) → length xs ≡ length fs → spelled (fs ++ gs) (xs ++ ys) ≡ spelled fs xs ++ spelled gs ys
unfolding spelled
spelled-append [] gs [] ys e = refl
spelled-append [] gs (x ∷ xs) ys e = absurd (omega arith)
spelled-append (f ∷ fs) gs [] ys e = absurd (omega arith)
spelled-append (f ∷ fs) gs (x ∷ xs) ys e = ap (λ (bs : List ℕ). in_bytes f.width x ++ bs) (spelled-append fs gs xs ys (omega arith)) ∙ sym (append_assoc (in_bytes f.width x) (spelled fs xs) (spelled gs ys))

-- four tests in another order
swapped : (a b c d : Bool) → ((a && b) && (c && d)) ≡ ((a && c) && (b && d))
swapped true true c d = refl
swapped true false true d = refl
swapped true false false d = refl
swapped false b c d = refl

module _ {T : Type 0} where
  -- the rows from one on
  pub from_next : (xs : List T) (i : ℕ) (x : T) → x ≡ get_or xs i x → i < length xs → drop i xs ≡ x ∷ drop (i + 1) xs
  from_next xs i x is lt = let n : i + 1 ≡ suc i = omega arith in drop-cons xs i x lt ∙ ap (λ (y : T). y ∷ drop (suc i) xs) (sym is) ∙ ap (λ (k : ℕ). x ∷ drop k xs) (sym n)

  -- one more row: its room, what it holds and its bytes
  rooms-cons : (said : T → List ℕ) (layout : List Field) (x : T) (xs : List T) → length (said x) ≡ length layout → rooms said layout (x ∷ xs) ≡ (has_room layout (said x) && rooms said layout xs)
  rooms-cons said layout x xs e = ap (λ (ns : List ℕ). has_room (layout ++ over layout xs) ns) (flat_map-cons said x xs) ∙ room-append layout (over layout xs) (said x) (flat_map said xs) e

  holds-cons : (said : T → List ℕ) (layout : List Field) (x : T) (xs : List T) → length (said x) ≡ length layout → holds said layout (x ∷ xs) ≡ (all_hold layout (said x) && holds said layout xs)
  holds-cons said layout x xs e = ap (λ (ns : List ℕ). all_hold (layout ++ over layout xs) ns) (flat_map-cons said x xs) ∙ hold-append layout (over layout xs) (said x) (flat_map said xs) e

  bytes-cons : (said : T → List ℕ) (layout : List Field) (x : T) (xs : List T) → length (said x) ≡ length layout → bytes said layout (x ∷ xs) ≡ spelled layout (said x) ++ bytes said layout xs
  bytes-cons said layout x xs e = ap (λ (ns : List ℕ). spelled (layout ++ over layout xs) ns) (flat_map-cons said x xs) ∙ spelled-append layout (over layout xs) (said x) (flat_map said xs) e

  -- ---- testing

  abbrev pub passes : (T → List ℕ) → List Field → List T → Bool
  passes said layout xs = rooms said layout xs && holds said layout xs

  pub passes-cons : (said : T → List ℕ) (layout : List Field) (all : List T) (x : T) (rest after : List T) → rest ≡ x ∷ after → length (said x) ≡ length layout → passes said layout rest ≡ passes said layout all
      → ((has_room layout (said x) && all_hold layout (said x)) && passes said layout after) ≡ passes said layout all
  passes-cons said layout all x rest after is e so_far =
      let a = rooms-cons said layout x after e in
      let b = holds-cons said layout x after e in
      let whole : passes said layout (x ∷ after) ≡ ((has_room layout (said x) && rooms said layout after) && (all_hold layout (said x) && holds said layout after)) = rw (a, b) refl in
      swapped (has_room layout (said x)) (all_hold layout (said x)) (rooms said layout after) (holds said layout after) ∙ sym whole ∙ ap (passes said layout) (sym is) ∙ so_far

  -- a row that doesn't pass
  pub passes-not : (said : T → List ℕ) (layout : List Field) (all : List T) (x : T) (rest after : List T) → rest ≡ x ∷ after → length (said x) ≡ length layout → passes said layout rest ≡ passes said layout all
      → (has_room layout (said x) && all_hold layout (said x)) ≡ false → false ≡ passes said layout all
  passes-not said layout all x rest after is e so_far not = ap (λ (b : Bool). b && passes said layout after) (sym not) ∙ passes-cons said layout all x rest after is e so_far

  -- a row that does
  pub passes-more : (said : T → List ℕ) (layout : List Field) (all : List T) (x : T) (rest after : List T) → rest ≡ x ∷ after → length (said x) ≡ length layout → passes said layout rest ≡ passes said layout all
      → (has_room layout (said x) && all_hold layout (said x)) ≡ true → passes said layout after ≡ passes said layout all
  passes-more said layout all x rest after is e so_far held = ap (λ (b : Bool). b && passes said layout after) (sym held) ∙ passes-cons said layout all x rest after is e so_far

  pub passes-nil : (said : T → List ℕ) (layout : List Field) (all rest : List T) → rest ≡ [] → passes said layout rest ≡ passes said layout all → true ≡ passes said layout all
  unfolding has_room all_hold
  passes-nil said layout all rest is so_far = let none : passes said layout rest ≡ true = rw is refl in sym none ∙ so_far

  -- ---- writing

  pub record Written (said : T → List ℕ) (layout : List Field) (all : List T) (start out : List ℕ) (rest : List T) : Type 0 where
    pub fits : rooms said layout rest ≡ true
    pub room : length out + size (over layout rest) ≤ longest_frame
    pub written : out ++ bytes said layout rest ≡ start ++ bytes said layout all

  pub row_room : (said : T → List ℕ) (layout : List Field) (all : List T) (start out : List ℕ) (x : T) (rest after : List T) → rest ≡ x ∷ after → length (said x) ≡ length layout → Written said layout all start out rest
      → (has_room layout (said x) ≡ true) × (length out + size layout ≤ longest_frame)
  row_room said layout all start out x rest after is e so =
      let both : (has_room layout (said x) && rooms said layout after) ≡ true = sym (rooms-cons said layout x after e) ∙ ap (rooms said layout) (sym is) ∙ so.fits in
      let total : size (over layout rest) ≡ size layout + size (over layout after) = ap (λ (ys : List T). size (over layout ys)) is ∙ size-append layout (over layout after) in
      ((and_parts _ _ both).0, omega (arith, so.room))

  pub row_put : (said : T → List ℕ) (layout : List Field) (all : List T) (start out longer : List ℕ) (x : T) (rest after : List T) → rest ≡ x ∷ after → length (said x) ≡ length layout → longer ≡ out ++ spelled layout (said x)
      → Written said layout all start out rest → Written said layout all start longer after
  row_put said layout all start out longer x rest after is e put so =
      let both : (has_room layout (said x) && rooms said layout after) ≡ true = sym (rooms-cons said layout x after e) ∙ ap (rooms said layout) (sym is) ∙ so.fits in
      let total : size (over layout rest) ≡ size layout + size (over layout after) = ap (λ (ys : List T). size (over layout ys)) is ∙ size-append layout (over layout after) in
      let len : length longer ≡ length out + size layout = ap length put ∙ length-append out (spelled layout (said x)) ∙ ap (λ (n : ℕ). length out + n) (fields_size layout (said x) (and_parts _ _ both).0) in
      record {
        fits = (and_parts (has_room layout (said x)) (rooms said layout after) both).1;
        room = omega (arith, so.room);
        written = ap (λ (o : List ℕ). o ++ bytes said layout after) put ∙ append_assoc out (spelled layout (said x)) (bytes said layout after)
            ∙ ap (λ (bs : List ℕ). out ++ bs) (sym (bytes-cons said layout x after e) ∙ ap (bytes said layout) (sym is)) ∙ so.written;
      }

  pub all_put : (said : T → List ℕ) (layout : List Field) (all : List T) (start out : List ℕ) (rest : List T) → rest ≡ [] → Written said layout all start out rest → out ≡ start ++ bytes said layout all
  unfolding spelled
  all_put said layout all start out rest is so =
      let none : bytes said layout rest ≡ [] = rw is refl in
      sym (append-nil out) ∙ ap (λ (bs : List ℕ). out ++ bs) (sym none) ∙ so.written
