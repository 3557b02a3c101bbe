-- What two seats of a kind add up to, and two sketches.
use Rattle.std.proofs.Common.{◌≡◌, ℕ, zero, suc, ◌+◌, ◌-◌, ◌%◌, ◌<◌, ◌≤◌, Bool, true, false, cond, ◌||◌, pos, List, [], ◌∷◌, ◌++◌, length, get_or, set, refl, sym, ap, subst, ◌∙◌, arith}
use Rattle.std.specs.Prelude.{◌-ℤ◌}
use Rattle.std.specs.List.{AllZip}
use Rattle.std.proofs.Math.Nat.{mod-lt}
use Rattle.std.proofs.lemmas.Int.{ints}
use Rattle.sip_field.specs.Moduli.{m61_modulus}
use Rattle.sip_mle.specs.StandsFor.{PointStandsFor}
use Rattle.sip_mle.proofs.Weighing.{points_stand}
use Rattle.sip_tree.specs.StandsFor.{AugRootStandsFor, RootStandsFor}
use Rattle.sip_tree.proofs.Splitting.{split_root_joins, split_roots_stand}
use Rattle.sip_tree.proofs.StandsLemmas.{augroots_stand, roots_stand}
use Rattle.sip_vector.specs.Streams.{most_weight, weight}
use Rattle.sip_vector.specs.Tallies.{joined}
use Rattle.sip_vector.specs.declared.tally.Tally.{Tally}
use Rattle.sip_vector.specs.declared.update.Side.{Side}
use Rattle.sip_vector.specs.declared.update.Side.TheVariants.{First, Second}
use Rattle.sip_vector.specs.declared.update.Update.{Update}
use Rattle.sip_vector.proofs.Lines.{vector_joined}
use Rattle.sip_vector.proofs.Sides.{weight-append}
use Rattle.sip_verifier.specs.QuerySeats.{RunsOn}
use Rattle.sip_verifier.specs.Running.{FitTogether}
use Rattle.sip_sketch.specs.declared.cursor.Size.TheVariants.{Long}
use Rattle.sip_sketch.specs.declared.kind.SeatKind.{SeatKind}
use Rattle.sip_sketch.specs.declared.kind.SeatKind.TheVariants.{Above, Entries, Heavy, Products, Sums}
use Rattle.sip_sketch.specs.Fields.{Field, IsValue}
use Rattle.sip_sketch.specs.Joining.{added_seat, added_seats, added_second}
use Rattle.sip_sketch.specs.Seats.{beside, numbers_kept, query_of, side_of}
use Rattle.sip_sketch.specs.Sketches.{SeatValues, element, total_field}
use Rattle.sip_sketch.specs.Standing.{SeatStands}
use Rattle.sip_sketch.specs.inside.Adding.{AddUp}
use Rattle.sip_sketch.proofs.Kept.{IsTold, bare_told, heavy_field, heavy_more, negative_told, total_within, weight_told}
use Rattle.sip_sketch.proofs.Whole.{SeatFits, ranged_from, ranged_value}

-- ---- the numbers of both streams

module _ (depth : ℕ) (stream more : List Update) (block block' : List ℕ) (a b a' b' : ℕ) (same : block' ≡ block) where
  pub kinds_join : (kind : SeatKind) → FitTogether (numbers_kept kind a b) (numbers_kept kind a' b')
      → RunsOn depth stream (query_of kind) block (beside (weight stream (side_of kind)) (numbers_kept kind a b))
      → RunsOn depth more (query_of kind) block' (beside (weight more (side_of kind)) (numbers_kept kind a' b'))
      → RunsOn depth (stream ++ more) (query_of kind) block (beside (weight (stream ++ more) (side_of kind)) (numbers_kept kind ((a + a') % m61_modulus) (added_second kind b b')))
  kinds_join Entries fit own other =
      let some : 0 < m61_modulus = omega arith in
      subst (RootStandsFor m61_modulus block _) (sym (vector_joined depth stream more First)) (roots_stand m61_modulus block block' some same a a' _ _ _ refl own other)
  kinds_join (Sums side) fit own other =
      let some : 0 < m61_modulus = omega arith in
      subst (PointStandsFor m61_modulus block _) (sym (vector_joined depth stream more side)) (points_stand m61_modulus block block' a a' _ _ _ some same refl own other)
  kinds_join Products fit own other =
      let some : 0 < m61_modulus = omega arith in (
        subst (PointStandsFor m61_modulus block _) (sym (vector_joined depth stream more First)) (points_stand m61_modulus block block' a a' _ _ _ some same refl own.0 other.0),
        subst (PointStandsFor m61_modulus block _) (sym (vector_joined depth stream more Second)) (points_stand m61_modulus block block' b b' _ _ _ some same refl own.1 other.1),
      )
  kinds_join (Heavy side) fit own other =
      let some : 0 < m61_modulus = omega arith in
      subst (AugRootStandsFor m61_modulus block _ _) (sym (vector_joined depth stream more side))
      (augroots_stand m61_modulus block block' some same a a' _ _ _ (pos (b + b' - most_weight) -ℤ pos most_weight) _ _ refl (omega (arith, ints, fit)) own other)
  kinds_join (Above side) fit own other =
      let some : 0 < m61_modulus = omega arith in
      split_root_joins m61_modulus block _ _ depth stream more side
      (split_roots_stand m61_modulus block block' a a' _ _ _ _ _ _ _ _ some same refl (weight-append stream more side) own other)

-- ---- the values of a file

module _ (t u : Tally) (first_side : t.first + u.first ≤ most_weight) (second_side : t.second + u.second ≤ most_weight) where
  both_light : (side : Side) → weight_told t side + weight_told u side ≤ most_weight
  both_light First = first_side
  both_light Second = second_side

  -- totals of unused seats stay within the greatest weight
  pub told_fit : (kind : SeatKind) (a x a' y : ℕ) → IsTold t kind false x → IsTold u kind false y → FitTogether (numbers_kept kind a x) (numbers_kept kind a' y)
  told_fit Entries a x a' y own other = tt
  told_fit (Sums side) a x a' y own other = tt
  told_fit Products a x a' y own other = tt
  told_fit (Heavy side) a x a' y own other =
      let one = total_within (weight_told t side) (negative_told t side) x (subst (λ (f : Field). IsValue f x) (heavy_field t side false) own) in
      let two = total_within (weight_told u side) (negative_told u side) y (subst (λ (f : Field). IsValue f y) (heavy_field u side false) other) in
      omega (arith, ints, one.0, one.1, two.0, two.1, both_light side)
  told_fit (Above side) a x a' y own other =
      let one = bare_told t side x own in
      let two = bare_told u side y other in
      omega (arith, one, two)

  last_none : (a b : Bool) → (a || b) ≡ false → b ≡ false
  last_none true b none = absurd cc
  last_none false b none = none

  -- and so does the second number of the sum
  told_added : (kind : SeatKind) (x y : ℕ) → IsTold t kind false x → IsTold u kind false y → IsTold (joined t u) kind false (added_second kind x y)
  told_added Entries x y own other = ranged_value Long 0 0 0 (omega arith) (omega arith) (omega arith)
  told_added (Sums First) x y own other = ranged_value Long 0 0 0 (omega arith) (omega arith) (omega arith)
  told_added (Sums Second) x y own other = ranged_value Long 0 0 0 (omega arith) (omega arith) (omega arith)
  told_added Products x y own other =
      let small : (x + y) % m61_modulus < m61_modulus = mod-lt (x + y) (omega arith) in
      ranged_value Long 0 (m61_modulus - 1) ((x + y) % m61_modulus) (omega arith) (omega (arith, small)) (omega (arith, small))
  told_added (Heavy side) x y own other =
      let w = weight_told t side in
      let v = weight_told u side in
      let field = subst (λ (f : Field). IsValue f y) (heavy_field u side false) other in
      let one = total_within w (negative_told t side) x (subst (λ (f : Field). IsValue f x) (heavy_field t side false) own) in
      let two = total_within v (negative_told u side) y field in
      heavy_more t u side false x (x + y - most_weight) own (omega (arith, one.1, two.1, both_light side)) (omega (arith, two.1)) (omega (arith, two.0))
      (λ none. (let shut = subst (λ o. IsValue (total_field v o) y) (last_none (negative_told t side) (negative_told u side) none) field in
      let whole = (ranged_from Long (most_weight + v) (most_weight + v) y shut).0 in omega (arith, whole, two.1)))
  told_added (Above First) x y own other = ranged_value Long 0 0 0 (omega arith) (omega arith) (omega arith)
  told_added (Above Second) x y own other = ranged_value Long 0 0 0 (omega arith) (omega arith) (omega arith)

  told_kept : (kind : SeatKind) (x : ℕ) → IsTold t kind true x → IsTold (joined t u) kind true x
  told_kept Entries x own = own
  told_kept (Sums First) x own = own
  told_kept (Sums Second) x own = own
  told_kept Products x own = own
  told_kept (Above First) x own = own
  told_kept (Above Second) x own = own
  told_kept (Heavy side) x own = heavy_more t u side true x x own (subst (λ (f : Field). IsValue f x) (heavy_field t side true) own).1 (omega arith) (omega arith) (λ none. absurd cc)

  told_either : (kind : SeatKind) (used : Bool) (x y : ℕ) → IsTold t kind used x → IsTold u kind false y → IsTold (joined t u) kind used (cond used x (added_second kind x y))
  told_either kind true x y own other = told_kept kind x own
  told_either kind false x y own other = told_added kind x y own other

  first_either : (used : Bool) (x y : ℕ) → IsValue element x → IsValue element (cond used x ((x + y) % m61_modulus))
  first_either true x y own = own
  first_either false x y own =
      let small : (x + y) % m61_modulus < m61_modulus = mod-lt (x + y) (omega arith) in
      ranged_value Long 0 (m61_modulus - 1) ((x + y) % m61_modulus) (omega arith) (omega (arith, small)) (omega (arith, small))

  -- the part's second number, as one of this kind and of an unused seat
  as_kind : (depth : ℕ) (s more : SeatValues) → SeatFits depth u more → more.kind ≡ s.kind → more.is_used ≡ false → IsTold u s.kind false more.second
  as_kind depth s more fits kind unused =
      subst (λ k. IsTold u k false more.second) kind (subst (λ b. IsTold u more.kind b more.second) unused fits.second)

  pub added_fits : (depth : ℕ) (s more : SeatValues) → SeatFits depth t s → SeatFits depth u more → more.kind ≡ s.kind → more.is_used ≡ false
      → SeatFits depth (joined t u) (added_seat s more)
  added_fits depth s more own other kind unused = record {
    levels = own.levels;
    block = own.block;
    first = first_either s.is_used s.first more.first own.first;
    second = told_either s.kind s.is_used s.second more.second own.second (as_kind depth s more other kind unused);
  }

  pub seats_add_up : (depth : ℕ) (s more : SeatValues) → SeatFits depth t s → SeatFits depth u more → more.kind ≡ s.kind → more.block ≡ s.block → more.is_used ≡ false → AddUp s more
  seats_add_up depth s more own other kind block unused = record {
    kind = kind;
    block = block;
    total = λ free.
        subst (λ k. FitTogether (numbers_kept s.kind s.first s.second) (numbers_kept k more.first more.second)) (sym kind)
        (told_fit s.kind s.first s.second more.first more.second (subst (λ b. IsTold t s.kind b s.second) free own.second) (as_kind depth s more other kind unused));
  }

pub added_stands : (depth : ℕ) (stream more : List Update) (s part : SeatValues) → AddUp s part → s.is_used ≡ false
    → SeatStands depth stream s → SeatStands depth more part → SeatStands depth (stream ++ more) (added_seat s part)
added_stands depth stream more s part fits unused own other =
    let fit = subst (λ k. FitTogether (numbers_kept s.kind s.first s.second) (numbers_kept k part.first part.second)) fits.kind (fits.total unused) in
    let also = subst (λ k. RunsOn depth more (query_of k) part.block (beside (weight more (side_of k)) (numbers_kept k part.first part.second))) fits.kind other in
    let joins = kinds_join depth stream more s.block part.block s.first s.second part.first part.second fits.block s.kind fit own also in
    subst (λ b. RunsOn depth (stream ++ more) (query_of s.kind) s.block
    (beside (weight (stream ++ more) (side_of s.kind)) (numbers_kept s.kind (cond b s.first ((s.first + part.first) % m61_modulus)) (cond b s.second (added_second s.kind s.second part.second))))) (sym unused) joins

-- ---- seats, one after another

-- the first so many are added up, and the others are as they were
abbrev pub added_to : ℕ → List SeatValues → List SeatValues → List SeatValues
added_to zero seats others = seats
added_to (suc k) [] others = []
added_to (suc k) (s ∷ seats) [] = s ∷ seats
added_to (suc k) (s ∷ seats) (more ∷ others) = added_seat s more ∷ added_to k seats others

added-next : (k : ℕ) (seats others : List SeatValues) (d e : SeatValues) → k < length seats → k < length others
    → set (added_to k seats others) k (added_seat (get_or seats k d) (get_or others k e)) ≡ added_to (suc k) seats others
added-next k [] others d e lt lt' = absurd (omega (arith, lt))
added-next k (s ∷ seats) [] d e lt lt' = absurd (omega (arith, lt'))
added-next zero (s ∷ seats) (more ∷ others) d e lt lt' = refl
added-next (suc k) (s ∷ seats) (more ∷ others) d e lt lt' =
    ap (λ l. added_seat s more ∷ l) (added-next k seats others d e (omega (arith, lt)) (omega (arith, lt')))

pub added-more : (k : ℕ) (seats others : List SeatValues) (d e : SeatValues) → k < length seats → k < length others
    → set (added_to k seats others) k (added_seat (get_or seats k d) (get_or others k e)) ≡ added_to (k + 1) seats others
added-more k seats others d e lt lt' = added-next k seats others d e lt lt' ∙ ap (λ n. added_to n seats others) (let next : suc k ≡ k + 1 = omega arith in next)

-- the next one is as it was
pub added-old : (k : ℕ) (seats others : List SeatValues) (d : SeatValues) → get_or (added_to k seats others) k d ≡ get_or seats k d
added-old zero seats others d = refl
added-old (suc k) [] others d = refl
added-old (suc k) (s ∷ seats) [] d = refl
added-old (suc k) (s ∷ seats) (more ∷ others) d = added-old k seats others d

-- in the end all are
pub added-all : (k : ℕ) (seats others : List SeatValues) → length seats ≡ length others → length seats ≤ k → added_to k seats others ≡ added_seats seats others
added-all zero [] others long le = refl
added-all (suc k) [] others long le = refl
added-all k (s ∷ seats) [] long le = absurd (omega (arith, long))
added-all zero (s ∷ seats) (more ∷ others) long le = absurd (omega (arith, le))
added-all (suc k) (s ∷ seats) (more ∷ others) long le = ap (λ l. added_seat s more ∷ l) (added-all k seats others (omega (arith, long)) (omega (arith, le)))

pub added-length : (seats others : List SeatValues) → length seats ≡ length others → length (added_seats seats others) ≡ length seats
added-length [] others long = refl
added-length (s ∷ seats) [] long = absurd (omega (arith, long))
added-length (s ∷ seats) (more ∷ others) long = ap suc (added-length seats others (omega (arith, long)))

-- a sum at its place
pub added-at : (seats others : List SeatValues) (k : ℕ) (d : SeatValues) → length seats ≡ length others → k < length seats
    → get_or (added_seats seats others) k d ≡ added_seat (get_or seats k d) (get_or others k d)
added-at [] others k d long lt = absurd (omega (arith, lt))
added-at (s ∷ seats) [] k d long lt = absurd (omega (arith, long))
added-at (s ∷ seats) (more ∷ others) zero d long lt = refl
added-at (s ∷ seats) (more ∷ others) (suc k) d long lt = added-at seats others k d (omega (arith, long)) (omega (arith, lt))

-- what holds of the seats at each place holds one after another
pub zip-from : (R : SeatValues → SeatValues → Type 0) (seats others : List SeatValues) → length seats ≡ length others
    → ((k : ℕ) (d : SeatValues) → k < length seats → R (get_or seats k d) (get_or others k d)) → AllZip R seats others
zip-from R [] [] long each = tt
zip-from R [] (more ∷ others) long each = absurd (omega (arith, long))
zip-from R (s ∷ seats) [] long each = absurd (omega (arith, long))
zip-from R (s ∷ seats) (more ∷ others) long each =
    (each 0 s (omega arith), zip-from R seats others (omega (arith, long)) (λ k d lt. each (suc k) d (omega (arith, lt))))
