-- A sum has the shape of the sketch in whose place it is, and else that of its first part.
use Rattle.std.proofs.Common.{◌≡◌, Bool, true, false, cond, not, ◌&&◌, List, [], ◌∷◌, Some, None, refl, sym, ap, ap₂, subst, ◌∙◌}
use Rattle.std.specs.Prelude.{bytes_eq, nat_eq}
use Rattle.std.specs.Cmp.Lexicographic.{pointwise}
use Rattle.std.specs.List.{AllZip}
use Rattle.std.proofs.lemmas.Bool.{and_parts, eqb-true}
use Rattle.sip_sketch.specs.Joining.{added, added_seats, same_seat, same_shape}
use Rattle.sip_sketch.specs.Merging.{Joins, Sums, in_place, seats_in_place, unfit, unlike_first}
use Rattle.sip_sketch.specs.Sketches.{SeatValues, SketchValues, code_of}
use Rattle.sip_sketch.specs.declared.unlike.Unlike.TheVariants as reasons
use Rattle.sip_sketch.proofs.Alike.{is_so, joins_from, passed, seats_block, seats_kind}

-- they serve the same, at the same challenges
abbrev IsAs : SeatValues → SeatValues → Type 0
IsAs s now = (now.kind ≡ s.kind) × (now.block ≡ s.block)

record HasShapeOf (s now : SketchValues) : Type 0 where
  pub depth : now.depth ≡ s.depth
  pub count : now.parts.count ≡ s.parts.count
  pub seats : AllZip IsAs s.seats now.seats

as_seat : (s now more : SeatValues) → IsAs s now → same_seat now more ≡ same_seat s more
as_seat s now more (kind, block) = ap₂ (λ k b. nat_eq (code_of k) (code_of more.kind) && bytes_eq b more.block) kind block

as_seats : (seats now others : List SeatValues) → AllZip IsAs seats now → pointwise same_seat now others ≡ pointwise same_seat seats others
as_seats [] [] others all = refl
as_seats [] (n ∷ now) others all = absurd all
as_seats (s ∷ seats) [] others all = absurd all
as_seats (s ∷ seats) (n ∷ now) [] all = refl
as_seats (s ∷ seats) (n ∷ now) (more ∷ others) (one, all) = ap₂ (λ a b. a && b) (as_seat s n more one) (as_seats seats now others all)

as_shape : (s now part : SketchValues) → HasShapeOf s now → same_shape now part ≡ same_shape s part
as_shape s now part has =
    ap₂ (λ d c. nat_eq d part.depth && (nat_eq c part.parts.count && pointwise same_seat now.seats part.seats)) has.depth has.count
    ∙ ap (λ b. nat_eq s.depth part.depth && (nat_eq s.parts.count part.parts.count && b)) (as_seats s.seats now.seats part.seats has.seats)

-- ---- the first part

as_self : (seats : List SeatValues) → AllZip IsAs seats seats
as_self [] = tt
as_self (s ∷ seats) = ((refl, refl), as_self seats)

seat_put : (w p : SeatValues) (b : Bool) → same_seat w p ≡ true → IsAs w (cond b w p)
seat_put w p true same = (refl, refl)
seat_put w p false same = (seats_kind w p same, seats_block w p same)

seats_put : (ws ps : List SeatValues) → pointwise same_seat ws ps ≡ true → AllZip IsAs ws (seats_in_place ws ps)
seats_put [] [] same = tt
seats_put [] (p ∷ ps) same = absurd cc
seats_put (w ∷ ws) [] same = absurd cc
seats_put (w ∷ ws) (p ∷ ps) same =
    let both = and_parts (same_seat w p) (pointwise same_seat ws ps) same in
    (seat_put w p w.is_used both.0, seats_put ws ps both.1)

put_shape : (was part : SketchValues) → unlike_first (Some was) part ≡ None → HasShapeOf was (in_place (Some was) part)
put_shape was part none =
    let one = passed (not (same_shape was part)) reasons.Shape (unfit part) none in
    let shape = and_parts (nat_eq was.depth part.depth) (nat_eq was.parts.count part.parts.count && pointwise same_seat was.seats part.seats) (is_so _ one.0) in
    let rest = and_parts (nat_eq was.parts.count part.parts.count) (pointwise same_seat was.seats part.seats) shape.1 in
    record { depth = sym (eqb-true _ _ shape.0); count = sym (eqb-true _ _ rest.0); seats = seats_put was.seats part.seats rest.1 }

-- ---- the others

seats_join : (ws seats others : List SeatValues) → pointwise same_seat seats others ≡ true → AllZip IsAs ws seats → AllZip IsAs ws (added_seats seats others)
seats_join [] [] others same all = tt
seats_join [] (s ∷ seats) others same all = absurd all
seats_join (w ∷ ws) [] others same all = absurd all
seats_join (w ∷ ws) (s ∷ seats) [] same all = absurd cc
seats_join (w ∷ ws) (s ∷ seats) (more ∷ others) same (one, all) =
    (one, seats_join ws seats others (and_parts (same_seat s more) (pointwise same_seat seats others) same).1 all)

joins_shape : (s before : SketchValues) (parts : List SketchValues) (sum : SketchValues) → HasShapeOf s before → Joins before parts sum → HasShapeOf s sum
joins_shape s before [] sum has same = record {
  depth = ap (λ (x : SketchValues). x.depth) same ∙ has.depth;
  count = ap (λ (x : SketchValues). x.parts.count) same ∙ has.count;
  seats = subst (λ (x : SketchValues). AllZip IsAs s.seats x.seats) (sym same) has.seats;
}
joins_shape s before (p ∷ parts) sum has (none, rest) =
    joins_shape s (added before p) parts sum
    (record { depth = has.depth; count = has.count; seats = seats_join s.seats before.seats p.seats (joins_from before p none).seats has.seats }) rest

pub shape_of_sketch : (sketch : SketchValues) (parts : List SketchValues) (sum part : SketchValues) → Sums (Some sketch) parts sum → same_shape sum part ≡ same_shape sketch part
shape_of_sketch sketch [] sum part sums = absurd sums
shape_of_sketch sketch (first ∷ parts) sum part (none, rest) =
    as_shape sketch sum part (joins_shape sketch (in_place (Some sketch) first) parts sum (put_shape sketch first none) rest)

pub shape_of_first : (first : SketchValues) (parts : List SketchValues) (sum part : SketchValues) → Sums None (first ∷ parts) sum → same_shape sum part ≡ same_shape first part
shape_of_first first parts sum part (none, rest) =
    as_shape first sum part (joins_shape first first parts sum (record { depth = refl; count = refl; seats = as_self first.seats }) rest)
