-- The numbers of a sketch tell it apart.
use Rattle.std.proofs.Common.{◌≡◌, ℕ, zero, suc, ◌+◌, ◌*◌, ◌/◌, ◌%◌, Bool, true, false, nat_eq, List, [], ◌∷◌, ◌++◌, length, get_or, take, drop, flat_map, All, refl, sym, ap, subst, ◌∙◌, append_assoc, arith}
use Rattle.std.specs.Int.{from_bool}
use Rattle.std.proofs.lemmas.List.{take_at, drop_at}
use Rattle.sip_vector.specs.declared.tally.Negatives.{Negatives}
use Rattle.sip_vector.specs.declared.update.Side.TheVariants.{First, Second}
use Rattle.sip_sketch.specs.declared.kind.SeatKind.{SeatKind}
use Rattle.sip_sketch.specs.declared.kind.SeatKind.TheVariants.{Above, Entries, Heavy, Products, Sums}
use Rattle.sip_sketch.specs.declared.fault.SketchFault.{SketchFault}
use Rattle.sip_sketch.specs.declared.fault.SketchFault.TheVariants.{Bad, OutOfMemory}
use Rattle.sip_sketch.specs.Fields.{read}
use Rattle.sip_sketch.specs.Reading.{Gives, IsReadAs}
use Rattle.sip_sketch.specs.Sketches.{SeatValues, SketchValues, IsSketch, code_of, bits_of, seat_numbers, numbers, sketch_file, spelled_file}
use Rattle.sip_sketch.proofs.Exact.{is_read}
use Rattle.std.specs.Prelude.{Result, Ok, Err, IfOk}

-- the kind that has a code
kind_of : ℕ → SeatKind
kind_of zero = Entries
kind_of (suc zero) = Entries
kind_of (suc (suc zero)) = Sums First
kind_of (suc (suc (suc zero))) = Sums Second
kind_of (suc (suc (suc (suc zero)))) = Products
kind_of (suc (suc (suc (suc (suc zero))))) = Heavy First
kind_of (suc (suc (suc (suc (suc (suc zero)))))) = Heavy Second
kind_of (suc (suc (suc (suc (suc (suc (suc zero))))))) = Above First
kind_of (suc (suc (suc (suc (suc (suc (suc (suc n)))))))) = Above Second

kind_back : (k : SeatKind) → kind_of (code_of k) ≡ k
unfolding kind_of
kind_back Entries = refl
kind_back (Sums First) = refl
kind_back (Sums Second) = refl
kind_back Products = refl
kind_back (Heavy First) = refl
kind_back (Heavy Second) = refl
kind_back (Above First) = refl
kind_back (Above Second) = refl

use_back : (b : Bool) → nat_eq (from_bool b) 1 ≡ b
use_back true = refl
use_back false = refl

low_back : (a b : Bool) → nat_eq ((from_bool a + 2 * from_bool b) % 2) 1 ≡ a
low_back true true = refl
low_back true false = refl
low_back false true = refl
low_back false false = refl

high_back : (a b : Bool) → nat_eq ((from_bool a + 2 * from_bool b) / 2) 1 ≡ b
high_back true true = refl
high_back true false = refl
high_back false true = refl
high_back false false = refl

pub kinds_same : (k m : SeatKind) → code_of k ≡ code_of m → k ≡ m
kinds_same k m e = sym (kind_back k) ∙ ap kind_of e ∙ kind_back m

uses_same : (a b : Bool) → from_bool a ≡ from_bool b → a ≡ b
uses_same a b e = sym (use_back a) ∙ ap (λ n. nat_eq n 1) e ∙ use_back b

negatives_same : (n m : Negatives) → bits_of n ≡ bits_of m → n ≡ m
negatives_same n m e =
    let first : n.first ≡ m.first = sym (low_back n.first n.second) ∙ ap (λ k. nat_eq (k % 2) 1) e ∙ low_back m.first m.second in
    let second : n.second ≡ m.second = sym (high_back n.first n.second) ∙ ap (λ k. nat_eq (k / 2) 1) e ∙ high_back m.first m.second in
    λ i. record { first = first i; second = second i }

-- a seat in front of others
seat_front : (d : ℕ) (x y : SeatValues) (xs ys : List ℕ) → length x.block ≡ d → length y.block ≡ d
    → seat_numbers x ++ xs ≡ seat_numbers y ++ ys → (x ≡ y) × (xs ≡ ys)
seat_front d x y xs ys dx dy e =
    let kind = kinds_same x.kind y.kind (ap (λ l. get_or l 0 0) e) in
    let used = uses_same x.is_used y.is_used (ap (λ l. get_or l 1 0) e) in
    let tail : (x.block ++ x.first ∷ x.second ∷ []) ++ xs ≡ (y.block ++ y.first ∷ y.second ∷ []) ++ ys = ap (drop 2) e in
    let both : x.block ++ (x.first ∷ x.second ∷ xs) ≡ y.block ++ (y.first ∷ y.second ∷ ys) =
    sym (append_assoc x.block (x.first ∷ x.second ∷ []) xs) ∙ tail ∙ append_assoc y.block (y.first ∷ y.second ∷ []) ys in
    let block : x.block ≡ y.block =
    sym (take_at x.block (x.first ∷ x.second ∷ xs) d dx) ∙ ap (take d) both ∙ take_at y.block (y.first ∷ y.second ∷ ys) d dy in
    let behind : x.first ∷ x.second ∷ xs ≡ y.first ∷ y.second ∷ ys =
    sym (drop_at x.block (x.first ∷ x.second ∷ xs) d dx) ∙ ap (drop d) both ∙ drop_at y.block (y.first ∷ y.second ∷ ys) d dy in
    let first : x.first ≡ y.first = ap (λ l. get_or l 0 0) behind in
    let second : x.second ≡ y.second = ap (λ l. get_or l 1 0) behind in
    (λ i. record { kind = kind i; is_used = used i; block = block i; first = first i; second = second i }, ap (drop 2) behind)

seats_same : (d : ℕ) (xs ys : List SeatValues) → All (λ s. length s.block ≡ d) xs → All (λ s. length s.block ≡ d) ys
    → length xs ≡ length ys → flat_map seat_numbers xs ≡ flat_map seat_numbers ys → xs ≡ ys
seats_same d [] [] ax ay l e = refl
seats_same d [] (y ∷ ys) ax ay l e = absurd (omega (arith, l))
seats_same d (x ∷ xs) [] ax ay l e = absurd (omega (arith, l))
seats_same d (x ∷ xs) (y ∷ ys) ax ay l e =
    let f = seat_front d x y (flat_map seat_numbers xs) (flat_map seat_numbers ys) (ax 0 x (omega arith)) (ay 0 y (omega arith)) e in
    let rest = seats_same d xs ys (λ k s lt. ax (suc k) s (omega (arith, lt))) (λ k s lt. ay (suc k) s (omega (arith, lt))) (omega (arith, l)) f.1 in
    λ i. f.0 i ∷ rest i

pub sketches_same : (s t : SketchValues) → IsSketch s → IsSketch t → numbers s ≡ numbers t → s ≡ t
sketches_same s t is it e =
    let at : (k : ℕ) → get_or (numbers s) k 0 ≡ get_or (numbers t) k 0 = λ k. ap (λ l. get_or l k 0) e in
    let depth : s.depth ≡ t.depth = at 5 in
    let count : s.parts.count ≡ t.parts.count = at 6 in
    let first : s.parts.first ≡ t.parts.first = at 7 in
    let last : s.parts.last ≡ t.parts.last = at 8 in
    let weight : s.tally.first ≡ t.tally.first = at 9 in
    let other : s.tally.second ≡ t.tally.second = at 10 in
    let records : s.tally.count ≡ t.tally.count = at 11 in
    let negatives = negatives_same s.tally.negatives t.tally.negatives (at 12) in
    let print : s.tally.fingerprint ≡ t.tally.fingerprint = at 13 in
    let seats = seats_same s.depth s.seats t.seats is.blocks (subst (λ d. All (λ seat. length seat.block ≡ d) t.seats) (sym depth) it.blocks) (at 14) (ap (drop 15) e) in
    λ i. record {
      depth = depth i;
      parts = record { count = count i; first = first i; last = last i };
      tally = record { count = records i; first = weight i; second = other i; negatives = negatives i; fingerprint = print i };
      seats = seats i;
    }

-- the file of a sketch is read as that one
pub read_as : (bytes : List ℕ) (s : SketchValues) (r : Result SketchValues SketchFault) → IsSketch s
    → bytes ≡ spelled_file s → Gives (read sketch_file bytes) r → IfOk r IsSketch → IsReadAs s r
read_as bytes s (Ok t) is e gives found =
    let same : Ok (numbers t) ≡ Ok (numbers s) = sym gives ∙ ap (read sketch_file) e ∙ is_read sketch_file (numbers s) is.values in
    let numbers_same : numbers t ≡ numbers s = cc in
    sketches_same t s found is numbers_same
read_as bytes s (Err (Bad offset)) is e gives found =
    let same : Err offset ≡ Ok (numbers s) = sym gives ∙ ap (read sketch_file) e ∙ is_read sketch_file (numbers s) is.values in
    absurd cc
read_as bytes s (Err OutOfMemory) is e gives found = tt
