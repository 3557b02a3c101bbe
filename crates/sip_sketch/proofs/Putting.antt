-- Writing one part behind the other.
use Rattle.std.proofs.Common.{◌≡◌, ℕ, suc, ◌+◌, ◌-◌, ◌*◌, ◌<◌, ◌≤◌, List, [], ◌∷◌, ◌++◌, flat_map, get_or, length, take, refl, sym, ap, subst, ◌∙◌, append_assoc, arith}
use Rattle.std.specs.Int.{w64, to_be_bytes}
use Rattle.std.proofs.lemmas.List.{append-nil, take_all, take_more}
use Rattle.sha2.specs.Sha256.{sha256}
use Rattle.sip_vector.specs.declared.tally.Tally.{Tally}
use Rattle.sip_vector.specs.declared.update.Side.TheVariants.{First, Second}
use Rattle.sip_sketch.specs.declared.cursor.Size.TheVariants.{Long}
use Rattle.sip_sketch.specs.declared.kind.SeatKind.{SeatKind}
use Rattle.sip_sketch.specs.declared.kind.SeatKind.TheVariants.{Above, Entries, Heavy, Products, Sums}
use Rattle.sip_sketch.specs.declared.reading.Head.{Head}
use Rattle.sip_sketch.specs.Fields.{Field, Fields, digest, one, spelled, spelled_behind}
use Rattle.sip_sketch.specs.Sketches.{SeatValues, code_of, element, elements, magic, numbers, seat_fields, seat_numbers, second_of, seats_fields, sketch_file, spelled_file}
use Rattle.sip_sketch.specs.inside.Heads.{head_numbers}
use Rattle.sip_sketch.specs.inside.Spelling.{Puts}
use Rattle.sip_sketch.proofs.Closing.{seats_behind}
use Rattle.sip_sketch.proofs.HeadFields.{behind_magic}
use Rattle.sip_sketch.proofs.SeatLists.{numbers_on, seats_at}
use Rattle.sip_sketch.proofs.Steps.{elements_at}

pub puts_on : {a b c : List ℕ} {f g h : Fields} {xs ys : List ℕ} → Puts a b f g xs
    → Puts b c g h ys → Puts a c f h (xs ++ ys)
puts_on {a = a} {f = f} {xs = xs} {ys = ys} p q = record {
  puts = λ rest. ap (spelled_behind a f) (append_assoc xs ys rest) ∙ p.puts (ys ++ rest) ∙ q.puts rest;
}

-- one number, as its field spells it
pub puts_one : (a b : List ℕ) (field : Field) (k : ℕ → Fields) (x : ℕ) → b ≡ a ++ spelled field x
    → Puts a b (one field k) (k x) (x ∷ [])
puts_one a b field k x e = record { puts = λ rest. ap (λ l. spelled_behind l (k x) rest) (sym e) }

minus_zero : (n : ℕ) → n ≡ n - 0
minus_zero n = omega arith

minus_all : (n i : ℕ) → n ≤ i → n - i ≡ 0
minus_all n i most = omega (arith, most)

-- ---- the challenges of a seat

abbrev pub PutsBlock : List ℕ → List ℕ → List ℕ → ℕ → Fields → Type 0
PutsBlock a b block i behind = Puts a b (elements (length block) behind) (elements (length block - i) behind) (take i block)

pub block_none : (a block : List ℕ) (behind : Fields) → PutsBlock a a block 0 behind
block_none a block behind =
    subst (λ n. Puts a a (elements (length block) behind) (elements n behind) []) (minus_zero (length block)) (record { puts = λ rest. refl })

pub block_more : (a b c block : List ℕ) (i : ℕ) (behind : Fields) → i < length block → c ≡ b ++ to_be_bytes w64 (get_or block i 0)
    → PutsBlock a b block i behind → PutsBlock a c block (i + 1) behind
block_more a b c block i behind lt e p =
    let d = length block in
    let x = get_or block i 0 in
    let less : d - i ≡ suc (d - (i + 1)) = omega (arith, lt) in
    let before = subst (λ g. Puts a b (elements d behind) g (take i block)) (elements_at (d - i) (d - (i + 1)) behind less) p in
    subst (λ l. Puts a c (elements d behind) (elements (d - (i + 1)) behind) l) (sym (take_more block i 0 lt))
    (puts_on before (puts_one b c element (λ _. elements (d - (i + 1)) behind) x e))

pub block_all : (a b block : List ℕ) (i : ℕ) (behind : Fields) → length block ≤ i → PutsBlock a b block i behind
    → Puts a b (elements (length block) behind) behind block
block_all a b block i behind most p =
    subst (λ l. Puts a b (elements (length block) behind) behind l) (take_all i block most)
    (subst (λ n. Puts a b (elements (length block) behind) (elements n behind) (take i block)) (minus_all (length block) i most) p)

-- ---- seats

-- the second number of a seat takes eight bytes, whatever it may be
pub second_size : (t : Tally) (kind : SeatKind) (used : ℕ) → (second_of t (code_of kind) used).size ≡ Long
second_size t Entries used = refl
second_size t (Sums First) used = refl
second_size t (Sums Second) used = refl
second_size t Products used = refl
second_size t (Heavy First) used = refl
second_size t (Heavy Second) used = refl
second_size t (Above First) used = refl
second_size t (Above Second) used = refl

abbrev pub PutsSeats : List ℕ → List ℕ → ℕ → Tally → List SeatValues → ℕ → Type 0
PutsSeats a b depth t seats i =
    Puts a b (seats_fields depth (second_of t) (length seats)) (seats_fields depth (second_of t) (length seats - i)) (flat_map seat_numbers (take i seats))

times_more : (i k : ℕ) → (i + 1) * k ≡ i * k + k
times_more i k = grind (arith)

-- how many bytes there are behind one seat more
pub one_more : (start now next i levels depth : ℕ) → levels ≡ depth → now ≡ start + i * (18 + 8 * depth) → next ≡ now + (18 + 8 * levels) → next ≡ start + (i + 1) * (18 + 8 * depth)
one_more start now next i levels depth long so more = omega (arith, long, so, more, times_more i (18 + 8 * depth))

pub seats_none : (a : List ℕ) (depth : ℕ) (t : Tally) (seats : List SeatValues) → PutsSeats a a depth t seats 0
seats_none a depth t seats =
    subst (λ n. Puts a a (seats_fields depth (second_of t) (length seats)) (seats_fields depth (second_of t) n) []) (minus_zero (length seats)) (record { puts = λ rest. refl })

pub seats_more : (a b c : List ℕ) (depth : ℕ) (t : Tally) (seats : List SeatValues) (i : ℕ) (seat : SeatValues) → i < length seats → seat ≡ get_or seats i seat → length seat.block ≡ depth
    → ((behind : Fields) → Puts b c (seat_fields (length seat.block) (second_of t) behind) behind (seat_numbers seat)) → PutsSeats a b depth t seats i → PutsSeats a c depth t seats (i + 1)
seats_more a b c depth t seats i seat lt is long next p =
    let n = length seats in
    let number = second_of t in
    let left = seats_fields depth number (n - (i + 1)) in
    let less : n - i ≡ suc (n - (i + 1)) = omega (arith, lt) in
    let before = subst (λ g. Puts a b (seats_fields depth number n) g (flat_map seat_numbers (take i seats))) (seats_at depth number (n - i) (n - (i + 1)) less) p in
    let one_more = subst (λ d. Puts b c (seat_fields d number left) left (seat_numbers seat)) long (next left) in
    let all : take (i + 1) seats ≡ take i seats ++ seat ∷ [] = take_more seats i seat lt ∙ ap (λ s. take i seats ++ s ∷ []) (sym is) in
    subst (λ l. Puts a c (seats_fields depth number n) left l) (numbers_on (take i seats) seat ∙ ap (flat_map seat_numbers) (sym all)) (puts_on before one_more)

pub seats_all : (a b : List ℕ) (depth : ℕ) (t : Tally) (seats : List SeatValues) (i : ℕ) → length seats ≤ i → PutsSeats a b depth t seats i
    → Puts a b (seats_fields depth (second_of t) (length seats)) digest (flat_map seat_numbers seats)
seats_all a b depth t seats i most p =
    subst (λ l. Puts a b (seats_fields depth (second_of t) (length seats)) digest (flat_map seat_numbers l)) (take_all i seats most)
    (subst (λ n. Puts a b (seats_fields depth (second_of t) (length seats)) (seats_fields depth (second_of t) n) (flat_map seat_numbers (take i seats))) (minus_all (length seats) i most) p)

-- ---- the file

one_by_one : (a : List ℕ) (x y z u v : ℕ) → (((((a ++ x ∷ []) ++ y ∷ []) ++ z ∷ []) ++ u ∷ []) ++ v ∷ []) ≡ a ++ x ∷ y ∷ z ∷ u ∷ v ∷ []
one_by_one a x y z u v =
    ap (λ l. ((l ++ z ∷ []) ++ u ∷ []) ++ v ∷ []) (append_assoc a (x ∷ []) (y ∷ []))
    ∙ ap (λ l. (l ++ u ∷ []) ++ v ∷ []) (append_assoc a (x ∷ y ∷ []) (z ∷ []))
    ∙ ap (λ l. l ++ v ∷ []) (append_assoc a (x ∷ y ∷ z ∷ []) (u ∷ []))
    ∙ append_assoc a (x ∷ y ∷ z ∷ u ∷ []) (v ∷ [])

-- the bytes that every file begins with
pub puts_magic : (a b : List ℕ) → b ≡ a ++ magic → Puts a b sketch_file behind_magic magic
puts_magic a b e = record {
  puts = λ rest. ap (λ l. spelled_behind l behind_magic rest) (one_by_one a 0x53 0x49 0x50 0x4b 1 ∙ sym e);
}

-- head, seats and digest are the file
pub whole_file : (a b c out : List ℕ) (h : Head) (seats : List SeatValues) → a ≡ [] → Puts a b sketch_file (seats_behind h) (head_numbers h)
    → Puts b c (seats_behind h) digest (flat_map seat_numbers seats) → length seats ≡ h.count → out ≡ c ++ sha256 c
    → out ≡ spelled_file (record { depth = h.depth; parts = h.parts; tally = h.tally; seats = seats })
whole_file a b c out h seats none p q few ends =
    let found : List ℕ = head_numbers h ++ flat_map seat_numbers seats in
    let same : numbers (record { depth = h.depth; parts = h.parts; tally = h.tally; seats = seats }) ≡ found =
    ap (λ n. head_numbers (record h { count = n }) ++ flat_map seat_numbers seats) few in
    ends ∙ sym ((puts_on p q).puts []) ∙ ap (λ l. spelled_behind l sketch_file (found ++ [])) none
    ∙ ap (spelled_behind [] sketch_file) (append-nil found ∙ sym same)
