-- The words that ask for seats: no two kinds or numbers share one, and what more words ask for.
use Rattle.std.proofs.Common.{◌≡◌, ℕ, ◌^◌, ◌<◌, ◌≤◌, List, [], ◌∷◌, ◌++◌, length, get_or, drop, replicate, sym, refl, ap, subst, ◌∙◌, arith}
use Rattle.std.specs.Prelude.{◌==◌, if◌then◌else◌}
use Rattle.std.proofs.lemmas.Fmt.{decimal_injective}
use Rattle.std.proofs.lemmas.List.{append_assoc, append-nil, append_cancel_left, length-append, length-replicate}
use Rattle.sip_vector.specs.declared.update.Side.TheVariants.{First, Second}
use Rattle.sip_sketch.specs.declared.kind.SeatKind.{SeatKind}
use Rattle.sip_sketch.specs.declared.kind.SeatKind.TheVariants.{Above, Entries, Heavy, Products, Sums}
use Rattle.sip_sketch.specs.SeatLines.{kind_word}
use Rattle.sip_sketch.specs.Sketches.{most_seats}
use Rattle.sip_keeping.specs.Words.{AreSeats, seats_word}

-- the kind whose word begins with this letter, with this one at number 5 or 6
abbrev lettered : List ℕ → SeatKind
lettered w =
    if get_or w 0 0 == 101 then Entries else (
    if get_or w 0 0 == 112 then Products else (
    if get_or w 0 0 == 115 then (if get_or w 5 0 == 48 then Sums First else Sums Second) else (
    if get_or w 0 0 == 97 then (if get_or w 6 0 == 48 then Above First else Above Second) else (
    if get_or w 6 0 == 48 then Heavy First else Heavy Second))))

lettered_word : (kind : SeatKind) (count : ℕ) → lettered (seats_word kind count) ≡ kind
lettered_word Entries count = refl
lettered_word (Sums First) count = refl
lettered_word (Sums Second) count = refl
lettered_word Products count = refl
lettered_word (Heavy First) count = refl
lettered_word (Heavy Second) count = refl
lettered_word (Above First) count = refl
lettered_word (Above Second) count = refl

-- one word asks for one kind and one number
pub seats_once : (kind other : SeatKind) (n m : ℕ) → n < 2 ^ 64 → m < 2 ^ 64 → seats_word kind n ≡ seats_word other m → (kind ≡ other) × (n ≡ m)
seats_once kind other n m low few same =
    let one : kind ≡ other = sym (lettered_word kind n) ∙ (ap lettered same ∙ lettered_word other m) in
    let both : seats_word kind n ≡ seats_word kind m = subst (λ k. seats_word kind n ≡ seats_word k m) (sym one) same in
    (one, decimal_injective n m low few (ap (drop 1) (append_cancel_left (kind_word kind) _ _ both)))

-- one word more asks for its seats behind the others
pub seats_more : (words : List (List ℕ)) (kinds : List SeatKind) (word : List ℕ) (kind : SeatKind) (count : ℕ) → AreSeats words kinds → 1 ≤ count → word ≡ seats_word kind count → AreSeats (words ++ word ∷ []) (kinds ++ replicate count kind)
seats_more [] kinds word kind count are least is = (kind, count, [], least, is, rw are (sym (append-nil (replicate count kind))), refl)
seats_more (w ∷ words) kinds word kind count (k, n, more, some, first, order, rest) least is =
    (k, n, more ++ replicate count kind, some, first, rw order (append_assoc (replicate n k) more (replicate count kind)), seats_more words more word kind count rest least is)

-- what more words ask for that go on behind others
pub seats_behind : (words behind : List (List ℕ)) (kinds all : List SeatKind) → AreSeats words kinds → AreSeats (words ++ behind) all → length kinds ≤ most_seats → length all ≤ most_seats → (more : List SeatKind) × (all ≡ kinds ++ more) × AreSeats behind more
seats_behind [] behind kinds all are whole few most = (all, rw are refl, whole)
seats_behind (w ∷ words) behind kinds all (k, n, more, some, first, order, rest) (k', n', more', some', first', order', rest') few most =
    let long = ap length order ∙ length-append (replicate n k) more in
    let long' = ap length order' ∙ length-append (replicate n' k') more' in
    let count = length-replicate n k in
    let count' = length-replicate n' k' in
    let one = seats_once k k' n n' (omega arith) (omega arith) (sym first ∙ first') in
    let both = seats_behind words behind more more' rest rest' (omega arith) (omega arith) in
    let front : replicate n k ≡ replicate n' k' = rw (one.0, one.1) refl in
    (both.0, order' ∙ (ap (λ xs. xs ++ more') (sym front) ∙ (ap (λ xs. replicate n k ++ xs) both.1 ∙ (sym (append_assoc (replicate n k) more both.0) ∙ ap (λ xs. xs ++ both.0) (sym order)))), both.2)

-- words that ask for a seat are some
pub some_words : (words : List (List ℕ)) (kinds : List SeatKind) → AreSeats words kinds → 1 ≤ length kinds → 1 ≤ length words
some_words [] kinds are some = let none : length kinds ≡ 0 = ap length are in absurd (omega arith)
some_words (w ∷ words) kinds are some = omega arith
