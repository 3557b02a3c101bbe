-- One word more that asks for seats or is a name.
use Rattle.std.proofs.Common.{◌≡◌, ℕ, ◌+◌, ◌-◌, ◌<◌, ◌≤◌, List, [], ◌∷◌, ◌++◌, length, take, drop, replicate, sym, ap, subst, ◌∙◌, arith}
use Rattle.std.proofs.lemmas.List.{get_or-drop, length-append, length-drop, length-replicate, take_all, take_more}
use Rattle.sip_words.specs.Words.{word}
use Rattle.sip_sketch.specs.Sketches.{most_seats}
use Rattle.sip_keeping.specs.Words.{AreSeats, seats_word}
use Rattle.sip_sketch.specs.declared.kind.SeatKind.{SeatKind}
use Rattle.sip_keeping.specs.inside.SoFar.{AreSeatsTo, StopsInSeats}
use Rattle.sip_keeping.proofs.SeatWords.{seats_more}

-- the words from `first` up to the one behind n
pub taken : (words : List (List ℕ)) (first n : ℕ) → first ≤ n → n < length words → take (n + 1 - first) (drop first words) ≡ take (n - first) (drop first words) ++ word words n ∷ []
taken words first n least more =
    let rest = length-drop first words in
    let count : n + 1 - first ≡ n - first + 1 = omega arith in
    let place : first + (n - first) ≡ n = omega arith in
    ap (λ k. take k (drop first words)) count ∙ (take_more (drop first words) (n - first) [] (omega arith) ∙ ap (λ w. take (n - first) (drop first words) ++ w ∷ []) (get_or-drop first words (n - first) [] ∙ ap (word words) place))

pub seats_to_more : (words : List (List ℕ)) (first n : ℕ) (kinds all : List SeatKind) (kind : SeatKind) (count : ℕ) → AreSeatsTo words first n kinds → n < length words → 1 ≤ count → word words n ≡ seats_word kind count → length kinds + count ≤ most_seats → all ≡ kinds ++ replicate count kind → AreSeatsTo words first (n + 1) all
seats_to_more words first n kinds all kind count are more some is room grown =
    let long = ap length grown ∙ length-append kinds (replicate count kind) in
    let added = length-replicate count kind in
    let least = are.least in
    let each = are.each in
    record {
      least = omega arith;
      within = omega arith;
      seats = subst (λ ws. AreSeats ws all) (sym (taken words first n are.least more)) (subst (AreSeats (take (n - first) (drop first words) ++ word words n ∷ [])) (sym grown) (seats_more (take (n - first) (drop first words)) kinds (word words n) kind count are.seats some is));
      most = omega arith;
      each = omega arith;
      some = λ _. omega arith;
    }

-- where all words were read
pub seats_all : (words : List (List ℕ)) (first n : ℕ) (kinds : List SeatKind) → AreSeatsTo words first n kinds → length words ≤ n → AreSeats (drop first words) kinds
seats_all words first n kinds are least =
    let rest = length-drop first words in
    subst (λ ws. AreSeats ws kinds) (take_all (n - first) (drop first words) (omega arith)) are.seats

-- where there is room for none
pub stops_full : (words : List (List ℕ)) (first n : ℕ) (kinds : List SeatKind) → AreSeatsTo words first n kinds → first + most_seats ≤ n → n < length words → StopsInSeats words first n
stops_full words first n kinds are full more =
    let each = are.each in
    record {
      kinds = kinds;
      before = are;
      here = λ _ kind count some room. absurd (omega arith);
      missing = λ least. absurd (omega arith);
    }
