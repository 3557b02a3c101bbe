-- The words of `begin` behind the first five, which ask for seats.
use Rattle.std.proofs.Common.{◌≡◌, ◌≢◌, ℕ, ◌+◌, ◌-◌, ◌<◌, ◌≤◌, List, [], ◌∷◌, ◌++◌, length, take, drop, replicate, sym, refl, ap, subst, ◌∙◌, inl, inr, arith}
use Rattle.std.proofs.lemmas.Bool.{cases_lt}
use Rattle.std.proofs.Math.Seq.{take-append-add}
use Rattle.std.proofs.lemmas.List.{append-nil, length-append, length-replicate, take-append-drop}
use Rattle.sip_words.specs.Words.{word}
use Rattle.sip_sketch.specs.Sketches.{most_seats}
use Rattle.sip_words.specs.Shapes.{IsDepth}
use Rattle.sip_keeping.specs.Words.{AreSeats, IsPart, IsRefusedAt, SpellsBegin, seats_word, verb_word}
use Rattle.sip_sketch.specs.declared.kind.SeatKind.{SeatKind}
use Rattle.sip_sketch.specs.declared.kind.SeatKind.TheVariants.{Entries}
use Rattle.sip_keeping.specs.declared.verb.SketchVerb.TheVariants as verb
use Rattle.sip_keeping.specs.inside.SoFar.{StopsInSeats}
use Rattle.sip_keeping.proofs.SeatWords.{seats_behind}
use Rattle.sip_keeping.proofs.Verbs.{front_5, one_seat, refused_begin}

-- the first five words are those of `begin`
pub record HasHead (words : List (List ℕ)) (d part parts : ℕ) : Type 0 where
  pub first : word words 0 ≡ verb_word verb.Begin
  pub has_sketch : word words 1 ≢ []
  pub has_seed : word words 2 ≢ []
  pub deep : IsDepth d (word words 3)
  pub long : 4 < length words
  pub within : IsPart part parts (word words 4)

-- those behind the first
abbrev pub head : List (List ℕ) → List (List ℕ)
head words = word words 1 ∷ word words 2 ∷ word words 3 ∷ word words 4 ∷ []

-- the words are these five, and others
five : (words : List (List ℕ)) (d part parts : ℕ) → HasHead words d part parts → take 5 words ≡ verb_word verb.Begin ∷ head words
five words d part parts has = let long = has.long in front_5 words (omega arith) ∙ ap (λ v. v ∷ head words) has.first

pub head_and_rest : (words : List (List ℕ)) (d part parts : ℕ) → HasHead words d part parts → words ≡ verb_word verb.Begin ∷ head words ++ drop 5 words
head_and_rest words d part parts has = sym (take-append-drop 5 words) ∙ ap (λ front. front ++ drop 5 words) (five words d part parts has)

-- with words behind them that ask for seats they are a command
pub begun : (words seats : List (List ℕ)) (d part parts : ℕ) (kinds : List SeatKind) → HasHead words d part parts → AreSeats seats kinds → 1 ≤ length kinds → length kinds ≤ most_seats → SpellsBegin d part parts kinds (verb_word verb.Begin ∷ head words ++ seats)
begun words seats d part parts kinds has are some most = record {
  sketch = _;
  seed = _;
  levels = _;
  share = _;
  seats = seats;
  order = refl;
  has_sketch = has.has_sketch;
  has_seed = has.has_seed;
  deep = has.deep;
  within = has.within;
  asked = are;
  some = some;
  most = most;
}

pub all_begun : (words : List (List ℕ)) (d part parts : ℕ) (kinds : List SeatKind) → HasHead words d part parts → AreSeats (drop 5 words) kinds → 1 ≤ length kinds → length kinds ≤ most_seats → SpellsBegin d part parts kinds words
all_begun words d part parts kinds has are some most =
    subst (SpellsBegin d part parts kinds) (sym (head_and_rest words d part parts has)) (begun words (drop 5 words) d part parts kinds has are some most)

-- the first n words, of which five are the head
fronted : (words : List (List ℕ)) (d part parts n : ℕ) → HasHead words d part parts → 5 ≤ n → take n words ≡ verb_word verb.Begin ∷ head words ++ take (n - 5) (drop 5 words)
fronted words d part parts n has least =
    let sum : n ≡ 5 + (n - 5) = omega arith in
    ap (take n) (head_and_rest words d part parts has) ∙ (ap (λ k. take k (verb_word verb.Begin ∷ head words ++ drop 5 words)) sum ∙ take-append-add (verb_word verb.Begin ∷ head words) (drop 5 words) (n - 5))

-- a word behind others asks for no seats there is room for
no_more : (words rest : List (List ℕ)) (n d part parts : ℕ) (kinds : List SeatKind) → (stops : StopsInSeats words 5 n) → n < length words → SpellsBegin d part parts kinds (verb_word verb.Begin ∷ head words ++ take (n - 5) (drop 5 words) ++ word words n ∷ rest) → ⊥
no_more words rest n d part parts kinds stops more s =
    let seats : take (n - 5) (drop 5 words) ++ word words n ∷ rest ≡ s.seats = ap (drop 5) s.order in
    let behind = seats_behind (take (n - 5) (drop 5 words)) (word words n ∷ rest) stops.kinds kinds stops.before.seats (subst (λ ws. AreSeats ws kinds) (sym seats) s.asked) stops.before.most s.most in
    let long = ap length behind.1 ∙ length-append stops.kinds behind.0 in
    let asked = behind.2 in
    let longer = ap length asked.5 ∙ length-append (replicate asked.1 asked.0) asked.2 in
    let count = length-replicate asked.1 asked.0 in
    let most = s.most in
    stops.here more asked.0 asked.1 asked.3 (omega arith) asked.4

-- a word that asks for none, or too many, is refused
pub refused_seats_at : (words : List (List ℕ)) (d part parts n : ℕ) → HasHead words d part parts → StopsInSeats words 5 n → IsRefusedAt words n
refused_seats_at words d part parts n has stops =
    let least = stops.before.least in
    elim (cases_lt 5 n) [
      | inl some ↦ refused_begin words (head words ++ take (n - 5) (drop 5 words)) [] n d part parts stops.kinds stops.before.within (fronted words d part parts n has stops.before.least)
          (subst (λ ws. SpellsBegin d part parts stops.kinds ws) (sym (append-nil _)) (begun words (take (n - 5) (drop 5 words)) d part parts stops.kinds has stops.before.seats (stops.before.some some) stops.before.most))
          (λ more d' part' parts' kinds' rest s. no_more words rest n d' part' parts' kinds' stops more s)
          (λ few. let five = stops.missing few in omega arith)
      | inr few ↦ refused_begin words (head words ++ take (n - 5) (drop 5 words)) (seats_word Entries 1 ∷ []) n d part parts (Entries ∷ []) stops.before.within (fronted words d part parts n has stops.before.least)
          (let none : n - 5 ≡ 0 = omega arith in
          subst (λ k. SpellsBegin d part parts (Entries ∷ []) (verb_word verb.Begin ∷ head words ++ take k (drop 5 words) ++ seats_word Entries 1 ∷ [])) (sym none) (begun words (seats_word Entries 1 ∷ []) d part parts (Entries ∷ []) has one_seat (omega arith) (omega arith)))
          (λ more d' part' parts' kinds' rest s. no_more words rest n d' part' parts' kinds' stops more s)
          (λ few. let five = stops.missing few in omega arith)
    ]
