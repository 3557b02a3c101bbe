-- The words of `merge` behind the first two, which are names.
use Rattle.std.proofs.Common.{◌≡◌, ◌≢◌, ℕ, ◌+◌, ◌-◌, ◌<◌, ◌≤◌, List, [], ◌∷◌, ◌++◌, All, length, get_or, take, drop, sym, refl, ap, subst, ◌∙◌, inl, inr, arith}
use Rattle.std.specs.Prelude.{codes}
use Rattle.std.proofs.Math.Seq.{take-append-add}
use Rattle.std.proofs.lemmas.Bool.{cases_lt}
use Rattle.std.proofs.lemmas.List.{append-nil, get_or-append_right, get_or-drop, get_or-take, length-append, length-drop, length-take-le, take-append-drop}
use Rattle.std.proofs.lemmas.List.Elements.{All-cons, All-from_get_or, All-get_or, All-nil}
use Rattle.sip_words.specs.Words.{word}
use Rattle.sip_keeping.specs.Words.{IsRefusedAt, SpellsMerge, most_parts, verb_word}
use Rattle.sip_keeping.specs.declared.verb.SketchVerb.TheVariants as verb
use Rattle.sip_keeping.specs.inside.SoFar.{AreNamesTo}
use Rattle.sip_keeping.proofs.Verbs.{front_2, refused_merge}

-- the words are the first two, and others
two : (words : List (List ℕ)) → word words 0 ≡ verb_word verb.Merge → 1 < length words → words ≡ verb_word verb.Merge ∷ word words 1 ∷ drop 2 words
two words first long =
    sym (take-append-drop 2 words) ∙ (ap (λ front. front ++ drop 2 words) (front_2 words (omega arith)) ∙ ap (λ v. v ∷ word words 1 ∷ drop 2 words) first)

-- those that were read so far
abbrev names_to : List (List ℕ) → ℕ → List (List ℕ)
names_to words n = take (n - 2) (drop 2 words)

long_names : (words : List (List ℕ)) (n : ℕ) → AreNamesTo words 2 n → length (names_to words n) ≡ n - 2
long_names words n are =
    let rest = length-drop 2 words in
    let within = are.within in
    length-take-le (n - 2) (drop 2 words) (omega arith)

are_names : (words : List (List ℕ)) (n : ℕ) → AreNamesTo words 2 n → All (λ name. name ≢ []) (names_to words n)
are_names words n are =
    let long = long_names words n are in
    All-from_get_or (λ name. name ≢ []) (names_to words n) [] (λ i less.
    subst (λ w. w ≢ []) (sym (get_or-take (n - 2) (drop 2 words) i [] (omega arith) ∙ get_or-drop 2 words i [])) (are.named (2 + i) (omega arith) (omega arith)))

fronted : (words : List (List ℕ)) (n : ℕ) → word words 0 ≡ verb_word verb.Merge → 1 < length words → 2 ≤ n → take n words ≡ verb_word verb.Merge ∷ word words 1 ∷ names_to words n
fronted words n first long least =
    let sum : n ≡ 2 + (n - 2) = omega arith in
    ap (take n) (two words first long) ∙ (ap (λ k. take k (verb_word verb.Merge ∷ word words 1 ∷ drop 2 words)) sum ∙ take-append-add (verb_word verb.Merge ∷ word words 1 ∷ []) (drop 2 words) (n - 2))

-- with these names they are a command
named_by : (words names : List (List ℕ)) (count : ℕ) → word words 1 ≢ [] → All (λ name. name ≢ []) names → length names ≡ count → 1 ≤ count → count ≤ most_parts → SpellsMerge count (verb_word verb.Merge ∷ word words 1 ∷ names)
named_by words names count named are long some most = record {
  sketch = _;
  names = names;
  order = refl;
  has_sketch = named;
  named = are;
  count = long;
  some = some;
  most = most;
}

pub all_named : (words : List (List ℕ)) (count : ℕ) → word words 0 ≡ verb_word verb.Merge → 1 < length words → word words 1 ≢ [] → AreNamesTo words 2 (2 + count) → 2 + count ≡ length words → 1 ≤ count → count ≤ most_parts → SpellsMerge count words
all_named words count first long named are whole some most =
    let rest = length-drop 2 words in
    subst (SpellsMerge count) (sym (two words first long))
    (named_by words (drop 2 words) count named
    (All-from_get_or (λ name. name ≢ []) (drop 2 words) [] (λ i less.
    subst (λ w. w ≢ []) (sym (get_or-drop 2 words i [])) (are.named (2 + i) (omega arith) (omega arith))))
    (omega arith) some most)

-- a word behind them is no name, or one too many
no_more : (words rest : List (List ℕ)) (n parts : ℕ) → AreNamesTo words 2 n → (n < 2 + most_parts → word words n ≡ []) → SpellsMerge parts (verb_word verb.Merge ∷ word words 1 ∷ names_to words n ++ word words n ∷ rest) → ⊥
no_more words rest n parts are here s =
    let names : names_to words n ++ word words n ∷ rest ≡ s.names = ap (drop 2) s.order in
    let long = long_names words n are in
    let longer = length-append (names_to words n) (word words n ∷ rest) in
    let count = ap length names ∙ s.count in
    let most = s.most in
    let least = are.least in
    elim (cases_lt n (2 + most_parts)) [
      | inl fewer ↦ (
          let all : All (λ name. name ≢ []) (names_to words n ++ word words n ∷ rest) = subst (All (λ name. name ≢ [])) (sym names) s.named in
          let at = All-get_or (λ name. name ≢ []) (names_to words n ++ word words n ∷ rest) (n - 2) [] (omega arith) all in
          let place = get_or-append_right (names_to words n) (word words n ∷ rest) (n - 2) (n - 2) [] long (omega arith) in
          let zero : n - 2 - (n - 2) ≡ 0 = omega arith in
          at (place ∙ (ap (λ k. get_or (word words n ∷ rest) k []) zero ∙ here fewer)))
      | inr many ↦ omega arith
    ]

pub refused_name_at : (words : List (List ℕ)) (n : ℕ) → word words 0 ≡ verb_word verb.Merge → 1 < length words → word words 1 ≢ [] → AreNamesTo words 2 n → n ≤ 2 + most_parts → (n < length words → n < 2 + most_parts → word words n ≡ []) → (length words ≤ n → n ≡ 2) → IsRefusedAt words n
refused_name_at words n first long named are most here missing =
    let least = are.least in
    let count = long_names words n are in
    elim (cases_lt 2 n) [
      | inl some ↦ refused_merge words (word words 1 ∷ names_to words n) [] n (n - 2) are.within (fronted words n first long are.least)
          (subst (SpellsMerge (n - 2)) (sym (append-nil _)) (named_by words (names_to words n) (n - 2) named (are_names words n are) count (omega arith) (omega arith)))
          (λ more parts rest s. no_more words rest n parts are (here more) s)
          (λ few. let two = missing few in omega arith)
      | inr few ↦ refused_merge words (word words 1 ∷ names_to words n) (codes "s" ∷ []) n 1 are.within (fronted words n first long are.least)
          (let none : n - 2 ≡ 0 = omega arith in
          subst (λ k. SpellsMerge 1 (verb_word verb.Merge ∷ word words 1 ∷ take k (drop 2 words) ++ codes "s" ∷ [])) (sym none)
          (named_by words (codes "s" ∷ []) 1 named (All-cons (λ name. name ≢ []) (codes "s") [] (λ e. cc) (All-nil (λ name. name ≢ []))) refl (omega arith) (omega arith)))
          (λ more parts rest s. no_more words rest n parts are (here more) s)
          (λ few. let two = missing few in omega arith)
    ]
