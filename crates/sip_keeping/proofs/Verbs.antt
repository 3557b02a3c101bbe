-- Where the words of each command are refused.
use Rattle.std.proofs.Common.{◌≡◌, ◌≢◌, ℕ, ◌<◌, ◌≤◌, Option, List, [], ◌∷◌, ◌++◌, length, get_or, take, sym, refl, ap, ◌∙◌, arith}
use Rattle.std.specs.Prelude.{codes, decimal}
use Rattle.std.proofs.lemmas.List.{length-take-le}
use Rattle.sip_stream.specs.declared.form.Form.{Form}
use Rattle.sip_words.specs.Words.{word}
use Rattle.sip_keeping.specs.declared.command.SketchCommand.{SketchCommand}
use Rattle.sip_keeping.specs.declared.command.SketchCommand.TheVariants as command
use Rattle.sip_sketch.specs.declared.kind.SeatKind.{SeatKind}
use Rattle.sip_sketch.specs.declared.kind.SeatKind.TheVariants.{Entries}
use Rattle.sip_keeping.specs.declared.verb.SketchVerb.{SketchVerb}
use Rattle.sip_keeping.specs.declared.verb.SketchVerb.TheVariants as verb
use Rattle.sip_keeping.specs.Words.{AreSeats, IsPart, IsRefusedAt, Spells, SpellsBegin, SpellsMerge, SpellsSeats, SpellsWatch, seats_word, verb_word}
use Rattle.sip_keeping.proofs.Refused.{refused}
use Rattle.sip_keeping.proofs.SeatWords.{some_words}

-- ---- the first words of a list

pub front_1 : (ws : List (List ℕ)) → 1 ≤ length ws → take 1 ws ≡ word ws 0 ∷ []
front_1 [] some = absurd (omega arith)
front_1 (a ∷ ws) some = refl

pub front_2 : (ws : List (List ℕ)) → 2 ≤ length ws → take 2 ws ≡ word ws 0 ∷ word ws 1 ∷ []
front_2 [] some = absurd (omega arith)
front_2 (a ∷ ws) some = ap (λ rest. a ∷ rest) (front_1 ws (omega arith))

pub front_3 : (ws : List (List ℕ)) → 3 ≤ length ws → take 3 ws ≡ word ws 0 ∷ word ws 1 ∷ word ws 2 ∷ []
front_3 [] some = absurd (omega arith)
front_3 (a ∷ ws) some = ap (λ rest. a ∷ rest) (front_2 ws (omega arith))

pub front_4 : (ws : List (List ℕ)) → 4 ≤ length ws → take 4 ws ≡ word ws 0 ∷ word ws 1 ∷ word ws 2 ∷ word ws 3 ∷ []
front_4 [] some = absurd (omega arith)
front_4 (a ∷ ws) some = ap (λ rest. a ∷ rest) (front_3 ws (omega arith))

pub front_5 : (ws : List (List ℕ)) → 5 ≤ length ws → take 5 ws ≡ word ws 0 ∷ word ws 1 ∷ word ws 2 ∷ word ws 3 ∷ word ws 4 ∷ []
front_5 [] some = absurd (omega arith)
front_5 (a ∷ ws) some = ap (λ rest. a ∷ rest) (front_4 ws (omega arith))

-- ---- which command words are by the first of them

-- the letter of the first word
letter : (ws rest : List (List ℕ)) (v w : List ℕ) → ws ≡ v ∷ rest → word ws 0 ≡ w → get_or v 0 0 ≡ get_or w 0 0
letter ws rest v w order first = ap (λ x. get_or x 0 0) (sym (ap (λ x. word x 0) order) ∙ first)

pub only_begin : (c : SketchCommand) (ws : List (List ℕ)) → Spells c ws → word ws 0 ≡ verb_word verb.Begin → (d part parts : ℕ) × (kinds : List SeatKind) × SpellsBegin d part parts kinds ws
only_begin (command.Begin d part parts kinds) ws s first = (d, part, parts, kinds.items, s)
only_begin (command.Watch form at every) ws s first = absurd (let l : 119 ≡ 98 = letter _ _ _ _ s.order first in omega (arith, l))
only_begin (command.Merge parts) ws s first = absurd (let l : 109 ≡ 98 = letter _ _ _ _ s.order first in omega (arith, l))
only_begin command.Seats ws s first = absurd (let l : 115 ≡ 98 = letter _ _ _ _ s.order first in omega (arith, l))

pub only_watch : (c : SketchCommand) (ws : List (List ℕ)) → Spells c ws → word ws 0 ≡ verb_word verb.Watch → (form : Form) × (at : Option ℕ) × (every : Option ℕ) × SpellsWatch form at every ws
only_watch (command.Begin d part parts kinds) ws s first = absurd (let l : 98 ≡ 119 = letter _ _ _ _ s.order first in omega (arith, l))
only_watch (command.Watch form at every) ws s first = (form, at, every, s)
only_watch (command.Merge parts) ws s first = absurd (let l : 109 ≡ 119 = letter _ _ _ _ s.order first in omega (arith, l))
only_watch command.Seats ws s first = absurd (let l : 115 ≡ 119 = letter _ _ _ _ s.order first in omega (arith, l))

pub only_merge : (c : SketchCommand) (ws : List (List ℕ)) → Spells c ws → word ws 0 ≡ verb_word verb.Merge → (parts : ℕ) × SpellsMerge parts ws
only_merge (command.Begin d part parts kinds) ws s first = absurd (let l : 98 ≡ 109 = letter _ _ _ _ s.order first in omega (arith, l))
only_merge (command.Watch form at every) ws s first = absurd (let l : 119 ≡ 109 = letter _ _ _ _ s.order first in omega (arith, l))
only_merge (command.Merge parts) ws s first = (parts, s)
only_merge command.Seats ws s first = absurd (let l : 115 ≡ 109 = letter _ _ _ _ s.order first in omega (arith, l))

pub only_seats : (c : SketchCommand) (ws : List (List ℕ)) → Spells c ws → word ws 0 ≡ verb_word verb.Seats → SpellsSeats ws
only_seats (command.Begin d part parts kinds) ws s first = absurd (let l : 98 ≡ 115 = letter _ _ _ _ s.order first in omega (arith, l))
only_seats (command.Watch form at every) ws s first = absurd (let l : 119 ≡ 115 = letter _ _ _ _ s.order first in omega (arith, l))
only_seats (command.Merge parts) ws s first = absurd (let l : 109 ≡ 115 = letter _ _ _ _ s.order first in omega (arith, l))
only_seats command.Seats ws s first = s

-- ---- the words of each command are so many

pub long_begin : (d part parts : ℕ) (kinds : List SeatKind) (ws : List (List ℕ)) → SpellsBegin d part parts kinds ws → 6 ≤ length ws
long_begin d part parts kinds ws s =
    let some = some_words s.seats kinds s.asked s.some in
    let long = ap length s.order in
    omega arith

pub long_watch : (form : Form) (at every : Option ℕ) (ws : List (List ℕ)) → SpellsWatch form at every ws → length ws ≡ 5
long_watch form at every ws s = ap length s.order

pub long_merge : (parts : ℕ) (ws : List (List ℕ)) → SpellsMerge parts ws → 3 ≤ length ws
long_merge parts ws s =
    let long = ap length s.order in
    let count = s.count in
    let some = s.some in
    omega arith

pub long_seats : (ws : List (List ℕ)) → SpellsSeats ws → length ws ≡ 2
long_seats ws s = ap length s.order

-- ---- where they are refused

-- the first n words are as many as that
counted : (words front : List (List ℕ)) (n : ℕ) → n ≤ length words → take n words ≡ front → length front ≡ n
counted words front n within is = sym (ap length is) ∙ length-take-le n words within

pub refused_begin : (words front end : List (List ℕ)) (n d part parts : ℕ) (kinds : List SeatKind) → n ≤ length words → take n words ≡ verb_word verb.Begin ∷ front → SpellsBegin d part parts kinds (verb_word verb.Begin ∷ front ++ end)
    → (n < length words → (d part parts : ℕ) (kinds : List SeatKind) (rest : List (List ℕ)) → SpellsBegin d part parts kinds (verb_word verb.Begin ∷ front ++ word words n ∷ rest) → ⊥)
    → (length words ≤ n → n ≤ 5) → IsRefusedAt words n
refused_begin words front end n d part parts kinds within is says none short =
    refused Spells words (verb_word verb.Begin ∷ front) end n (command.Begin d part parts (record { items = kinds })) within is says
    (λ more c rest s. let b = only_begin c _ s refl in none more b.0 b.1 b.2 b.3 rest b.4)
    (λ least c s.
    let b = only_begin c _ s refl in
    let long = long_begin _ _ _ _ _ b.4 in
    let count = counted words _ n within is in
    let few = short least in
    omega arith)

pub refused_watch : (words front end : List (List ℕ)) (n : ℕ) (form : Form) (at every : Option ℕ) → n ≤ length words → take n words ≡ verb_word verb.Watch ∷ front → SpellsWatch form at every (verb_word verb.Watch ∷ front ++ end)
    → (n < length words → (form : Form) (at every : Option ℕ) (rest : List (List ℕ)) → SpellsWatch form at every (verb_word verb.Watch ∷ front ++ word words n ∷ rest) → ⊥)
    → (length words ≤ n → n < 5) → IsRefusedAt words n
refused_watch words front end n form at every within is says none short =
    refused Spells words (verb_word verb.Watch ∷ front) end n (command.Watch form at every) within is says
    (λ more c rest s. let b = only_watch c _ s refl in none more b.0 b.1 b.2 rest b.3)
    (λ least c s.
    let b = only_watch c _ s refl in
    let long = long_watch _ _ _ _ b.3 in
    let count = counted words _ n within is in
    let few = short least in
    omega arith)

pub refused_merge : (words front end : List (List ℕ)) (n parts : ℕ) → n ≤ length words → take n words ≡ verb_word verb.Merge ∷ front → SpellsMerge parts (verb_word verb.Merge ∷ front ++ end)
    → (n < length words → (parts : ℕ) (rest : List (List ℕ)) → SpellsMerge parts (verb_word verb.Merge ∷ front ++ word words n ∷ rest) → ⊥)
    → (length words ≤ n → n ≤ 2) → IsRefusedAt words n
refused_merge words front end n parts within is says none short =
    refused Spells words (verb_word verb.Merge ∷ front) end n (command.Merge parts) within is says
    (λ more c rest s. let b = only_merge c _ s refl in none more b.0 rest b.1)
    (λ least c s.
    let b = only_merge c _ s refl in
    let long = long_merge _ _ b.1 in
    let count = counted words _ n within is in
    let few = short least in
    omega arith)

pub refused_seats : (words front end : List (List ℕ)) (n : ℕ) → n ≤ length words → take n words ≡ verb_word verb.Seats ∷ front → SpellsSeats (verb_word verb.Seats ∷ front ++ end)
    → (n < length words → (rest : List (List ℕ)) → SpellsSeats (verb_word verb.Seats ∷ front ++ word words n ∷ rest) → ⊥)
    → (length words ≤ n → n < 2) → IsRefusedAt words n
refused_seats words front end n within is says none short =
    refused Spells words (verb_word verb.Seats ∷ front) end n command.Seats within is says
    (λ more c rest s. none more rest (only_seats c _ s refl))
    (λ least c s.
    let long = long_seats _ (only_seats c _ s refl) in
    let count = counted words _ n within is in
    let few = short least in
    omega arith)

-- a part of one
pub only_part : IsPart 1 1 (decimal 1 ++ 47 ∷ decimal 1)
only_part = (omega arith, omega arith, omega arith, refl)

-- one seat
pub one_seat : AreSeats (seats_word Entries 1 ∷ []) (Entries ∷ [])
one_seat = (Entries, 1, [], omega arith, refl, refl, refl)

-- a command begins with the word of a verb
first_word : (c : SketchCommand) (w : List ℕ) (rest : List (List ℕ)) → Spells c (w ∷ rest) → (v : SketchVerb) × (w ≡ verb_word v)
first_word (command.Begin d part parts kinds) w rest s = (verb.Begin, ap (λ ws. word ws 0) s.order)
first_word (command.Watch form at every) w rest s = (verb.Watch, ap (λ ws. word ws 0) s.order)
first_word (command.Merge parts) w rest s = (verb.Merge, ap (λ ws. word ws 0) s.order)
first_word command.Seats w rest s = (verb.Seats, ap (λ ws. word ws 0) s.order)

-- no words are none
not_empty : (c : SketchCommand) → Spells c [] → ⊥
not_empty (command.Begin d part parts kinds) s = let long = ap length s.order in omega arith
not_empty (command.Watch form at every) s = let long = ap length s.order in omega arith
not_empty (command.Merge parts) s = let long = ap length s.order in omega arith
not_empty command.Seats s = let long = ap length s.order in omega arith

-- where word 0 is no verb, it is refused
pub refused_verb : (words : List (List ℕ)) → ((v : SketchVerb) → 0 < length words → word words 0 ≢ verb_word v) → IsRefusedAt words 0
refused_verb words none =
    refused Spells words [] (codes "seats" ∷ codes "s" ∷ []) 0 command.Seats (omega arith) refl
    (record { sketch = _; order = refl; has_sketch = λ e. cc })
    (λ more c rest s. let first = first_word c (word words 0) rest s in none first.0 more first.1)
    (λ least c s. not_empty c s)
