-- The queries of a head with their challenges, one by one.
use Rattle.std.proofs.Common.{◌≡◌, ℕ, zero, suc, ◌+◌, ◌*◌, ◌<◌, ◌≤◌, List, [], ◌∷◌, ◌++◌, length, take, drop, get_or, sym, ap, subst, ◌∙◌, arith, append_assoc, append-nil, length-append}
use Rattle.std.specs.Prelude.{All, IsTrue, slice_index_or}
use Rattle.std.specs.List.{flat_map}
use Rattle.std.proofs.lemmas.List.{drop-drop, drop_at, get_or-map, length-map, length-take-le, take-append-drop, take_at, take_more}
use Rattle.std.proofs.lemmas.List.Concat.{flat_map-cons}
use Rattle.std.proofs.lemmas.List.Elements.{All-get_or, All-head, All-tail}
use Rattle.std.proofs.lemmas.Nat.{mul-le}
use Rattle.sip_vector.specs.declared.query.Query.{Query}
use Rattle.sip_wire.specs.declared.message.Message.TheVariants as messages
use Rattle.sip_wire.specs.declared.version.Version.{Version}
use Rattle.sip_wire.specs.declared.version.Version.TheVariants.{One, Two}
use Rattle.sip_wire.specs.Spelling.{fits}
use Rattle.sip_wire.specs.Versions.{deepest}
use Rattle.sip_wire.proofs.Asking.{query-fits}
use Rattle.sip_wire.proofs.Wider.{fits_two}
use Rattle.sip_transcript.specs.declared.head.Head.{Head}
use Rattle.sip_transcript.specs.Heads.{Ask, IsAsk, Says}
use Rattle.sip_transcript.specs.Listings.{numbered}

-- ---- blocks

-- the challenges of a query stand behind those of the queries before it
block-at : (version : Version) (depth i : ℕ) (asks : List Ask) (other : Ask) → All (IsAsk version depth) asks → i < length asks → take depth (drop (i * depth) (flat_map (λ ask. ask.1) asks)) ≡ (get_or asks i other).1
block-at version depth i [] other are lt = absurd (omega arith)
block-at version depth zero (ask ∷ asks) other are lt =
    let none : zero * depth ≡ 0 = grind arith in
    ap (take depth) (ap (λ (n : ℕ). drop n (flat_map (λ (x : Ask). x.1) (ask ∷ asks))) none ∙ flat_map-cons (λ (x : Ask). x.1) ask asks) ∙ take_at ask.1 (flat_map (λ (x : Ask). x.1) asks) depth (All-head (IsAsk version depth) ask asks are).levels
block-at version depth (suc i) (ask ∷ asks) other are lt =
    let rest = flat_map (λ (x : Ask). x.1) asks in
    let whole = flat_map-cons (λ (x : Ask). x.1) ask asks in
    let place : suc i * depth ≡ depth + i * depth = grind arith in
    ap (take depth) (ap (λ (n : ℕ). drop n (flat_map (λ (x : Ask). x.1) (ask ∷ asks))) place
    ∙ sym (drop-drop (i * depth) depth (flat_map (λ (x : Ask). x.1) (ask ∷ asks)))
    ∙ ap (λ (l : List ℕ). drop (i * depth) (drop depth l)) whole
    ∙ ap (drop (i * depth)) (drop_at ask.1 rest depth (All-head (IsAsk version depth) ask asks are).levels))
    ∙ block-at version depth i asks other (All-tail (IsAsk version depth) ask asks are) (omega arith)

-- as many queries as a head says
pub asks-long : (head : Head) (asks : List Ask) → Says head asks → length head.queries.items ≡ length asks
asks-long head asks says = ap length says.queries ∙ length-map asks (λ ask. ask.0)

-- their challenges have room
pub blocks-long : (version : Version) (depth : ℕ) (asks : List Ask) → All (IsAsk version depth) asks → length (flat_map (λ ask. ask.1) asks) ≡ length asks * depth
blocks-long version depth [] are = grind arith
blocks-long version depth (ask ∷ asks) are =
    let is = All-head (IsAsk version depth) ask asks are in
    let more = blocks-long version depth asks (All-tail (IsAsk version depth) ask asks are) in
    let step : length (ask ∷ asks) * depth ≡ depth + length asks * depth = grind arith in
    ap length (flat_map-cons (λ (x : Ask). x.1) ask asks) ∙ length-append ask.1 (flat_map (λ (x : Ask). x.1) asks) ∙ omega (arith, is.levels, more, step)

-- the challenges of a head's query
pub head-block : (head : Head) (asks : List Ask) (i : ℕ) (other : Ask) → Says head asks → i < length head.queries.items → take head.depth (drop (i * head.depth) head.challenges.items) ≡ (get_or asks i other).1
head-block head asks i other says lt =
    ap (λ (l : List ℕ). take head.depth (drop (i * head.depth) l)) says.challenges
    ∙ block-at head.version head.depth i asks other says.is_run.each (omega (arith, lt, asks-long head asks says))

-- and how many there are up to it
pub head-room : (head : Head) (asks : List Ask) (i : ℕ) → Says head asks → i < length head.queries.items → i * head.depth + head.depth ≤ length head.challenges.items
head-room head asks i says lt =
    let all = ap length says.challenges ∙ blocks-long head.version head.depth asks says.is_run.each in
    let count = asks-long head asks says in
    let most : (i + 1) * head.depth ≤ length asks * head.depth = mul-le (i + 1) head.depth (length asks) head.depth (omega (arith, lt, count)) (omega arith) in
    let step : (i + 1) * head.depth ≡ i * head.depth + head.depth = grind arith in
    subst (λ (n : ℕ). i * head.depth + head.depth ≤ n) (sym all) (subst (λ (n : ℕ). n ≤ length asks * head.depth) step most)

-- ---- one query

-- a query and its challenges
pair-is : (ask : Ask) (query : Query) (block : List ℕ) → ask.0 ≡ query → ask.1 ≡ block → ask ≡ (query, block)
pair-is (q, b) query block e f = ap (λ (x : Query). (x, b)) e ∙ ap (λ (x : List ℕ). (query, x)) f

-- those at a place
ask-at : (head : Head) (asks : List Ask) (i : ℕ) (other query : Query) (block : List ℕ) → Says head asks → i < length head.queries.items → query ≡ get_or head.queries.items i other → block ≡ (get_or asks i (query, block)).1
    → get_or asks i (query, block) ≡ (query, block)
ask-at head asks i other query block says lt here is =
    let count = asks-long head asks says in
    let own : get_or head.queries.items i other ≡ (get_or asks i (query, block)).0 =
    ap (λ (l : List Query). get_or l i other) says.queries ∙ get_or-map (λ (x : Ask). x.0) asks i (query, block) other (omega (arith, lt, count)) in
    pair-is (get_or asks i (query, block)) query block (sym own ∙ sym here) (sym is)

-- Those that a walk over a head's queries comes to: its query, with the challenges that the head gives for the number of
-- queries before it.
pub ask-due : (head : Head) (asks : List Ask) (i number : ℕ) (items : List Query) (other : Query) (block : List ℕ) → Says head asks → items ≡ head.queries.items → i < length items → number ≡ i
    → ((all : List Ask) (ask : Ask) → Says head all → block ≡ (slice_index_or all number ask).1)
    → (i < length head.queries.items) × (get_or asks i (slice_index_or items i other, block) ≡ (slice_index_or items i other, block))
ask-due head asks i number items other block says same lt at own =
    let query = slice_index_or items i other in
    let within = subst (λ (l : List Query). i < length l) same lt in
    (within, ask-at head asks i other query block says within (ap (λ (l : List Query). get_or l i other) same) (rw at at (own asks (query, block) says)))

-- no version goes deeper
pub deepest-most : (version : Version) → deepest version ≤ 48
deepest-most One = omega arith
deepest-most Two = omega arith

-- it can be asked in version 2, and has no more challenges than there may be levels
pub ask-wide : (head : Head) (asks : List Ask) (i : ℕ) (query : Query) (block : List ℕ) → Says head asks → i < length head.queries.items → get_or asks i (query, block) ≡ (query, block)
    → IsTrue (fits Two (messages.Query query)) × (length block ≤ 48)
ask-wide head asks i query block says lt is =
    let count = asks-long head asks says in
    let most = deepest-most head.version in
    let one = subst (IsAsk head.version head.depth) is (All-get_or (IsAsk head.version head.depth) asks i (query, block) (omega (arith, lt, count)) says.is_run.each) in (
      fits_two head.version (messages.Query query) (query-fits head.version head.depth query one.speaks one.fits.1),
      omega (arith, one.levels, says.is_run.shallow, most),
    )

-- ---- what is written of several

-- of two lists
numbered-append : (text : ℕ → Ask → List ℕ) (n : ℕ) (xs ys : List Ask) → numbered text n (xs ++ ys) ≡ numbered text n xs ++ numbered text (n + length xs) ys
numbered-append text n [] ys = ap (λ (k : ℕ). numbered text k ys) (let e : n ≡ n + 0 = omega arith in e)
numbered-append text n (x ∷ xs) ys =
    ap (λ (l : List ℕ). text n x ++ l) (numbered-append text (suc n) xs ys ∙ ap (λ (k : ℕ). numbered text (suc n) xs ++ numbered text k ys) (let e : suc n + length xs ≡ n + length (x ∷ xs) = omega arith in e))
    ∙ sym (append_assoc (text n x) (numbered text (suc n) xs) (numbered text (n + length (x ∷ xs)) ys))

-- of one more
numbered-more : (text : ℕ → Ask → List ℕ) (xs : List Ask) (i : ℕ) (x : Ask) → i < length xs → get_or xs i x ≡ x → numbered text 1 (take (i + 1) xs) ≡ numbered text 1 (take i xs) ++ text (i + 1) x
numbered-more text xs i x lt is =
    ap (numbered text 1) (take_more xs i x lt ∙ ap (λ (y : Ask). take i xs ++ y ∷ []) is)
    ∙ numbered-append text 1 (take i xs) (x ∷ [])
    ∙ ap (λ (l : List ℕ). numbered text 1 (take i xs) ++ l) (append-nil (text (1 + length (take i xs)) x) ∙ ap (λ (k : ℕ). text k x) (omega (arith, length-take-le i xs (omega arith))))

-- the same behind a front
pub asks-more : (front : List ℕ) (text : ℕ → Ask → List ℕ) (xs : List Ask) (i : ℕ) (x : Ask) → i < length xs → get_or xs i x ≡ x → (front ++ numbered text 1 (take i xs)) ++ text (i + 1) x ≡ front ++ numbered text 1 (take (i + 1) xs)
asks-more front text xs i x lt is =
    append_assoc front (numbered text 1 (take i xs)) (text (i + 1) x) ∙ ap (λ (l : List ℕ). front ++ l) (sym (numbered-more text xs i x lt is))

-- and what follows that
pub asks-split : (front : List ℕ) (text : ℕ → Ask → List ℕ) (xs : List Ask) (i : ℕ) (x : Ask) → i < length xs → get_or xs i x ≡ x
    → (rest : List ℕ) × (front ++ numbered text 1 xs ≡ ((front ++ numbered text 1 (take i xs)) ++ text (i + 1) x) ++ rest)
asks-split front text xs i x lt is =
    let behind = numbered text (1 + length (take (i + 1) xs)) (drop (i + 1) xs) in (
      behind,
      ap (λ (l : List ℕ). front ++ l) (ap (numbered text 1) (sym (take-append-drop (i + 1) xs)) ∙ numbered-append text 1 (take (i + 1) xs) (drop (i + 1) xs))
          ∙ sym (append_assoc front (numbered text 1 (take (i + 1) xs)) behind)
          ∙ ap (λ (l : List ℕ). l ++ behind) (sym (asks-more front text xs i x lt is)),
    )
