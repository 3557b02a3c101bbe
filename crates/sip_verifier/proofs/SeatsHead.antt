-- The head of a transcript, seat by seat.
use Rattle.std.proofs.Common.{◌≡◌, ℕ, zero, suc, ◌+◌, ◌^◌, ◌<◌, ◌≤◌, List, [], ◌∷◌, ◌++◌, length, map, get_or, take, drop, refl, sym, ap, ◌∙◌, subst, arith, append_assoc, append-nil, take_all}
use Rattle.std.specs.Prelude.{◌&&◌, nat_le, nat_lt, IsTrue, All, Result, Ok, Err, IfOk}
use Rattle.std.specs.List.{list_all, flat_map, zip}
use Rattle.std.proofs.lemmas.Bool.{and_from, and_parts, leb-true, ltb-true}
use Rattle.std.proofs.lemmas.List.{get_or-map, length-map, take_more, take-append-drop}
use Rattle.std.proofs.lemmas.List.Elements.{All-head, All-tail}
use Rattle.std.proofs.lemmas.List.Concat.{flat_map-append}
use Rattle.sip_wire.specs.declared.version.Version.{Version}
use Rattle.sip_vector.specs.declared.query.Query.{Query}
use Rattle.sip_vector.specs.declared.query.Query.TheVariants.{Sub, Range, F2, Inner, Heavy, Share, Above}
use Rattle.sip_vector.specs.declared.update.Update.{Update}
use Rattle.sip_vector.specs.Answers.{Fits}
use Rattle.sip_vector.specs.Built.{is_built}
use Rattle.sip_vector.specs.Limits.{most_depth, most_share}
use Rattle.sip_wire.specs.Transcript.{head_bytes, ask_bytes}
use Rattle.sip_wire.specs.Versions.{Speaks, deepest, needed, speaks}
use Rattle.sip_wire.proofs.Asking.{needed-speaks}
use Rattle.sip_verifier.specs.QuerySeats.{Seated, is_seat, can_be_asked, does_fit}
use Rattle.sip_verifier.specs.Seats.{AreSeats, Seating}
use Rattle.sip_verifier.specs.Transcripts.{head_of}
use Rattle.sip_verifier.proofs.Seating.{seat_parts}

-- a seat's query and its challenges
abbrev pub ask : (version : Version) → Seated → List ℕ
ask version s = ask_bytes version s.query s.block

abbrev pub asks : (version : Version) → List Seated → List ℕ
asks version seats = flat_map (ask version) seats

-- the version that the seats need
abbrev pub version_of : Seating → Version
version_of s = needed s.depth (map (λ (x : Seated). x.query) s.seats)

-- what is written of these seats
abbrev pub head_up_to : (version : Version) → Seating → ℕ → List ℕ
head_up_to version s k = head_bytes version s.depth (length s.seats) ++ asks version (take k s.seats)

-- ---- the query of a seat fits its challenges

pub seat-at : (depth k : ℕ) (seats : List Seated) (d : Seated) → IsTrue (list_all (is_seat depth) seats) → k < length seats → IsTrue (is_seat depth (get_or seats k d))
seat-at depth k [] d all lt = absurd (omega (arith, lt))
seat-at depth zero (x ∷ seats) d all lt = (and_parts (is_seat depth x) (list_all (is_seat depth) seats) all).0
seat-at depth (suc k) (x ∷ seats) d all lt = seat-at depth k seats d (and_parts (is_seat depth x) (list_all (is_seat depth) seats) all).1 (omega (arith, lt))

does-fit : (depth : ℕ) (query : Query) → IsTrue (does_fit depth query) → Fits depth query
does-fit depth (Sub lo hi) does = let both = and_parts (nat_le lo hi) (nat_lt hi (2 ^ depth)) does in (leb-true lo hi both.0, ltb-true hi (2 ^ depth) both.1)
does-fit depth (Range side lo hi) does = let both = and_parts (nat_le lo hi) (nat_lt hi (2 ^ depth)) does in (leb-true lo hi both.0, ltb-true hi (2 ^ depth) both.1)
does-fit depth (F2 side) does = tt
does-fit depth Inner does = tt
does-fit depth (Heavy side least) does = let both = and_parts (nat_le 1 least) (nat_lt least (2 ^ 63)) does in (leb-true 1 least both.0, ltb-true least (2 ^ 63) both.1)
does-fit depth (Above side least) does = let both = and_parts (nat_le 1 least) (nat_lt least (2 ^ 63)) does in (leb-true 1 least both.0, ltb-true least (2 ^ 63) both.1)
does-fit depth (Share side num den) does =
    let both = and_parts (nat_le 1 num) (nat_le num den && nat_le den most_share) does in
    let rest = and_parts (nat_le num den) (nat_le den most_share) both.1 in
    (leb-true 1 num both.0, leb-true num den rest.0, leb-true den most_share rest.1)

pub fits-asked : (depth : ℕ) (query : Query) → IsTrue (can_be_asked depth query) → Fits depth query
fits-asked depth query can = does-fit depth query (and_parts (is_built query) (does_fit depth query) can).1

pub seat-fits : (depth : ℕ) (s : Seated) (block : List ℕ) → IsTrue (is_seat depth s) → block ≡ s.block → Fits (length block) s.query
seat-fits depth s block is same =
    let parts = seat_parts depth s is in
    let levels : length block ≡ depth = ap length same ∙ parts.1 in
    subst (λ n. Fits n s.query) (sym levels) (fits-asked depth s.query parts.0)

-- a seat has a challenge for each level
pub seat-long : (depth : ℕ) (s : Seated) → IsTrue (is_seat depth s) → length s.block ≡ depth
seat-long depth s is = (seat_parts depth s is).1

-- no seat's depth is beyond the version that all need
pub seats-shallow : (depth : ℕ) (seats : List Seated) → depth ≤ most_depth → 0 < length seats → depth ≤ deepest (needed depth (map (λ (s : Seated). s.query) seats))
seats-shallow depth seats most some =
    let query = λ (s : Seated). s.query in
    (needed-speaks depth (map query seats) most 0 (Sub 0 0) (omega (arith, length-map seats query, some))).shallow

-- each query can be asked in the version that all need
pub seat-speaks : (depth k : ℕ) (seats : List Seated) (d : Seated) → depth ≤ most_depth → k < length seats → Speaks (needed depth (map (λ (s : Seated). s.query) seats)) depth ((get_or seats k d).query)
seat-speaks depth k seats d most below =
    let query = λ (s : Seated). s.query in
    let inside : k < length (map query seats) = omega (arith, length-map seats query, below) in
    subst (Speaks (needed depth (map query seats)) depth) (get_or-map query seats k d (query d) below)
    (needed-speaks depth (map query seats) most k (query d) inside)

-- no depth is beyond the version that it needs
pub depth-shallow : (depth : ℕ) (queries : List Query) → depth ≤ most_depth → depth ≤ deepest (needed depth queries)
depth-shallow depth queries most = (needed-speaks depth (Sub 0 0 ∷ queries) most 0 (Sub 0 0) (omega arith)).shallow

-- the queries of seats can be asked in the version that they need
pub seats-speak : (depth : ℕ) (queries : List Query) (version : Version) (s : Seating) → depth ≤ most_depth → version ≡ needed depth queries → s.depth ≡ depth → map (λ (x : Seated). x.query) s.seats ≡ queries
    → All (λ (x : Seated). Speaks version s.depth x.query) s.seats
seats-speak depth queries version s most is deep same = λ i other less.
    let here : needed s.depth (map (λ (x : Seated). x.query) s.seats) ≡ version = ap (λ d. needed d (map (λ (x : Seated). x.query) s.seats)) deep ∙ ap (needed depth) same ∙ sym is in
    subst (λ (v : Version). Speaks v s.depth ((get_or s.seats i other).query)) here
    (seat-speaks s.depth i s.seats other (omega (arith, deep, most)) less)

-- where seats were gathered for these queries, each can be asked in the version that they need
pub gathered-speak : {E : Type 0} (depth : ℕ) (queries : List Query) (version : Version) (gathered : Result Seating E) → depth ≤ most_depth → version ≡ needed depth queries
    → IfOk gathered (λ (s : Seating). (s.depth ≡ depth) × (map (λ (x : Seated). x.query) s.seats ≡ queries))
    → IfOk gathered (λ (s : Seating). All (λ (x : Seated). Speaks version s.depth x.query) s.seats)
gathered-speak depth queries version (Ok s) most is seated = seats-speak depth queries version s most is seated.0 seated.1
gathered-speak depth queries version (Err e) most is seated = tt

-- where the queries of seats can be asked, each has a code
pub all-coded : (version : Version) (depth : ℕ) (seats : List Seated) → All (λ (x : Seated). Speaks version depth x.query) seats → IsTrue (list_all (λ (x : Seated). speaks version x.query) seats)
all-coded version depth [] all = refl
all-coded version depth (s ∷ seats) all =
    let each = λ (x : Seated). Speaks version depth x.query in
    and_from _ _ (All-head each s seats all).has_code (all-coded version depth seats (All-tail each s seats all))

-- and the depth is not beyond the version
pub all-shallow : (version : Version) (depth : ℕ) (seats : List Seated) → All (λ (x : Seated). Speaks version depth x.query) seats → 0 < length seats → depth ≤ deepest version
all-shallow version depth [] all some = absurd (omega (arith, some))
all-shallow version depth (s ∷ seats) all some = (All-head (λ (x : Seated). Speaks version depth x.query) s seats all).shallow

-- ---- the bytes

zip-asks : (version : Version) (seats : List Seated) → flat_map (λ (x : Query × List ℕ). ask_bytes version x.0 x.1) (zip (map (λ (s : Seated). s.query) seats) (map (λ (s : Seated). s.block) seats)) ≡ asks version seats
zip-asks version [] = refl
zip-asks version (s ∷ seats) = ap (λ l. ask version s ++ l) (zip-asks version seats)

zip-length : (seats : List Seated) → length (zip (map (λ (s : Seated). s.query) seats) (map (λ (s : Seated). s.block) seats)) ≡ length seats
zip-length [] = refl
zip-length (s ∷ seats) = ap suc (zip-length seats)

-- the seats need the version of their queries
pub version-asked : (depth : ℕ) (queries : List Query) (blocks : List (List ℕ)) (stream : List Update) (s : Seating) → AreSeats depth queries blocks stream s → version_of s ≡ needed depth queries
version-asked depth queries blocks stream s are =
    ap (λ d. needed d (map (λ (x : Seated). x.query) s.seats)) are.levels ∙ ap (needed depth) are.asked

-- the head is that of the seats
pub head-whole : (version : Version) (depth : ℕ) (queries : List Query) (blocks : List (List ℕ)) (stream : List Update) (s : Seating) → AreSeats depth queries blocks stream s → head_of version depth (zip queries blocks) ≡ head_bytes version s.depth (length s.seats) ++ asks version s.seats
head-whole version depth queries blocks stream s are =
    let seats = s.seats in
    ap (λ d. head_of version d (zip queries blocks)) (sym are.levels)
    ∙ ap (λ q. head_of version s.depth (zip q blocks)) (sym are.asked)
    ∙ ap (λ b. head_of version s.depth (zip (map (λ (x : Seated). x.query) seats) b)) (sym are.at_blocks)
    ∙ ap (λ n. head_bytes version s.depth n ++ flat_map (λ (x : Query × List ℕ). ask_bytes version x.0 x.1) (zip (map (λ (x : Seated). x.query) seats) (map (λ (s : Seated). s.block) seats))) (zip-length seats)
    ∙ ap (λ l. head_bytes version s.depth (length seats) ++ l) (zip-asks version seats)

-- one more seat
pub head-more : (version : Version) (s : Seating) (k : ℕ) (d : Seated) → k < length s.seats → head_up_to version s (k + 1) ≡ head_up_to version s k ++ ask version (get_or s.seats k d)
head-more version s k d lt =
    let head = head_bytes version s.depth (length s.seats) in
    let seats = s.seats in
    let one = get_or seats k d in
    ap (λ l. head ++ asks version l) (take_more seats k d lt)
    ∙ ap (λ l. head ++ l) (flat_map-append (ask version) (take k seats) (one ∷ []))
    ∙ ap (λ l. head ++ (asks version (take k seats) ++ l)) (append-nil (ask version one))
    ∙ sym (append_assoc head (asks version (take k seats)) (ask version one))

asks-from : (version : Version) (k : ℕ) (seats : List Seated) → asks version seats ≡ asks version (take k seats) ++ asks version (drop k seats)
asks-from version k seats = ap (asks version) (sym (take-append-drop k seats)) ∙ flat_map-append (ask version) (take k seats) (drop k seats)

-- the whole head is what is written so far, the next seat and the rest
pub head-split : (version : Version) (s : Seating) (k : ℕ) (d : Seated) → k < length s.seats
    → head_bytes version s.depth (length s.seats) ++ asks version s.seats ≡ (head_up_to version s k ++ ask version (get_or s.seats k d)) ++ asks version (drop (k + 1) s.seats)
head-split version s k d lt =
    let head = head_bytes version s.depth (length s.seats) in
    let rest = asks version (drop (k + 1) s.seats) in
    ap (λ l. head ++ l) (asks-from version (k + 1) s.seats) ∙ sym (append_assoc head (asks version (take (k + 1) s.seats)) rest) ∙ ap (λ l. l ++ rest) (head-more version s k d lt)

-- all are written
pub head-done : (version : Version) (s : Seating) (k : ℕ) → length s.seats ≤ k → head_up_to version s k ≡ head_bytes version s.depth (length s.seats) ++ asks version s.seats
head-done version s k le = ap (λ l. head_bytes version s.depth (length s.seats) ++ asks version l) (take_all k s.seats le)
