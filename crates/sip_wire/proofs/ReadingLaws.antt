-- What reading the message at the front of bytes answers: at a spelling, at a fault, and where the
-- frame isn't whole.
use Rattle.std.proofs.Common.{◌≡◌, ◌≢◌, ℕ, ◌+◌, ◌<◌, ◌≤◌, Bool, true, false, ◌&&◌, cond, Option, Some, None, Result, Ok, Err, List, [], ◌∷◌, ◌++◌, length, take, drop, refl, sym, ap, ◌∙◌, arith, inl, inr, lit≤, length-append, length-drop, take_all, take_at, drop_at}
use Rattle.std.specs.Prelude.{IsTrue, slice_index}
use Rattle.std.proofs.lemmas.Bool.{cases_lt}
use Rattle.std.proofs.lemmas.List.{take-append-le, drop-append-le}
use Rattle.sip_wire.specs.declared.kind.Kind.{Kind}
use Rattle.sip_wire.specs.declared.kind.Place.{Place}
use Rattle.sip_wire.specs.declared.message.Message.{Message}
use Rattle.sip_wire.specs.declared.message.WireFault.{WireFault}
use Rattle.sip_wire.specs.declared.message.WireFault.TheVariants as faults
use Rattle.sip_wire.specs.declared.version.Version.{Version}
use Rattle.sip_wire.specs.Table.{longest_frame, shape, allows, kind_at}
use Rattle.sip_wire.specs.Spelling.{in_bytes, kind_of, mark_of, numbers, fits, body_of, spelling, length_in, said_in, kind_fault, frame_fault, asked, asked_by}
use Rattle.sip_wire.specs.Values.{InRange, message_from}
use Rattle.sip_wire.specs.Reading.{said_by, read_of, read_frame}
use Rattle.sip_wire.proofs.Shapes.{is_shape, body_again, body_length, mark_of_fit}
use Rattle.sip_wire.proofs.Whole.{kind_again, no_fault, no_head, asked_whole, cut_short, past_length}
use Rattle.sip_wire.proofs.Unique.{stated, first}
use Rattle.sip_wire.proofs.Same.{message_back}

-- ---- how many bytes a frame has

-- the same, by the kind
asked_by-least : (version : Version) (place : Place) (kind : Option Kind) (bytes : List ℕ) → 3 ≤ asked_by version place kind bytes
asked_by-least version place None bytes = omega arith
asked_by-least version place (Some kind) bytes = by_test (allows place kind && (shape version kind).has_length (length_in bytes))
  where
    by_test : (passes : Bool) → 3 ≤ cond passes (3 + length_in bytes) 3
    by_test true = omega arith
    by_test false = omega arith

-- a frame has three bytes at least
pub asked-least : (version : Version) (place : Place) (bytes : List ℕ) → 3 ≤ asked version place bytes
unfolding asked
asked-least version place bytes = asked_by-least version place (kind_at place (slice_index bytes 0)) bytes

-- the same, by the kind
asked_by-most : (version : Version) (place : Place) (kind : Option Kind) (bytes : List ℕ) → asked_by version place kind bytes ≤ longest_frame
asked_by-most version place None bytes = lit≤ tt
asked_by-most version place (Some kind) bytes = by_test (allows place kind) ((shape version kind).has_length (length_in bytes)) refl
  where
    by_test : (a b : Bool) → (shape version kind).has_length (length_in bytes) ≡ b → cond (a && b) (3 + length_in bytes) 3 ≤ longest_frame
    by_test true true e = let short = (is_shape version kind).short (length_in bytes) e in omega arith
    by_test true false e = lit≤ tt
    by_test false b e = lit≤ tt

-- and no more than the longest one
pub asked-most : (version : Version) (place : Place) (bytes : List ℕ) → asked version place bytes ≤ longest_frame
unfolding asked
asked-most version place bytes = asked_by-most version place (kind_at place (slice_index bytes 0)) bytes

-- kind, length and body
pub length-spelling : (version : Version) (m : Message) → length (spelling version m) ≡ 3 + length (body_of version m)
unfolding spelling in_bytes
length-spelling version m = omega arith

-- the length of a spelling's frame
pub asked-spelling : (version : Version) (place : Place) (m : Message) (rest : List ℕ) → IsTrue (fits version m) → IsTrue (allows place (kind_of m)) → asked version place (spelling version m ++ rest) ≡ length (spelling version m)
unfolding fits spelling
asked-spelling version place m rest fit allowed =
    let s = shape version (kind_of m) in
    let count : length_in (spelling version m ++ rest) ≡ length (body_of version m) = stated version m rest fit in
    let long = body_length s (mark_of m) (numbers m) fit in
    let has : s.has_length (length_in (spelling version m ++ rest)) ≡ true = rw (count, long) ((is_shape version (kind_of m)).lengths (mark_of m) (mark_of_fit s (mark_of m) (numbers m) fit)) in
    let kind : kind_at place (slice_index (spelling version m ++ rest) 0) ≡ Some (kind_of m) = ap (kind_at place) (first version m rest) ∙ kind_again place (kind_of m) allowed in
    asked_whole version place (spelling version m ++ rest) (kind_of m) kind allowed has ∙ omega (arith, count, length-spelling version m)

-- what is asked depends on the kind and the length alone
by_length : (version : Version) (place : Place) (kind : Option Kind) (a b : List ℕ) → length_in a ≡ length_in b → asked_by version place kind a ≡ asked_by version place kind b
by_length version place None a b e = refl
by_length version place (Some kind) a b e = rw e refl

-- what three bytes ask for is seen in whatever follows them
pub asked-append : (version : Version) (place : Place) (front more : List ℕ) → 3 ≤ length front → asked version place (front ++ more) ≡ asked version place front
unfolding asked
asked-append version place [] more le = absurd (omega arith)
asked-append version place (x ∷ []) more le = absurd (omega arith)
asked-append version place (x ∷ y ∷ []) more le = absurd (omega arith)
asked-append version place (x ∷ y ∷ z ∷ front) more le = by_length version place (kind_at place x) (x ∷ y ∷ z ∷ front ++ more) (x ∷ y ∷ z ∷ front) refl

-- ---- a frame that isn't whole

-- bytes of a kind that are fewer than asked for
by_kind : (version : Version) (place : Place) (kind : Option Kind) (bytes : List ℕ) → length bytes < asked_by version place kind bytes → 3 ≤ length bytes → kind_fault version place kind bytes ≡ Some faults.Closed
by_kind version place None bytes lt le = absurd (omega arith)
by_kind version place (Some kind) bytes lt le = by_tests (allows place kind) ((shape version kind).has_length (length_in bytes)) refl refl lt
  where
    by_tests : (a b : Bool) → allows place kind ≡ a → (shape version kind).has_length (length_in bytes) ≡ b → length bytes < cond (a && b) (3 + length_in bytes) 3 → kind_fault version place (Some kind) bytes ≡ Some faults.Closed
    by_tests true true ea eb h = cut_short version place kind bytes ea eb h
    by_tests true false ea eb h = absurd (omega arith)
    by_tests false b ea eb h = absurd (omega arith)

-- fewer bytes than asked for have the fault Closed
pub frame_fault-closed : (version : Version) (place : Place) (bytes : List ℕ) → length bytes < asked version place bytes → frame_fault version place bytes ≡ Some faults.Closed
unfolding asked
frame_fault-closed version place bytes lt =
    elim (cases_lt (length bytes) 3) [
      | inl short ↦ no_head version place bytes short
      | inr le ↦ past_length version place bytes le ∙ by_kind version place (kind_at place (slice_index bytes 0)) bytes lt le
    ]

-- The fault of bytes of which a frame takes all is what reading answers; Closed too, where it is
-- their fault.
pub read_frame-fault : (version : Version) (place : Place) (bytes : List ℕ) (f : WireFault) → frame_fault version place bytes ≡ Some f → length bytes ≤ asked version place bytes → read_frame version place bytes ≡ Err f
unfolding read_frame
read_frame-fault version place bytes f fault le =
    let n = asked version place bytes in
    let all : take n bytes ≡ bytes = take_all n bytes le in
    ap (λ (b : List ℕ). read_of version (kind_at place (slice_index bytes 0)) (frame_fault version place b) b (drop n bytes)) all
    ∙ ap (λ (o : Option WireFault). read_of version (kind_at place (slice_index bytes 0)) o bytes (drop n bytes)) fault

-- fewer bytes than asked for are no whole frame
pub read_frame-closed : (version : Version) (place : Place) (bytes : List ℕ) → length bytes < asked version place bytes → read_frame version place bytes ≡ Err faults.Closed
read_frame-closed version place bytes lt = read_frame-fault version place bytes faults.Closed (frame_fault-closed version place bytes lt) (omega arith)

-- A proper front of the bytes that a frame takes is no whole frame: no byte is taken that the
-- answer does not need.
pub read_frame-short : (version : Version) (place : Place) (front more : List ℕ) → more ≢ [] → length (front ++ more) ≤ asked version place (front ++ more) → read_frame version place front ≡ Err faults.Closed
read_frame-short version place front [] some le = absurd (some refl)
read_frame-short version place front (x ∷ more) some le =
    let total = length-append front (x ∷ more) in
    let least = asked-least version place front in
    elim (cases_lt (length front) 3) [
      | inl short ↦ read_frame-closed version place front (omega arith)
      | inr three ↦ read_frame-closed version place front (omega (arith, asked-append version place front (x ∷ more) three))
    ]

-- ---- a frame that is whole

-- a message, and what follows it
abbrev answer : Message × List ℕ → Result (Message × List ℕ) WireFault
answer x = Ok x

-- a spelling at the front is read as its message, whatever follows
pub read_frame-spelling : (version : Version) (place : Place) (m : Message) (rest : List ℕ) → IsTrue (fits version m) → IsTrue (allows place (kind_of m)) → InRange m → read_frame version place (spelling version m ++ rest) ≡ Ok (m, rest)
unfolding read_frame fits spelling in_bytes
read_frame-spelling version place m rest fit allowed range =
    let n = asked version place (spelling version m ++ rest) in
    let s = shape version (kind_of m) in
    let len : n ≡ length (spelling version m) = asked-spelling version place m rest fit allowed in
    let front : take n (spelling version m ++ rest) ≡ spelling version m = take_at (spelling version m) rest n (sym len) in
    let behind_it : drop n (spelling version m ++ rest) ≡ rest = drop_at (spelling version m) rest n (sym len) in
    let kind : kind_at place (slice_index (spelling version m ++ rest) 0) ≡ Some (kind_of m) = ap (kind_at place) (first version m rest) ∙ kind_again place (kind_of m) allowed in
    let stands = body_again s (mark_of m) (numbers m) (is_shape version (kind_of m)) fit in
    let body : drop 3 (spelling version m) ≡ body_of version m = refl in
    let said : said_by version (kind_of m) (body_of version m) ≡ m = ap (λ (k : ℕ). message_from (kind_of m) k (said_in s (body_of version m))) (sym stands.its_mark) ∙ ap (λ (ns : List ℕ). message_from (kind_of m) (mark_of m) ns) (sym stands.its_numbers) ∙ message_back m range in
    ap (λ (b : List ℕ). read_of version (kind_at place (slice_index (spelling version m ++ rest) 0)) (frame_fault version place b) b (drop n (spelling version m ++ rest))) front
    ∙ ap (λ (o : Option Kind). read_of version o (frame_fault version place (spelling version m)) (spelling version m) (drop n (spelling version m ++ rest))) kind
    ∙ ap (λ (o : Option WireFault). read_of version (Some (kind_of m)) o (spelling version m) (drop n (spelling version m ++ rest))) (no_fault version place m fit allowed)
    ∙ ap (λ (x : Message). answer (x, drop n (spelling version m ++ rest))) said
    ∙ ap (λ (x : List ℕ). answer (m, x)) behind_it

-- two answers that are the same hold the same
pub same_answer : (x y : Message × List ℕ) → answer x ≡ answer y → x ≡ y
same_answer x y e = cc

-- a message is followed by what stands behind its frame
rest_of : (version : Version) (kind : Option Kind) (fault : Option WireFault) (frame after : List ℕ) (m : Message) (rest : List ℕ) → read_of version kind fault frame after ≡ Ok (m, rest) → rest ≡ after
rest_of version kind (Some fault) frame after m rest e = absurd cc
rest_of version None None frame after m rest e = absurd cc
rest_of version (Some kind) None frame after m rest e = ap (λ (x : Message × List ℕ). x.1) (same_answer (m, rest) (said_by version kind (drop 3 frame), after) (sym e))

-- what follows a message is what stands behind its frame
pub read_frame-rest : (version : Version) (place : Place) (bytes : List ℕ) (m : Message) (rest : List ℕ) → read_frame version place bytes ≡ Ok (m, rest) → (asked version place bytes ≤ length bytes) × (rest ≡ drop (asked version place bytes) bytes)
unfolding read_frame
read_frame-rest version place bytes m rest e =
    elim (cases_lt (length bytes) (asked version place bytes)) [
      | inl lt ↦ absurd (let closed = read_frame-closed version place bytes lt in let both : Err faults.Closed ≡ Ok (m, rest) = sym closed ∙ e in cc)
      | inr le ↦ (le, rest_of version (kind_at place (slice_index bytes 0)) (frame_fault version place (take (asked version place bytes) bytes)) (take (asked version place bytes) bytes) (drop (asked version place bytes) bytes) m rest e)
    ]

-- what follows a message is at least three bytes shorter
pub read_frame-shrinks : (version : Version) (place : Place) (bytes : List ℕ) (m : Message) (rest : List ℕ) → read_frame version place bytes ≡ Ok (m, rest) → length rest + 3 ≤ length bytes
read_frame-shrinks version place bytes m rest e =
    let is = read_frame-rest version place bytes m rest e in
    omega (arith, ap length is.1, length-drop (asked version place bytes) bytes, asked-least version place bytes)

-- ---- what follows a frame

-- the first byte is seen in whatever follows it
pub first_of : (front more : List ℕ) → 3 ≤ length front → slice_index (front ++ more) 0 ≡ slice_index front 0
first_of [] more le = absurd (omega arith)
first_of (x ∷ front) more le = refl

-- whatever follows a frame leaves it as it is
abbrev followed : Result (Message × List ℕ) WireFault → List ℕ → Result (Message × List ℕ) WireFault
followed (Ok (m, rest)) more = Ok (m, rest ++ more)
followed (Err fault) more = Err fault

-- what follows is not read
read_of-followed : (version : Version) (kind : Option Kind) (fault : Option WireFault) (frame after more : List ℕ) → read_of version kind fault frame (after ++ more) ≡ followed (read_of version kind fault frame after) more
read_of-followed version kind (Some fault) frame after more = refl
read_of-followed version None None frame after more = refl
read_of-followed version (Some kind) None frame after more = refl

-- a whole frame is read the same, and what follows it is left
read_frame-followed : (version : Version) (place : Place) (bytes more : List ℕ) → asked version place bytes ≤ length bytes → read_frame version place (bytes ++ more) ≡ followed (read_frame version place bytes) more
unfolding read_frame
read_frame-followed version place bytes more le =
    let n = asked version place bytes in
    let three : 3 ≤ length bytes = omega (arith, asked-least version place bytes) in
    let again = read_of-followed version (kind_at place (slice_index bytes 0)) (frame_fault version place (take n bytes)) (take n bytes) (drop n bytes) more in
    rw (asked-append version place bytes more three, first_of bytes more three, take-append-le n bytes more le, drop-append-le n bytes more le) again

-- a frame that is whole is read the same, whatever follows it
pub read_frame-append : (version : Version) (place : Place) (bytes more : List ℕ) (m : Message) (rest : List ℕ) → read_frame version place bytes ≡ Ok (m, rest) → read_frame version place (bytes ++ more) ≡ Ok (m, rest ++ more)
read_frame-append version place bytes more m rest e = read_frame-followed version place bytes more (read_frame-rest version place bytes m rest e).0 ∙ ap (λ (r : Result (Message × List ℕ) WireFault). followed r more) e

-- a fault of the bytes stays, whatever follows them
pub read_frame-append_fault : (version : Version) (place : Place) (bytes more : List ℕ) (f : WireFault) → read_frame version place bytes ≡ Err f → f ≢ faults.Closed → read_frame version place (bytes ++ more) ≡ Err f
read_frame-append_fault version place bytes more f e other =
    elim (cases_lt (length bytes) (asked version place bytes)) [
      | inl lt ↦ absurd (other (let both : Err f ≡ Err faults.Closed = sym e ∙ read_frame-closed version place bytes lt in cc))
      | inr le ↦ read_frame-followed version place bytes more le ∙ ap (λ (r : Result (Message × List ℕ) WireFault). followed r more) e
    ]
