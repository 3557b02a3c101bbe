-- What is read off bytes is spelled by them: reading answers no other message than the one whose
-- spelling stands in front.
use Rattle.std.proofs.Common.{◌≡◌, ℕ, ◌+◌, ◌≤◌, Bool, true, false, not, ◌&&◌, cond, nat_lt, Option, Some, None, Ok, List, ◌++◌, length, take, drop, refl, sym, ap, subst, ◌∙◌, arith, length-take-le}
use Rattle.std.specs.Prelude.{IsTrue, slice_index}
use Rattle.std.proofs.lemmas.Bool.{and_parts}
use Rattle.std.proofs.lemmas.Bool.Decides.{nat_tests}
use Rattle.std.proofs.lemmas.List.{take-append-drop}
use Rattle.sip_wire.specs.declared.kind.Kind.{Kind}
use Rattle.sip_wire.specs.declared.kind.Place.{Place}
use Rattle.sip_wire.specs.declared.message.Message.{Message}
use Rattle.sip_wire.specs.declared.message.WireFault.{WireFault}
use Rattle.sip_wire.specs.declared.message.WireFault.TheVariants as faults
use Rattle.sip_wire.specs.declared.version.Version.{Version}
use Rattle.sip_wire.specs.Table.{shape, allows, kind_at, stands_in}
use Rattle.sip_wire.specs.Spelling.{kind_of, mark_of, numbers, fits, spelling, length_in, mark_in, said_in, body_fault, kind_fault, frame_fault, asked, Stands}
use Rattle.sip_wire.specs.Values.{InRange}
use Rattle.sip_wire.specs.Decoding.{IsBytes, Spelled}
use Rattle.sip_wire.specs.Reading.{said_by, read_of, read_frame}
use Rattle.sip_wire.proofs.Bytes.{IsBytes-take, IsBytes-drop}
use Rattle.sip_wire.proofs.Shapes.{body_back}
use Rattle.sip_wire.proofs.Made.{made}
use Rattle.sip_wire.proofs.Whole.{past_length, asked_whole, spelled_back}
use Rattle.sip_wire.proofs.ReadingLaws.{asked-least, asked-append, first_of, read_frame-rest, same_answer}

-- a message is that of the body of a kind, and the frame has no fault
record Reads (version : Version) (kind : Option Kind) (fault : Option WireFault) (frame : List ℕ) (m : Message) : Type 0 where
  is : Kind
  its_kind : kind ≡ Some is
  no_fault : fault ≡ None
  said : m ≡ said_by version is (drop 3 frame)

-- a message was read off a frame without a fault
reads : (version : Version) (kind : Option Kind) (fault : Option WireFault) (frame after : List ℕ) (m : Message) (rest : List ℕ) → read_of version kind fault frame after ≡ Ok (m, rest) → Reads version kind fault frame m
reads version kind (Some fault) frame after m rest e = absurd cc
reads version None None frame after m rest e = absurd cc
reads version (Some kind) None frame after m rest e = record { is = kind; its_kind = refl; no_fault = refl; said = ap (λ (x : Message × List ℕ). x.0) (same_answer (m, rest) (said_by version kind (drop 3 frame), after) (sym e)) }

-- a frame without a fault passes each test
record Passes (version : Version) (place : Place) (kind : Kind) (frame : List ℕ) : Type 0 where
  allowed : allows place kind ≡ true
  has_length : (shape version kind).has_length (length_in frame) ≡ true
  whole : 3 + length_in frame ≤ length frame
  no_fault : body_fault (shape version kind) (drop 3 frame) ≡ None

-- no fault where each test passed
by_tests : (a b c : Bool) (fault : Option WireFault) → cond (not a) (Some faults.BadKind) (cond (not b) (Some faults.BadLength) (cond c (Some faults.Closed) fault)) ≡ None → (a ≡ true) × (b ≡ true) × (c ≡ false) × (fault ≡ None)
by_tests false b c fault e = absurd cc
by_tests true false c fault e = absurd cc
by_tests true true true fault e = absurd cc
by_tests true true false fault e = (refl, refl, refl, e)

-- what the test says
not_less : (a b : ℕ) → nat_lt a b ≡ false → b ≤ a
not_less a b h = grind (arith, nat_tests)

-- a frame of a kind that has no fault passes each test
passes : (version : Version) (place : Place) (kind : Kind) (frame : List ℕ) → kind_fault version place (Some kind) frame ≡ None → Passes version place kind frame
unfolding kind_fault
passes version place kind frame e =
    let x = by_tests (allows place kind && stands_in kind version) ((shape version kind).has_length (length_in frame)) (nat_lt (length frame) (3 + length_in frame)) (body_fault (shape version kind) (drop 3 frame)) e in
    record { allowed = (and_parts (allows place kind) (stands_in kind version) x.0).0; has_length = x.1; whole = not_less (length frame) (3 + length_in frame) x.2; no_fault = x.3 }

-- a whole frame, with what it says
of_frame : (version : Version) (place : Place) (frame : List ℕ) (kind : Kind) (m : Message) → IsBytes frame → length frame ≡ 3 + length_in frame → kind_at place (slice_index frame 0) ≡ Some kind → Passes version place kind frame → m ≡ said_by version kind (drop 3 frame)
    → IsTrue (fits version m) × IsTrue (allows place (kind_of m)) × (frame ≡ spelling version m) × InRange m
of_frame version place frame kind m bytes len k passed said =
    let s = shape version kind in
    let body = drop 3 frame in
    let stands : Stands s body (mark_in s body) (said_in s body) = record { its_mark = refl; its_numbers = refl; no_fault = passed.no_fault } in
    let fit = (body_back s body (mark_in s body) (said_in s body) (IsBytes-drop 3 frame bytes) stands).0 in
    let has = made version kind (mark_in s body) (said_in s body) fit in
    let same : kind_of m ≡ kind = ap kind_of said ∙ has.its_kind in
    let stands_in : Stands s body (mark_of m) (numbers m) = record { its_mark = ap mark_of said ∙ has.its_mark; its_numbers = ap numbers said ∙ has.its_numbers; no_fault = passed.no_fault } in
    let back = spelled_back version place frame kind m bytes len k passed.allowed same stands_in in
    (back.0, back.1, back.2, subst InRange (sym said) has.in_range)

-- the message that is read is spelled in front
pub read_frame-message : (version : Version) (place : Place) (bytes : List ℕ) (m : Message) (rest : List ℕ) → IsBytes bytes → read_frame version place bytes ≡ Ok (m, rest) → Spelled version place bytes m rest
unfolding read_frame
read_frame-message version place bytes m rest fit e =
    let n = asked version place bytes in
    let frame = take n bytes in
    let after = drop n bytes in
    let ends = read_frame-rest version place bytes m rest e in
    let r = reads version (kind_at place (slice_index bytes 0)) (frame_fault version place frame) frame after m rest e in
    let least = asked-least version place bytes in
    let len : length frame ≡ n = length-take-le n bytes ends.0 in
    let three : 3 ≤ length frame = omega arith in
    let whole : frame ++ after ≡ bytes = take-append-drop n bytes in
    let byte : slice_index frame 0 ≡ slice_index bytes 0 = sym (first_of frame after three) ∙ ap (λ (b : List ℕ). slice_index b 0) whole in
    let kind : kind_at place (slice_index frame 0) ≡ Some r.is = ap (kind_at place) byte ∙ r.its_kind in
    let passed = passes version place r.is frame (sym (past_length version place frame three ∙ ap (λ (o : Option Kind). kind_fault version place o frame) kind) ∙ r.no_fault) in
    let size : asked version place frame ≡ 3 + length_in frame = asked_whole version place frame r.is kind passed.allowed passed.has_length in
    let same : asked version place bytes ≡ asked version place frame = ap (asked version place) (sym whole) ∙ asked-append version place frame after three in
    let x = of_frame version place frame r.is m (IsBytes-take n bytes fit) (len ∙ same ∙ size) kind passed r.said in
    record { has_spelling = x.0; allowed = x.1; in_range = x.3; spelled = sym whole ∙ ap (λ (b : List ℕ). b ++ after) x.2 ∙ ap (λ (b : List ℕ). spelling version m ++ b) (sym ends.1) }
