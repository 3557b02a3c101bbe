-- How many bytes a frame to the verifier has: a whole one by the message that it says, and one that
-- is not whole by the place at which it stands.
use Rattle.std.proofs.Common.{◌≡◌, ◌⊎◌, inl, inr, ℕ, zero, suc, ◌+◌, ◌*◌, ◌<◌, ◌≤◌, Bool, true, false, not, cond, Option, Some, None, Result, Ok, Err, List, [], ◌∷◌, ◌++◌, length, take, drop, refl, sym, ap, subst, ◌∙◌, arith, length-append, length-take-le, length-drop}
use Rattle.std.specs.Prelude.{◌==◌, nat_lt, slice_index}
use Rattle.std.proofs.lemmas.Bool.{and_parts, eqb-true}
use Rattle.std.proofs.lemmas.Bool.Decides.{nat_tests}
use Rattle.std.proofs.lemmas.List.{take-append-drop}
use Rattle.sip_wire.specs.declared.kind.Kind.{Kind}
use Rattle.sip_wire.specs.declared.kind.Kind.TheVariants as kinds
use Rattle.sip_wire.specs.declared.kind.Place.{Place}
use Rattle.sip_wire.specs.declared.kind.Place.TheVariants as places
use Rattle.sip_wire.specs.declared.message.Message.{Message}
use Rattle.sip_wire.specs.declared.message.WireFault.{WireFault}
use Rattle.sip_wire.specs.declared.message.WireFault.TheVariants as faults
use Rattle.sip_wire.specs.declared.version.Version.{Version}
use Rattle.sip_wire.specs.Table.{Field, Shape, allows, entry_fields, kind_at, leaf_fields, node_fields, repeat, shape, sibling_fields, siblings_shape, size, stands_in}
use Rattle.sip_wire.specs.Spelling.{asked, asked_by, body_fault, frame_fault, kind_fault, kind_of, length_in, mark_in, mark_of, numbers_in, said_in}
use Rattle.sip_wire.specs.Values.{entries_from, leaves_from, message_from, nodes_from}
use Rattle.sip_wire.specs.Faults.{IsOfBytes}
use Rattle.sip_wire.specs.Reading.{read_frame, read_of, said_by}
use Rattle.sip_wire.proofs.Lengths.{length_of_mark}
use Rattle.sip_wire.proofs.ReadingLaws.{asked-append, asked-least, first_of, read_frame-rest, same_answer}
use Rattle.sip_wire.proofs.Whole.{asked_whole, of_body, past_length, stands_by_length}

-- ---- what is made of so many numbers

-- as many numbers are read as there are fields
numbers_count : (fs : List Field) (bytes : List ℕ) → length (numbers_in fs bytes) ≡ length fs
unfolding numbers_in
numbers_count [] bytes = refl
numbers_count (f ∷ fs) bytes = ap suc (numbers_count fs (drop f.width bytes))

fields_count : (n : ℕ) (layout : List Field) → length (repeat n layout) ≡ n * length layout
fields_count zero layout = omega arith
fields_count (suc n) layout = length-append layout (repeat n layout) ∙ omega (arith, fields_count n layout)

entries_count : (n : ℕ) (ns : List ℕ) → length ns ≡ n * 2 → length (entries_from n ns) ≡ n
entries_count zero ns e = refl
entries_count (suc n) [] e = absurd (omega (arith, e))
entries_count (suc n) (i ∷ []) e = absurd (omega (arith, e))
entries_count (suc n) (i ∷ v ∷ ns) e = ap suc (entries_count n ns (omega (arith, e)))

leaves_count : (n : ℕ) (ns : List ℕ) → length ns ≡ n * 2 → length (leaves_from n ns) ≡ n
leaves_count zero ns e = refl
leaves_count (suc n) [] e = absurd (omega (arith, e))
leaves_count (suc n) (i ∷ []) e = absurd (omega (arith, e))
leaves_count (suc n) (i ∷ v ∷ ns) e = ap suc (leaves_count n ns (omega (arith, e)))

nodes_count : (n : ℕ) (ns : List ℕ) → length ns ≡ n * 3 → length (nodes_from n ns) ≡ n
nodes_count zero ns e = refl
nodes_count (suc n) [] e = absurd (omega (arith, e))
nodes_count (suc n) (i ∷ []) e = absurd (omega (arith, e))
nodes_count (suc n) (i ∷ h ∷ []) e = absurd (omega (arith, e))
nodes_count (suc n) (i ∷ h ∷ v ∷ ns) e = ap suc (nodes_count n ns (omega (arith, e)))

-- a message has this kind and this mark
pub record HasMark (kind : Kind) (mark : ℕ) (m : Message) : Type 0 where
  pub its_kind : kind_of m ≡ kind
  pub its_mark : mark_of m ≡ mark

-- a mark of a kind without one is 0
unmarked : (kind : Kind) (mark : ℕ) (m : Message) → (mark == 0) ≡ true → HasMark kind 0 m → HasMark kind mark m
unmarked kind mark m e h = let zero_mark = eqb-true mark 0 e in record { its_kind = h.its_kind; its_mark = h.its_mark ∙ sym zero_mark }

claim_made : (ns : List ℕ) → length ns ≡ 1 → HasMark kinds.Claim 0 (message_from kinds.Claim 0 ns)
claim_made [] e = absurd (omega (arith, e))
claim_made (n ∷ []) e = record { its_kind = refl; its_mark = refl }
claim_made (n ∷ m ∷ ns) e = absurd (omega (arith, e))

poly_made : (ns : List ℕ) → length ns ≡ 3 → HasMark kinds.Poly 0 (message_from kinds.Poly 0 ns)
poly_made [] e = absurd (omega (arith, e))
poly_made (a ∷ []) e = absurd (omega (arith, e))
poly_made (a ∷ b ∷ []) e = absurd (omega (arith, e))
poly_made (a ∷ b ∷ c ∷ []) e = record { its_kind = refl; its_mark = refl }
poly_made (a ∷ b ∷ c ∷ d ∷ ns) e = absurd (omega (arith, e))

refuse_made : (ns : List ℕ) → length ns ≡ 1 → HasMark kinds.Refuse 0 (message_from kinds.Refuse 0 ns)
refuse_made [] e = absurd (omega (arith, e))
refuse_made (n ∷ []) e = record { its_kind = refl; its_mark = refl }
refuse_made (n ∷ m ∷ ns) e = absurd (omega (arith, e))

-- the flags end at 3
pub flags_most : (flags : ℕ) → siblings_shape.is_mark flags ≡ true → flags ≤ 3
flags_most flags is = grind (arith, nat_tests)

siblings_made : (flags : ℕ) (ns : List ℕ) → siblings_shape.is_mark flags ≡ true → length ns ≡ length (sibling_fields flags) → HasMark kinds.Siblings flags (message_from kinds.Siblings flags ns)
siblings_made zero ns is e = record { its_kind = refl; its_mark = refl }
siblings_made (suc zero) [] is e = absurd (omega (arith, e))
siblings_made (suc zero) (l ∷ []) is e = record { its_kind = refl; its_mark = refl }
siblings_made (suc zero) (l ∷ m ∷ ns) is e = absurd (omega (arith, e))
siblings_made (suc (suc zero)) [] is e = absurd (omega (arith, e))
siblings_made (suc (suc zero)) (l ∷ []) is e = record { its_kind = refl; its_mark = refl }
siblings_made (suc (suc zero)) (l ∷ m ∷ ns) is e = absurd (omega (arith, e))
siblings_made (suc (suc (suc zero))) [] is e = absurd (omega (arith, e))
siblings_made (suc (suc (suc zero))) (l ∷ []) is e = absurd (omega (arith, e))
siblings_made (suc (suc (suc zero))) (l ∷ r ∷ []) is e = record { its_kind = refl; its_mark = refl }
siblings_made (suc (suc (suc zero))) (l ∷ r ∷ m ∷ ns) is e = absurd (omega (arith, e))
siblings_made (suc (suc (suc (suc flags)))) ns is e = absurd (omega (arith, flags_most (suc (suc (suc (suc flags)))) is))

-- A message that is made of a mark and as many numbers as it asks for has that kind and that mark,
-- whatever the numbers are.
made_marked : (version : Version) (kind : Kind) (mark : ℕ) (ns : List ℕ) → allows places.ToVerifier kind ≡ true → (shape version kind).is_mark mark ≡ true → length ns ≡ length ((shape version kind).fields mark) → HasMark kind mark (message_from kind mark ns)
made_marked version kinds.Open mark ns a is e = absurd cc
made_marked version kinds.Updates mark ns a is e = absurd cc
made_marked version kinds.EndStream mark ns a is e = absurd cc
made_marked version kinds.Query mark ns a is e = absurd cc
made_marked version kinds.Reveal mark ns a is e = absurd cc
made_marked version kinds.Bye mark ns a is e = absurd cc
made_marked version kinds.Claim mark ns a is e = unmarked kinds.Claim mark _ is (claim_made ns e)
made_marked version kinds.Poly mark ns a is e = unmarked kinds.Poly mark _ is (poly_made ns e)
made_marked version kinds.Entries mark ns a is e = record { its_kind = refl; its_mark = entries_count mark ns (e ∙ fields_count mark (entry_fields version)) }
made_marked version kinds.Siblings mark ns a is e = siblings_made mark ns is e
made_marked version kinds.Leaves mark ns a is e = record { its_kind = refl; its_mark = leaves_count mark ns (e ∙ fields_count mark (leaf_fields version)) }
made_marked version kinds.Nodes mark ns a is e = record { its_kind = refl; its_mark = nodes_count mark ns (e ∙ fields_count mark (node_fields version)) }
made_marked version kinds.LevelEnd mark ns a is e = unmarked kinds.LevelEnd mark _ is (record { its_kind = refl; its_mark = refl })
made_marked version kinds.Refuse mark ns a is e = unmarked kinds.Refuse mark _ is (refuse_made ns e)
made_marked version kinds.AskLook mark ns a is e = absurd cc
made_marked version kinds.Found mark ns a is e = absurd cc
made_marked version kinds.End mark ns a is e = absurd cc
made_marked version kinds.AskMoment mark ns a is e = absurd cc
made_marked version kinds.Held mark ns a is e = absurd cc
made_marked version kinds.Recall mark ns a is e = absurd cc
made_marked version kinds.Marks mark ns a is e = absurd cc
made_marked version (kinds.Power degree) mark ns a is e = absurd cc

-- ---- a frame, whole or not

first_test : (a b : Bool) → cond (not a) (Some faults.BadCount) (cond b (Some faults.BadNumber) None) ≡ None → a ≡ true
first_test true b e = refl
first_test false b e = absurd cc

-- a body without a fault has a mark of its shape, and is as long as this asks for
marked_body : (s : Shape) (body : List ℕ) → body_fault s body ≡ None → (s.is_mark (mark_in s body) ≡ true) × (s.mark_width + size (s.fields (mark_in s body)) ≡ length body)
unfolding body_fault
marked_body s body e =
    let both = and_parts (s.is_mark (mark_in s body)) (s.mark_width + size (s.fields (mark_in s body)) == length body) (first_test _ _ e) in
    (both.0, eqb-true _ _ both.1)

-- which test of a frame decides
record Tested (version : Version) (place : Place) (kind : Kind) (frame : List ℕ) : Type 0 where
  allowed : allows place kind ≡ true
  has_length : (shape version kind).has_length (length_in frame) ≡ true
  same : kind_fault version place (Some kind) frame ≡ body_fault (shape version kind) (drop 3 frame)

-- a length that the kind does not have is a fault, and so is a kind that does not stand in the version
no_such : (version : Version) (place : Place) (kind : Kind) (frame : List ℕ) → allows place kind ≡ true → (shape version kind).has_length (length_in frame) ≡ false
    → (f : WireFault) × IsOfBytes f × (kind_fault version place (Some kind) frame ≡ Some f)
unfolding kind_fault
no_such version place kind frame ea eb = by_version (stands_in kind version) refl
  where
    by_version : (stands : Bool) → stands_in kind version ≡ stands → (f : WireFault) × IsOfBytes f × (kind_fault version place (Some kind) frame ≡ Some f)
    by_version true es = (faults.BadLength, tt, rw (ea, es, eb) refl)
    by_version false es = (faults.BadKind, tt, rw (ea, es) refl)

-- a frame that is whole has the fault of its body, or one of its kind and length
by_tests : (version : Version) (place : Place) (kind : Kind) (frame : List ℕ) (a b c : Bool)
    → allows place kind ≡ a → (shape version kind).has_length (length_in frame) ≡ b → nat_lt (length frame) (3 + length_in frame) ≡ c
    → (asked version place frame ≡ length frame) → kind_at place (slice_index frame 0) ≡ Some kind
    → ((f : WireFault) × IsOfBytes f × (kind_fault version place (Some kind) frame ≡ Some f)) ⊎ Tested version place kind frame
unfolding kind_fault
by_tests version place kind frame false b c ea eb ec n k = inl (faults.BadKind, tt, rw ea refl)
by_tests version place kind frame true false c ea eb ec n k = inl (no_such version place kind frame ea eb)
by_tests version place kind frame true true true ea eb ec n k = absurd (
    let long = asked_whole version place frame kind k ea eb in
    let short : length frame < 3 + length_in frame = grind (arith, nat_tests) in
    omega (arith, long, short, n))
by_tests version place kind frame true true false ea eb ec n k = inr (record { allowed = ea; has_length = eb; same = rw (ea, stands_by_length version kind (length_in frame) eb, eb, ec) refl })

-- a whole frame, of a kind that may stand at its place, has the fault of its body
record IsWhole (version : Version) (place : Place) (bytes frame : List ℕ) : Type 0 where
  kind : Kind
  its_kind : kind_at place (slice_index bytes 0) ≡ Some kind
  allowed : allows place kind ≡ true
  same : frame_fault version place frame ≡ body_fault (shape version kind) (drop 3 frame)

-- a frame has a fault that its bytes show, whatever its body is, or none but that of its body
abbrev IsDecided : Version → Place → List ℕ → List ℕ → Type 0
IsDecided version place bytes frame =
    ((f : WireFault) × IsOfBytes f × (frame_fault version place frame ≡ Some f)) ⊎ IsWhole version place bytes frame

module _ (version : Version) (place : Place) (bytes : List ℕ) (enough : asked version place bytes ≤ length bytes) where
  abbrev frame : List ℕ
  frame = take (asked version place bytes) bytes

  long : length frame ≡ asked version place bytes
  long = length-take-le (asked version place bytes) bytes enough

  three : 3 ≤ length frame
  three = omega (arith, long, asked-least version place bytes)

  front : frame ++ drop (asked version place bytes) bytes ≡ bytes
  front = take-append-drop (asked version place bytes) bytes

  same_asked : asked version place frame ≡ length frame
  same_asked = sym (asked-append version place frame (drop (asked version place bytes) bytes) three) ∙ ap (asked version place) front ∙ sym long

  same_byte : slice_index frame 0 ≡ slice_index bytes 0
  same_byte = sym (first_of frame (drop (asked version place bytes) bytes) three) ∙ ap (λ (b : List ℕ). slice_index b 0) front

  by_kind : (kind : Option Kind) → kind_at place (slice_index bytes 0) ≡ kind → IsDecided version place bytes frame
  unfolding kind_fault
  by_kind None k = inl (faults.BadKind, tt, past_length version place frame three ∙ ap (λ (o : Option Kind). kind_fault version place o frame) (ap (kind_at place) same_byte ∙ k))
  by_kind (Some kind) k =
      let at_front : kind_at place (slice_index frame 0) ≡ Some kind = ap (kind_at place) same_byte ∙ k in
      let by_head : frame_fault version place frame ≡ kind_fault version place (Some kind) frame = past_length version place frame three ∙ ap (λ (o : Option Kind). kind_fault version place o frame) at_front in
      elim (by_tests version place kind frame (allows place kind) ((shape version kind).has_length (length_in frame)) (nat_lt (length frame) (3 + length_in frame)) refl refl refl same_asked at_front) [
        | inl x ↦ inl (x.0, x.1, by_head ∙ x.2)
        | inr x ↦ inr (record { kind = kind; its_kind = k; allowed = x.allowed; same = by_head ∙ x.same })
      ]

  decided : IsDecided version place bytes frame
  decided = by_kind (kind_at place (slice_index bytes 0)) refl

-- ---- a frame that is not whole

same_err : {A : Type 0} (f g : WireFault) → ◌≡◌ {A = Result A WireFault} (Err f) (Err g) → f ≡ g
same_err f g e = cc

-- what is read where the fault is this
err_of : (version : Version) (kind : Option Kind) (g f : WireFault) (frame after : List ℕ) (fault : Option WireFault) → fault ≡ Some g → read_of version kind fault frame after ≡ Err f → g ≡ f
err_of version kind g f frame after (Some h) is e = let same : h ≡ g = cc in sym same ∙ same_err {A = Message × List ℕ} h f e
err_of version kind g f frame after None is e = absurd cc

-- a body's fault is one that bytes show
of_whole : (version : Version) (s : Shape) (kind : Kind) (f : WireFault) (frame after body : List ℕ) (fault : Option WireFault) → fault ≡ body_fault s body → read_of version (Some kind) fault frame after ≡ Err f → IsOfBytes f
of_whole version s kind f frame after body (Some g) is e = subst IsOfBytes (same_err {A = Message × List ℕ} g f e) (of_body s body g (sym is))
of_whole version s kind f frame after body None is e = absurd cc

read_at : (version : Version) (place : Place) (bytes : List ℕ) (f : WireFault) (kind : Option Kind) → kind_at place (slice_index bytes 0) ≡ kind → read_frame version place bytes ≡ Err f
    → read_of version kind (frame_fault version place (take (asked version place bytes) bytes)) (take (asked version place bytes) bytes) (drop (asked version place bytes) bytes) ≡ Err f
unfolding read_frame
read_at version place bytes f kind k e = ap (λ (o : Option Kind). read_of version o (frame_fault version place (take (asked version place bytes) bytes)) (take (asked version place bytes) bytes) (drop (asked version place bytes) bytes)) (sym k) ∙ e

by_order : (version : Version) (place : Place) (bytes : List ℕ) (f : WireFault) (b : Bool) → nat_lt (length bytes) (asked version place bytes) ≡ b → read_frame version place bytes ≡ Err f
    → (length bytes < asked version place bytes) ⊎ IsOfBytes f
by_order version place bytes f true o e = inl (grind (arith, nat_tests))
by_order version place bytes f false o e =
    let enough : asked version place bytes ≤ length bytes = grind (arith, nat_tests) in
    elim (decided version place bytes enough) [
      | inl x ↦ inr (subst IsOfBytes (err_of version (kind_at place (slice_index bytes 0)) x.0 f _ _ _ x.2 (read_at version place bytes f (kind_at place (slice_index bytes 0)) refl e)) x.1)
      | inr w ↦ inr (of_whole version (shape version w.kind) w.kind f _ _ _ _ w.same (read_at version place bytes f (Some w.kind) w.its_kind e))
    ]

-- Where bytes are no frame they are fewer than it has, or show a fault.
pub cut_or_fault : (version : Version) (place : Place) (bytes : List ℕ) (f : WireFault) → read_frame version place bytes ≡ Err f → (length bytes < asked version place bytes) ⊎ IsOfBytes f
cut_or_fault version place bytes f e = by_order version place bytes f (nat_lt (length bytes) (asked version place bytes)) refl e

-- ---- a frame that is whole

-- what a message says of its frame
pub record Sized (version : Version) (place : Place) (bytes : List ℕ) (m : Message) (rest : List ℕ) : Type 0 where
  pub allowed : allows place (kind_of m) ≡ true
  pub is_mark : (shape version (kind_of m)).is_mark (mark_of m) ≡ true
  pub long : length bytes ≡ 3 + ((shape version (kind_of m)).mark_width + size ((shape version (kind_of m)).fields (mark_of m))) + length rest

-- a frame without a fault, by the message that is read off it
record Says (version : Version) (kind : Option Kind) (frame : List ℕ) (m : Message) : Type 0 where
  is : Kind
  its_kind : kind ≡ Some is
  said : m ≡ said_by version is (drop 3 frame)

says : (version : Version) (kind : Option Kind) (fault : Option WireFault) (frame after : List ℕ) (m : Message) (rest : List ℕ) → read_of version kind fault frame after ≡ Ok (m, rest) → (fault ≡ None) × Says version kind frame m
says version kind (Some fault) frame after m rest e = absurd cc
says version None None frame after m rest e = absurd cc
says version (Some kind) None frame after m rest e = (refl, record { is = kind; its_kind = refl; said = ap (λ (x : Message × List ℕ). x.0) (same_answer (m, rest) (said_by version kind (drop 3 frame), after) (sym e)) })

same_some : (a b : Kind) → ◌≡◌ {A = Option Kind} (Some a) (Some b) → a ≡ b
same_some a b e = cc

-- the sizes by the kind and the mark
of_mark : (version : Version) (place : Place) (bytes : List ℕ) (kind : Kind) (mark : ℕ) (m : Message) (rest : List ℕ) → allows place kind ≡ true → (shape version kind).is_mark mark ≡ true
    → length bytes ≡ 3 + ((shape version kind).mark_width + size ((shape version kind).fields mark)) + length rest → HasMark kind mark m → Sized version place bytes m rest
of_mark version place bytes kind mark m rest a is size_is h = record {
  allowed = rw h.its_kind a;
  is_mark = rw (h.its_kind, h.its_mark) is;
  long = rw (h.its_kind, h.its_mark) size_is;
}

module _ (version : Version) (place : Place) (bytes : List ℕ) (m : Message) (rest : List ℕ) (heard : (kind : Kind) → allows place kind ≡ true → allows places.ToVerifier kind ≡ true) where
  whole_size : (enough : asked version place bytes ≤ length bytes) → rest ≡ drop (asked version place bytes) bytes
      → frame_fault version place (take (asked version place bytes) bytes) ≡ None
      → Says version (kind_at place (slice_index bytes 0)) (take (asked version place bytes) bytes) m
      → IsWhole version place bytes (take (asked version place bytes) bytes) → Sized version place bytes m rest
  whole_size enough ends none r w =
      let s = shape version w.kind in
      let body = drop 3 (take (asked version place bytes) bytes) in
      let fit = marked_body s body (sym w.same ∙ none) in
      let same : r.is ≡ w.kind = same_some r.is w.kind (sym r.its_kind ∙ w.its_kind) in
      let said : m ≡ said_by version w.kind body = r.said ∙ ap (λ (k : Kind). said_by version k body) same in
      let made = made_marked version w.kind (mark_in s body) (said_in s body) (heard w.kind w.allowed) fit.0 (numbers_count (s.fields (mark_in s body)) (drop s.mark_width body)) in
      let all : length bytes ≡ length (take (asked version place bytes) bytes) + length (drop (asked version place bytes) bytes) = ap length (sym (front version place bytes enough)) ∙ length-append (take (asked version place bytes) bytes) (drop (asked version place bytes) bytes) in
      let size_is : length bytes ≡ 3 + (s.mark_width + size (s.fields (mark_in s body))) + length rest = omega (arith, all, fit.1, length-drop 3 (take (asked version place bytes) bytes), three version place bytes enough, ap length ends) in
      of_mark version place bytes w.kind (mark_in s body) m rest w.allowed fit.0 size_is (record { its_kind = ap kind_of said ∙ made.its_kind; its_mark = ap mark_of said ∙ made.its_mark })

  -- A whole frame is as long as its message says.
  pub read_frame-size : read_frame version place bytes ≡ Ok (m, rest) → Sized version place bytes m rest
  unfolding read_frame
  read_frame-size e =
      let ends = read_frame-rest version place bytes m rest e in
      let r = says version (kind_at place (slice_index bytes 0)) (frame_fault version place (take (asked version place bytes) bytes)) (take (asked version place bytes) bytes) (drop (asked version place bytes) bytes) m rest e in
      elim (decided version place bytes ends.0) [
        | inl x ↦ absurd (let both : Some x.0 ≡ None = sym x.2 ∙ r.0 in cc)
        | inr w ↦ whole_size ends.0 ends.1 r.0 r.1 w
      ]

-- ---- the longest frame at a place

-- no frame that may stand at a place is longer than this
abbrev pub IsMost : Version → Place → ℕ → Type 0
IsMost version place n = (kind : Kind) (mark : ℕ) → allows place kind ≡ true → (shape version kind).is_mark mark ≡ true
    → 3 + ((shape version kind).mark_width + size ((shape version kind).fields mark)) ≤ n

asked_some : (version : Version) (place : Place) (kind : Kind) (bytes : List ℕ) (n : ℕ) (a b : Bool) → 3 ≤ n → IsMost version place n → allows place kind ≡ a → (shape version kind).has_length (length_in bytes) ≡ b
    → asked_by version place (Some kind) bytes ≤ n
asked_some version place kind bytes n true true least most ea eb =
    let of = length_of_mark version kind (length_in bytes) eb in
    let one : asked_by version place (Some kind) bytes ≡ 3 + length_in bytes = rw (ea, eb) refl in
    omega (arith, one, of.long, most kind of.mark ea of.is_mark)
asked_some version place kind bytes n true false least most ea eb =
    let one : asked_by version place (Some kind) bytes ≡ 3 = rw (ea, eb) refl in omega (arith, one, least)
asked_some version place kind bytes n false b least most ea eb =
    let one : asked_by version place (Some kind) bytes ≡ 3 = rw ea refl in omega (arith, one, least)

asked_kind : (version : Version) (place : Place) (bytes : List ℕ) (n : ℕ) (kind : Option Kind) → 3 ≤ n → IsMost version place n → asked_by version place kind bytes ≤ n
asked_kind version place bytes n None least most = least
asked_kind version place bytes n (Some kind) least most = asked_some version place kind bytes n (allows place kind) ((shape version kind).has_length (length_in bytes)) least most refl refl

-- no frame asks for more
pub asked-most : (version : Version) (place : Place) (bytes : List ℕ) (n : ℕ) → 3 ≤ n → IsMost version place n → asked version place bytes ≤ n
unfolding asked
asked-most version place bytes n least most = asked_kind version place bytes n (kind_at place (slice_index bytes 0)) least most
