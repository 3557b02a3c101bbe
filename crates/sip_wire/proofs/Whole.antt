-- The two directions of a whole frame.
use Rattle.std.proofs.Common.{◌≡◌, ℕ, ◌+◌, ◌<◌, ◌≤◌, Bool, true, false, not, cond, ◌==◌, Option, Some, None, List, [], ◌∷◌, ◌++◌, length, take, drop, refl, sym, ap, subst, ◌∙◌, arith, length-drop}
use Rattle.std.specs.Prelude.{IsTrue, slice_index, find}
use Rattle.std.proofs.lemmas.Bool.{eqb-true, lt-ltb, le-ltb}
use Rattle.std.proofs.lemmas.List.{take-append-drop}
use Rattle.byteorder.specs.Endian.{big_number, big_bytes}
use Rattle.byteorder.specs.Numbers.{big_number-reads_back}
use Rattle.sip_wire.specs.declared.kind.Kind.{Kind}
use Rattle.sip_wire.specs.declared.kind.Kind.TheVariants as kinds
use Rattle.sip_wire.specs.declared.kind.Place.{Place}
use Rattle.sip_wire.specs.declared.kind.Place.TheVariants as places
use Rattle.sip_wire.specs.declared.message.Message.{Message}
use Rattle.sip_wire.specs.declared.message.WireFault.{WireFault}
use Rattle.sip_wire.specs.declared.message.WireFault.TheVariants as faults
use Rattle.sip_wire.specs.declared.version.Version.{Version}
use Rattle.sip_wire.specs.declared.version.Version.TheVariants.{One, Two}
use Rattle.sip_wire.specs.Table.{longest_body, Shape, shape, allows, degree_at, kind_at, stands_in, byte_of, all_kinds, size}
use Rattle.sip_wire.specs.Spelling.{in_bytes, kind_of, mark_of, numbers, fits, body_of, spelling, length_in, body_fault, kind_fault, frame_fault, asked, asked_by, Stands}
use Rattle.sip_wire.specs.Decoding.{Head}
use Rattle.sip_wire.specs.Faults.{IsOfBytes}
use Rattle.sip_wire.proofs.Bytes.{IsBytes, IsBytes-drop, bytes_back}
use Rattle.sip_wire.proofs.Shapes.{is_shape, body_back, body_again, body_length, mark_of_fit}

-- ---- the byte of a kind

-- the kind that a byte stands for, where powers are of one degree
pub kind_by : ℕ → ℕ → Option Kind
kind_by degree byte = find (λ kind. byte == byte_of kind) (all_kinds degree)

-- the degree of a kind that is a power
unfoldable pub degree_in : Kind → ℕ
degree_in (kinds.Power degree) = degree
degree_in _ = 0

-- the byte of a kind and its degree stand for it
pub kind_by_again : (kind : Kind) → kind_by (degree_in kind) (byte_of kind) ≡ Some kind
unfolding kind_by degree_in
kind_by_again kinds.Open = refl
kind_by_again kinds.Updates = refl
kind_by_again kinds.EndStream = refl
kind_by_again kinds.Query = refl
kind_by_again kinds.Reveal = refl
kind_by_again kinds.Bye = refl
kind_by_again kinds.Claim = refl
kind_by_again kinds.Poly = refl
kind_by_again kinds.Entries = refl
kind_by_again kinds.Siblings = refl
kind_by_again kinds.Leaves = refl
kind_by_again kinds.Nodes = refl
kind_by_again kinds.LevelEnd = refl
kind_by_again kinds.Refuse = refl
kind_by_again kinds.AskLook = refl
kind_by_again kinds.Found = refl
kind_by_again kinds.End = refl
kind_by_again kinds.AskMoment = refl
kind_by_again (kinds.Power k) = refl
kind_by_again kinds.Held = refl
kind_by_again kinds.Recall = refl
kind_by_again kinds.Marks = refl

-- a place that allows a power awaits one of this degree
its_degree : (place : Place) (degree : ℕ) → allows place (kinds.Power degree) ≡ true → degree ≡ degree_at place
its_degree (places.Power awaited) degree a = eqb-true degree awaited a
its_degree places.ToHelper degree a = absurd cc
its_degree places.ToVerifier degree a = absurd cc
its_degree places.Entries degree a = absurd cc
its_degree places.Siblings degree a = absurd cc
its_degree places.Claim degree a = absurd cc
its_degree places.Poly degree a = absurd cc
its_degree places.Leaves degree a = absurd cc
its_degree places.Nodes degree a = absurd cc
its_degree places.Found degree a = absurd cc
its_degree places.AskedLook degree a = absurd cc
its_degree places.AskedMoment degree a = absurd cc
its_degree places.AskedQuestion degree a = absurd cc
its_degree places.Held degree a = absurd cc
its_degree places.Marks degree a = absurd cc

-- the byte of a kind stands for it at a place that allows the kind
pub kind_again : (place : Place) (kind : Kind) → allows place kind ≡ true → kind_at place (byte_of kind) ≡ Some kind
unfolding kind_by degree_in
kind_again place kinds.Open a = refl
kind_again place kinds.Updates a = refl
kind_again place kinds.EndStream a = refl
kind_again place kinds.Query a = refl
kind_again place kinds.Reveal a = refl
kind_again place kinds.Bye a = refl
kind_again place kinds.Claim a = refl
kind_again place kinds.Poly a = refl
kind_again place kinds.Entries a = refl
kind_again place kinds.Siblings a = refl
kind_again place kinds.Leaves a = refl
kind_again place kinds.Nodes a = refl
kind_again place kinds.LevelEnd a = refl
kind_again place kinds.Refuse a = refl
kind_again place kinds.AskLook a = refl
kind_again place kinds.Found a = refl
kind_again place kinds.End a = refl
kind_again place kinds.AskMoment a = refl
kind_again place (kinds.Power degree) a = ap (λ (k : ℕ). kind_by k (byte_of (kinds.Power degree))) (sym (its_degree place degree a)) ∙ kind_by_again (kinds.Power degree)
kind_again place kinds.Held a = refl
kind_again place kinds.Recall a = refl
kind_again place kinds.Marks a = refl

-- and that of a kind that a verifier hears stands for it at every place
pub heard_again : (place : Place) (kind : Kind) → allows places.ToVerifier kind ≡ true → kind_at place (byte_of kind) ≡ Some kind
heard_again place kinds.Open a = refl
heard_again place kinds.Updates a = refl
heard_again place kinds.EndStream a = refl
heard_again place kinds.Query a = refl
heard_again place kinds.Reveal a = refl
heard_again place kinds.Bye a = refl
heard_again place kinds.Claim a = refl
heard_again place kinds.Poly a = refl
heard_again place kinds.Entries a = refl
heard_again place kinds.Siblings a = refl
heard_again place kinds.Leaves a = refl
heard_again place kinds.Nodes a = refl
heard_again place kinds.LevelEnd a = refl
heard_again place kinds.Refuse a = refl
heard_again place kinds.AskLook a = refl
heard_again place kinds.Found a = refl
heard_again place kinds.End a = refl
heard_again place kinds.AskMoment a = refl
heard_again place (kinds.Power degree) a = absurd cc
heard_again place kinds.Held a = refl
heard_again place kinds.Recall a = refl
heard_again place kinds.Marks a = refl

-- one step of a search
by_test : {X : Type 0} (p : X → Bool) (xs : List X) (x y : X) (b : Bool) → (find p xs ≡ Some x → p x ≡ true) → p y ≡ b → cond b (Some y) (find p xs) ≡ Some x → p x ≡ true
by_test p xs x y true later h e = let same : y ≡ x = cc in rw (← same) h
by_test p xs x y false later h e = later e

-- what a search finds passes its test
found_passes : {X : Type 0} (p : X → Bool) (xs : List X) (x : X) → find p xs ≡ Some x → p x ≡ true
found_passes p [] x e = absurd cc
found_passes p (y ∷ xs) x e = by_test p xs x y (p y) (λ h. found_passes p xs x h) refl e

-- a byte that stands for a kind is its byte
pub kind_back : (place : Place) (byte : ℕ) (kind : Kind) → kind_at place byte ≡ Some kind → byte ≡ byte_of kind
kind_back place byte kind e = eqb-true _ _ (found_passes (λ k. byte == byte_of k) (all_kinds (degree_at place)) kind e)

-- ---- a spelling has no fault

-- with three bytes the kind decides
pub past_length : (version : Version) (place : Place) (bytes : List ℕ) → 3 ≤ length bytes → frame_fault version place bytes ≡ kind_fault version place (kind_at place (slice_index bytes 0)) bytes
unfolding frame_fault in_bytes
past_length version place bytes le = rw (le-ltb (length bytes) 3 le) refl

-- a kind that has a length in a version stands in it
pub stands_by_length : (version : Version) (kind : Kind) (n : ℕ) → (shape version kind).has_length n ≡ true → stands_in kind version ≡ true
stands_by_length version kinds.Open n h = refl
stands_by_length version kinds.Updates n h = refl
stands_by_length version kinds.EndStream n h = refl
stands_by_length version kinds.Query n h = refl
stands_by_length version kinds.Reveal n h = refl
stands_by_length version kinds.Bye n h = refl
stands_by_length version kinds.Claim n h = refl
stands_by_length version kinds.Poly n h = refl
stands_by_length version kinds.Entries n h = refl
stands_by_length version kinds.Siblings n h = refl
stands_by_length version kinds.Leaves n h = refl
stands_by_length version kinds.Nodes n h = refl
stands_by_length version kinds.LevelEnd n h = refl
stands_by_length version kinds.Refuse n h = refl
stands_by_length version kinds.AskLook n h = refl
stands_by_length version kinds.Found n h = refl
stands_by_length version kinds.End n h = refl
stands_by_length version kinds.AskMoment n h = refl
stands_by_length version (kinds.Power degree) n h = refl
stands_by_length version kinds.Held n h = refl
stands_by_length version kinds.Recall n h = refl
stands_by_length One kinds.Marks n h = absurd cc
stands_by_length Two kinds.Marks n h = refl

-- one that does not stand there has none
pub no_length : (version : Version) (kind : Kind) (n : ℕ) → stands_in kind version ≡ false → (shape version kind).has_length n ≡ false
no_length version kind n stray = by_test ((shape version kind).has_length n) refl
  where
    by_test : (has : Bool) → (shape version kind).has_length n ≡ has → has ≡ false
    by_test true e = absurd (let stands : false ≡ true = sym stray ∙ stands_by_length version kind n e in cc)
    by_test false e = refl

-- with a whole body the body decides
pub past_head : (version : Version) (place : Place) (kind : Kind) (bytes : List ℕ) → allows place kind ≡ true → (shape version kind).has_length (length_in bytes) ≡ true → 3 + length_in bytes ≤ length bytes → kind_fault version place (Some kind) bytes ≡ body_fault (shape version kind) (drop 3 bytes)
unfolding kind_fault in_bytes
past_head version place kind bytes a b le = rw (a, stands_by_length version kind (length_in bytes) b, b, le-ltb (length bytes) (3 + length_in bytes) le) refl

-- with less the frame is cut short
pub cut_short : (version : Version) (place : Place) (kind : Kind) (bytes : List ℕ) → allows place kind ≡ true → (shape version kind).has_length (length_in bytes) ≡ true → length bytes < 3 + length_in bytes → kind_fault version place (Some kind) bytes ≡ Some faults.Closed
unfolding kind_fault in_bytes
cut_short version place kind bytes a b lt = rw (a, stands_by_length version kind (length_in bytes) b, b, lt-ltb (length bytes) (3 + length_in bytes) lt) refl

-- fewer than three bytes are cut short
pub no_head : (version : Version) (place : Place) (bytes : List ℕ) → length bytes < 3 → frame_fault version place bytes ≡ Some faults.Closed
unfolding frame_fault in_bytes
no_head version place bytes lt = rw (lt-ltb (length bytes) 3 lt) refl

-- a spelling has no fault at a place that allows it
pub no_fault : (version : Version) (place : Place) (m : Message) → fits version m ≡ true → allows place (kind_of m) ≡ true → frame_fault version place (spelling version m) ≡ None
unfolding fits spelling in_bytes
no_fault version place m fit allowed =
    let kind = kind_of m in
    let s = shape version kind in
    let body = body_of version m in
    let is = is_shape version kind in
    let long : length body ≡ s.mark_width + size (s.fields (mark_of m)) = body_length s (mark_of m) (numbers m) fit in
    let has : s.has_length (length body) ≡ true = rw long (is.lengths (mark_of m) (mark_of_fit s (mark_of m) (numbers m) fit)) in
    let short : length body ≤ longest_body = is.short (length body) has in
    let whole : List ℕ = byte_of kind ∷ big_bytes 2 (length body) ++ body in
    let len : length_in whole ≡ length body = big_number-reads_back 2 (length body) body (omega arith) in
    let total : length whole ≡ 3 + length body = omega arith in
    let first : frame_fault version place whole ≡ kind_fault version place (kind_at place (byte_of kind)) whole = past_length version place whole (omega arith) in
    let second : kind_fault version place (Some kind) whole ≡ body_fault s body = past_head version place kind whole allowed (rw len has) (omega (arith, len)) in
    first ∙ ap (λ (k : Option Kind). kind_fault version place k whole) (kind_again place kind allowed) ∙ second ∙ (body_again s (mark_of m) (numbers m) is fit).no_fault

-- ---- what begins a frame

-- three bytes state the length, whatever follows
pub front_length : (a b : List ℕ) → length a ≡ 3 → length_in (a ++ b) ≡ length_in a
front_length (x ∷ y ∷ z ∷ []) b e = refl
front_length [] b e = absurd (omega arith)
front_length (x ∷ []) b e = absurd (omega arith)
front_length (x ∷ y ∷ []) b e = absurd (omega arith)
front_length (x ∷ y ∷ z ∷ w ∷ a) b e = absurd (omega arith)

-- and the kind
pub front_kind : (a b : List ℕ) → length a ≡ 3 → slice_index (a ++ b) 0 ≡ slice_index a 0
front_kind (x ∷ a) b e = refl
front_kind [] b e = absurd (omega arith)

-- a head and a whole body
pub whole_fault : (version : Version) (place : Place) (head more : List ℕ) (kind : Kind) (len : ℕ) → length head ≡ 3 → Head version place head kind len → length (head ++ more) ≡ 3 + len → frame_fault version place (head ++ more) ≡ body_fault (shape version kind) (drop 3 (head ++ more))
whole_fault version place head more kind len three is all =
    let l : length_in (head ++ more) ≡ len = front_length head more three ∙ sym is.its_length in
    let k : kind_at place (slice_index (head ++ more) 0) ≡ Some kind = ap (kind_at place) (front_kind head more three) ∙ is.its_kind in
    past_length version place (head ++ more) (omega arith) ∙ ap (λ (o : Option Kind). kind_fault version place o (head ++ more)) k
    ∙ past_head version place kind (head ++ more) is.allowed (rw l is.has_length) (omega (arith, l))

-- a body's fault is a fault of bytes
by_tests : (a b : Bool) (f : WireFault) → cond (not a) (Some faults.BadCount) (cond (not b) (Some faults.BadNumber) None) ≡ Some f → IsOfBytes f
by_tests true true f e = absurd cc
by_tests true false f e = let same : faults.BadNumber ≡ f = cc in subst IsOfBytes same tt
by_tests false b f e = let same : faults.BadCount ≡ f = cc in subst IsOfBytes same tt

-- so is what a body's tests answer
pub of_body : (s : Shape) (body : List ℕ) (f : WireFault) → body_fault s body ≡ Some f → IsOfBytes f
unfolding body_fault in_bytes
of_body s body f e = by_tests _ _ f e

-- three bytes, and what they are
three_bytes : (bytes : List ℕ) → IsBytes bytes → 3 ≤ length bytes → bytes ≡ slice_index bytes 0 ∷ big_bytes 2 (length_in bytes) ++ drop 3 bytes
three_bytes [] fits le = absurd (omega arith)
three_bytes (x ∷ bytes) fits le =
    let pair : big_bytes 2 (big_number 2 bytes) ≡ take 2 bytes = bytes_back 2 bytes (IsBytes-drop 1 (x ∷ bytes) fits) (omega arith) in
    ap (λ (bs : List ℕ). x ∷ bs) (sym (take-append-drop 2 bytes) ∙ ap (λ (bs : List ℕ). bs ++ drop 2 bytes) (sym pair))

-- what has no fault is the spelling of the message that stands in it
pub spelled_back : (version : Version) (place : Place) (bytes : List ℕ) (kind : Kind) (m : Message) → IsBytes bytes → length bytes ≡ 3 + length_in bytes → kind_at place (slice_index bytes 0) ≡ Some kind → allows place kind ≡ true → kind_of m ≡ kind
    → Stands (shape version kind) (drop 3 bytes) (mark_of m) (numbers m) → IsTrue (fits version m) × IsTrue (allows place (kind_of m)) × (bytes ≡ spelling version m)
unfolding fits spelling in_bytes
spelled_back version place bytes kind m is len k allowed same stands =
    let back = body_back (shape version kind) (drop 3 bytes) (mark_of m) (numbers m) (IsBytes-drop 3 bytes is) stands in
    let body : drop 3 bytes ≡ body_of version m = rw same back.1 in
    let count : length_in bytes ≡ length (body_of version m) = omega (arith, ap length body, length-drop 3 bytes) in
    let byte : slice_index bytes 0 ≡ byte_of (kind_of m) = kind_back place _ _ k ∙ ap byte_of (sym same) in
    (rw same back.0, rw same allowed, three_bytes bytes is (omega arith) ∙ rw (byte, count, body) refl)

-- a head is seen in what goes on from it
pub same_head : (version : Version) (place : Place) (head more : List ℕ) (kind : Kind) (len : ℕ) → length head ≡ 3 → Head version place head kind len → (kind_at place (slice_index (head ++ more) 0) ≡ Some kind) × (length_in (head ++ more) ≡ len)
same_head version place head more kind len three is = (ap (kind_at place) (front_kind head more three) ∙ is.its_kind, front_length head more three ∙ sym is.its_length)

-- what is written part by part is the spelling
pub encoded : (version : Version) (m : Message) (o0 o1 o2 o3 : List ℕ) (byte len : ℕ) → fits version m ≡ true → o0 ≡ [] → o1 ≡ o0 ++ byte ∷ [] → byte ≡ byte_of (kind_of m) → len ≡ (shape version (kind_of m)).mark_width + size ((shape version (kind_of m)).fields (mark_of m))
    → o2 ≡ o1 ++ in_bytes 2 len → o3 ≡ o2 ++ body_of version m → o3 ≡ spelling version m
unfolding fits spelling
encoded version m o0 o1 o2 o3 byte len fit e0 e1 b l e2 e3 =
    let long : len ≡ length (body_of version m) = l ∙ sym (body_length (shape version (kind_of m)) (mark_of m) (numbers m) fit) in
    let first : o1 ≡ byte_of (kind_of m) ∷ [] = e1 ∙ ap (λ (o : List ℕ). o ++ byte ∷ []) e0 ∙ ap (λ (k : ℕ). k ∷ []) b in
    let second : o2 ≡ byte_of (kind_of m) ∷ in_bytes 2 (length (body_of version m)) = e2 ∙ ap (λ (o : List ℕ). o ++ in_bytes 2 len) first ∙ ap (λ (n : ℕ). byte_of (kind_of m) ∷ in_bytes 2 n) long in
    e3 ∙ ap (λ (o : List ℕ). o ++ body_of version m) second

-- what a frame with a head asks for
pub asked_whole : (version : Version) (place : Place) (bytes : List ℕ) (kind : Kind) → kind_at place (slice_index bytes 0) ≡ Some kind → allows place kind ≡ true → (shape version kind).has_length (length_in bytes) ≡ true → asked version place bytes ≡ 3 + length_in bytes
unfolding asked
asked_whole version place bytes kind k a b = ap (λ (o : Option Kind). asked_by version place o bytes) k ∙ rw (a, b) refl
