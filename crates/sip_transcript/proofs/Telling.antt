-- What bytes tell, read off them.
use Rattle.std.proofs.Common.{◌≡◌, ℕ, zero, suc, ◌*◌, ◌≤◌, Option, Some, None, Result, Ok, Err, List, [], ◌∷◌, ◌++◌, length, drop, refl, sym, ap, ◌∙◌, arith, append_assoc, drop_at}
use Rattle.std.specs.Prelude.{IsTrue, All}
use Rattle.std.specs.List.{flat_map}
use Rattle.std.proofs.lemmas.List.Concat.{flat_map-cons}
use Rattle.std.proofs.lemmas.List.Elements.{All-head, All-tail}
use Rattle.byteorder.specs.Endian.{big_number}
use Rattle.byteorder.specs.Numbers.{big_number-reads_back}
use Rattle.sip_vector.specs.declared.query.Query.{Query}
use Rattle.sip_wire.specs.declared.kind.Place.TheVariants.{ToHelper, ToVerifier}
use Rattle.sip_wire.specs.declared.message.Message.{Message}
use Rattle.sip_wire.specs.declared.message.Message.TheVariants as messages
use Rattle.sip_wire.specs.declared.message.WireFault.{WireFault}
use Rattle.sip_wire.specs.declared.version.Version.{Version}
use Rattle.sip_wire.specs.declared.version.Version.TheVariants.{One, Two}
use Rattle.sip_wire.specs.Reading.{read_frame}
use Rattle.sip_wire.specs.Spelling.{in_bytes, spelling}
use Rattle.sip_wire.specs.Table.{is_element}
use Rattle.sip_wire.specs.Transcript.{ask_bytes, head_bytes, transcript}
use Rattle.sip_wire.proofs.Asking.{query-fits}
use Rattle.sip_wire.proofs.ReadingLaws.{asked-least, read_frame-closed, read_frame-shrinks, read_frame-spelling}
use Rattle.sip_transcript.specs.Fields.{asked_at, head_fault}
use Rattle.sip_transcript.specs.Heads.{Ask, IsAsk}
use Rattle.sip_transcript.specs.Tales.{IsReply, Tale, all_replies, ask_before, asks_at, numbers_at, replies_at, reply_before, rest_fault, tale_from, tale_of, transcript_fault}
use Rattle.sip_transcript.proofs.Growing.{bytes_of}
use Rattle.sip_transcript.proofs.Passing.{element-lt, fits_at-true, length-block, length-element, by_fit}

-- ---- the queries

-- numbers in their bytes are read back
pub numbers-back : (xs : List ℕ) (more : List ℕ) → All (λ x. IsTrue (is_element x)) xs → numbers_at (length xs) (flat_map (in_bytes 8) xs ++ more) ≡ xs
unfolding numbers_at in_bytes
numbers-back [] more are = refl
numbers-back (x ∷ xs) more are =
    let behind = flat_map (in_bytes 8) xs ++ more in
    let whole : flat_map (in_bytes 8) (x ∷ xs) ++ more ≡ in_bytes 8 x ++ behind =
    ap (λ (l : List ℕ). l ++ more) (flat_map-cons (in_bytes 8) x xs) ∙ append_assoc (in_bytes 8 x) (flat_map (in_bytes 8) xs) more in
    let first : big_number 8 (in_bytes 8 x ++ behind) ≡ x = big_number-reads_back 8 x behind (element-lt x (All-head (λ y. IsTrue (is_element y)) x xs are)) in
    let rest : drop 8 (in_bytes 8 x ++ behind) ≡ behind = drop_at (in_bytes 8 x) behind 8 (length-element x) in
    let others = numbers-back xs more (All-tail (λ y. IsTrue (is_element y)) x xs are) in
    ap (numbers_at (suc (length xs))) whole
    ∙ ap (λ (n : ℕ). n ∷ numbers_at (length xs) (drop 8 (in_bytes 8 x ++ behind))) first
    ∙ ap (λ (l : List ℕ). x ∷ l) (ap (numbers_at (length xs)) rest ∙ others)

-- what a query in front is followed by
followed_by : Version → ℕ → ℕ → Query → List ℕ → List Ask × List ℕ
followed_by version depth n query behind =
    let others = asks_at version depth n (drop (8 * depth) behind) in
    ((query, numbers_at depth behind) ∷ others.0, others.1)

-- queries with their challenges are read back
pub asks-back : (version : Version) (depth : ℕ) (asks : List Ask) (more : List ℕ) → All (IsAsk version depth) asks
    → asks_at version depth (length asks) (flat_map (bytes_of version) asks ++ more) ≡ (asks, more)
unfolding asks_at ask_bytes followed_by
asks-back version depth [] more are = refl
asks-back version depth (ask ∷ asks) more are =
    ap (asks_at version depth (suc (length asks))) whole
    ∙ ap (ask_before version depth (asks_at version depth (length asks)) (frame ++ behind)) asked
    ∙ ap (followed_by version depth (length asks) ask.0) (drop_at frame behind (length frame) refl)
    ∙ ap (λ (x : List Ask × List ℕ). ((ask.0, numbers_at depth behind) ∷ x.0, x.1)) (ap (asks_at version depth (length asks)) rest ∙ asks-back version depth asks more (All-tail (IsAsk version depth) ask asks are))
    ∙ ap (λ (xs : List ℕ). ((ask.0, xs) ∷ asks, more)) numbers
  where
    is : IsAsk version depth ask
    is = All-head (IsAsk version depth) ask asks are

    frame : List ℕ
    frame = spelling version (messages.Query ask.0)

    block : List ℕ
    block = flat_map (in_bytes 8) ask.1

    after : List ℕ
    after = flat_map (bytes_of version) asks ++ more

    behind : List ℕ
    behind = block ++ after

    whole : flat_map (bytes_of version) (ask ∷ asks) ++ more ≡ frame ++ behind
    whole = ap (λ (l : List ℕ). l ++ more) (flat_map-cons (bytes_of version) ask asks) ∙ append_assoc (frame ++ block) (flat_map (bytes_of version) asks) more ∙ append_assoc frame block after

    asked : asked_at depth (read_frame version ToHelper (frame ++ behind)) ≡ Some ask.0
    asked =
        ap (asked_at depth) (read_frame-spelling version ToHelper (messages.Query ask.0) behind (query-fits version depth ask.0 is.speaks is.fits.1) refl tt)
        ∙ ap (by_fit ask.0) (fits_at-true depth ask.0 is.fits)

    rest : drop (8 * depth) behind ≡ after
    rest = drop_at block after (8 * depth) (length-block ask.1 ∙ ap (λ (n : ℕ). 8 * n) is.levels)

    numbers : numbers_at depth behind ≡ ask.1
    numbers = ap (λ (n : ℕ). numbers_at n behind) (sym is.levels) ∙ numbers-back ask.1 after is.elements

-- what a run's transcript tells, with whatever follows its head
pub tale-of_run : (version : Version) (depth : ℕ) (asks : List Ask) (bytes : List ℕ) → All (IsAsk version depth) asks
    → tale_of (transcript version depth asks bytes) ≡ tale_from version depth (asks, bytes)
unfolding tale_of
tale-of_run One depth asks bytes are = ap (tale_from One depth) (asks-back One depth asks bytes are)
tale-of_run Two depth asks bytes are = ap (tale_from Two depth) (asks-back Two depth asks bytes are)

-- a transcript has one head, and behind it one list of bytes
pub one_head : (version other : Version) (depth levels : ℕ) (asks others : List Ask) (behind rest : List ℕ) → All (IsAsk version depth) asks → All (IsAsk other levels) others
    → transcript version depth asks behind ≡ transcript other levels others rest → (other ≡ version) × (levels ≡ depth) × (others ≡ asks) × (rest ≡ behind)
one_head version other depth levels asks others behind rest are also e =
    let same : tale_from other levels (others, rest) ≡ tale_from version depth (asks, behind) = sym (tale-of_run other levels others rest also) ∙ ap tale_of (sym e) ∙ tale-of_run version depth asks behind are in
    let v : other ≡ version = ap (λ (t : Tale). t.version) same in
    let d : levels ≡ depth = ap (λ (t : Tale). t.depth) same in
    let a : others ≡ asks = ap (λ (t : Tale). t.asks) same in
    let head = head_bytes version depth (length asks) ++ flat_map (λ (ask : Ask). ask_bytes version ask.0 ask.1) asks in
    let alike : head ++ rest ≡ head ++ behind =
    sym (ap (λ (o : Version). transcript o levels others rest) v ∙ ap (λ (n : ℕ). transcript version n others rest) d ∙ ap (λ (l : List Ask). transcript version depth l rest) a) ∙ sym e in
    (v, d, a, sym (drop_at head rest (length head) refl) ∙ ap (drop (length head)) alike ∙ drop_at head behind (length head) refl)

-- ---- the replies

-- no bytes are no messages
pub no-replies : (version : Version) (n : ℕ) → replies_at version n [] ≡ ([], [])
unfolding replies_at
no-replies version zero = refl
no-replies version (suc n) = ap (reply_before (replies_at version n) []) (read_frame-closed version ToVerifier [] (omega (arith, asked-least version ToVerifier [])))

-- what is read does not depend on how many messages there may be, if they are enough
replies-enough : (version : Version) (n k : ℕ) (bytes : List ℕ) → length bytes ≤ n → length bytes ≤ k → replies_at version n bytes ≡ replies_at version k bytes
unfolding replies_at
replies-enough version zero k [] le ke = sym (no-replies version k)
replies-enough version zero k (b ∷ bytes) le ke = absurd (omega arith)
replies-enough version (suc n) zero [] le ke = no-replies version (suc n)
replies-enough version (suc n) zero (b ∷ bytes) le ke = absurd (omega arith)
replies-enough version (suc n) (suc k) bytes le ke = by_read (read_frame version ToVerifier bytes) refl (replies-enough version n k)
  where
    by_read : (r : Result (Message × List ℕ) WireFault) → read_frame version ToVerifier bytes ≡ r
        → ((rest : List ℕ) → length rest ≤ n → length rest ≤ k → replies_at version n rest ≡ replies_at version k rest)
        → reply_before (replies_at version n) bytes r ≡ reply_before (replies_at version k) bytes r
    by_read (Err fault) e again = refl
    by_read (Ok (m, rest)) e again =
        let less = read_frame-shrinks version ToVerifier bytes m rest e in
        ap (λ (x : List Message × List ℕ). (m ∷ x.0, x.1)) (again rest (omega arith) (omega arith))

-- a message in front, and those behind it
pub replies-more : (version : Version) (bytes : List ℕ) (m : Message) (rest : List ℕ) → read_frame version ToVerifier bytes ≡ Ok (m, rest)
    → all_replies version bytes ≡ (m ∷ (all_replies version rest).0, (all_replies version rest).1)
unfolding replies_at
replies-more version [] m rest e = absurd (let shrinks = read_frame-shrinks version ToVerifier [] m rest e in omega arith)
replies-more version (b ∷ bytes) m rest e =
    let less = read_frame-shrinks version ToVerifier (b ∷ bytes) m rest e in
    ap (reply_before (replies_at version (length bytes)) (b ∷ bytes)) e
    ∙ ap (λ (x : List Message × List ℕ). (m ∷ x.0, x.1)) (replies-enough version (length bytes) (length rest) rest (omega arith) (omega arith))

-- no message in front
pub replies-none : (version : Version) (bytes : List ℕ) (fault : WireFault) → read_frame version ToVerifier bytes ≡ Err fault → all_replies version bytes ≡ ([], bytes)
unfolding replies_at
replies-none version [] fault e = no-replies version 0
replies-none version (b ∷ bytes) fault e = ap (reply_before (replies_at version (length bytes)) (b ∷ bytes)) e

-- all that were spelled
pub replies-back : (version : Version) (ms : List Message) → All (IsReply version) ms → all_replies version (flat_map (spelling version) ms) ≡ (ms, [])
replies-back version [] are = no-replies version 0
replies-back version (m ∷ ms) are =
    let is = All-head (IsReply version) m ms are in
    let rest = flat_map (spelling version) ms in
    let whole = flat_map-cons (spelling version) m ms in
    ap (all_replies version) whole
    ∙ replies-more version (spelling version m ++ rest) m rest (read_frame-spelling version ToVerifier m rest is.has_spelling is.allowed is.in_range)
    ∙ ap (λ (x : List Message × List ℕ). (m ∷ x.0, x.1)) (replies-back version ms (All-tail (IsReply version) m ms are))

-- a run is told with all its replies
pub told-back : (version : Version) (depth : ℕ) (asks : List Ask) (ms : List Message) → All (IsAsk version depth) asks → All (IsReply version) ms
    → tale_of (transcript version depth asks (flat_map (spelling version) ms)) ≡ record { version = version; depth = depth; asks = asks; replies = ms; rest = [] }
told-back version depth asks ms each are =
    tale-of_run version depth asks (flat_map (spelling version) ms) each
    ∙ ap (λ (x : List Message × List ℕ). record { version = version; depth = depth; asks = asks; replies = x.0; rest = x.1 }) (replies-back version ms are)

-- and its transcript has no fault where its head has none
pub told-whole : (version : Version) (depth : ℕ) (asks : List Ask) (ms : List Message) → All (IsAsk version depth) asks → All (IsReply version) ms
    → head_fault (transcript version depth asks (flat_map (spelling version) ms)) ≡ None → transcript_fault (transcript version depth asks (flat_map (spelling version) ms)) ≡ None
unfolding transcript_fault
told-whole version depth asks ms each are none =
    let bytes = transcript version depth asks (flat_map (spelling version) ms) in
    ap (λ (found : Option ℕ). elim found [ Some at ↦ Some at | None ↦ rest_fault (length bytes) (tale_of bytes).rest ]) none
    ∙ ap (λ (tale : Tale). rest_fault (length bytes) tale.rest) (told-back version depth asks ms each are)
