-- Fields that are there, and fields that are not, one behind the other.
use Rattle.std.proofs.Common.{◌≡◌, ℕ, zero, suc, ◌+◌, ◌-◌, ◌*◌, ◌^◌, ◌<◌, ◌≤◌, Bool, true, false, ◌&&◌, cond, Option, Some, None, Result, List, [], ◌∷◌, ◌++◌, length, drop, refl, sym, ap, ◌∙◌, arith, append_assoc, length-append, drop_at}
use Rattle.std.specs.Prelude.{IsTrue, All, nat_le}
use Rattle.std.specs.List.{flat_map}
use Rattle.std.specs.Int.{bytes_high_first}
use Rattle.std.proofs.lemmas.Bool.Decides.{nat_tests}
use Rattle.std.proofs.lemmas.List.{append-nil}
use Rattle.std.proofs.lemmas.List.Concat.{flat_map-cons}
use Rattle.std.proofs.lemmas.List.Elements.{All-head, All-tail}
use Rattle.byteorder.specs.Endian.{big_number}
use Rattle.byteorder.specs.Numbers.{big_number-reads_back, length-bytes_high_first}
use Rattle.sip_vector.specs.Answers.{Fits}
use Rattle.sip_vector.specs.Built.{is_built}
use Rattle.sip_verifier.specs.Tasks.{CanBeAsked}
use Rattle.sip_vector.specs.declared.query.Query.{Query}
use Rattle.sip_vector.specs.declared.query.Query.TheVariants as queries
use Rattle.sip_wire.specs.declared.kind.Place.TheVariants.{ToHelper}
use Rattle.sip_wire.specs.declared.message.Message.{Message}
use Rattle.sip_wire.specs.declared.message.Message.TheVariants as messages
use Rattle.sip_wire.specs.declared.message.WireFault.{WireFault}
use Rattle.sip_wire.specs.declared.version.Version.{Version}
use Rattle.sip_wire.specs.declared.version.Version.TheVariants.{One, Two}
use Rattle.sip_wire.specs.Spelling.{fits, in_bytes, spelling}
use Rattle.sip_wire.specs.Table.{is_element}
use Rattle.sip_wire.specs.Transcript.{ask_bytes}
use Rattle.sip_wire.specs.Versions.{speaks}
use Rattle.sip_wire.proofs.Asking.{query-fits}
use Rattle.sip_wire.proofs.ReadingLaws.{read_frame-spelling}
use Rattle.sip_transcript.specs.Fields.{Field, Passes, FailsAt, times, first_fault, asked_at, ask_fields, element_field, fits_at, query_field}
use Rattle.sip_transcript.specs.Heads.{Ask, IsAsk}

-- ---- one behind the other

-- what the first field answers decides
abbrev pub by_field : Option ℕ → List Field → ℕ → List ℕ → Option ℕ
by_field found after at bytes = elim found [ None ↦ Some at | Some size ↦ first_fault after (at + size) (drop size bytes) ]

-- no fields
pub passes-nil : Passes [] []
passes-nil after at more = ap (λ (n : ℕ). first_fault after n more) (let e : at ≡ at + 0 = omega arith in e)

-- a field that is there
pub passes-one : (field : Field) (got : List ℕ) → ((more : List ℕ) → field (got ++ more) ≡ Some (length got)) → Passes (field ∷ []) got
passes-one field got there after at more =
    ap (λ (o : Option ℕ). by_field o after at (got ++ more)) (there more)
    ∙ ap (λ (b : List ℕ). first_fault after (at + length got) b) (drop_at got more (length got) refl)

-- fields, and fields behind them
pub passes-join : (fs gs : List Field) (x y : List ℕ) → Passes fs x → Passes gs y → Passes (fs ++ gs) (x ++ y)
passes-join fs gs x y p q after at more =
    ap (λ (l : List Field). first_fault l at ((x ++ y) ++ more)) (append_assoc fs gs after)
    ∙ ap (λ (b : List ℕ). first_fault (fs ++ (gs ++ after)) at b) (append_assoc x y more)
    ∙ p (gs ++ after) at (y ++ more)
    ∙ q after (at + length x) more
    ∙ ap (λ (n : ℕ). first_fault after n more) (omega (arith, length-append x y))

-- a field that is not there
pub fails-one : (field : Field) (bytes : List ℕ) → field bytes ≡ None → FailsAt (field ∷ []) bytes 0
fails-one field bytes none after at = ap (λ (o : Option ℕ). by_field o after at bytes) none ∙ ap (λ (n : ℕ). Some n) (let e : at ≡ at + 0 = omega arith in e)

-- fields that are there, and then one that is not
pub fails-behind : (fs gs : List Field) (x bytes : List ℕ) (n : ℕ) → Passes fs x → FailsAt gs bytes n → FailsAt (fs ++ gs) (x ++ bytes) (length x + n)
fails-behind fs gs x bytes n p f after at =
    ap (λ (l : List Field). first_fault l at (x ++ bytes)) (append_assoc fs gs after)
    ∙ p (gs ++ after) at bytes
    ∙ f after (at + length x)
    ∙ ap (λ (k : ℕ). Some k) (let e : (at + length x) + n ≡ at + (length x + n) = omega arith in e)

-- what follows the field that is not there changes nothing
pub fails-before : (fs gs : List Field) (bytes : List ℕ) (n : ℕ) → FailsAt fs bytes n → FailsAt (fs ++ gs) bytes n
fails-before fs gs bytes n f after at = ap (λ (l : List Field). first_fault l at bytes) (append_assoc fs gs after) ∙ f (gs ++ after) at

-- ---- so many times

-- once more, at the end
pub times-more : (n : ℕ) (fs : List Field) → times (suc n) fs ≡ times n fs ++ fs
times-more zero fs = append-nil fs
times-more (suc n) fs = ap (λ (l : List Field). fs ++ l) (times-more n fs) ∙ sym (append_assoc fs (times n fs) fs)

-- some of them, and then the rest
pub times-split : (j k : ℕ) (fs : List Field) → times (j + k) fs ≡ times j fs ++ times k fs
times-split zero k fs = ap (λ (n : ℕ). times n fs) (let e : zero + k ≡ k = omega arith in e)
times-split (suc j) k fs =
    ap (λ (n : ℕ). times n fs) (let e : suc j + k ≡ suc (j + k) = omega arith in e)
    ∙ ap (λ (l : List Field). fs ++ l) (times-split j k fs)
    ∙ sym (append_assoc fs (times j fs) (times k fs))

-- once more, behind as many as were there
pub passes-more : (n : ℕ) (fs : List Field) (x y : List ℕ) → Passes (times n fs) x → Passes fs y → Passes (times (n + 1) fs) (x ++ y)
passes-more n fs x y p q after at more =
    ap (λ (l : List Field). first_fault (l ++ after) at ((x ++ y) ++ more)) (ap (λ (k : ℕ). times k fs) (let e : n + 1 ≡ suc n = omega arith in e) ∙ times-more n fs)
    ∙ passes-join (times n fs) fs x y p q after at more

-- as many as were there, and then one that is not, with more to come
pub fails-among : (n count : ℕ) (fs : List Field) (x bytes : List ℕ) (m : ℕ) → n < count → Passes (times n fs) x → FailsAt fs bytes m → FailsAt (times count fs) (x ++ bytes) (length x + m)
fails-among n count fs x bytes m lt p f after at =
    ap (λ (l : List Field). first_fault (l ++ after) at (x ++ bytes)) (all ∙ times-split n (suc (count - (n + 1))) fs)
    ∙ fails-behind (times n fs) (fs ++ times (count - (n + 1)) fs) x bytes m p (fails-before fs (times (count - (n + 1)) fs) bytes m f) after at
  where
    all : times count fs ≡ times (n + suc (count - (n + 1))) fs
    all = ap (λ (k : ℕ). times k fs) (let e : count ≡ n + suc (count - (n + 1)) = omega arith in e)

-- ---- elements

-- an element is below 2^61
pub element-lt : (x : ℕ) → IsTrue (is_element x) → x < 256 ^ 8
element-lt x is = let small : x < 2305843009213693951 = grind (arith, nat_tests) in omega arith

-- what a test of an element's bytes answers
abbrev pub by_tests : Bool → Option ℕ
by_tests passes = cond passes (Some 8) None

-- two tests that pass
both_true : (a b : Bool) → a ≡ true → b ≡ true → (a && b) ≡ true
both_true true true ea eb = refl
both_true true false ea eb = eb
both_true false b ea eb = ea

-- an element in its bytes is there
pub element-there : (x : ℕ) (more : List ℕ) → IsTrue (is_element x) → element_field (in_bytes 8 x ++ more) ≡ Some (length (in_bytes 8 x))
unfolding in_bytes
element-there x more is =
    let bytes = bytes_high_first 8 x ++ more in
    let len : length (bytes_high_first 8 x) ≡ 8 = length-bytes_high_first 8 x in
    let many : 8 ≤ length bytes = omega (arith, len, length-append (bytes_high_first 8 x) more) in
    let long : nat_le 8 (length bytes) ≡ true = grind (arith, nat_tests) in
    let small : is_element (big_number 8 bytes) ≡ true = ap is_element (big_number-reads_back 8 x more (element-lt x is)) ∙ is in
    ap by_tests (both_true (nat_le 8 (length bytes)) (is_element (big_number 8 bytes)) long small) ∙ ap (λ (n : ℕ). Some n) (sym len)

-- an element has eight bytes
pub length-element : (x : ℕ) → length (in_bytes 8 x) ≡ 8
unfolding in_bytes
length-element x = length-bytes_high_first 8 x

-- so many elements have eight bytes each
pub length-block : (xs : List ℕ) → length (flat_map (in_bytes 8) xs) ≡ 8 * length xs
length-block [] = refl
length-block (x ∷ xs) = ap length (flat_map-cons (in_bytes 8) x xs) ∙ omega (arith, length-append (in_bytes 8 x) (flat_map (in_bytes 8) xs), length-element x, length-block xs)

-- elements in their bytes are there
pub block-passes : (xs : List ℕ) → All (λ x. IsTrue (is_element x)) xs → Passes (times (length xs) (element_field ∷ [])) (flat_map (in_bytes 8) xs)
block-passes [] are after at more = passes-nil after at more
block-passes (x ∷ xs) are after at more =
    ap (λ (b : List ℕ). first_fault (times (length (x ∷ xs)) (element_field ∷ []) ++ after) at (b ++ more)) (flat_map-cons (in_bytes 8) x xs)
    ∙ passes-join (element_field ∷ []) (times (length xs) (element_field ∷ [])) (in_bytes 8 x) (flat_map (in_bytes 8) xs)
    (passes-one element_field (in_bytes 8 x) (λ rest. element-there x rest (All-head (λ y. IsTrue (is_element y)) x xs are)))
    (block-passes xs (All-tail (λ y. IsTrue (is_element y)) x xs are)) after at more
    ∙ ap (λ (b : List ℕ). first_fault after (at + length b) more) (sym (flat_map-cons (in_bytes 8) x xs))

-- ---- queries

-- a query of a kind that is built, which fits, passes the test
fits_so : (depth : ℕ) (query : Query) → IsTrue (is_built query) → Fits depth query → fits_at depth query ≡ true
fits_so depth (queries.Sub lo hi) built fit = grind (arith, nat_tests)
fits_so depth (queries.Range side lo hi) built fit = grind (arith, nat_tests)
fits_so depth (queries.F2 side) built fit = refl
fits_so depth queries.Inner built fit = refl
fits_so depth (queries.Heavy side at_least) built fit = grind (arith, nat_tests)
fits_so depth (queries.Share side num den) built fit = grind (arith, nat_tests)
fits_so depth (queries.Above side at_least) built fit = absurd cc

pub fits_at-true : (depth : ℕ) (query : Query) → CanBeAsked depth query → fits_at depth query ≡ true
fits_at-true depth query can = fits_so depth query can.0 can.1

-- and one that passes it is such a query
pub fits_at-fits : (depth : ℕ) (query : Query) → fits_at depth query ≡ true → CanBeAsked depth query
fits_at-fits depth (queries.Sub lo hi) is = (refl, grind (arith, nat_tests))
fits_at-fits depth (queries.Range side lo hi) is = (refl, grind (arith, nat_tests))
fits_at-fits depth (queries.F2 side) is = (refl, tt)
fits_at-fits depth queries.Inner is = (refl, tt)
fits_at-fits depth (queries.Heavy side at_least) is = (refl, grind (arith, nat_tests))
fits_at-fits depth (queries.Share side num den) is = (refl, grind (arith, nat_tests))
fits_at-fits depth (queries.Above side at_least) is = absurd cc

-- a query that has a spelling has a code
pub has_code : (version : Version) (query : Query) → IsTrue (fits version (messages.Query query)) → IsTrue (speaks version query)
unfolding fits
has_code Two query fit = refl
has_code One (queries.Sub lo hi) fit = refl
has_code One (queries.Range side lo hi) fit = refl
has_code One (queries.F2 side) fit = refl
has_code One queries.Inner fit = refl
has_code One (queries.Heavy side at_least) fit = refl
has_code One (queries.Share side num den) fit = absurd (let no : false ≡ true = fit in cc)
has_code One (queries.Above side at_least) fit = absurd (let no : false ≡ true = fit in cc)

-- what the field of a query answers by the query that is read
abbrev pub by_query : Version → Option Query → Option ℕ
by_query version found = elim found [ Some query ↦ Some (length (spelling version (messages.Query query))) | None ↦ None ]

-- the query that a test lets through
abbrev pub by_fit : Query → Bool → Option Query
by_fit query passes = cond passes (Some query) None

-- the frame of a query that fits is there
pub query-there : (version : Version) (depth : ℕ) (query : Query) (more : List ℕ) → IsTrue (fits version (messages.Query query)) → CanBeAsked depth query
    → query_field version depth (spelling version (messages.Query query) ++ more) ≡ Some (length (spelling version (messages.Query query)))
query-there version depth query more spelled fit =
    ap (λ (r : Result (Message × List ℕ) WireFault). by_query version (asked_at depth r)) (read_frame-spelling version ToHelper (messages.Query query) more spelled refl tt)
    ∙ ap (λ (b : Bool). by_query version (by_fit query b)) (fits_at-true depth query fit)

-- ---- asks

-- a query and its challenges are there
pub ask-passes : (version : Version) (depth : ℕ) (ask : Ask) → IsAsk version depth ask → Passes (ask_fields version depth) (ask_bytes version ask.0 ask.1)
unfolding ask_bytes
ask-passes version depth ask is after at more =
    let q = ask.0 in
    let frame = spelling version (messages.Query q) in
    let spelled = query-fits version depth q is.speaks is.fits.1 in
    ap (λ (n : ℕ). first_fault ((query_field version depth ∷ times n (element_field ∷ [])) ++ after) at ((frame ++ flat_map (in_bytes 8) ask.1) ++ more)) (sym is.levels)
    ∙ passes-join (query_field version depth ∷ []) (times (length ask.1) (element_field ∷ [])) frame (flat_map (in_bytes 8) ask.1)
    (passes-one (query_field version depth) frame (λ rest. query-there version depth q rest spelled is.fits))
    (block-passes ask.1 is.elements) after at more

-- queries with their challenges are there
pub asks-pass : (version : Version) (depth : ℕ) (asks : List Ask) → All (IsAsk version depth) asks → Passes (times (length asks) (ask_fields version depth)) (flat_map (λ ask. ask_bytes version ask.0 ask.1) asks)
asks-pass version depth [] are after at more = passes-nil after at more
asks-pass version depth (ask ∷ asks) are after at more =
    let f = λ (x : Ask). ask_bytes version x.0 x.1 in
    ap (λ (b : List ℕ). first_fault (times (length (ask ∷ asks)) (ask_fields version depth) ++ after) at (b ++ more)) (flat_map-cons f ask asks)
    ∙ passes-join (ask_fields version depth) (times (length asks) (ask_fields version depth)) (f ask) (flat_map f asks)
    (ask-passes version depth ask (All-head (IsAsk version depth) ask asks are))
    (asks-pass version depth asks (All-tail (IsAsk version depth) ask asks are)) after at more
    ∙ ap (λ (b : List ℕ). first_fault after (at + length b) more) (sym (flat_map-cons f ask asks))
