-- A head that is read, field by field.
use Rattle.std.proofs.Common.{◌≡◌, ℕ, ◌+◌, ◌*◌, ◌<◌, ◌≤◌, Bool, true, Option, Some, None, List, [], ◌∷◌, ◌++◌, length, map, drop, refl, sym, ap, subst, ◌∙◌, arith, append_assoc, length-append}
use Rattle.std.proofs.KnownBytes.{Consumes-nil, Consumes-trans}
use Rattle.std.specs.Prelude.{IsTrue, All}
use Rattle.std.specs.Io.KnownBytes.{Consumes}
use Rattle.std.specs.List.{flat_map}
use Rattle.std.proofs.Math.Nat.{mul_comm, mul-le-mul_right}
use Rattle.std.proofs.lemmas.List.{append-nil, flat_map_more, map-append}
use Rattle.std.proofs.lemmas.List.Elements.{All-nil, All-cons, All-append}
use Rattle.sip_vector.specs.declared.query.Query.{Query}
use Rattle.sip_wire.specs.declared.message.Message.TheVariants as messages
use Rattle.sip_wire.specs.declared.version.Version.{Version}
use Rattle.sip_wire.specs.declared.version.Version.TheVariants.{One, Two}
use Rattle.sip_wire.specs.Spelling.{fits, in_bytes, spelling}
use Rattle.sip_wire.specs.Table.{is_element, most_queries}
use Rattle.sip_wire.specs.Transcript.{magic, head_bytes, ask_bytes, transcript}
use Rattle.sip_wire.specs.Versions.{deepest, number_of}
use Rattle.sip_wire.proofs.Asking.{query-fits, query-length}
use Rattle.sip_stream.proofs.RecordsRead.{came_front}
use Rattle.sip_transcript.specs.declared.head.Head.{Head}
use Rattle.sip_transcript.specs.declared.fault.HeadFault.{HeadFault}
use Rattle.sip_transcript.specs.declared.fault.HeadFault.TheVariants as faults
use Rattle.sip_transcript.specs.Fields.{Field, FailsAt, Passes, ask_fields, byte_field, element_field, first_fault, head_fault, head_fields, is_count, is_depth, is_version, query_field, text_field, times, version_of}
use Rattle.sip_verifier.specs.Exchanges.{TakesAtMost}
use Rattle.sip_transcript.specs.Heads.{Ask, IsAsk, IsRun, Says, longest_field}
use Rattle.sip_transcript.specs.Parts.{FailsIn, MayAsk, TakesAsk, TakesBlock}
use Rattle.sip_transcript.proofs.Passing.{asks-pass, block-passes, by_field, fails-among, fails-before, fails-behind, fails-one, has_code, length-block, passes-one, query-there}
use Rattle.sip_transcript.proofs.Taking.{takes-most}

-- ---- challenges

-- an element
abbrev IsElement : ℕ → Type 0
IsElement x = IsTrue (is_element x)

-- none yet
pub block-nil : (o : Option (List ℕ)) (before : List ℕ) → TakesBlock 0 o o before before
block-nil o before = record { block = []; longer = sym (append-nil before); levels = refl; elements = All-nil IsElement; taken = Consumes-nil o }

-- one more
pub block-more : (k x : ℕ) (o m n : Option (List ℕ)) (before mid after : List ℕ) → TakesBlock k o m before mid → IsTrue (is_element x) → Consumes m n (in_bytes 8 x) → after ≡ mid ++ x ∷ [] → TakesBlock (k + 1) o n before after
block-more k x o m n before mid after took is taken e = record {
  block = took.block ++ x ∷ [];
  longer = e ∙ ap (λ (l : List ℕ). l ++ x ∷ []) took.longer ∙ append_assoc before took.block (x ∷ []);
  levels = omega (arith, length-append took.block (x ∷ []), took.levels);
  elements = All-append IsElement took.block (x ∷ []) took.elements (All-cons IsElement x [] is (All-nil IsElement));
  taken = subst (λ (l : List ℕ). Consumes o n l) (flat_map_more (in_bytes 8) [] took.block x) (Consumes-trans o m n (flat_map (in_bytes 8) took.block) (in_bytes 8 x) took.taken taken);
}

-- one that is not there
pub block-fails : (k count from : ℕ) (o m n : Option (List ℕ)) (before mid : List ℕ) → TakesBlock k o m before mid → k < count → TakesAtMost longest_field m n → ((bytes : List ℕ) → m ≡ Some bytes → element_field bytes ≡ None)
    → FailsIn (times count (element_field ∷ [])) from o n (faults.Bad (from + 8 * k))
block-fails k count from o m n before mid took lt few none =
    let got = flat_map (in_bytes 8) took.block in (
      length got + 0,
      omega (arith, length-block took.block, took.levels),
      takes-most o m n got longest_field ((length got + 0) + longest_field) took.taken few (omega arith),
      λ bytes told.
          let front = came_front o m bytes got told took.taken in
          let passes = subst (λ (j : ℕ). Passes (times j (element_field ∷ [])) got) took.levels (block-passes took.block took.elements) in
          let fails = fails-among k count (element_field ∷ []) got front.0 0 lt passes (fails-one element_field front.0 (none front.0 front.1)) in
          subst (λ (b : List ℕ). FailsAt (times count (element_field ∷ [])) b (length got + 0)) (sym front.2) fails,
    )

-- ---- a query with its challenges

-- the query and its challenges were taken
pub ask-taken : (size : ℕ) (query : Query) (o m n : Option (List ℕ)) (before after : Head) → before.depth ≤ deepest before.version → MayAsk before.version before.depth (query, size) → Consumes o m (spelling before.version (messages.Query query))
    → TakesBlock before.depth m n before.challenges.items after.challenges.items → after.version ≡ before.version → after.depth ≡ before.depth → after.queries.items ≡ before.queries.items ++ query ∷ []
    → after.length ≡ (before.length + size) + 8 * before.depth → TakesAsk o n before after
unfolding ask_bytes
ask-taken size query o m n before after shallow may taken block version depth queries long = record {
  ask = (query, block.block);
  is_ask = record {
    fits = may.1;
    speaks = record { shallow = shallow; has_code = has_code before.version query may.0 };
    levels = block.levels;
    elements = block.elements;
  };
  version = version;
  depth = depth;
  queries = queries;
  challenges = block.longer;
  size = omega (arith, long, may.2, length-append (spelling before.version (messages.Query query)) (flat_map (in_bytes 8) block.block), length-block block.block, block.levels);
  taken = Consumes-trans o m n (spelling before.version (messages.Query query)) (flat_map (in_bytes 8) block.block) taken block.taken;
}

-- the query is not there
pub ask-fails : (version : Version) (depth from : ℕ) (o n : Option (List ℕ)) → TakesAtMost longest_field o n → ((bytes : List ℕ) → o ≡ Some bytes → query_field version depth bytes ≡ None) → FailsIn (ask_fields version depth) from o n (faults.Bad from)
ask-fails version depth from o n few none = (
  0,
  (let e : from ≡ from + 0 = omega arith in e),
  few,
  λ bytes told. fails-before (query_field version depth ∷ []) (times depth (element_field ∷ [])) bytes 0 (fails-one (query_field version depth) bytes (none bytes told)),
)

-- the query is there, and a challenge is not
pub ask-fails-behind : (version : Version) (depth size from : ℕ) (query : Query) (o m n : Option (List ℕ)) (fault : HeadFault) → MayAsk version depth (query, size) → Consumes o m (spelling version (messages.Query query))
    → FailsIn (times depth (element_field ∷ [])) (from + size) m n fault → FailsIn (ask_fields version depth) from o n fault
ask-fails-behind version depth size from query o m n (faults.Bad at) may taken fails =
    let frame = spelling version (messages.Query query) in (
      length frame + fails.0,
      omega (arith, fails.1, may.2),
      takes-most o m n frame (fails.0 + longest_field) ((length frame + fails.0) + longest_field) taken fails.2 (omega arith),
      λ bytes told.
          let front = came_front o m bytes frame told taken in
          let passes = passes-one (query_field version depth) frame (λ more. query-there version depth query more may.0 may.1) in
          subst (λ (b : List ℕ). FailsAt (ask_fields version depth) b (length frame + fails.0)) (sym front.2)
          (fails-behind (query_field version depth ∷ []) (times depth (element_field ∷ [])) frame front.0 fails.0 passes (fails.3 front.0 front.1)),
    )
ask-fails-behind version depth size from query o m n faults.ReadFault may taken fails = tt
ask-fails-behind version depth size from query o m n faults.OutOfMemory may taken fails = tt

-- a query with its challenges has 405 bytes at most
pub ask-length : (version : Version) (depth : ℕ) (ask : Ask) → depth ≤ 48 → IsAsk version depth ask → IsTrue (fits version (messages.Query ask.0)) → length (ask_bytes version ask.0 ask.1) ≤ 405
unfolding ask_bytes
ask-length version depth ask deep is fit =
    omega (arith, deep, length-append (spelling version (messages.Query ask.0)) (flat_map (in_bytes 8) ask.1), length-block ask.1, is.levels, query-length version ask.0 fit)

-- ---- the opening

-- the opening was taken
pub opening-taken : (version : Version) (depth count : ℕ) (a b d e f : Option (List ℕ)) → Consumes a b magic → Consumes b d (number_of version ∷ []) → Consumes d e (depth ∷ []) → Consumes e f (count ∷ [])
    → Consumes a f (head_bytes version depth count)
opening-taken version depth count a b d e f p q r s =
    Consumes-trans a e f (magic ++ number_of version ∷ depth ∷ []) (count ∷ []) (Consumes-trans a d e (magic ++ number_of version ∷ []) (depth ∷ []) (Consumes-trans a b d magic (number_of version ∷ []) p q) r) s

-- no magic
pub no-magic : (o : Option (List ℕ)) → ((bytes : List ℕ) → o ≡ Some bytes → text_field magic bytes ≡ None) → (bytes : List ℕ) → o ≡ Some bytes → head_fault bytes ≡ Some 0
unfolding head_fault
no-magic o none bytes told = fails-one (text_field magic) bytes (none bytes told) (drop 1 (head_fields bytes)) 0

-- no version
pub no-version : (o a : Option (List ℕ)) → Consumes o a magic → ((bytes : List ℕ) → a ≡ Some bytes → byte_field is_version bytes ≡ None) → (bytes : List ℕ) → o ≡ Some bytes → head_fault bytes ≡ Some 4
unfolding head_fault
no-version o a taken none bytes told =
    let front = came_front o a bytes magic told taken in
    let whole = magic ++ front.0 in
    ap head_fault front.2 ∙ ap (λ (x : Option ℕ). by_field x (drop 2 (head_fields whole)) 4 front.0) (none front.0 front.1)

-- the version that a version's number stands for
version-back : (version : Version) → version_of (number_of version) ≡ version
version-back One = refl
version-back Two = refl

-- no depth
depth-fails : (version : Version) (rest : List ℕ) → byte_field (is_depth version) rest ≡ None → head_fault (magic ++ number_of version ∷ rest) ≡ Some 5
unfolding head_fault
depth-fails One rest none = ap (λ (x : Option ℕ). by_field x (drop 3 (head_fields (magic ++ 1 ∷ rest))) 5 rest) none
depth-fails Two rest none = ap (λ (x : Option ℕ). by_field x (drop 3 (head_fields (magic ++ 2 ∷ rest))) 5 rest) none

pub no-depth : (version : Version) (o a b : Option (List ℕ)) → Consumes o a magic → Consumes a b (number_of version ∷ []) → ((bytes : List ℕ) → b ≡ Some bytes → byte_field (is_depth version) bytes ≡ None)
    → (bytes : List ℕ) → o ≡ Some bytes → head_fault bytes ≡ Some 5
no-depth version o a b p q none bytes told =
    let front = came_front o b bytes (magic ++ number_of version ∷ []) told (Consumes-trans o a b magic (number_of version ∷ []) p q) in
    ap head_fault front.2 ∙ depth-fails version front.0 (none front.0 front.1)

-- a byte that passes its test
byte-there : (test : ℕ → Bool) (b : ℕ) (rest : List ℕ) → test b ≡ true → byte_field test (b ∷ rest) ≡ Some 1
byte-there test b rest is = rw is refl

-- no number of queries
count-fails : (version : Version) (depth : ℕ) (rest : List ℕ) → is_depth version depth ≡ true → byte_field is_count rest ≡ None → head_fault (magic ++ number_of version ∷ depth ∷ rest) ≡ Some 6
unfolding head_fault
count-fails One depth rest is none =
    ap (λ (x : Option ℕ). by_field x (drop 3 (head_fields (magic ++ 1 ∷ depth ∷ rest))) 5 (depth ∷ rest)) (byte-there (is_depth One) depth rest is)
    ∙ ap (λ (x : Option ℕ). by_field x (drop 4 (head_fields (magic ++ 1 ∷ depth ∷ rest))) 6 rest) none
count-fails Two depth rest is none =
    ap (λ (x : Option ℕ). by_field x (drop 3 (head_fields (magic ++ 2 ∷ depth ∷ rest))) 5 (depth ∷ rest)) (byte-there (is_depth Two) depth rest is)
    ∙ ap (λ (x : Option ℕ). by_field x (drop 4 (head_fields (magic ++ 2 ∷ depth ∷ rest))) 6 rest) none

pub no-count : (version : Version) (depth : ℕ) (o a b d : Option (List ℕ)) → Consumes o a magic → Consumes a b (number_of version ∷ []) → Consumes b d (depth ∷ []) → IsTrue (is_depth version depth)
    → ((bytes : List ℕ) → d ≡ Some bytes → byte_field is_count bytes ≡ None) → (bytes : List ℕ) → o ≡ Some bytes → head_fault bytes ≡ Some 6
no-count version depth o a b d p q r is none bytes told =
    let front = came_front o d bytes (magic ++ number_of version ∷ depth ∷ []) told (Consumes-trans o b d (magic ++ number_of version ∷ []) (depth ∷ []) (Consumes-trans o a b magic (number_of version ∷ []) p q) r) in
    ap head_fault front.2 ∙ count-fails version depth front.0 is (none front.0 front.1)

-- behind the opening come the queries
pub opening-passes : (version : Version) (depth count : ℕ) (rest : List ℕ) → IsTrue (is_depth version depth) → IsTrue (is_count count)
    → head_fault (head_bytes version depth count ++ rest) ≡ first_fault (times count (ask_fields version depth)) 7 rest
unfolding head_fault
opening-passes One depth count rest deep some =
    ap (λ (x : Option ℕ). by_field x (drop 3 (head_fields (magic ++ 1 ∷ depth ∷ count ∷ rest))) 5 (depth ∷ count ∷ rest)) (byte-there (is_depth One) depth (count ∷ rest) deep)
    ∙ ap (λ (x : Option ℕ). by_field x (drop 4 (head_fields (magic ++ 1 ∷ depth ∷ count ∷ rest))) 6 (count ∷ rest)) (byte-there is_count count rest some)
opening-passes Two depth count rest deep some =
    ap (λ (x : Option ℕ). by_field x (drop 3 (head_fields (magic ++ 2 ∷ depth ∷ count ∷ rest))) 5 (depth ∷ count ∷ rest)) (byte-there (is_depth Two) depth (count ∷ rest) deep)
    ∙ ap (λ (x : Option ℕ). by_field x (drop 4 (head_fields (magic ++ 2 ∷ depth ∷ count ∷ rest))) 6 (count ∷ rest)) (byte-there is_count count rest some)

-- ---- queries, one after the other

-- the bytes of a query with its challenges
abbrev pub bytes_of : Version → Ask → List ℕ
bytes_of version ask = ask_bytes version ask.0 ask.1

-- so many queries were read, of those that the opening says
pub record IsBegun (version : Version) (depth count k : ℕ) (old new : Option (List ℕ)) (head : Head) : Type 0 where
  pub asks : List Ask
  pub long : length asks ≡ k
  pub each : All (IsAsk version depth) asks
  pub version_is : head.version ≡ version
  pub depth_is : head.depth ≡ depth
  pub queries : head.queries.items ≡ map (λ ask. ask.0) asks
  pub challenges : head.challenges.items ≡ flat_map (λ ask. ask.1) asks
  pub room : length head.challenges.items ≡ depth * k
  pub size : head.length ≡ 7 + length (flat_map (bytes_of version) asks)
  pub near : head.length ≤ 7 + 405 * k
  pub taken : Consumes old new (head_bytes version depth count ++ flat_map (bytes_of version) asks)

-- none yet
pub begun-nil : (count : ℕ) (old new : Option (List ℕ)) (head : Head) → head.queries.items ≡ [] → head.challenges.items ≡ [] → head.length ≡ 7 → Consumes old new (head_bytes head.version head.depth count)
    → IsBegun head.version head.depth count 0 old new head
begun-nil count old new head queries challenges size taken = record {
  asks = [];
  long = refl;
  each = All-nil (IsAsk head.version head.depth);
  version_is = refl;
  depth_is = refl;
  queries = queries;
  challenges = challenges;
  room = omega (arith, ap length challenges);
  size = size;
  near = omega (arith, size);
  taken = subst (λ (l : List ℕ). Consumes old new l) (sym (append-nil (head_bytes head.version head.depth count))) taken;
}

-- one more
pub begun-more : (version : Version) (depth count k : ℕ) (o m n : Option (List ℕ)) (head after : Head) → depth ≤ 48 → IsBegun version depth count k o m head → TakesAsk m n head after → IsBegun version depth count (k + 1) o n after
begun-more version depth count k o m n head after deep begun took = record {
  asks = begun.asks ++ took.ask ∷ [];
  long = omega (arith, length-append begun.asks (took.ask ∷ []), begun.long);
  each = All-append (IsAsk version depth) begun.asks (took.ask ∷ []) begun.each (All-cons (IsAsk version depth) took.ask [] is (All-nil (IsAsk version depth)));
  version_is = took.version ∙ begun.version_is;
  depth_is = took.depth ∙ begun.depth_is;
  queries = took.queries ∙ ap (λ (l : List Query). l ++ took.ask.0 ∷ []) begun.queries ∙ sym (map-append (λ (x : Ask). x.0) begun.asks (took.ask ∷ []));
  challenges = took.challenges ∙ ap (λ (l : List ℕ). l ++ took.ask.1) begun.challenges ∙ flat_map_more (λ (x : Ask). x.1) [] begun.asks took.ask;
  room = ap length took.challenges ∙ omega (arith, length-append head.challenges.items took.ask.1, begun.room, is.levels);
  size = omega (arith, long, begun.size, ap length (flat_map_more (bytes_of version) [] begun.asks took.ask), length-append (flat_map (bytes_of version) begun.asks) (bytes_of version took.ask));
  near = omega (arith, long, begun.near, ask-length version depth took.ask deep is (query-fits version depth took.ask.0 is.speaks is.fits.1));
  taken = subst (λ (l : List ℕ). Consumes o n l) (flat_map_more (bytes_of version) (head_bytes version depth count) begun.asks took.ask)
      (Consumes-trans o m n (head_bytes version depth count ++ flat_map (bytes_of version) begun.asks) (bytes_of version took.ask) begun.taken taken);
}
  where
    is : IsAsk version depth took.ask
    is = subst (λ (d : ℕ). IsAsk version d took.ask) begun.depth_is (subst (λ (v : Version). IsAsk v head.depth took.ask) begun.version_is took.is_ask)

    long : after.length ≡ head.length + length (bytes_of version took.ask)
    long = took.size ∙ ap (λ (v : Version). head.length + length (bytes_of v took.ask)) begun.version_is

    taken : Consumes m n (bytes_of version took.ask)
    taken = subst (λ (v : Version). Consumes m n (bytes_of v took.ask)) begun.version_is took.taken

-- all of them
pub begun-whole : (version : Version) (depth count : ℕ) (o n : Option (List ℕ)) (head : Head) → IsTrue (is_depth version depth) → IsTrue (is_count count) → 1 ≤ depth → depth ≤ deepest version → 1 ≤ count → count ≤ most_queries
    → IsBegun version depth count count o n head → (asks : List Ask) × Says head asks × Consumes o n (transcript head.version head.depth asks [])
begun-whole version depth count o n head deep some deepest_is shallow least most begun = (
  begun.asks,
  record {
    is_run = at_head (λ (v : Version) (d : ℕ). IsRun v d begun.asks) (record { deep = deepest_is; shallow = shallow; some = omega (arith, least, begun.long); most = omega (arith, most, begun.long); each = begun.each });
    queries = begun.queries;
    challenges = begun.challenges;
    size = begun.size ∙ omega (arith, length-append (head_bytes version depth count) (flat_map (bytes_of version) begun.asks), ap length whole);
  },
  at_head (λ (v : Version) (d : ℕ). Consumes o n (transcript v d begun.asks [])) (subst (λ (l : List ℕ). Consumes o n l) whole_here begun.taken),
)
  where
    at_head : (P : Version → ℕ → Type 0) → P version depth → P head.version head.depth
    at_head P p = subst (λ (d : ℕ). P head.version d) (sym begun.depth_is) (subst (λ (v : Version). P v depth) (sym begun.version_is) p)

    whole_here : head_bytes version depth count ++ flat_map (bytes_of version) begun.asks ≡ transcript version depth begun.asks []
    whole_here = ap (λ (k : ℕ). head_bytes version depth k ++ flat_map (bytes_of version) begun.asks) (sym begun.long) ∙ sym (append-nil (head_bytes version depth (length begun.asks) ++ flat_map (bytes_of version) begun.asks))

    whole : head_bytes version depth count ++ flat_map (bytes_of version) begun.asks ≡ transcript head.version head.depth begun.asks []
    whole = whole_here ∙ ap (λ (v : Version). transcript v depth begun.asks []) (sym begun.version_is) ∙ ap (λ (d : ℕ). transcript head.version d begun.asks []) (sym begun.depth_is)

-- one that is not there
pub begun-fails : (version : Version) (depth count k at : ℕ) (o m n : Option (List ℕ)) (head : Head) → IsTrue (is_depth version depth) → IsTrue (is_count count) → IsBegun version depth count k o m head → k < count
    → FailsIn (ask_fields head.version head.depth) head.length m n (faults.Bad at) → TakesAtMost (at + longest_field) o n × ((bytes : List ℕ) → o ≡ Some bytes → head_fault bytes ≡ Some at)
begun-fails version depth count k at o m n head deep some begun lt fails = (
  takes-most o m n (opening ++ got) (fails.0 + longest_field) (at + longest_field) begun.taken fails.2 (omega (arith, fails.1, begun.size, length-append opening got)),
  λ bytes told.
      let front = came_front o m bytes (opening ++ got) told begun.taken in
      let fails_here = fails.3 front.0 front.1 in
      let failing : FailsAt fs front.0 fails.0 = subst (λ (d : ℕ). FailsAt (ask_fields version d) front.0 fails.0) begun.depth_is (subst (λ (v : Version). FailsAt (ask_fields v head.depth) front.0 fails.0) begun.version_is fails_here) in
      ap head_fault (front.2 ∙ append_assoc opening got front.0)
      ∙ opening-passes version depth count (got ++ front.0) deep some
      ∙ ap (λ (l : List Field). first_fault l 7 (got ++ front.0)) (sym (append-nil (times count fs)))
      ∙ fails-among k count fs got front.0 fails.0 lt passes failing [] 7
      ∙ ap (λ (j : ℕ). Some j) (let e : 7 + (length got + fails.0) ≡ at = omega (arith, fails.1, begun.size) in e),
)
  where
    opening : List ℕ
    opening = head_bytes version depth count

    got : List ℕ
    got = flat_map (bytes_of version) begun.asks

    fs : List Field
    fs = ask_fields version depth

    passes : Passes (times k fs) got
    passes = subst (λ (j : ℕ). Passes (times j fs) got) begun.long (asks-pass version depth begun.asks begun.each)

-- ---- the law

-- a run's transcript begins with a head that has no fault
pub run-has_no_fault : (version : Version) (depth : ℕ) (asks : List Ask) (replies : List ℕ) → IsTrue (is_depth version depth) → IsTrue (is_count (length asks)) → All (IsAsk version depth) asks
    → head_fault (transcript version depth asks replies) ≡ None
run-has_no_fault version depth asks replies deep some each =
    let opening = head_bytes version depth (length asks) in
    let got = flat_map (bytes_of version) asks in
    let fs = ask_fields version depth in
    ap head_fault (append_assoc opening got replies)
    ∙ opening-passes version depth (length asks) (got ++ replies) deep some
    ∙ ap (λ (l : List Field). first_fault l 7 (got ++ replies)) (sym (append-nil (times (length asks) fs)))
    ∙ asks-pass version depth asks each [] 7 replies

-- ---- the loop

-- none yet, of those that were read
pub begun-start : (count : ℕ) (old new : Option (List ℕ)) (head : Head) → head.queries.items ≡ [] → head.challenges.items ≡ [] → head.length ≡ 7 → Consumes old new (head_bytes head.version head.depth count)
    → IsBegun head.version head.depth count (length head.queries.items) old new head
begun-start count old new head queries challenges size taken =
    subst (λ (k : ℕ). IsBegun head.version head.depth count k old new head) (sym (ap length queries)) (begun-nil count old new head queries challenges size taken)

-- one more than were read
pub begun-next : (count : ℕ) (o m n : Option (List ℕ)) (head after : Head) → head.depth ≤ 48 → IsBegun head.version head.depth count (length head.queries.items) o m head → TakesAsk m n head after
    → IsBegun after.version after.depth count (length after.queries.items) o n after
begun-next count o m n head after deep begun took =
    let k = length head.queries.items in
    let more = begun-more head.version head.depth count k o m n head after deep begun took in
    let long : k + 1 ≡ length after.queries.items = omega (arith, ap length took.queries, length-append head.queries.items (took.ask.0 ∷ [])) in
    subst (λ (j : ℕ). IsBegun after.version after.depth count j o n after) long
    (subst (λ (d : ℕ). IsBegun after.version d count (k + 1) o n after) (sym took.depth)
    (subst (λ (v : Version). IsBegun v head.depth count (k + 1) o n after) (sym took.version) more))

-- there is room for the challenges of one more
pub room-left : (depth k : ℕ) → depth ≤ 48 → k < 16 → depth * k + depth ≤ 768
room-left depth k deep lt =
    let most : k * depth ≤ 15 * depth = mul-le-mul_right depth (omega arith) in
    omega (arith, deep, most, mul_comm depth k)
