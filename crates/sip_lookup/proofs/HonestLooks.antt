-- A lookup that heard honest bytes: where it was accepted its answer is the stream's own, and it
-- has no fault.
use Rattle.std.proofs.Common.{◌≡◌, ◌≢◌, ℕ, ◌^◌, ◌<◌, ◌≤◌, Bool, true, false, ℤ, List, [], ◌∷◌, ◌++◌, length, Option, Some, None, Result, Ok, Err, if◌then◌else◌, inl, inr, refl, sym, ap, subst, ◌∙◌, arith, append_assoc}
use Rattle.std.specs.Prelude.{flat_map, IfSome}
use Rattle.std.proofs.Math.Nat.{pow-le-pow_right}
use Rattle.std.proofs.lemmas.Bool.{and_parts, both_ways, eqb-true, leb-true, ltb-true}
use Rattle.sip_field.specs.Moduli.{m61_modulus}
use Rattle.sip_ports.specs.declared.port.TalkEvent.{TalkEvent}
use Rattle.sip_ports.specs.Ports.{heard, ins}
use Rattle.sip_ports.proofs.TalkLemmas.{heard-append, heard-ins}
use Rattle.sip_vector.specs.declared.query.Query.TheVariants.{Sub}
use Rattle.sip_vector.specs.declared.update.Entry.{Entry}
use Rattle.sip_vector.specs.declared.update.Side.TheVariants.{First}
use Rattle.sip_vector.specs.declared.update.Update.{Update}
use Rattle.sip_vector.specs.Answers.{pairs}
use Rattle.sip_vector.specs.Limits.{most_depth}
use Rattle.sip_vector.specs.Steps.{◌>>=◌}
use Rattle.sip_vector.specs.Streams.{IsLegal, vector}
use Rattle.sip_vector.specs.Vectors.{nonzero_within}
use Rattle.sip_vector.proofs.Sides.{length-vector}
use Rattle.sip_wire.specs.declared.kind.Place.TheVariants as places
use Rattle.sip_wire.specs.declared.message.Message.{Message}
use Rattle.sip_wire.specs.declared.message.Message.TheVariants as messages
use Rattle.sip_wire.specs.declared.message.Reason.{Reason}
use Rattle.sip_wire.specs.declared.message.Reason.TheVariants as reasons
use Rattle.sip_wire.specs.declared.message.WireFault.{WireFault}
use Rattle.sip_wire.specs.declared.version.Version.{Version}
use Rattle.sip_wire.specs.declared.version.Version.TheVariants.{One, Two}
use Rattle.sip_wire.specs.Reading.{read_frame}
use Rattle.sip_wire.specs.Spelling.{spelling}
use Rattle.sip_wire.specs.Versions.{Speaks, deepest}
use Rattle.sip_wire.proofs.ReadingLaws.{read_frame-append, read_frame-append_fault, read_frame-spelling}
use Rattle.sip_replies.specs.Protocols.{Protocol}
use Rattle.sip_replies.specs.Replies as general
use Rattle.sip_replies.specs.Replies.{Fault, IsStated, joined, reason_of, reasoned}
use Rattle.sip_replies.specs.Talks.{asked}
use Rattle.sip_replies.proofs.Hearing.{after_sent, heard-asked}
use Rattle.sip_subvec.specs.AcceptsSub.{Stated}
use Rattle.sip_subvec.specs.Honest.{CanBeShown, honest_replies}
use Rattle.sip_subvec.proofs.HonestLaws.{shown_accepted}
use Rattle.sip_subvec.proofs.HonestStreams.{legal_shown}
use Rattle.sip_verifier.proofs.Blocks.{IsBlock}
use Rattle.sip_verifier.proofs.HonestReplies as replies
use Rattle.sip_lookup.specs.AcceptsLook.{parts}
use Rattle.sip_lookup.specs.Frames.{ask_message, found_in, found_message, read_found}
use Rattle.sip_lookup.specs.Honest.{behind, honesty}
use Rattle.sip_lookup.specs.Lookups.{CanLook, Looked, are_alone, honest_found, is_possible, item_of, near, range_of, stated_answer}
use Rattle.sip_lookup.specs.Questions.{Accepts, IsBehindFound, IsFaulty, IsFoundBad, IsFoundFaulty, Question, protocol_at, said_back, said_behind, said_for}
use Rattle.sip_lookup.specs.declared.lookup.Lookup.{Lookup}
use Rattle.sip_lookup.specs.declared.lookup.Lookup.TheVariants.{Index, Pred, Succ}
use Rattle.sip_lookup.proofs.FoundFits.{none_fits, some_fits}
use Rattle.sip_lookup.proofs.FoundFrames.{found_more}
use Rattle.sip_lookup.proofs.HonestPlaces.{IsProved, place_proved}
use Rattle.sip_lookup.proofs.NearEntries.{alone_is_near, range_fits}

-- ---- a Found and what follows it

-- the message for a place that a frame has room for is read as that place
found_reads : (version : Version) (found : Option ℕ) (rest : List ℕ)
    → IfSome found (λ j. j < 2 ^ 64)
    → read_found version (spelling version (found_message found) ++ rest) ≡ Ok (found, rest)
unfolding read_found
found_reads version None rest below =
    ap (λ (r : Result (Message × List ℕ) WireFault). reasoned r >>= λ frame.
    (found_in frame.0 >>= λ place. Ok (place, frame.1)))
    (read_frame-spelling version places.Found (messages.Found 0 0) rest (none_fits version) refl tt)
found_reads version (Some j) rest below =
    ap (λ (r : Result (Message × List ℕ) WireFault). reasoned r >>= λ frame.
    (found_in frame.0 >>= λ place. Ok (place, frame.1)))
    (read_frame-spelling version places.Found (messages.Found 1 j) rest
    (some_fits version j below) refl tt)

-- a fault of a Found stays, whatever follows
fault_stays : (version : Version) (bytes more : List ℕ) (reason : Reason)
    → read_found version bytes ≡ Err reason → reason ≢ reasons.Closed
    → read_found version (bytes ++ more) ≡ Err reason
unfolding read_found
fault_stays version bytes more reason e other =
    by_reading (read_frame version places.Found bytes) e refl
  where
    says : Result (Message × List ℕ) WireFault → Result (Option ℕ × List ℕ) Reason
    says r = reasoned r >>= λ frame. (found_in frame.0 >>= λ place. Ok (place, frame.1))

    by_place : (place : Result (Option ℕ) Reason) (rest next : List ℕ)
        → ◌>>=◌ {B = Option ℕ × List ℕ} place (λ found. Ok (found, rest)) ≡ Err reason
        → ◌>>=◌ {B = Option ℕ × List ℕ} place (λ found. Ok (found, next)) ≡ Err reason
    by_place (Ok found) rest next e = absurd cc
    by_place (Err x) rest next e = let same : x ≡ reason = cc in ap (λ (y : Reason). Err y) same

    by_reading : (r : Result (Message × List ℕ) WireFault) → says r ≡ Err reason
        → read_frame version places.Found bytes ≡ r
        → says (read_frame version places.Found (bytes ++ more)) ≡ Err reason
    by_reading (Err fault) e is =
        let same : reason_of fault ≡ reason = cc in
        ap says (read_frame-append_fault version places.Found bytes more fault is
        (λ closed. other (sym same ∙ ap reason_of closed))) ∙ e
    by_reading (Ok (m, after)) e is =
        ap says (read_frame-append version places.Found bytes more m after is)
        ∙ by_place (found_in m) after (after ++ more) e

-- what two readings of the same bytes give is the same
same_read : (x y : Option ℕ × List ℕ) (r : Result (Option ℕ × List ℕ) Reason) → r ≡ Ok x → r ≡ Ok y
    → (x.0 ≡ y.0) × (x.1 ≡ y.1)
same_read x y r e f =
    let both : ◌≡◌ {A = Result (Option ℕ × List ℕ) Reason} (Ok x) (Ok y) = sym e ∙ f in
    let same : x ≡ y = cc in
    (ap (λ (z : Option ℕ × List ℕ). z.0) same, ap (λ (z : Option ℕ × List ℕ). z.1) same)

not_both : (x : Option ℕ × List ℕ) (reason : Reason) (r : Result (Option ℕ × List ℕ) Reason)
    → r ≡ Ok x → r ≡ Err reason → ⊥
not_both x reason r e f =
    let both : ◌≡◌ {A = Result (Option ℕ × List ℕ) Reason} (Ok x) (Err reason) = sym e ∙ f in cc

-- a place that may be found is an item
possible_item : (d : ℕ) (l : Lookup) (found : Option ℕ) → item_of l < 2 ^ d
    → is_possible d l found ≡ true → IfSome found (λ j. j < 2 ^ d)
possible_item d (Index i) None item possible = absurd cc
possible_item d (Index i) (Some j) item possible =
    let same : j ≡ i = eqb-true j i possible in omega (arith, same, item)
possible_item d (Pred i) None item possible = tt
possible_item d (Pred i) (Some j) item possible = omega (arith, leb-true j i possible, item)
possible_item d (Succ i) None item possible = tt
possible_item d (Succ i) (Some j) item possible = ltb-true j (2 ^ d) (and_parts _ _ possible).1

item_room : (d : ℕ) (found : Option ℕ) → d ≤ most_depth → IfSome found (λ j. j < 2 ^ d)
    → IfSome found (λ j. j < 2 ^ 64)
item_room d None most below = tt
item_room d (Some j) most below =
    let powers : 2 ^ d ≤ 2 ^ 48 = pow-le-pow_right {n = 2} (omega arith) most in
    omega (arith, below)

-- a version has no greater depth
deepest-most : (version : Version) → deepest version ≤ most_depth
deepest-most One = omega arith
deepest-most Two = omega arith

-- a Found stands in front of the first of some replies
pub front_joined : (version : Version) (found : Option ℕ) (inner : List (List ℕ)) → 1 ≤ length inner
    → joined (behind version found inner) ≡ spelling version (found_message found) ++ joined inner
front_joined version found [] some = absurd (omega (arith, some))
front_joined version found (first ∷ more) some =
    append_assoc (spelling version (found_message found)) first (joined more)

-- ---- what is heard

same_parts : (x y : Option ℕ × List (List ℕ))
    → ◌≡◌ {A = Result (Option ℕ × List (List ℕ)) Reason} (Ok x) (Ok y) → (x.0 ≡ y.0) × (x.1 ≡ y.1)
same_parts x y e =
    let same : x ≡ y = cc in (
      ap (λ (z : Option ℕ × List (List ℕ)). z.0) same,
      ap (λ (z : Option ℕ × List (List ℕ)). z.1)
          same,
    )

-- where a Found came whole and its place may be found, it is heard and then the replies about its
-- interval
behind_heard : (version : Version) (depth : ℕ) (q : Question) (found : Option ℕ)
    (inner : List (List ℕ)) → parts version q.replies ≡ Ok (found, inner)
    → is_possible depth q.query found ≡ true → length inner ≤ length q.block
    → heard (said_for version depth q) ≡ spelling version (found_message found) ++ joined inner
behind_heard version depth q found inner split possible few =
    after_sent (flat_map (spelling version) (ask_message q.query ∷ []))
    (said_back version depth q q.replies) ∙ by_replies q.replies split
  where
    lo : ℕ
    lo = (range_of depth q.query found).0

    hi : ℕ
    hi = (range_of depth q.query found).1

    said : List TalkEvent
    said =
        ins (spelling version (found_message found)) ++ asked version
        (messages.Query (Sub lo hi)) q.block inner

    its : heard said ≡ spelling version (found_message found) ++ joined inner
    its =
        heard-append (ins (spelling version (found_message found)))
        (asked version (messages.Query (Sub lo hi)) q.block inner)
        ∙ ap (λ (l : List ℕ). l ++ heard (asked version (messages.Query (Sub lo hi)) q.block inner))
        (heard-ins (spelling version (found_message found)))
        ∙ ap (λ (l : List ℕ). spelling version (found_message found) ++ l)
        (heard-asked version (messages.Query (Sub lo hi)) q.block inner few)

    by_read : (first : List ℕ) (more : List (List ℕ)) (r : Result (Option ℕ × List ℕ) Reason)
        → ◌>>=◌ {B = Option ℕ × List (List ℕ)} r (λ x. Ok (x.0, x.1 ∷ more)) ≡ Ok (found, inner)
        → said_behind version depth q first more r ≡ said
    by_read first more (Err reason) e = absurd cc
    by_read first more (Ok x) e =
        let same = same_parts (x.0, x.1 ∷ more) (found, inner) e in
        let a = same.0 in
        let b = same.1 in
        let test : is_possible depth q.query x.0 ≡ true = ap (is_possible depth q.query) a
        ∙ possible in
        ap (λ (t : Bool). if t
        then ins (spelling version (found_message x.0)) ++ asked version
        (messages.Query (Sub (range_of depth q.query x.0).0 (range_of depth q.query x.0).1)) q.block
        (x.1 ∷ more)
        else ins first) test
        ∙ ap (λ (o : Option ℕ). ins (spelling version (found_message o)) ++ asked version
        (messages.Query (Sub (range_of depth q.query o).0 (range_of depth q.query o).1)) q.block
        (x.1 ∷ more)) a
        ∙ ap (λ (rs : List (List ℕ)). ins (spelling version (found_message found)) ++ asked version
        (messages.Query (Sub lo hi)) q.block rs) b

    by_replies : (rs : List (List ℕ)) → parts version rs ≡ Ok (found, inner)
        → heard (said_back version depth q rs) ≡ spelling version (found_message found)
        ++ joined inner
    by_replies [] e = absurd cc
    by_replies (first ∷ more) e = ap heard (by_read first more (read_found version first) e) ∙ its

-- where it has a fault it alone is heard
fault_heard : (version : Version) (depth : ℕ) (q : Question) (first : List ℕ) (reason : Reason)
    → q.replies ≡ first ∷ [] → read_found version first ≡ Err reason
    → heard (said_for version depth q) ≡ first
fault_heard version depth q first reason came says =
    after_sent (flat_map (spelling version) (ask_message q.query ∷ []))
    (said_back version depth q q.replies)
    ∙ ap (λ (rs : List (List ℕ)). heard (said_back version depth q rs)) came
    ∙ ap (λ (r : Result (Option ℕ × List ℕ) Reason). heard (said_behind version depth q first [] r))
    says
    ∙ heard-ins first

-- and so it is where its place may not be found
bad_heard : (version : Version) (depth : ℕ) (q : Question) (first : List ℕ) (found : Option ℕ)
    → q.replies ≡ first ∷ [] → read_found version first ≡ Ok (found, [])
    → is_possible depth q.query found ≡ false → heard (said_for version depth q) ≡ first
bad_heard version depth q first found came says bad =
    after_sent (flat_map (spelling version) (ask_message q.query ∷ []))
    (said_back version depth q q.replies)
    ∙ ap (λ (rs : List (List ℕ)). heard (said_back version depth q rs)) came
    ∙ ap (λ (r : Result (Option ℕ × List ℕ) Reason). heard (said_behind version depth q first [] r))
    says
    ∙ ap (λ (t : Bool). heard (if t
    then ins (spelling version (found_message found)) ++ asked version
    (messages.Query (Sub (range_of depth q.query found).0 (range_of depth q.query found).1)) q.block
    ([] ∷ [])
    else ins first)) bad
    ∙ heard-ins first

-- ---- an honest lookup

module _ (version : Version) (depth : ℕ) (stream : List Update) (some : 1 ≤ depth)
    (legal : IsLegal depth stream) (speaks : (lo hi : ℕ) → Speaks version depth (Sub lo hi))
    (q : Question) (can : CanLook depth q.query) (at : IsBlock depth q.block) where
  abbrev numbers : List ℤ
  numbers = vector depth stream First

  abbrev place : Option ℕ
  place = honest_found numbers q.query

  proved : IsProved depth numbers q.query place
  proved = place_proved depth numbers q.query (length-vector depth stream First) can

  abbrev lo : ℕ
  lo = (range_of depth q.query place).0

  abbrev hi : ℕ
  hi = (range_of depth q.query place).1

  abbrev entries : List Entry
  entries = nonzero_within lo hi numbers

  shown : CanBeShown version m61_modulus depth lo hi numbers
  shown =
      let fits = range_fits depth q.query place can proved.possible in
      legal_shown version depth lo hi stream legal some (speaks lo hi) fits.0 fits.1
      (omega (arith, proved.few))

  abbrev inner : List (List ℕ)
  inner = honest_replies version m61_modulus numbers lo hi q.block

  abbrev protocol : Option ℕ → Protocol Stated
  protocol found = protocol_at version depth stream q found

  own : IsStated (protocol place) q.block inner (pairs entries)
  own = shown_accepted version m61_modulus depth lo hi numbers q.block shown at.size

  most : depth ≤ most_depth
  most =
      let deep = deepest-most version in let less = (speaks 0 0).shallow in omega
      (arith, deep, less)

  abbrev bytes : List ℕ
  bytes = honesty.honest_bytes version depth stream (q.query, q.block)

  -- honest bytes are read as the honest place, and then the honest replies about its interval
  honest_read : (rest : List ℕ)
      → read_found version (bytes ++ rest) ≡ Ok (place, joined inner ++ rest)
  honest_read rest =
      ap (λ (l : List ℕ). read_found version (l ++ rest))
      (front_joined version place inner (omega (arith, own.all, at.size, some)))
      ∙ ap (read_found version)
      (append_assoc (spelling version (found_message place)) (joined inner) rest)
      ∙ found_reads version place (joined inner ++ rest)
      (item_room depth place most (possible_item depth q.query place can proved.possible))

  module _ (b a : List ℕ) (agree : bytes ++ b ≡ heard (said_for version depth q) ++ a) where
    -- a place that came is the honest one
    same_place : (found : Option ℕ) (rs : List (List ℕ)) → parts version q.replies ≡ Ok (found, rs)
        → is_possible depth q.query found ≡ true → length rs ≤ length q.block
        → (place ≡ found) × (joined inner ++ b ≡ joined rs ++ a)
    same_place found rs split possible few =
        let said = behind_heard version depth q found rs split possible few in
        let came = ap (λ (l : List ℕ). read_found version (l ++ a)) said
        ∙ ap (read_found version)
        (append_assoc (spelling version (found_message found)) (joined rs) a)
        ∙ found_reads version found (joined rs ++ a)
        (item_room depth found most (possible_item depth q.query found can possible)) in
        same_read (place, joined inner ++ b) (found, joined rs ++ a)
        (read_found version (bytes ++ b)) (honest_read b) (ap (read_found version) agree ∙ came)

    -- accepted entries are the honest ones
    same_entries : (found : Option ℕ) (rs : List (List ℕ)) (es : List Entry)
        → parts version q.replies ≡ Ok (found, rs) → is_possible depth q.query found ≡ true
        → IsStated (protocol found) q.block rs (pairs es)
        → (place ≡ found) × (b ≡ a) × (es ≡ entries)
    same_entries found rs es split possible stated =
        let p = same_place found rs split possible (omega (arith, stated.all)) in
        let here = subst (λ (o : Option ℕ). IsStated (protocol o) q.block rs (pairs es))
        (sym p.0) stated in
        let s = replies.stated_honest (protocol place) q.block inner (pairs entries) own rs b a p.1
        (pairs es) here in
        let same : es ≡ entries = let e = s.1 in cc in
        (p.0, s.0, same)

    pub look_done : (written : Looked) → Accepts version depth stream q written
        → (b ≡ a) × (written ≡ near numbers q.query)
    look_done written accepts =
        let holds = accepts.holds in
        let s = same_entries accepts.found accepts.inner holds.0 accepts.split accepts.possible
        holds.1 in (
          s.1,
          holds.3 ∙ ap (stated_answer q.query) s.2
              ∙ alone_is_near depth numbers q.query place (length-vector depth stream First) can
              proved.possible proved.alone,
        )

    found_faulty : (fault : Fault) → fault.reason ≢ reasons.Closed
        → IsFoundFaulty version depth stream q fault → ⊥
    found_faulty fault other f =
        let said = fault_heard version depth q f.first fault.reason f.came f.says in
        not_both (place, joined inner ++ b) fault.reason (read_found version (bytes ++ b))
        (honest_read b)
        (ap (read_found version) (agree ∙ ap (λ (l : List ℕ). l ++ a) said)
        ∙ fault_stays version f.first a fault.reason f.says other)

    found_bad : (fault : Fault) → IsFoundBad version depth stream q fault → ⊥
    found_bad fault f =
        let said = bad_heard version depth q f.first f.found f.came f.says f.bad in
        let same = same_read (place, joined inner ++ b) (f.found, [] ++ a)
        (read_found version (bytes ++ b)) (honest_read b)
        (ap (read_found version) (agree ∙ ap (λ (l : List ℕ). l ++ a) said)
        ∙ found_more version f.first a (f.found, []) f.says) in
        both_ways (is_possible depth q.query place) (ap (is_possible depth q.query) same.0 ∙ f.bad)
        proved.possible

    inner_faulty : (fault : Fault) → fault.reason ≢ reasons.Closed
        → IsBehindFound version depth stream
        (λ found rs. general.IsFaulty (protocol found) q.block rs fault) q → ⊥
    inner_faulty fault other f =
        let p = same_place f.found f.inner f.split f.possible (omega (arith, f.holds.taken)) in
        let here = subst (λ (o : Option ℕ). general.IsFaulty (protocol o) q.block f.inner fault)
        (sym p.0) f.holds in
        replies.none_faulty (protocol place) q.block inner (pairs entries) own f.inner b a p.1 fault
        here other

    pub look_faulty : (fault : Fault) → IsFaulty version depth stream q fault
        → fault.reason ≢ reasons.Closed → ⊥
    look_faulty fault (inl f) other = found_faulty fault other f
    look_faulty fault (inr (inl f)) other = found_bad fault f
    look_faulty fault (inr (inr (inl f))) other = inner_faulty fault other f
    look_faulty fault (inr (inr (inr f))) other =
        let holds = f.holds in
        let s = same_entries f.found f.inner holds.0 f.split f.possible holds.1 in
        let none : are_alone q.query place entries ≡ false =
        ap (λ (o : Option ℕ). are_alone q.query o entries) s.0
        ∙ ap (are_alone q.query f.found) (sym s.2) ∙ holds.2 in
        both_ways (are_alone q.query place entries) none proved.alone
