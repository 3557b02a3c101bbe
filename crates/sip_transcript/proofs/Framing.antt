-- Frames that are taken off a source: that of a query, and those of replies.
use Rattle.std.proofs.Common.{◌≡◌, ◌⊎◌, inl, inr, ℕ, zero, suc, ◌+◌, ◌<◌, ◌≤◌, Bool, true, false, ◌&&◌, cond, Option, Some, None, Result, Ok, Err, List, [], ◌∷◌, ◌++◌, length, take, drop, refl, sym, ap, subst, ◌∙◌, arith, length-append}
use Rattle.std.proofs.KnownBytes.{Consumes-nil, Consumes-trans}
use Rattle.std.specs.Prelude.{IsSome, slice_index}
use Rattle.std.specs.Io.KnownBytes.{Consumes, IsAtEnd}
use Rattle.std.proofs.lemmas.Bool.Decides.{nat_tests}
use Rattle.std.proofs.lemmas.List.{append-nil}
use Rattle.sip_verifier.specs.Tasks.{CanBeAsked}
use Rattle.sip_vector.specs.declared.query.Query.{Query}
use Rattle.sip_wire.specs.declared.frame.Taken.{Taken}
use Rattle.sip_wire.specs.declared.frame.Taken.TheVariants.{NoFrame, Part, Whole}
use Rattle.sip_wire.specs.declared.kind.Kind.{Kind}
use Rattle.sip_wire.specs.declared.kind.Kind.TheVariants as kinds
use Rattle.sip_wire.specs.declared.kind.Place.{Place}
use Rattle.sip_wire.specs.declared.kind.Place.TheVariants.{ToHelper, ToVerifier}
use Rattle.sip_wire.specs.declared.message.Message.{Message}
use Rattle.sip_wire.specs.declared.message.Message.TheVariants as messages
use Rattle.sip_wire.specs.declared.message.WireFault.{WireFault}
use Rattle.sip_wire.specs.declared.message.WireFault.TheVariants as faults
use Rattle.sip_wire.specs.declared.version.Version.{Version}
use Rattle.sip_wire.specs.declared.version.Version.TheVariants.{One, Two}
use Rattle.sip_wire.specs.AtHand.{Reads}
use Rattle.sip_wire.specs.Decoding.{Took}
use Rattle.sip_wire.specs.Faults.{IsOfBytes}
use Rattle.sip_wire.specs.Reading.{read_frame, read_of}
use Rattle.sip_wire.specs.Spelling.{asked, asked_by, frame_fault, length_in, mark_in, said_in, spelling}
use Rattle.sip_wire.specs.Table.{allows, kind_at, longest_frame, shape}
use Rattle.sip_wire.specs.Taking.{Judges}
use Rattle.sip_wire.specs.Values.{message_from, siblings_from}
use Rattle.sip_wire.proofs.Shapes.{is_shape}
use Rattle.sip_wire.proofs.ReadingLaws.{asked-least, asked-append, read_frame-append, read_frame-append_fault}
use Rattle.sip_stream.proofs.RecordsRead.{came_front}
use Rattle.sip_transcript.specs.Fields.{asked_at, fits_at, if_fits, query_field, query_of}
use Rattle.sip_verifier.specs.Exchanges.{TakesAtMost}
use Rattle.sip_transcript.specs.Heads.{longest_field}
use Rattle.sip_transcript.specs.declared.frames.Reply.TheVariants as next
use Rattle.sip_transcript.specs.Frames.{HasFrame, ReadsByte, ReadsReply, TakesMore, WasAll}
use Rattle.sip_transcript.specs.Parts.{AsksIn, MayAsk}
use Rattle.sip_transcript.proofs.Passing.{by_query, fits_at-fits}

-- ---- bytes, one after the other

-- no byte yet
pub more-nil : (o : Option (List ℕ)) (before : List ℕ) (upto : ℕ) → length before ≤ upto → (more : List ℕ) × (before ≡ before ++ more) × Consumes o o more
more-nil o before upto le = ([], sym (append-nil before), Consumes-nil o)

-- the source ended
pub more-end : (o m n : Option (List ℕ)) (before after more : List ℕ) (upto : ℕ) → after ≡ before ++ more → Consumes o m more → length after ≤ upto → ReadsByte m n (Ok None) → TakesMore o n before after upto
more-end o m n before after more upto longer taken within ended = record {
  more = more;
  longer = longer;
  taken = subst (λ (l : List ℕ). Consumes o n l) (append-nil more) (Consumes-trans o m n more [] taken ended.1);
  within = within;
  all = λ lt bytes told.
      let front = came_front o m bytes more told taken in
      front.2 ∙ ap (λ (l : List ℕ). more ++ l) (ended.0 front.0 front.1) ∙ append-nil more;
}

-- ---- a frame

-- fewer bytes than tell its length
pub frame-short : (place : Place) (version : Version) (room : ℕ) (o n : Option (List ℕ)) (frame : List ℕ) → TakesMore o n [] frame 3 → length frame < 3 → HasFrame place version room o n frame (Ok true)
frame-short place version room o n frame took lt =
    let same : frame ≡ took.more = took.longer in
    let least = asked-least version place frame in (
      subst (λ (l : List ℕ). Consumes o n l) (sym same) took.taken,
      omega (arith, lt, least),
      λ less bytes told. took.all lt bytes told ∙ sym same,
    )

-- more bytes than there is room for
pub frame-long : (place : Place) (version : Version) (room : ℕ) (o n : Option (List ℕ)) (frame : List ℕ) (size : ℕ) → 3 ≤ room → TakesMore o n [] frame 3 → 3 ≤ length frame → size ≡ asked version place frame → room < size
    → HasFrame place version room o n frame (Ok false)
frame-long place version room o n frame size some took three is long = (
  (took.more, omega (arith, took.within, ap length took.longer), took.taken),
  λ bytes told.
      let front = came_front o n bytes took.more told took.taken in
      let whole : bytes ≡ frame ++ front.0 = front.2 ∙ ap (λ (l : List ℕ). l ++ front.0) (sym took.longer) in
      let same : asked version place bytes ≡ size = ap (asked version place) whole ∙ asked-append version place frame front.0 three ∙ sym is in
      omega (arith, same, long),
)

-- a frame, as far as the source had it
pub frame-whole : (place : Place) (version : Version) (room : ℕ) (o m n : Option (List ℕ)) (head frame : List ℕ) (size : ℕ) → TakesMore o m [] head 3 → 3 ≤ length head → size ≡ asked version place head → TakesMore m n head frame size
    → HasFrame place version room o n frame (Ok true)
frame-whole place version room o m n head frame size first three is took =
    let front : head ≡ first.more = first.longer in
    let same : asked version place frame ≡ size = ap (asked version place) took.longer ∙ asked-append version place head took.more three ∙ sym is in
    let all : first.more ++ took.more ≡ frame = ap (λ (l : List ℕ). l ++ took.more) (sym front) ∙ sym took.longer in (
      subst (λ (l : List ℕ). Consumes o n l) all (Consumes-trans o m n first.more took.more first.taken took.taken),
      omega (arith, same, took.within),
      λ less bytes told.
          let came = came_front o m bytes first.more told first.taken in
          let short : length frame < size = omega (arith, same, less) in
          came.2 ∙ ap (λ (l : List ℕ). first.more ++ l) (took.all short came.0 came.1) ∙ all,
    )

-- a frame has three bytes at least
pub least_asked : (place : Place) (version : Version) (frame : List ℕ) → 3 ≤ asked version place frame
least_asked place version frame = asked-least version place frame

-- a fault of bytes at hand is that of all bytes that begin with them, if none follow where it says that they are too few
pub fault-stays : (place : Place) (version : Version) (frame rest : List ℕ) (f : WireFault) → read_frame version place frame ≡ Err f → (f ≡ faults.Closed → rest ≡ []) → read_frame version place (frame ++ rest) ≡ Err f
fault-stays place version frame rest faults.Closed e none = ap (read_frame version place) (ap (λ (l : List ℕ). frame ++ l) (none refl) ∙ append-nil frame) ∙ e
fault-stays place version frame rest faults.BadKind e none = read_frame-append_fault version place frame rest faults.BadKind e (λ is. absurd cc)
fault-stays place version frame rest faults.BadLength e none = read_frame-append_fault version place frame rest faults.BadLength e (λ is. absurd cc)
fault-stays place version frame rest faults.BadCount e none = read_frame-append_fault version place frame rest faults.BadCount e (λ is. absurd cc)
fault-stays place version frame rest faults.BadNumber e none = read_frame-append_fault version place frame rest faults.BadNumber e (λ is. absurd cc)
fault-stays place version frame rest faults.PeerFault e none = read_frame-append_fault version place frame rest faults.PeerFault e (λ is. absurd cc)
fault-stays place version frame rest faults.OutOfMemory e none = read_frame-append_fault version place frame rest faults.OutOfMemory e (λ is. absurd cc)

-- what follows some bytes is nothing, where they are all
nothing_behind : (xs ys : List ℕ) → xs ++ ys ≡ xs → ys ≡ []
nothing_behind [] ys e = e
nothing_behind (x ∷ xs) ys e = nothing_behind xs ys (ap (drop 1) e)

-- ---- a reply

-- a frame to a verifier has room in the longest
pub asked-short : (version : Version) (place : Place) (bytes : List ℕ) → asked version place bytes ≤ longest_frame
unfolding asked
asked-short version place bytes = by_kind (kind_at place (slice_index bytes 0))
  where
    by_kind : (kind : Option Kind) → asked_by version place kind bytes ≤ longest_frame
    by_kind None = omega arith
    by_kind (Some kind) = by_tests (allows place kind) ((shape version kind).has_length (length_in bytes)) refl
      where
        by_tests : (a b : Bool) → (shape version kind).has_length (length_in bytes) ≡ b → cond (a && b) (3 + length_in bytes) 3 ≤ longest_frame
        by_tests true true e = let short = (is_shape version kind).short (length_in bytes) e in omega arith
        by_tests true false e = omega arith
        by_tests false b e = omega arith

-- a source that is told is told behind a read
pub still-told : (o n : Option (List ℕ)) (piece : List ℕ) → Consumes o n piece → IsSome o → IsSome n
still-told None n piece took some = absurd cc
still-told (Some xs) None piece took some = absurd took
still-told (Some xs) (Some ys) piece took some = refl

-- the source ended in a frame
pub reply-cut : (version : Version) (o m n : Option (List ℕ)) (frame : List ℕ) → Consumes o m frame → length frame ≤ asked version ToVerifier frame → Consumes m n [] → IsAtEnd n → HasFrame ToVerifier version longest_frame o n frame (Ok true)
reply-cut version o m n frame came most none ended =
    let all : Consumes o n frame = subst (λ (l : List ℕ). Consumes o n l) (append-nil frame) (Consumes-trans o m n frame [] came none) in (
      all,
      most,
      λ less bytes told.
          let front = came_front o n bytes frame told all in
          let rest : front.0 ≡ [] = subst IsAtEnd front.1 ended in
          front.2 ∙ ap (λ (l : List ℕ). frame ++ l) rest ∙ append-nil frame,
    )

-- there is no reply
pub reply-end : (version : Version) (o n : Option (List ℕ)) (frame : List ℕ) (m : Message) → HasFrame ToVerifier version longest_frame o n frame (Ok true) → frame ≡ [] → ReadsReply version o n frame m (Ok next.End)
reply-end version o n frame m has none =
    let least = asked-least version ToVerifier frame in (
      subst (WasAll o) none (has.2 (omega (arith, ap length none, least))),
      subst (λ (l : List ℕ). Consumes o n l) none has.0,
    )

-- bytes begin with no whole frame
pub reply-faulty : (version : Version) (o n : Option (List ℕ)) (frame : List ℕ) (m : Message) (f : WireFault) → HasFrame ToVerifier version longest_frame o n frame (Ok true) → 0 < length frame → read_frame version ToVerifier frame ≡ Err f
    → (f ≡ faults.Closed → length frame < asked version ToVerifier frame) → ReadsReply version o n frame m (Ok next.Faulty)
reply-faulty version o n frame m f has some read short = λ bytes told.
    let front = came_front o n bytes frame told has.0 in
    let none : f ≡ faults.Closed → front.0 ≡ [] = λ is. nothing_behind frame front.0 (sym front.2 ∙ has.2 (short is) bytes told) in (
      (λ empty. absurd (omega (arith, ap length empty, ap length front.2, length-append frame front.0, some))),
      f,
      ap (read_frame version ToVerifier) front.2 ∙ fault-stays ToVerifier version frame front.0 f read none,
    )

-- bytes that were judged, and are no message
pub reply-refused : (version : Version) (o n : Option (List ℕ)) (before frame : List ℕ) (m : Message) (taken : Taken) → frame ≡ before → HasFrame ToVerifier version longest_frame o n before (Ok true) → 0 < length before
    → Judges version ToVerifier before m taken → (taken ≡ Part) ⊎ ((fault : WireFault) × (taken ≡ NoFrame fault)) → ReadsReply version o n frame m (Ok next.Faulty)
reply-refused version o n before frame m Part same has some part other = reply-faulty version o n before m faults.Closed has some part.read (λ is. part.short)
reply-refused version o n before frame m Whole same has some took (inl is) = absurd cc
reply-refused version o n before frame m Whole same has some took (inr (fault, is)) = absurd cc
reply-refused version o n before frame m (NoFrame fault) same has some shows other = reply-faulty version o n before m fault has some shows.read (λ is. absurd (subst IsOfBytes is shows.shown))

-- ---- what a frame asks

-- the same by what reading a frame answers
abbrev by_read : Version → ℕ → Result (Message × List ℕ) WireFault → Option ℕ
by_read version depth r = by_query version (asked_at depth r)

-- a message of siblings asks nothing
no_siblings : (flags : ℕ) (ns : List ℕ) → query_of (siblings_from flags ns) ≡ None
no_siblings zero ns = refl
no_siblings (suc zero) [] = refl
no_siblings (suc zero) (a ∷ []) = refl
no_siblings (suc zero) (a ∷ b ∷ ns) = refl
no_siblings (suc (suc zero)) [] = refl
no_siblings (suc (suc zero)) (a ∷ []) = refl
no_siblings (suc (suc zero)) (a ∷ b ∷ ns) = refl
no_siblings (suc (suc (suc zero))) [] = refl
no_siblings (suc (suc (suc zero))) (a ∷ []) = refl
no_siblings (suc (suc (suc zero))) (a ∷ b ∷ []) = refl
no_siblings (suc (suc (suc zero))) (a ∷ b ∷ d ∷ ns) = refl
no_siblings (suc (suc (suc (suc n)))) ns = refl

-- a message of another kind asks nothing
no_query : (kind : Kind) (mark : ℕ) (ns : List ℕ) → (kind ≡ kinds.Query → ⊥) → query_of (message_from kind mark ns) ≡ None
no_query kinds.Open mark [] other = refl
no_query kinds.Open mark (a ∷ []) other = refl
no_query kinds.Open mark (a ∷ b ∷ []) other = refl
no_query kinds.Open mark (a ∷ b ∷ d ∷ ns) other = refl
no_query kinds.Updates mark ns other = refl
no_query kinds.EndStream mark ns other = refl
no_query kinds.Query mark ns other = absurd (other refl)
no_query kinds.Reveal mark [] other = refl
no_query kinds.Reveal mark (a ∷ []) other = refl
no_query kinds.Reveal mark (a ∷ b ∷ ns) other = refl
no_query kinds.Bye mark ns other = refl
no_query kinds.Claim mark [] other = refl
no_query kinds.Claim mark (a ∷ []) other = refl
no_query kinds.Claim mark (a ∷ b ∷ ns) other = refl
no_query kinds.Poly mark [] other = refl
no_query kinds.Poly mark (a ∷ []) other = refl
no_query kinds.Poly mark (a ∷ b ∷ []) other = refl
no_query kinds.Poly mark (a ∷ b ∷ d ∷ []) other = refl
no_query kinds.Poly mark (a ∷ b ∷ d ∷ e ∷ ns) other = refl
no_query kinds.Entries mark ns other = refl
no_query kinds.Siblings mark ns other = no_siblings mark ns
no_query kinds.Leaves mark ns other = refl
no_query kinds.Nodes mark ns other = refl
no_query kinds.LevelEnd mark ns other = refl
no_query kinds.Refuse mark [] other = refl
no_query kinds.Refuse mark (a ∷ []) other = refl
no_query kinds.Refuse mark (a ∷ b ∷ ns) other = refl
no_query kinds.AskLook mark [] other = refl
no_query kinds.AskLook mark (a ∷ []) other = refl
no_query kinds.AskLook mark (a ∷ b ∷ []) other = refl
no_query kinds.AskLook mark (a ∷ b ∷ d ∷ ns) other = refl
no_query kinds.Found mark [] other = refl
no_query kinds.Found mark (a ∷ []) other = refl
no_query kinds.Found mark (a ∷ b ∷ []) other = refl
no_query kinds.Found mark (a ∷ b ∷ d ∷ ns) other = refl
no_query kinds.End mark ns other = refl
no_query kinds.AskMoment mark [] other = refl
no_query kinds.AskMoment mark (a ∷ []) other = refl
no_query kinds.AskMoment mark (a ∷ b ∷ []) other = refl
no_query kinds.AskMoment mark (a ∷ b ∷ d ∷ ns) other = refl
no_query (kinds.Power degree) mark ns other = refl
no_query kinds.Held mark [] other = refl
no_query kinds.Held mark (a ∷ []) other = refl
no_query kinds.Held mark (a ∷ b ∷ []) other = refl
no_query kinds.Held mark (a ∷ b ∷ d ∷ []) other = refl
no_query kinds.Held mark (a ∷ b ∷ d ∷ e ∷ []) other = refl
no_query kinds.Held mark (a ∷ b ∷ d ∷ e ∷ f ∷ ns) other = refl
no_query kinds.Recall mark [] other = refl
no_query kinds.Recall mark (a ∷ []) other = refl
no_query kinds.Recall mark (a ∷ b ∷ ns) other = refl
no_query kinds.Marks mark ns other = refl

-- a frame of another kind asks nothing
no_query_of : (version : Version) (depth : ℕ) (kind : Option Kind) (fault : Option WireFault) (frame rest : List ℕ) → (kind ≡ Some kinds.Query → ⊥) → by_read version depth (read_of version kind fault frame rest) ≡ None
no_query_of version depth kind (Some fault) frame rest other = refl
no_query_of version depth None None frame rest other = refl
no_query_of version depth (Some kind) None frame rest other =
    ap (λ (o : Option Query). by_query version (if_fits depth o))
    (no_query kind (mark_in (shape version kind) (drop 3 frame)) (said_in (shape version kind) (drop 3 frame)) (λ same. other (ap (λ (k : Kind). Some k) same)))

-- the body of a query has 18 bytes at most
short_body : (version : Version) (n : ℕ) → (shape version kinds.Query).has_length n ≡ true → n ≤ 18
short_body One n is = grind (arith, nat_tests)
short_body Two n is = grind (arith, nat_tests)

-- and its frame 21
short_query : (version : Version) (kind : Option Kind) (bytes : List ℕ) → kind ≡ Some kinds.Query → asked_by version ToHelper kind bytes ≤ longest_field
short_query version kind bytes is = subst (λ (k : Option Kind). asked_by version ToHelper k bytes ≤ longest_field) (sym is) (by_test ((shape version kinds.Query).has_length (length_in bytes)) refl)
  where
    by_test : (b : Bool) → (shape version kinds.Query).has_length (length_in bytes) ≡ b → cond b (3 + length_in bytes) 3 ≤ 21
    by_test true e = let small = short_body version (length_in bytes) e in omega arith
    by_test false e = omega arith

-- a frame that is longer than any of a query is none of a query
pub query-long : (version : Version) (depth : ℕ) (bytes : List ℕ) → longest_field < asked version ToHelper bytes → query_field version depth bytes ≡ None
unfolding read_frame asked
query-long version depth bytes long =
    let n = asked version ToHelper bytes in
    no_query_of version depth (kind_at ToHelper (slice_index bytes 0)) (frame_fault version ToHelper (take n bytes)) (take n bytes) (drop n bytes)
    (λ is. let short = short_query version (kind_at ToHelper (slice_index bytes 0)) bytes is in omega arith)

-- the query that reading a frame at hand gave, if it gave one that fits
abbrev pub asked_of : ℕ → Result Message WireFault → Option Query
asked_of depth (Ok m) = if_fits depth (query_of m)
asked_of depth (Err f) = None

-- a frame that asks nothing, whatever follows it
pub asks-none : (version : Version) (depth : ℕ) (frame : List ℕ) (r : Result Message WireFault) → Reads version ToHelper frame r → (r ≡ Err faults.Closed → length frame < asked version ToHelper frame) → asked_of depth r ≡ None
    → (rest : List ℕ) → (length frame < asked version ToHelper frame → rest ≡ []) → query_field version depth (frame ++ rest) ≡ None
asks-none version depth frame (Ok m) took closed none rest all = ap (by_read version depth) (read_frame-append version ToHelper frame rest m [] took.read) ∙ ap (by_query version) none
asks-none version depth frame (Err f) read closed none rest all =
    ap (by_read version depth) (fault-stays ToHelper version frame rest f read (λ is. all (closed (ap fault_at is))))
  where
    fault_at : WireFault → Result Message WireFault
    fault_at g = Err g

-- a query that cannot be asked
pub unfit : (depth : ℕ) (query : Query) → (CanBeAsked depth query → ⊥) → if_fits depth (Some query) ≡ None
unfit depth query other = by_test (fits_at depth query) refl
  where
    by_test : (b : Bool) → fits_at depth query ≡ b → if_fits depth (Some query) ≡ None
    by_test true e = absurd (other (fits_at-fits depth query e))
    by_test false e = ap (λ (b : Bool). cond b (Some query) None) e

-- a message that asks a query is that query
pub query_of-message : (m : Message) (query : Query) → query_of m ≡ Some query → m ≡ messages.Query query
query_of-message (messages.Query q) query e = ap (λ (x : Query). messages.Query x) (let same : q ≡ query = cc in same)
query_of-message (messages.Open version depth) query e = absurd cc
query_of-message (messages.Updates v) query e = absurd cc
query_of-message messages.EndStream query e = absurd cc
query_of-message (messages.Reveal challenge) query e = absurd cc
query_of-message messages.Bye query e = absurd cc
query_of-message (messages.Claim value) query e = absurd cc
query_of-message (messages.Poly c0 c1 c2) query e = absurd cc
query_of-message (messages.Entries v) query e = absurd cc
query_of-message (messages.Siblings left right) query e = absurd cc
query_of-message (messages.Leaves v) query e = absurd cc
query_of-message (messages.Nodes v) query e = absurd cc
query_of-message messages.LevelEnd query e = absurd cc
query_of-message (messages.Refuse code) query e = absurd cc
query_of-message (messages.AskLook code item) query e = absurd cc
query_of-message (messages.Found flag index) query e = absurd cc
query_of-message messages.End query e = absurd cc
query_of-message (messages.AskMoment side degree) query e = absurd cc
query_of-message (messages.Held held) query e = absurd cc
query_of-message (messages.Recall count) query e = absurd cc
query_of-message (messages.Marks v) query e = absurd cc
query_of-message (messages.Power v) query e = absurd cc

-- a frame that asks a query that fits
pub asks-query : (version : Version) (depth : ℕ) (frame : List ℕ) (m : Message) (query : Query) → Took version ToHelper frame m → query_of m ≡ Some query → CanBeAsked depth query → Took version ToHelper frame (messages.Query query) × CanBeAsked depth query
asks-query version depth frame m query took is fit = (subst (λ (x : Message). Took version ToHelper frame x) (query_of-message m query is) took, fit)

-- a query that fits was taken, as it is spelled
pub query-taken : (version : Version) (depth size : ℕ) (o n : Option (List ℕ)) (frame : List ℕ) (query : Query) → HasFrame ToHelper version longest_field o n frame (Ok true) → AsksIn version depth frame (Some query)
    → size ≡ length frame → MayAsk version depth (query, size) × Consumes o n (spelling version (messages.Query query))
query-taken version depth size o n frame query has asks long = (
  (asks.0.has_spelling, asks.1, long ∙ ap length asks.0.spelled),
  subst (λ (l : List ℕ). Consumes o n l) asks.0.spelled has.0,
)

-- no query was there
pub query-none : (version : Version) (depth : ℕ) (o n : Option (List ℕ)) (frame : List ℕ) → HasFrame ToHelper version longest_field o n frame (Ok true) → length frame ≤ longest_field → AsksIn version depth frame None
    → TakesAtMost longest_field o n × ((bytes : List ℕ) → o ≡ Some bytes → query_field version depth bytes ≡ None)
query-none version depth o n frame has short asks = (
  (frame, short, has.0),
  λ bytes told.
      let front = came_front o n bytes frame told has.0 in
      ap (query_field version depth) front.2 ∙ asks front.0 (λ less. nothing_behind frame front.0 (sym front.2 ∙ has.2 less bytes told)),
)
