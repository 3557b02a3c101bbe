-- How the writing of a transcript goes on, and how it ends.
use Rattle.std.proofs.Common.{◌≡◌, ◌≢◌, ℕ, suc, ◌+◌, ◌-◌, ◌<◌, Option, Some, None, Ok, Err, List, [], ◌∷◌, ◌++◌, length, take, refl, sym, ap, subst, ◌∙◌, arith, append_assoc, append-nil, length-append}
use Rattle.std.specs.Io.KnownBytes.{Consumes}
use Rattle.std.specs.List.{flat_map}
use Rattle.std.proofs.Math.Path.{fun_ext}
use Rattle.std.proofs.lemmas.Grind.{flat_map-append}
use Rattle.std.proofs.lemmas.List.{flat_map_more, take-append-le, take_at}
use Rattle.std.proofs.lemmas.List.Concat.{flat_map-cons}
use Rattle.std.proofs.lemmas.List.Elements.{All-append, All-cons, All-nil}
use Rattle.sip_ports.specs.declared.port.PortStop.{PortStop}
use Rattle.sip_ports.specs.declared.port.PortStop.TheVariants as stops
use Rattle.sip_ports.specs.declared.port.TalkEvent.{TalkEvent}
use Rattle.sip_ports.specs.Ports.{GoesOn, outs}
use Rattle.sip_ports.proofs.TalkLemmas.{GoesOn-refl}
use Rattle.sip_stream.proofs.RecordsRead.{came_front}
use Rattle.sip_wire.specs.declared.kind.Place.TheVariants.{ToVerifier}
use Rattle.sip_wire.specs.declared.message.Message.{Message}
use Rattle.sip_wire.specs.declared.message.WireFault.{WireFault}
use Rattle.sip_wire.specs.declared.version.Version.{Version}
use Rattle.sip_wire.specs.declared.version.Version.TheVariants.{Two}
use Rattle.sip_wire.specs.Spelling.{spelling}
use Rattle.sip_wire.specs.Decoding.{Took}
use Rattle.sip_wire.specs.Reading.{read_frame}
use Rattle.sip_wire.specs.Transcript.{ask_bytes, head_bytes, transcript}
use Rattle.sip_wire.proofs.ReadingLaws.{read_frame-append}
use Rattle.sip_verifier.proofs.Lines.{front_sent, sent_more}
use Rattle.sip_verifier.specs.declared.status.Port.TheVariants as ports
use Rattle.sip_verifier.specs.declared.status.Status.{Status}
use Rattle.sip_verifier.specs.declared.status.Status.TheVariants as statuses
use Rattle.sip_transcript.specs.declared.fault.HeadFault.{HeadFault}
use Rattle.sip_transcript.specs.declared.fault.HeadFault.TheVariants as faults
use Rattle.sip_transcript.specs.declared.frames.Reply.TheVariants as next
use Rattle.sip_transcript.specs.declared.head.Head.{Head}
use Rattle.sip_transcript.specs.declared.rendering.Rendering.{Rendering}
use Rattle.sip_transcript.specs.declared.rendering.Rendering.TheVariants.{Listing, Wide}
use Rattle.sip_transcript.specs.Causes.{status_of_head, status_of_sink, status_of_source}
use Rattle.sip_transcript.specs.Conversions.{in_version_2}
use Rattle.sip_transcript.specs.Fields.{head_fault}
use Rattle.sip_transcript.specs.Frames.{ReadsReply}
use Rattle.sip_transcript.specs.Heads.{Ask, ReadsHead, Says}
use Rattle.sip_transcript.specs.Listings.{listing, numbered}
use Rattle.sip_transcript.specs.Renderings.{head_text, rendered, reply_text}
use Rattle.sip_transcript.specs.Tales.{IsReply, Tale, all_replies, rest_fault, tale_of, text_of, transcript_fault}
use Rattle.sip_transcript.specs.Underway.{IsUnderway, tale_with}
use Rattle.sip_transcript.specs.Writing.{AllWritten, FrontWritten, Writes}
use Rattle.sip_transcript.proofs.Growing.{run-has_no_fault}
use Rattle.sip_transcript.proofs.Telling.{no-replies, replies-more, replies-none, tale-of_run}
use Rattle.sip_transcript.proofs.Tests.{count-test, depth-test}

-- ---- the head

-- what follows a head
transcript-more : (version : Version) (depth : ℕ) (asks : List Ask) (rest : List ℕ) → transcript version depth asks [] ++ rest ≡ transcript version depth asks rest
transcript-more version depth asks rest =
    let front = head_bytes version depth (length asks) ++ flat_map (λ ask. ask_bytes version ask.0 ask.1) asks in
    ap (λ (l : List ℕ). l ++ rest) (append-nil front)

-- the head was read, and what there is of it was written
pub begun-writing : (to : Rendering) (bytes : List ℕ) (o n : Option (List ℕ)) (start now : Option (List TalkEvent)) (head : Head) (asks : List Ask) → o ≡ Some bytes → Says head asks
    → Consumes o n (transcript head.version head.depth asks []) → GoesOn start now (outs (head_text to head.depth asks)) → IsUnderway to bytes n start now head.version head.length
begun-writing to bytes o n start now head asks told says taken wrote =
    let front = came_front o n bytes (transcript head.version head.depth asks []) told taken in
    let run = says.is_run in
    let whole = front.2 ∙ transcript-more head.version head.depth asks front.0 in
    record {
      depth = head.depth;
      asks = asks;
      done = [];
      rest = front.0;
      is_run = run;
      are_replies = All-nil (IsReply head.version);
      spelled = whole;
      no_fault = ap head_fault whole ∙ run-has_no_fault head.version head.depth asks front.0 (depth-test head.version head.depth run.deep run.shallow) (count-test (length asks) run.some run.most) run.each;
      tells = ap tale_of whole ∙ tale-of_run head.version head.depth asks front.0 run.each;
      is_left = front.1;
      talk = subst (λ (l : List ℕ). GoesOn start now (outs l)) (sym (append-nil (head_text to head.depth asks))) wrote;
      is_place = omega (arith, says.size, ap length front.2, length-append (transcript head.version head.depth asks []) front.0);
    }

-- nothing was written
nothing-written : (text : Tale → List ℕ) (bytes : List ℕ) (left : Option (List ℕ)) (start : Option (List TalkEvent)) → FrontWritten text bytes left start start
nothing-written text bytes left start = (0, GoesOn-refl start)

-- the head was not read
pub head-stops : (to : Rendering) (bytes : List ℕ) (o n : Option (List ℕ)) (start : Option (List TalkEvent)) (fault : HeadFault) → o ≡ Some bytes → ReadsHead o n (Err fault)
    → Writes (rendered to) bytes n start start (status_of_head fault)
unfolding transcript_fault text_of
head-stops to bytes o n start (faults.Bad at) told reads =
    let none = reads.1 bytes told in (
      ap (λ (found : Option ℕ). elim found [ Some at ↦ Some at | None ↦ rest_fault (length bytes) (tale_of bytes).rest ]) none,
      subst (λ (l : List ℕ). GoesOn start start (outs l)) (sym (ap (λ (found : Option ℕ). elim found [ Some at ↦ [] | None ↦ rendered to (tale_of bytes) ]) none)) (GoesOn-refl start),
    )
head-stops to bytes o n start faults.ReadFault told reads = nothing-written (rendered to) bytes n start
head-stops to bytes o n start faults.OutOfMemory told reads = nothing-written (rendered to) bytes n start

-- where the sink stops, a front was written
sink-stops : (to : Rendering) (bytes : List ℕ) (left : Option (List ℕ)) (start now : Option (List TalkEvent)) (stop : PortStop) → FrontWritten (rendered to) bytes left start now → Writes (rendered to) bytes left start now (status_of_sink stop)
sink-stops to bytes left start now stops.Failed front = front
sink-stops to bytes left start now stops.OutOfMemory front = front

-- and where the source does
source-stops : (to : Rendering) (bytes : List ℕ) (left : Option (List ℕ)) (start now : Option (List TalkEvent)) (stop : PortStop) → FrontWritten (rendered to) bytes left start now → Writes (rendered to) bytes left start now (status_of_source stop)
source-stops to bytes left start now stops.Failed front = front
source-stops to bytes left start now stops.OutOfMemory front = front

-- what there is of a transcript begins with what there is of its head
head-text : (to : Rendering) (bytes : List ℕ) (o n : Option (List ℕ)) (head : Head) (asks : List Ask) → o ≡ Some bytes → Says head asks → Consumes o n (transcript head.version head.depth asks [])
    → (more : List ℕ) × (text_of (rendered to) bytes ≡ head_text to head.depth asks ++ more)
unfolding text_of
head-text to bytes o n head asks told says taken =
    let front = came_front o n bytes (transcript head.version head.depth asks []) told taken in
    let run = says.is_run in
    let whole = front.2 ∙ transcript-more head.version head.depth asks front.0 in
    let none = ap head_fault whole ∙ run-has_no_fault head.version head.depth asks front.0 (depth-test head.version head.depth run.deep run.shallow) (count-test (length asks) run.some run.most) run.each in (
      flat_map (reply_text to head.version) (all_replies head.version front.0).0,
      ap (λ (found : Option ℕ). elim found [ Some at ↦ [] | None ↦ rendered to (tale_of bytes) ]) none
          ∙ ap (rendered to) (ap tale_of whole ∙ tale-of_run head.version head.depth asks front.0 run.each),
    )

-- a front of what there is of the head was written
pub head-cut : (to : Rendering) (bytes : List ℕ) (o n : Option (List ℕ)) (start now : Option (List TalkEvent)) (head : Head) (asks : List Ask) (stop : PortStop) → o ≡ Some bytes → Says head asks
    → Consumes o n (transcript head.version head.depth asks []) → (k : ℕ) → k < length (head_text to head.depth asks) → GoesOn start now (outs (take k (head_text to head.depth asks)))
    → Writes (rendered to) bytes n start now (status_of_sink stop)
head-cut to bytes o n start now head asks stop told says taken k fewer wrote =
    let text = head_text to head.depth asks in
    let all = head-text to bytes o n head asks told says taken in
    let same : take k (text_of (rendered to) bytes) ≡ take k text = ap (take k) all.1 ∙ take-append-le k text all.0 (omega arith) in
    sink-stops to bytes n start now stop (k, subst (λ (l : List ℕ). GoesOn start now (outs l)) (sym same) wrote)

-- the same bytes are left
same_left : (left : Option (List ℕ)) (xs ys : List ℕ) → left ≡ Some xs → left ≡ Some ys → xs ≡ ys
same_left left xs ys e f = cc

-- where what is left begins
fault-place : (size place : ℕ) (rest : List ℕ) → rest ≢ [] → place + length rest ≡ size → rest_fault size rest ≡ Some place
fault-place size place [] some is = absurd (some refl)
fault-place size place (b ∷ rest) some is = ap (λ (n : ℕ). Some n) (let e : size - length (b ∷ rest) ≡ place = omega (arith, is) in e)

-- ---- what there is of a transcript

module _ (to : Rendering) (bytes : List ℕ) (left : Option (List ℕ)) (start now : Option (List TalkEvent)) (version : Version) (place : ℕ) (so : IsUnderway to bytes left start now version place) where
  -- what was written
  so_far : List ℕ
  so_far = head_text to so.depth so.asks ++ flat_map (reply_text to version) so.done

  -- what is to come
  to_come : List ℕ
  to_come = flat_map (reply_text to version) (all_replies version so.rest).0

  -- together they are all
  whole-text : text_of (rendered to) bytes ≡ so_far ++ to_come
  unfolding text_of so_far to_come
  whole-text =
      ap (λ (found : Option ℕ). elim found [ Some at ↦ [] | None ↦ rendered to (tale_of bytes) ]) so.no_fault
      ∙ ap (rendered to) so.tells
      ∙ ap (λ (l : List ℕ). head_text to so.depth so.asks ++ l) (flat_map-append (reply_text to version) so.done (all_replies version so.rest).0)
      ∙ sym (append_assoc (head_text to so.depth so.asks) (flat_map (reply_text to version) so.done) to_come)

  -- a front of it
  front-so_far : FrontWritten (rendered to) bytes left start now
  unfolding so_far
  front-so_far = (
    length so_far,
    subst (λ (l : List ℕ). GoesOn start now (outs l)) (sym (ap (take (length so_far)) whole-text ∙ take_at so_far to_come (length so_far) refl)) so.talk,
  )

  -- all of it, where nothing is to come
  all-so_far : (all_replies version so.rest).0 ≡ [] → AllWritten (rendered to) bytes left start now
  unfolding so_far to_come
  all-so_far none =
      subst (λ (l : List ℕ). GoesOn start now (outs l)) (sym (whole-text ∙ ap (λ (ms : List Message). so_far ++ flat_map (reply_text to version) ms) none ∙ append-nil so_far)) so.talk

  -- where bytes stop being a transcript, if they do
  the-fault : transcript_fault bytes ≡ rest_fault (length bytes) (all_replies version so.rest).1
  unfolding transcript_fault
  the-fault =
      ap (λ (found : Option ℕ). elim found [ Some at ↦ Some at | None ↦ rest_fault (length bytes) (tale_of bytes).rest ]) so.no_fault
      ∙ ap (λ (tale : Tale). rest_fault (length bytes) tale.rest) so.tells

  -- the end: nothing is left
  ends : left ≡ Some [] → Writes (rendered to) bytes left start now statuses.Wrote
  ends none =
      let empty = same_left left so.rest [] so.is_left none in
      let read : all_replies version so.rest ≡ ([], []) = ap (all_replies version) empty ∙ no-replies version 0 in (
        the-fault ∙ ap (λ (x : List Message × List ℕ). rest_fault (length bytes) x.1) read,
        record {
          version = version;
          depth = so.depth;
          asks = so.asks;
          replies = so.done;
          is_run = so.is_run;
          are_replies = so.are_replies;
          all = so.spelled ∙ ap (λ (l : List ℕ). transcript version so.depth so.asks (flat_map (spelling version) so.done ++ l)) empty
              ∙ ap (transcript version so.depth so.asks) (append-nil (flat_map (spelling version) so.done));
        },
        none,
        all-so_far (ap (λ (x : List Message × List ℕ). x.0) read),
      )

  -- bytes that begin with no whole frame
  faulty : (fault : WireFault) → so.rest ≢ [] → read_frame version ToVerifier so.rest ≡ Err fault → (left' : Option (List ℕ)) → Writes (rendered to) bytes left' start now (statuses.BadTranscript place)
  faulty fault some e left' =
      let read = replies-none version so.rest fault e in (
        the-fault ∙ ap (λ (x : List Message × List ℕ). rest_fault (length bytes) x.1) read ∙ fault-place (length bytes) place so.rest some so.is_place,
        all-so_far (ap (λ (x : List Message × List ℕ). x.0) read),
      )

  module _ (frame : List ℕ) (m : Message) (new : Option (List ℕ)) (later : Option (List TalkEvent)) (took : Took version ToVerifier frame m) (taken : Consumes left new frame) where
    -- what is left behind the frame
    after : (rest : List ℕ) × (new ≡ Some rest) × (so.rest ≡ frame ++ rest)
    after = came_front left new so.rest frame so.is_left taken

    -- the message and those behind it
    read-more : all_replies version so.rest ≡ (m ∷ (all_replies version after.0).0, (all_replies version after.0).1)
    read-more =
        replies-more version so.rest m after.0
        (ap (read_frame version ToVerifier) after.2 ∙ read_frame-append version ToVerifier frame after.0 m [] took.read)

    -- what was spelled so far is longer by the message
    spelled-more : bytes ≡ transcript version so.depth so.asks (flat_map (spelling version) (so.done ++ m ∷ []) ++ after.0)
    spelled-more =
        let spell = flat_map (spelling version) in
        so.spelled
        ∙ ap (λ (l : List ℕ). transcript version so.depth so.asks (spell so.done ++ l)) (after.2 ∙ ap (λ (l : List ℕ). l ++ after.0) took.spelled)
        ∙ ap (transcript version so.depth so.asks) (sym (append_assoc (spell so.done) (spelling version m) after.0) ∙ ap (λ (l : List ℕ). l ++ after.0) (flat_map_more (spelling version) [] so.done m))

    -- a message was passed
    passed : GoesOn now later (outs (reply_text to version m)) → IsUnderway to bytes new start later version (place + length frame)
    unfolding so_far
    passed wrote = record {
      depth = so.depth;
      asks = so.asks;
      done = so.done ++ m ∷ [];
      rest = after.0;
      is_run = so.is_run;
      are_replies = All-append (IsReply version) so.done (m ∷ []) so.are_replies
          (All-cons (IsReply version) m [] (record { has_spelling = took.has_spelling; allowed = took.allowed; in_range = took.in_range }) (All-nil (IsReply version)));
      spelled = spelled-more;
      no_fault = so.no_fault;
      tells = so.tells
          ∙ ap (tale_with version so.depth so.asks so.done) read-more
          ∙ ap (λ (ms : List Message). record { version = version; depth = so.depth; asks = so.asks; replies = ms; rest = (all_replies version after.0).1 }) (sym (append_assoc so.done (m ∷ []) (all_replies version after.0).0));
      is_left = after.1;
      talk = subst (λ (l : List ℕ). GoesOn start later (outs l)) (longer so.done m) (sent_more start now later so_far (reply_text to version m) so.talk wrote);
      is_place = omega (arith, so.is_place, ap length after.2, length-append frame after.0);
    }
      where
        longer : (done : List Message) (x : Message) → (head_text to so.depth so.asks ++ flat_map (reply_text to version) done) ++ reply_text to version x ≡ head_text to so.depth so.asks ++ flat_map (reply_text to version) (done ++ x ∷ [])
        longer done x = flat_map_more (reply_text to version) (head_text to so.depth so.asks) done x

    -- a front of what there is of the message was written
    cut : (left' : Option (List ℕ)) → (n : ℕ) → n < length (reply_text to version m) → GoesOn now later (outs (take n (reply_text to version m))) → FrontWritten (rendered to) bytes left' start later
    unfolding so_far to_come
    cut left' n fewer wrote =
        let behind = flat_map (reply_text to version) (all_replies version after.0).0 in
        let text : text_of (rendered to) bytes ≡ (so_far ++ reply_text to version m) ++ behind =
        whole-text ∙ ap (λ (x : List Message × List ℕ). so_far ++ flat_map (reply_text to version) x.0) read-more
        ∙ ap (λ (l : List ℕ). so_far ++ l) (flat_map-cons (reply_text to version) m (all_replies version after.0).0)
        ∙ sym (append_assoc so_far (reply_text to version m) behind) in
        let found = front_sent start now later so_far (reply_text to version m) behind (text_of (rendered to) bytes) n so.talk fewer wrote text in
        (found.0, found.2)

-- ---- one reply

-- what a reply that was not passed comes to
pub reply-stops : (to : Rendering) (bytes : List ℕ) (o n : Option (List ℕ)) (start now : Option (List TalkEvent)) (version : Version) (place : ℕ) (frame : List ℕ) (m : Message) → IsUnderway to bytes o start now version place
    → ReadsReply version o n frame m (Ok next.Faulty) → Writes (rendered to) bytes n start now (statuses.BadTranscript place)
reply-stops to bytes o n start now version place frame m so reads =
    let is = reads so.rest so.is_left in
    faulty to bytes o start now version place so is.1 is.0 is.2 n

-- the end
pub reply-ends : (to : Rendering) (bytes : List ℕ) (o n : Option (List ℕ)) (start now : Option (List TalkEvent)) (version : Version) (place : ℕ) (frame : List ℕ) (m : Message) → IsUnderway to bytes o start now version place
    → ReadsReply version o n frame m (Ok next.End) → Writes (rendered to) bytes n start now statuses.Wrote
reply-ends to bytes o n start now version place frame m so reads =
    let none : so.rest ≡ [] = reads.0 so.rest so.is_left in
    let front = came_front o n so.rest [] so.is_left reads.1 in
    let all = ends to bytes o start now version place so (so.is_left ∙ ap (λ (l : List ℕ). Some l) none) in
    (all.0, all.1, front.1 ∙ ap (λ (l : List ℕ). Some l) (sym front.2 ∙ none), all.3)

-- the source stopped
pub source-stopped : (to : Rendering) (bytes : List ℕ) (o n : Option (List ℕ)) (start now : Option (List TalkEvent)) (version : Version) (place : ℕ) (stop : PortStop) → IsUnderway to bytes o start now version place
    → Writes (rendered to) bytes n start now (status_of_source stop)
source-stopped to bytes o n start now version place stop so = source-stops to bytes n start now stop (front-so_far to bytes o start now version place so)

-- the sink stopped
pub sink-stopped : (to : Rendering) (bytes : List ℕ) (o n : Option (List ℕ)) (start now later : Option (List TalkEvent)) (version : Version) (place : ℕ) (frame : List ℕ) (m : Message) (stop : PortStop)
    → IsUnderway to bytes o start now version place → ReadsReply version o n frame m (Ok next.Said) → (k : ℕ) → k < length (reply_text to version m) → GoesOn now later (outs (take k (reply_text to version m)))
    → Writes (rendered to) bytes n start later (status_of_sink stop)
sink-stopped to bytes o n start now later version place frame m stop so reads k fewer wrote =
    sink-stops to bytes n start later stop (cut to bytes o start now version place so frame m n later reads.0 reads.1 n k fewer wrote)

-- a message was passed
pub reply-passed : (to : Rendering) (bytes : List ℕ) (o n : Option (List ℕ)) (start now later : Option (List TalkEvent)) (version : Version) (place : ℕ) (frame : List ℕ) (m : Message)
    → IsUnderway to bytes o start now version place → ReadsReply version o n frame m (Ok next.Said) → GoesOn now later (outs (reply_text to version m)) → IsUnderway to bytes n start later version (place + length frame)
reply-passed to bytes o n start now later version place frame m so reads wrote = passed to bytes o start now version place so frame m n later reads.0 reads.1 wrote

-- the place of what is left has no room in its number
pub place-lost : (to : Rendering) (bytes : List ℕ) (o n : Option (List ℕ)) (start now later : Option (List TalkEvent)) (version : Version) (place : ℕ) (frame : List ℕ) (m : Message)
    → IsUnderway to bytes o start now version place → ReadsReply version o n frame m (Ok next.Said) → GoesOn now later (outs (reply_text to version m)) → Writes (rendered to) bytes n start later statuses.OutOfMemory
place-lost to bytes o n start now later version place frame m so reads wrote =
    front-so_far to bytes n start later version (place + length frame) (reply-passed to bytes o n start now later version place frame m so reads wrote)

-- ---- the two forms

-- what is written of several, whatever their numbers
numbered-all : (f : Ask → List ℕ) (n : ℕ) (asks : List Ask) → numbered (λ (k : ℕ) (ask : Ask). f ask) n asks ≡ flat_map f asks
numbered-all f n [] = refl
numbered-all f n (ask ∷ asks) = ap (λ (l : List ℕ). f ask ++ l) (numbered-all f (suc n) asks) ∙ sym (flat_map-cons f ask asks)

-- a transcript is written in version 2
pub wide-text : (tale : Tale) → rendered Wide tale ≡ in_version_2 tale
wide-text tale =
    ap (λ (l : List ℕ). (head_bytes Two tale.depth (length tale.asks) ++ l) ++ flat_map (spelling Two) tale.replies) (numbered-all (λ (ask : Ask). ask_bytes Two ask.0 ask.1) 1 tale.asks)

-- or it is listed
pub lines-text : (tale : Tale) → rendered Listing tale ≡ listing tale
lines-text tale = refl

-- what is promised of a text is promised of one that is the same
pub writes-same : (text text' : Tale → List ℕ) → ((tale : Tale) → text tale ≡ text' tale) → (bytes : List ℕ) (left : Option (List ℕ)) (old new : Option (List TalkEvent)) (status : Status)
    → Writes text bytes left old new status → Writes text' bytes left old new status
writes-same text text' same bytes left old new status wrote = subst (λ (t : Tale → List ℕ). Writes t bytes left old new status) (fun_ext same) wrote

-- some bytes are written, whatever the status
pub writes-some : (text : Tale → List ℕ) (bytes : List ℕ) (left : Option (List ℕ)) (old new : Option (List TalkEvent)) (status : Status) → Writes text bytes left old new status → (more : List ℕ) × GoesOn old new (outs more)
writes-some text bytes left old new statuses.Wrote (none, run, ended, wrote) = (text_of text bytes, wrote)
writes-some text bytes left old new (statuses.BadTranscript at) (found, wrote) = (text_of text bytes, wrote)
writes-some text bytes left old new (statuses.ReadFault ports.Second) (n, wrote) = (take n (text_of text bytes), wrote)
writes-some text bytes left old new (statuses.WriteFault ports.Report) (n, wrote) = (take n (text_of text bytes), wrote)
writes-some text bytes left old new statuses.OutOfMemory (n, wrote) = (take n (text_of text bytes), wrote)
writes-some text bytes left old new _ wrote = absurd wrote
