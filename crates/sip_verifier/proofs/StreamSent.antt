-- What goes out for a stream, frame by frame.
use Rattle.std.proofs.Common.{◌≡◌, ℕ, ◌+◌, ◌-◌, ◌%◌, ◌<◌, ◌≤◌, List, [], ◌∷◌, ◌++◌, length, take, drop, map, sym, ap, ◌∙◌, arith, append_assoc, append-nil, length-append, take-append-drop}
use Rattle.std.proofs.Math.Seq.{take-append-add}
use Rattle.std.proofs.lemmas.List.{length-map, map-append, length-take-le}
use Rattle.std.specs.List.{flat_map}
use Rattle.std.proofs.lemmas.List.Concat.{flat_map-append}
use Rattle.sip_wire.specs.Versions.{number_of}
use Rattle.sip_wire.specs.declared.version.Version.{Version}
use Rattle.sip_ports.specs.declared.port.TalkEvent.{TalkEvent}
use Rattle.sip_ports.specs.declared.port.TalkEvent.TheVariants.{Out}
use Rattle.sip_ports.specs.Ports.{outs}
use Rattle.sip_ports.proofs.TalkLemmas.{outs-append}
use Rattle.sip_vector.specs.declared.update.Update.{Update}
use Rattle.sip_vector.specs.Pieces.{cut}
use Rattle.sip_stream.proofs.Cuts.{cut-one}
use Rattle.sip_wire.specs.declared.message.Message.{Message}
use Rattle.sip_wire.specs.declared.message.Message.TheVariants as messages
use Rattle.sip_wire.specs.Spelling.{spelling}
use Rattle.sip_wire.proofs.ReadingLaws.{length-spelling}
use Rattle.sip_replies.specs.Talks.{IsPrefix, sent}
use Rattle.sip_replies.proofs.Saying.{sent-one}
use Rattle.sip_verifier.specs.Feeding.{due_at_end}
use Rattle.sip_verifier.specs.Talks.{update_frames, whole_frames, opening_sent, stream_sent}
use Rattle.sip_verifier.proofs.FramesCut.{cut-append}

-- ---- fronts

pub IsPrefix-same : {X : Type 0} (xs : List X) → IsPrefix xs xs
IsPrefix-same xs = ([], sym (append-nil xs))

pub IsPrefix-trans : {X : Type 0} (xs ys zs : List X) → IsPrefix xs ys → IsPrefix ys zs → IsPrefix xs zs
IsPrefix-trans xs ys zs p q = (p.0 ++ q.0, q.1 ∙ ap (λ l. l ++ q.0) p.1 ∙ append_assoc xs p.0 q.0)

-- a front of what was sent last
pub sent_front : (events : List TalkEvent) (bytes : List ℕ) (n : ℕ) → IsPrefix (events ++ outs (take n bytes)) (events ++ outs bytes)
sent_front events bytes n = (
  outs (drop n bytes),
  ap (λ l. events ++ outs l) (sym (take-append-drop n bytes)) ∙ ap (λ l. events ++ l) (outs-append (take n bytes) (drop n bytes)) ∙ sym (append_assoc events (outs (take n bytes)) (outs (drop n bytes))),
)

-- which is shorter, where bytes are missing
pub sent_short : (events : List TalkEvent) (bytes : List ℕ) (n : ℕ) → n < length bytes → length (events ++ outs (take n bytes)) < length (events ++ outs bytes)
sent_short events bytes n less =
    omega (arith, less, length-append events (outs (take n bytes)), length-append events (outs bytes), length-map (take n bytes) Out, length-map bytes Out, length-take-le n bytes (omega (arith, less)))

-- ---- messages one after another

sent-append : (version : Version) (ms ns : List Message) → sent version (ms ++ ns) ≡ sent version ms ++ sent version ns
sent-append version ms ns = ap outs (flat_map-append (spelling version) ms ns) ∙ outs-append (flat_map (spelling version) ms) (flat_map (spelling version) ns)

-- the frame of some updates
abbrev pub frame : List Update → Message
frame us = messages.Updates (record { items = us })

-- whole frames, and what follows them
opening_sent-append : (version : Version) (depth : ℕ) (xs ys : List Update) → length xs % 512 ≡ 0
    → opening_sent version depth (xs ++ ys) ≡ opening_sent version depth xs ++ sent version (update_frames ys)
opening_sent-append version depth xs ys whole =
    ap (λ l. sent version (messages.Open (number_of version) depth ∷ map frame l))
    (cut-append 512 xs ys (omega arith) whole)
    ∙ ap (λ l. sent version (messages.Open (number_of version) depth ∷ l)) (map-append frame (cut 512 xs) (cut 512 ys))
    ∙ sent-append version (messages.Open (number_of version) depth ∷ update_frames xs) (update_frames ys)

-- whole frames, and one more
pub opening_sent-frame : (version : Version) (depth : ℕ) (xs ys : List Update) → length xs % 512 ≡ 0 → 0 < length ys → length ys ≤ 512 → opening_sent version depth (xs ++ ys) ≡ opening_sent version depth xs ++ outs (spelling version (frame ys))
opening_sent-frame version depth xs ys whole some most =
    opening_sent-append version depth xs ys whole
    ∙ ap (λ l. opening_sent version depth xs ++ sent version (map frame l)) (cut-one 512 ys some most)
    ∙ ap (λ l. opening_sent version depth xs ++ l) (sent-one version (frame ys))

-- whole frames, those that wait, and the end
pub stream_sent-rest : (version : Version) (depth : ℕ) (xs ys : List Update) → length xs % 512 ≡ 0 → stream_sent version depth (xs ++ ys) ≡ opening_sent version depth xs ++ outs (due_at_end version ys)
stream_sent-rest version depth xs ys whole =
    let end = messages.EndStream ∷ [] in
    ap (λ l. l ++ sent version end) (opening_sent-append version depth xs ys whole)
    ∙ append_assoc (opening_sent version depth xs) (sent version (update_frames ys)) (sent version end)
    ∙ ap (λ l. opening_sent version depth xs ++ l) (sym (sent-append version (update_frames ys) end))

-- ---- the whole frames of a stream

whole_frames-append : (xs ys : List Update) → length xs % 512 ≡ 0 → whole_frames (xs ++ ys) ≡ xs ++ whole_frames ys
whole_frames-append xs ys whole =
    let lengths = length-append xs ys in
    let count : length (xs ++ ys) - length (xs ++ ys) % 512 ≡ length xs + (length ys - length ys % 512) = omega arith in
    ap (λ n. take n (xs ++ ys)) count ∙ take-append-add xs ys (length ys - length ys % 512)

-- all that can wait is no whole frame
pub whole_frames-waiting : (xs ys : List Update) → length xs % 512 ≡ 0 → length ys < 512 → whole_frames (xs ++ ys) ≡ xs
whole_frames-waiting xs ys whole few =
    let none : length ys - length ys % 512 ≡ 0 = omega arith in
    whole_frames-append xs ys whole ∙ ap (λ n. xs ++ take n ys) none ∙ append-nil xs

-- whole frames stay in front, whatever follows
pub opening_sent-front : (version : Version) (depth : ℕ) (xs more : List Update) → length xs % 512 ≡ 0 → IsPrefix (opening_sent version depth xs) (opening_sent version depth (whole_frames (xs ++ more)))
opening_sent-front version depth xs more whole = (
  sent version (update_frames (whole_frames more)),
  ap (opening_sent version depth)
      (whole_frames-append xs more whole) ∙ opening_sent-append version depth xs
      (whole_frames more) whole,
)

-- the whole frames of a stream, and what is none yet
record Framed (stream : List Update) : Type 0 where
  rest : List Update
  split : stream ≡ whole_frames stream ++ rest
  whole : length (whole_frames stream) % 512 ≡ 0

framed : (stream : List Update) → Framed stream
framed stream =
    let n = length stream - length stream % 512 in
    let len : length (take n stream) ≡ n = length-take-le n stream (omega arith) in
    record {
      rest = drop n stream;
      split = sym (take-append-drop n stream);
      whole = omega arith;
    }

-- the frames of a front are a front of the frames
pub frames_front : (version : Version) (depth : ℕ) (stream more : List Update) → IsPrefix (opening_sent version depth (whole_frames stream)) (opening_sent version depth (whole_frames (stream ++ more)))
frames_front version depth stream more =
    let f = framed stream in
    let front = opening_sent-front version depth (whole_frames stream) (f.rest ++ more) f.whole in
    (front.0, ap (λ l. opening_sent version depth (whole_frames l)) (ap (λ l. l ++ more) f.split ∙ append_assoc (whole_frames stream) f.rest more) ∙ front.1)

-- at the end of a stream something goes out
due-some_bytes : (version : Version) (ys : List Update) → 0 < length (due_at_end version ys)
due-some_bytes version ys =
    let end = spelling version messages.EndStream in
    omega (arith, ap length (flat_map-append (spelling version) (update_frames ys) (messages.EndStream ∷ [])), length-append (flat_map (spelling version) (update_frames ys)) (end ++ []), ap length (append-nil end), length-spelling version messages.EndStream)

-- what goes out is the whole frames, those that are left, and the end
stream_sent-frames : (version : Version) (depth : ℕ) (stream : List Update) → (rest : List Update) × (stream_sent version depth stream ≡ opening_sent version depth (whole_frames stream) ++ outs (due_at_end version rest))
stream_sent-frames version depth stream =
    let f = framed stream in
    (f.rest, ap (stream_sent version depth) f.split ∙ stream_sent-rest version depth (whole_frames stream) f.rest f.whole)

-- so what goes out before the end is a front of it
pub stream_sent-front : (version : Version) (depth : ℕ) (stream : List Update) → IsPrefix (opening_sent version depth (whole_frames stream)) (stream_sent version depth stream)
stream_sent-front version depth stream = let all = stream_sent-frames version depth stream in (outs (due_at_end version all.0), all.1)

-- and is shorter
pub before_end-short : (version : Version) (depth : ℕ) (stream : List Update) → length (opening_sent version depth (whole_frames stream)) < length (stream_sent version depth stream)
before_end-short version depth stream =
    let all = stream_sent-frames version depth stream in
    let opening = opening_sent version depth (whole_frames stream) in
    let due = due_at_end version all.0 in
    omega (arith, ap length all.1, length-append opening (outs due), length-map due Out, due-some_bytes version all.0)
