-- A call that asks questions of a sketch keeps the promises of a run of questions over each stream that the sketch stands for.
use Rattle.std.proofs.Common.{◌≡◌, ◌⊎◌, ℕ, zero, suc, ◌+◌, ◌^◌, ◌<◌, true, List, [], ◌∷◌, ◌++◌, length, map, drop, take, All, Option, Some, None, inl, inr, refl, sym, ap, subst, ◌∙◌, append-nil, arith}
use Rattle.std.specs.Prelude.{Result, Ok, Err}
use Rattle.std.specs.List.{AllZip}
use Rattle.std.proofs.lemmas.List.{drop-drop}
use Rattle.std.proofs.lemmas.List.Elements.{All-head, All-tail}
use Rattle.sip_ports.specs.Ports.{GoesOn, outs}
use Rattle.sip_ports.specs.declared.port.TalkEvent.{TalkEvent}
use Rattle.sip_ports.proofs.TalkLemmas.{GoesOn-nothing, GoesOn-told}
use Rattle.sip_vector.specs.declared.update.Update.{Update}
use Rattle.sip_vector.specs.Tallies.{tally}
use Rattle.sip_vector.specs.declared.tally.Tally.{Tally}
use Rattle.sip_wire.specs.declared.version.Version.{Version}
use Rattle.sip_replies.specs.Talks.{IsPrefix}
use Rattle.sip_verifier.specs.Talks.{bye_sent}
use Rattle.sip_verifier.specs.declared.status.Port.TheVariants as run_ports
use Rattle.sip_verifier.specs.declared.status.Status.{Status}
use Rattle.sip_verifier.specs.declared.status.Status.TheVariants as runs
use Rattle.sip_verifier.specs.runs.Asking.{question_of}
use Rattle.sip_verifier.specs.runs.Manners.{Manner}
use Rattle.sip_verifier.specs.runs.Progress.{Checks, EndsWith, Passes, PassesInPart, PassedBy}
use Rattle.sip_verifier.proofs.QueriesChecked.{ends_with, none_passed, passed_more}
use Rattle.sip_questions.specs.Questions.{Answered, asking}
use Rattle.sip_questions.specs.declared.question.Question.{Question}
use Rattle.sip_sketch.specs.Sketches.{SeatValues, SketchValues, spelled_file}
use Rattle.sip_ask.specs.Asking.{AsksAll, Came, IsAskedOn, SaysBye, marked_by, none_of, steps_of}
use Rattle.sip_ask.specs.Choosing.{is_idle}
use Rattle.sip_ask.specs.Marking.{mark, used_at}
use Rattle.sip_ask.specs.Promises.{block_for, of_link, run_status}
use Rattle.sip_ask.specs.Turns.{block_at}
use Rattle.sip_ask.specs.inside.Seating.{IsTested, Takes}
use Rattle.sip_ask.specs.declared.status.AskPort.TheVariants as ports
use Rattle.sip_ask.specs.declared.status.AskStatus.{AskStatus}
use Rattle.sip_ask.specs.declared.status.AskStatus.TheVariants as statuses
use Rattle.sip_ask.proofs.LinkTalks.{checks-linked, link-append, link-front, link-steps, linked, linked-goes}
use Rattle.sip_ask.proofs.Unsigned.{AnswersNone, idle-none}

-- ---- blocks

-- a mark changes no challenge
mark-blocks : (place k : ℕ) (seats : List SeatValues) → block_at k (used_at place seats) ≡ block_at k seats
mark-blocks zero k [] = refl
mark-blocks (suc place) k [] = refl
mark-blocks zero zero (x ∷ xs) = refl
mark-blocks zero (suc k) (x ∷ xs) = refl
mark-blocks (suc place) zero (x ∷ xs) = refl
mark-blocks (suc place) (suc k) (x ∷ xs) = mark-blocks place k xs

-- ---- all questions, over a stream

module _ (version : Version) (s : SketchValues) (stream : List Update) (below : All (λ (u : Update). u.item < 2 ^ s.depth) stream)
    (asked : List Question) (places : List (Option ℕ)) (start : Option (List TalkEvent)) (wrote : Option (List TalkEvent)) where
  abbrev pub m : Manner Question Answered
  m = asking version s.depth stream

  abbrev pub blocks : List (List ℕ)
  blocks = map (block_for s) places

  -- so many were accepted, on a talk of the link
  abbrev pub Done : List TalkEvent → List TalkEvent → ℕ → Type 0
  Done talk lines count = PassedBy m asked blocks start (Some (of_link talk)) wrote (Some lines) count

  -- then the farewell was said
  pub record SaidBye (new full : Option (List TalkEvent)) : Type 0 where
    pub talk : List TalkEvent
    pub lines : List TalkEvent
    pub done : Done talk lines (length asked)
    pub bye : GoesOn (Some talk) new (bye_sent version)
    pub same : full ≡ Some lines

  -- or a front of it
  pub record CutBye (new full : Option (List TalkEvent)) (end : Status) : Type 0 where
    pub talk : List TalkEvent
    pub lines : List TalkEvent
    pub done : Done talk lines (length asked)
    pub count : ℕ
    pub short : count < length (bye_sent version)
    pub bye : GoesOn (Some talk) new (take count (bye_sent version))
    pub same : full ≡ Some lines
    pub stop : (end ≡ runs.PeerFault) ⊎ (end ≡ runs.OutOfMemory)

  -- or it stopped before the next question was sent
  pub record Between (new full : Option (List TalkEvent)) (end : Status) : Type 0 where
    pub talk : List TalkEvent
    pub lines : List TalkEvent
    pub number : ℕ
    pub done : Done talk lines number
    pub unsent : linked new ≡ Some (of_link talk)
    pub same : full ≡ Some lines
    pub stop : end ≡ runs.OutOfMemory

  abbrev pub Stopped : Option (List TalkEvent) → Option (List TalkEvent) → Status → Type 0
  Stopped new full end = EndsWith m asked blocks start (linked new) wrote full end ⊎ CutBye new full end ⊎ Between new full end

  -- what came of all of them
  abbrev pub Ends : Option (List TalkEvent) → Option (List TalkEvent) → Result (Unit {0}) AskStatus → Type 0
  Ends new full (Ok _) = SaidBye new full
  Ends new full (Err status) = (end : Status) → run_status status ≡ Some end → Stopped new full end

  -- ---- one question

  module _ (q : Question) (block : List ℕ) (number : ℕ) where
    -- nothing is said for it, and its line is written
    idle-passes : (talk lines : List TalkEvent) (new full : Option (List TalkEvent)) → AnswersNone version s.depth stream below q block
        → GoesOn (Some talk) new [] → GoesOn (Some lines) full (outs (m.line q (none_of q)))
        → Passes m q block number (Some (of_link talk)) (linked new) (Some lines) full
    idle-passes talk lines new full none same line = record {
      answer = none_of q;
      answered = record {
        replies = [];
        talk = subst (GoesOn (Some (of_link talk)) (linked new)) (sym none.silent) (linked-goes (Some talk) new [] same);
        accepted = none.accepts;
      };
      wrote = line;
    }

    idle-part : (talk lines : List TalkEvent) (new full : Option (List TalkEvent)) (part : List ℕ) → AnswersNone version s.depth stream below q block
        → GoesOn (Some talk) new [] → IsPrefix part (m.line q (none_of q)) → GoesOn (Some lines) full (outs part)
        → PassesInPart m q block number (Some (of_link talk)) (linked new) (Some lines) full
    idle-part talk lines new full part none same front line = record {
      answer = none_of q;
      answered = record {
        replies = [];
        talk = subst (GoesOn (Some (of_link talk)) (linked new)) (sym none.silent) (linked-goes (Some talk) new [] same);
        accepted = none.accepts;
      };
      part = part;
      front = front;
      wrote = line;
    }

  -- behind a file that was stored the talk of the link is as it was
  stored-link : (now : SketchValues) (place : ℕ) (talk : List TalkEvent) → of_link (talk ++ steps_of now place) ≡ of_link talk
  stored-link now place talk =
      link-append talk (steps_of now place) ∙ ap (λ (l : List TalkEvent). of_link talk ++ l) (link-steps (spelled_file (mark place now))) ∙ append-nil (of_link talk)

  -- what came of a question that was asked
  asked-checks : (now : SketchValues) (q : Question) (place number : ℕ) (talk : List TalkEvent) (new blank full : Option (List TalkEvent)) (result : Result (Unit {0}) Status)
      → block_at place now.seats ≡ block_at place s.seats → IsAskedOn m now number q (Some talk) new blank full place result
      → Checks m q (block_at place s.seats) number (Some (of_link talk)) (linked new) blank full result
  asked-checks now q place number talk new blank full result same a =
      let told = GoesOn-told talk a.mid (steps_of now place) a.stored in
      let link : linked a.mid ≡ Some (of_link talk) = ap linked told ∙ ap Some (stored-link now place talk) in
      let own = subst (λ (b : List ℕ). Checks m q b number a.mid new blank full result) same a.checks in
      subst (λ (o : Option (List TalkEvent)). Checks m q (block_at place s.seats) number o (linked new) blank full result) link
      (checks-linked version s.depth stream q (block_at place s.seats) number a.mid new blank full result own)

  -- ---- those that are left

  -- the next one, and those behind it
  behind-one : {X : Type 0} (x : X) (xs all : List X) (count : ℕ) → drop count all ≡ x ∷ xs → drop (count + 1) all ≡ xs
  behind-one x xs all count is = sym (drop-drop 1 count all) ∙ ap (drop 1) is

  -- what is so of them
  record Left (count : ℕ) (left : List Question) (taken : List (Option ℕ)) (now : SketchValues) : Type 0 where
    asks : drop count asked ≡ left
    at : drop count blocks ≡ map (block_for s) taken
    all : count + length left ≡ length asked
    same : (place : ℕ) → block_at place now.seats ≡ block_at place s.seats
    takes : AllZip (Takes s) left taken
    tested : All (IsTested (tally stream)) left

  left-more : (count : ℕ) (q : Question) (left : List Question) (place : Option ℕ) (taken : List (Option ℕ)) (now : SketchValues)
      → Left count (q ∷ left) (place ∷ taken) now → Left (count + 1) left taken (marked_by place now)
  left-more count q left place taken now l = record {
    asks = behind-one q left asked count l.asks;
    at = behind-one (block_for s place) (map (block_for s) taken) blocks count l.at;
    all = omega (arith, l.all);
    same = still place l.same;
    takes = l.takes.1;
    tested = All-tail (IsTested (tally stream)) q left l.tested;
  }
    where
      still : (place : Option ℕ) → ((k : ℕ) → block_at k now.seats ≡ block_at k s.seats) → (k : ℕ) → block_at k (marked_by place now).seats ≡ block_at k s.seats
      still None same k = same k
      still (Some place) same k = mark-blocks place k now.seats ∙ same k

  -- one more was accepted
  record OneMore (count : ℕ) (mid half : Option (List TalkEvent)) : Type 0 where
    talk : List TalkEvent
    lines : List TalkEvent
    talks : mid ≡ Some talk
    writes : half ≡ Some lines
    done : Done talk lines (suc count)

  -- the checks of the next question are those of one more
  more-done : (count : ℕ) (q : Question) (left : List Question) (place : Option ℕ) (taken : List (Option ℕ)) (now : SketchValues) (talk lines last text : List TalkEvent)
      (mid half : Option (List TalkEvent)) → Left count (q ∷ left) (place ∷ taken) now → Done talk lines count → mid ≡ Some last → half ≡ Some text
      → Checks m q (block_for s place) (suc count) (Some (of_link talk)) (linked mid) (Some lines) half (Ok tt) → OneMore count mid half
  more-done count q left place taken now talk lines last text mid half l done talks writes checks =
      let next : count + 1 ≡ suc count = omega arith in
      let passed = passed_more m asked blocks start (Some (of_link talk)) (linked mid) wrote (Some lines) half count q left (block_for s place) (map (block_for s) taken)
      (suc count) (Ok tt) tt refl done l.asks l.at checks in
      record {
        talk = last;
        lines = text;
        talks = talks;
        writes = writes;
        done = subst (λ (n : ℕ). Done last text n) next
            (subst (λ (o : Option (List TalkEvent)). PassedBy m asked blocks start (Some (of_link last)) wrote o (count + 1)) writes
            (subst (λ (o : Option (List TalkEvent)). PassedBy m asked blocks start (linked o) wrote half (count + 1)) talks passed));
      }

  -- a question that takes no seat has no entry
  none-left : (told : s.tally ≡ tally stream) (count : ℕ) (q : Question) (left : List Question) (taken : List (Option ℕ)) (now : SketchValues)
      → Left count (q ∷ left) (None ∷ taken) now → (block : List ℕ) → AnswersNone version s.depth stream below q block
  none-left told count q left taken now l block =
      let tested = All-head (IsTested (tally stream)) q left l.tested in
      idle-none version s.depth stream below q block tested.unsigned (subst (λ (t : Tally). is_idle t q ≡ true) told l.takes.0)

  module _ (told : s.tally ≡ tally stream) where
    one-more : (count : ℕ) (q : Question) (left : List Question) (place : Option ℕ) (taken : List (Option ℕ)) (now : SketchValues) (talk lines : List TalkEvent)
        (mid half : Option (List TalkEvent)) → Left count (q ∷ left) (place ∷ taken) now → Done talk lines count
        → Came m now (suc count) q (Some talk) mid (Some lines) half place (Ok tt) → OneMore count mid half
    one-more count q left None taken now talk lines mid half l done (same, line) =
        let none = none-left told count q left taken now l (block_for s None) in
        let text = outs (m.line q (none_of q)) in
        more-done count q left None taken now talk lines talk (lines ++ text) mid half l done (GoesOn-nothing talk mid same) (GoesOn-told lines half text line)
        (idle-passes q (block_for s None) (suc count) talk lines mid half none same line)
    one-more count q left (Some place) taken now talk lines mid half l done a =
        let stored = GoesOn-told talk a.mid (steps_of now place) a.stored in
        let said = m.said_for (question_of q (block_at place now.seats) a.checks.answered.replies) in
        let text = outs (m.line q a.checks.answer) in
        let talks = GoesOn-told (talk ++ steps_of now place) mid said (subst (λ (o : Option (List TalkEvent)). GoesOn o mid said) stored a.checks.answered.talk) in
        more-done count q left (Some place) taken now talk lines (talk ++ steps_of now place ++ said) (lines ++ text) mid half l done talks (GoesOn-told lines half text a.checks.wrote)
        (asked-checks now q place (suc count) talk mid (Some lines) half (Ok tt) (l.same place) a)

    -- ---- a stop

    with-checks : (count : ℕ) (q : Question) (left : List Question) (place : Option ℕ) (taken : List (Option ℕ)) (now : SketchValues) (talk lines : List TalkEvent)
        (new full : Option (List TalkEvent)) (end : Status) → Left count (q ∷ left) (place ∷ taken) now → Done talk lines count
        → Checks m q (block_for s place) (suc count) (Some (of_link talk)) (linked new) (Some lines) full (Err end) → Stopped new full end
    with-checks count q left place taken now talk lines new full end l done checks =
        inl (ends_with m asked blocks start (Some (of_link talk)) (linked new) wrote (Some lines) full count q left (block_for s place) (map (block_for s) taken)
        (suc count) (Err end) end refl refl done l.asks l.at checks)

    -- at a question that takes no seat
    stop-none : (count : ℕ) (q : Question) (left : List Question) (taken : List (Option ℕ)) (now : SketchValues) (talk lines : List TalkEvent) (new full : Option (List TalkEvent))
        (status : AskStatus) → Left count (q ∷ left) (None ∷ taken) now → Done talk lines count → Came m now (suc count) q (Some talk) new (Some lines) full None (Err status)
        → Ends new full (Err status)
    stop-none count q left taken now talk lines new full (statuses.WriteFault ports.Report) l done (same, part, front, line) = λ end is.
        let own : runs.WriteFault run_ports.Report ≡ end = cc in
        let none = none-left told count q left taken now l (block_for s None) in
        subst (Stopped new full) own (with-checks count q left None taken now talk lines new full (runs.WriteFault run_ports.Report) l done
        (inl (idle-part q (block_for s None) (suc count) talk lines new full part none same front line)))
    stop-none count q left taken now talk lines new full statuses.OutOfMemory l done (same, part, front, line) = λ end is.
        let own : runs.OutOfMemory ≡ end = cc in
        let none = none-left told count q left taken now l (block_for s None) in
        subst (Stopped new full) own (with-checks count q left None taken now talk lines new full runs.OutOfMemory l done
        (inl (idle-part q (block_for s None) (suc count) talk lines new full part none same front line)))
    stop-none count q left taken now talk lines new full _ l done came = absurd came

    -- at one that takes a seat
    stop-asked : (count : ℕ) (q : Question) (left : List Question) (place : ℕ) (taken : List (Option ℕ)) (now : SketchValues) (talk lines : List TalkEvent) (new full : Option (List TalkEvent))
        (end : Status) → Left count (q ∷ left) (Some place ∷ taken) now → Done talk lines count → IsAskedOn m now (suc count) q (Some talk) new (Some lines) full place (Err end)
        → Stopped new full end
    stop-asked count q left place taken now talk lines new full end l done a =
        with-checks count q left (Some place) taken now talk lines new full end l done (asked-checks now q place (suc count) talk new (Some lines) full (Err end) (l.same place) a)

    stop-some : (count : ℕ) (q : Question) (left : List Question) (place : ℕ) (taken : List (Option ℕ)) (now : SketchValues) (talk lines : List TalkEvent) (new full : Option (List TalkEvent))
        (status : AskStatus) → Left count (q ∷ left) (Some place ∷ taken) now → Done talk lines count → Came m now (suc count) q (Some talk) new (Some lines) full (Some place) (Err status)
        → Ends new full (Err status)
    stop-some count q left place taken now talk lines new full (statuses.Rejected k round reason) l done a = λ end is.
        let own : runs.Rejected k round reason ≡ end = cc in
        subst (Stopped new full) own (stop-asked count q left place taken now talk lines new full (runs.Rejected k round reason) l done a)
    stop-some count q left place taken now talk lines new full statuses.PeerFault l done a = λ end is.
        let own : runs.PeerFault ≡ end = cc in
        subst (Stopped new full) own (stop-asked count q left place taken now talk lines new full runs.PeerFault l done a)
    stop-some count q left place taken now talk lines new full (statuses.WriteFault ports.Report) l done a = λ end is.
        let own : runs.WriteFault run_ports.Report ≡ end = cc in
        subst (Stopped new full) own (stop-asked count q left place taken now talk lines new full (runs.WriteFault run_ports.Report) l done a)
    stop-some count q left place taken now talk lines new full (statuses.WriteFault ports.Sketch) l done a = λ end is. absurd cc
    stop-some count q left place taken now talk lines new full statuses.OutOfMemory l done (inl (part, same)) = λ end is.
        let own : runs.OutOfMemory ≡ end = cc in
        let front = take part.count (steps_of now place) in
        let none = link-front part.count (steps_of now place) (link-steps (spelled_file (mark place now))) in
        let unsent : linked new ≡ Some (of_link talk) =
        ap linked (GoesOn-told talk new front part.talk) ∙ ap Some (link-append talk front ∙ ap (λ (es : List TalkEvent). of_link talk ++ es) none ∙ append-nil (of_link talk)) in
        inr (inr (record { talk = talk; lines = lines; number = count; done = done; unsent = unsent; same = GoesOn-nothing lines full same; stop = sym own }))
    stop-some count q left place taken now talk lines new full statuses.OutOfMemory l done (inr a) = λ end is.
        let own : runs.OutOfMemory ≡ end = cc in
        subst (Stopped new full) own (stop-asked count q left place taken now talk lines new full runs.OutOfMemory l done a)
    stop-some count q left place taken now talk lines new full _ l done came = absurd came

    stop-one : (count : ℕ) (q : Question) (left : List Question) (place : Option ℕ) (taken : List (Option ℕ)) (now : SketchValues) (talk lines : List TalkEvent) (new full : Option (List TalkEvent))
        (status : AskStatus) → Left count (q ∷ left) (place ∷ taken) now → Done talk lines count → Came m now (suc count) q (Some talk) new (Some lines) full place (Err status)
        → Ends new full (Err status)
    stop-one count q left None taken now talk lines new full status l done came = stop-none count q left taken now talk lines new full status l done came
    stop-one count q left (Some place) taken now talk lines new full status l done came = stop-some count q left place taken now talk lines new full status l done came

    -- the farewell was not said whole
    stop-bye : (talk lines : List TalkEvent) (new full : Option (List TalkEvent)) (status : AskStatus) → Done talk lines (length asked) → full ≡ Some lines
        → SaysBye version (Some talk) new (Err status) → Ends new full (Err status)
    stop-bye talk lines new full statuses.PeerFault done same (n, short, bye) = λ end is.
        inr (inl (record { talk = talk; lines = lines; done = done; count = n; short = short; bye = bye; same = same; stop = inl (let own : end ≡ runs.PeerFault = cc in own) }))
    stop-bye talk lines new full statuses.OutOfMemory done same (n, short, bye) = λ end is.
        inr (inl (record { talk = talk; lines = lines; done = done; count = n; short = short; bye = bye; same = same; stop = inr (let own : end ≡ runs.OutOfMemory = cc in own) }))
    stop-bye talk lines new full _ done same bye = absurd bye

    -- ---- all of them

    ends-none : (talk lines : List TalkEvent) (new full : Option (List TalkEvent)) (result : Result (Unit {0}) AskStatus) → Done talk lines (length asked) → full ≡ Some lines
        → SaysBye version (Some talk) new result → Ends new full result
    ends-none talk lines new full (Ok x) done same bye = record { talk = talk; lines = lines; done = done; bye = bye; same = same }
    ends-none talk lines new full (Err status) done same bye = stop-bye talk lines new full status done same bye

    ends-all : (count : ℕ) (left : List Question) (taken : List (Option ℕ)) (now : SketchValues) (talk lines : List TalkEvent) (new full : Option (List TalkEvent))
        (result : Result (Unit {0}) AskStatus) → Left count left taken now → Done talk lines count
        → AsksAll version m now (suc count) left taken (Some talk) new (Some lines) full result → Ends new full result
    ends-all count [] taken now talk lines new full result l done (bye, same) =
        let all : count ≡ length asked = omega (arith, l.all) in
        ends-none talk lines new full result (subst (λ (n : ℕ). Done talk lines n) all done) (GoesOn-nothing lines full same) bye
    ends-all count (q ∷ left) [] now talk lines new full result l done all = absurd all
    ends-all count (q ∷ left) (place ∷ taken) now talk lines new full result l done (inl (mid, half, came, rest)) =
        let step = one-more count q left place taken now talk lines mid half l done came in
        let next : count + 1 ≡ suc count = omega arith in
        let more = subst (λ (n : ℕ). Left n left taken (marked_by place now)) next (left-more count q left place taken now l) in
        let goes = subst (λ (o : Option (List TalkEvent)). AsksAll version m (marked_by place now) (suc (suc count)) left taken (Some step.talk) new o full result) step.writes
        (subst (λ (o : Option (List TalkEvent)). AsksAll version m (marked_by place now) (suc (suc count)) left taken o new half full result) step.talks rest) in
        ends-all (suc count) left taken (marked_by place now) step.talk step.lines new full result more step.done goes
    ends-all count (q ∷ left) (place ∷ taken) now talk lines new full result l done (inr (status, e, came)) =
        subst (Ends new full) (sym e) (stop-one count q left place taken now talk lines new full status l done came)

    -- from the first on
    pub ends-of : AllZip (Takes s) asked places → All (IsTested (tally stream)) asked → (talk lines : List TalkEvent) (new full : Option (List TalkEvent))
        (result : Result (Unit {0}) AskStatus) → start ≡ Some (of_link talk) → wrote ≡ Some lines
        → AsksAll version m s 1 asked places (Some talk) new (Some lines) full result → Ends new full result
    ends-of takes tested talk lines new full result begins writes all =
        let none = none_passed m asked blocks start wrote in
        let done : Done talk lines 0 =
        subst (λ (o : Option (List TalkEvent)). PassedBy m asked blocks start (Some (of_link talk)) wrote o 0) writes
        (subst (λ (o : Option (List TalkEvent)). PassedBy m asked blocks start o wrote wrote 0) begins none) in
        ends-all 0 asked places s talk lines new full result
        (record { asks = refl; at = refl; all = omega arith; same = λ place. refl; takes = takes; tested = tested }) done all
