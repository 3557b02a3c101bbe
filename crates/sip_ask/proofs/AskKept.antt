-- The promises of questions hold of a call that asks a sketch.
use Rattle.std.proofs.Common.{◌≡◌, ◌⊎◌, ℕ, ◌-◌, false, ◌<◌, ◌≤◌, List, [], ◌∷◌, ◌++◌, length, map, take, flat_map, get_or, All, Option, Some, None, inl, inr, refl, sym, ap, subst, ◌∙◌, append_assoc, append-nil, arith}
use Rattle.std.specs.Prelude.{Ok, Err}
use Rattle.std.specs.List.{AllZip}
use Rattle.std.proofs.lemmas.List.{append_cancel_left, length-map, length-replicate, take-map}
use Rattle.std.proofs.lemmas.List.Elements.{All-cons, All-get_or, All-head, All-nil, All-replicate, All-tail}
use Rattle.sip_field.specs.Moduli.{m61_modulus}
use Rattle.sip_ports.specs.Ports.{GoesOn, outs}
use Rattle.sip_ports.specs.declared.port.PortStop.TheVariants as port_stops
use Rattle.sip_ports.specs.declared.port.TalkEvent.{TalkEvent}
use Rattle.sip_ports.specs.declared.port.TalkEvent.TheVariants.{Out}
use Rattle.sip_ports.proofs.DeskLemmas.{IsOfLink-outs}
use Rattle.sip_ports.proofs.TalkLemmas.{GoesOn-told, outs-injective}
use Rattle.sip_vector.specs.Pieces.{cut}
use Rattle.sip_vector.specs.Tallies.{tally}
use Rattle.sip_vector.specs.declared.tally.Tally.{Tally}
use Rattle.sip_vector.specs.declared.update.Update.{Update}
use Rattle.sip_wire.specs.declared.version.Version.{Version}
use Rattle.sip_stream.specs.Records.{Records}
use Rattle.sip_stream.specs.declared.form.Form.{Form}
use Rattle.sip_stream.proofs.Cuts.{cut-cons, cut-nil}
use Rattle.sip_verifier.specs.Exchanges.{Exchange}
use Rattle.sip_verifier.specs.Snapshots.{Counts}
use Rattle.sip_verifier.specs.Statuses.{FaultClause}
use Rattle.sip_verifier.specs.Talks.{bye_sent, stream_sent}
use Rattle.sip_verifier.specs.declared.status.Port.TheVariants as run_ports
use Rattle.sip_verifier.specs.declared.status.Status.{Status}
use Rattle.sip_verifier.specs.declared.status.Status.TheVariants as runs
use Rattle.sip_verifier.specs.runs.Concluding.{Ended}
use Rattle.sip_verifier.specs.runs.Manners.{Accepted, Manner, Question as PosedBy}
use Rattle.sip_verifier.specs.runs.Progress.{EndsWith, PassedBy}
use Rattle.sip_verifier.specs.runs.Runs.{AreQuestions, IsLegalToEnd, Run, farewell, lines, manner, questions_of, updates}
use Rattle.sip_verifier.proofs.QueryPromises.{Came, after_queries, at_bye, came}
use Rattle.sip_questions.specs.LawProofs.Waiting.{waits_lawful}
use Rattle.sip_questions.specs.Promises.{CanRun, IsWhole, QuestionClauses}
use Rattle.sip_questions.specs.Questions.{Answered, asking, first_refusal, version_for}
use Rattle.sip_questions.specs.declared.question.Question.{Question}
use Rattle.sip_sketch.specs.Sketches.{IsSketch, SeatValues, SketchValues, element}
use Rattle.sip_sketch.specs.Standing.{Stands}
use Rattle.sip_sketch.specs.declared.kind.SeatKind.TheVariants as kinds
use Rattle.sip_sketch.proofs.Whole.{SeatFits, fits_from, ranged_from}
use Rattle.sip_ask.specs.Asking.{AsksAll, IsInTalk, as_result}
use Rattle.sip_ask.specs.Causes.{HasRisen}
use Rattle.sip_ask.specs.Choosing.{choice}
use Rattle.sip_ask.specs.Promises.{AskClauses, IsAsIf, block_for, of_link, run_of, run_status}
use Rattle.sip_ask.specs.Turns.{block_at, held_by, held_heard, recall_sent}
use Rattle.sip_ask.specs.inside.Seating.{IsTested, Takes}
use Rattle.sip_ask.specs.declared.status.AskPort.TheVariants as ports
use Rattle.sip_ask.specs.declared.status.AskStatus.{AskStatus}
use Rattle.sip_ask.specs.declared.status.AskStatus.TheVariants as statuses
use Rattle.sip_ask.proofs.AskPromises.{Ends, SaidBye, Stopped, ends-of}
use Rattle.sip_ask.proofs.Chosen.{block-at, chosen-is}
use Rattle.sip_ask.proofs.LinkTalks.{link-append, link-same, linked, linked-goes}
use Rattle.sip_ask.proofs.Served.{fit-pose, sketch-shallow, sketch-some}
use Rattle.sip_ask.proofs.Unsigned.{none-refused}

-- a run that keeps to the clauses of verdicts, of the talk and of causes keeps to all
abbrev pub AreKept : Type 0
AreKept = (r : Run Question) (x : Exchange) (before now : Counts) (status : Status) → CanRun r x → Ended asking r x before now status → QuestionClauses r x before now status

-- ---- blocks

-- the block of a seat is whole
seat-whole : (s : SketchValues) → IsSketch s → (place : ℕ) (d : SeatValues) → place < length s.seats → IsWhole s.depth (block_at place s.seats)
seat-whole s is place d inside =
    let fits = All-get_or (SeatFits s.depth s.tally) s.seats place d inside (fits_from s is) in
    let whole : IsWhole s.depth (get_or s.seats place d).block = record {
      size = fits.levels;
      below = λ k e lt. let most = (ranged_from element.size 0 (m61_modulus - 1) (get_or (get_or s.seats place d).block k e) (fits.block k e lt)).1 in omega (arith, most);
    } in
    subst (IsWhole s.depth) (sym (block-at s.seats place d inside)) whole

-- so is that of each question
block-whole : (s : SketchValues) → IsSketch s → (q : Question) (place : Option ℕ) → Takes s q place → IsWhole s.depth (block_for s place)
block-whole s is q None takes = record { size = length-replicate s.depth 0; below = All-replicate (λ r. r < m61_modulus) s.depth 0 (omega arith) }
block-whole s is q (Some place) takes =
    seat-whole s is place (record { kind = kinds.Entries; is_used = false; block = []; first = 0; second = 0 }) takes.0.inside

pub blocks-whole : (s : SketchValues) → IsSketch s → (asked : List Question) (places : List (Option ℕ)) → AllZip (Takes s) asked places
    → All (IsWhole s.depth) (map (block_for s) places)
blocks-whole s is [] [] takes = All-nil (IsWhole s.depth)
blocks-whole s is [] (place ∷ places) takes = absurd takes
blocks-whole s is (q ∷ asked) [] takes = absurd takes
blocks-whole s is (q ∷ asked) (place ∷ places) takes =
    All-cons (IsWhole s.depth) (block_for s place) (map (block_for s) places) (block-whole s is q place takes.0) (blocks-whole s is asked places takes.1)

-- the challenges of all of them are cut into these blocks
pub cut-blocks : (depth : ℕ) → 1 ≤ depth → (f : Option ℕ → List ℕ) (places : List (Option ℕ)) → All (IsWhole depth) (map f places) → cut depth (flat_map f places) ≡ map f places
cut-blocks depth some f [] all = cut-nil depth (omega (arith, some))
cut-blocks depth some f (place ∷ places) all =
    cut-cons depth (f place) (flat_map f places) (omega (arith, some)) (All-head (IsWhole depth) (f place) (map f places) all).size
    ∙ ap (λ (l : List (List ℕ)). f place ∷ l) (cut-blocks depth some f places (All-tail (IsWhole depth) (f place) (map f places) all))

-- ---- causes

-- the count of faults that rose, as that of a run
pub fault-of : (before now : Counts) (status : AskStatus) (end : Status) → run_status status ≡ Some end → HasRisen before.peer now.peer before.report now.report status
    → FaultClause before now end
fault-of before now statuses.Accepted end is rose = let own : runs.Accepted ≡ end = cc in subst (FaultClause before now) own tt
fault-of before now (statuses.Rejected query round reason) end is rose =
    let own : runs.Rejected query round reason ≡ end = cc in subst (FaultClause before now) own tt
fault-of before now (statuses.WriteFault ports.Report) end is rose =
    let own : runs.WriteFault run_ports.Report ≡ end = cc in subst (FaultClause before now) own rose
fault-of before now statuses.PeerFault end is rose = let own : runs.PeerFault ≡ end = cc in subst (FaultClause before now) own rose
fault-of before now statuses.OutOfMemory end is rose = let own : runs.OutOfMemory ≡ end = cc in subst (FaultClause before now) own tt
fault-of before now (statuses.WriteFault ports.Sketch) end is rose = absurd cc
fault-of before now (statuses.BadSketch offset) end is rose = absurd cc
fault-of before now statuses.Busy end is rose = absurd cc
fault-of before now statuses.NotWhole end is rose = absurd cc
fault-of before now (statuses.Unfit query) end is rose = absurd cc
fault-of before now (statuses.Signed query) end is rose = absurd cc
fault-of before now (statuses.NoSeat query) end is rose = absurd cc
fault-of before now (statuses.TooWide query) end is rose = absurd cc
fault-of before now (statuses.TooHigh query) end is rose = absurd cc
fault-of before now (statuses.OutOfStep held kept) end is rose = absurd cc
fault-of before now statuses.BadFrame end is rose = absurd cc
fault-of before now statuses.PeerClosed end is rose = absurd cc
fault-of before now statuses.ReadFault end is rose = absurd cc

-- ---- a run that stopped between two questions

module _ (r : Run Question) (x : Exchange) where
  abbrev own : Manner Question Answered
  own = manner asking r x

  abbrev streamed : List TalkEvent
  streamed = stream_sent r.version r.depth (updates r x)

  between-ended : (challenges : List ℕ) (done : List (Accepted own)) → Came asking r x challenges done [] [] → (before now : Counts) → Ended asking r x before now runs.OutOfMemory
  between-ended challenges done c before now =
      let said = flat_map own.said_for (questions_of asking r x done) in
      let are : AreQuestions r x (questions_of asking r x done) = record { challenges = challenges; drawn = c.draws; queries = c.first.asked; blocks = c.first.at_blocks } in
      let reached = inr ([], record { are_questions = are; legal = c.legal; talk = c.talk }) in
      let same : questions_of asking r x done ++ [] ≡ questions_of asking r x done = append-nil (questions_of asking r x done) in
      let order : streamed ++ flat_map own.said_for (questions_of asking r x done ++ []) ++ farewell asking r x done ≡ x.talk ++ farewell asking r x done =
      ap (λ (qs : List (PosedBy Question)). streamed ++ flat_map own.said_for qs ++ farewell asking r x done) same
      ∙ ap (λ (l : List TalkEvent). l ++ farewell asking r x done) (sym (c.talk ∙ append-nil (streamed ++ said))) in
      let report : x.report ≡ lines asking r x done = c.report ∙ append-nil (lines asking r x done) in
      record {
        verdict = inl (record { done = done; current = None; waits = tt; reached = reached; order = (farewell asking r x done, order); report = report });
        talk = inl (inl (record {
          done = done;
          reached = reached;
          current = None;
          unfinished = tt;
          questions = λ _. subst (AreQuestions r x) (sym same) are;
          order = (farewell asking r x done, order);
          legal = λ not_so. absurd (not_so c.legal);
          written = λ _. report;
        }));
        cause = tt;
      }

  -- ---- a run that came to this

  module _ (challenges : List ℕ) (t1 r0 new full : Option (List TalkEvent)) (talk lines : List TalkEvent)
      (draws : r.challenges ≡ Some challenges) (legal : IsLegalToEnd r x) (narrow : own.MayAsk r.queries)
      (told : (more : List TalkEvent) → GoesOn t1 (linked new) more → x.talk ≡ streamed ++ more)
      (wrote : (bytes : List ℕ) → GoesOn r0 full (outs bytes) → x.report ≡ bytes) (before now : Counts) where
    -- so many were accepted on a talk of the link
    abbrev Passed : List TalkEvent → List TalkEvent → ℕ → Type 0
    Passed said text count = PassedBy own r.queries (cut r.depth challenges) t1 (Some (of_link said)) r0 (Some text) count

    at-full : (said text : List TalkEvent) (count : ℕ) → full ≡ Some text → Passed said text count
        → PassedBy own r.queries (cut r.depth challenges) t1 (Some (of_link said)) r0 full count
    at-full said text count same passed =
        subst (λ (o : Option (List TalkEvent)). PassedBy own r.queries (cut r.depth challenges) t1 (Some (of_link said)) r0 o count) (sym same) passed

    bye-ended : (said text : List TalkEvent) → full ≡ Some text → Passed said text (length r.queries) → GoesOn (Some said) new (bye_sent r.version) → x.unread ≡ []
        → Ended asking r x before now runs.Accepted
    bye-ended said text same passed bye read =
        let link = subst (GoesOn (Some (of_link said)) (linked new)) (link-same (bye_sent r.version) (IsOfLink-outs own.farewell)) (linked-goes (Some said) new (bye_sent r.version) bye) in
        at_bye asking r x challenges t1 (linked new) r0 full draws legal narrow told wrote (waits_lawful r.version r.depth (updates r x)) before now (Some (of_link said)) (Ok tt) (Ok tt)
        (at-full said text (length r.queries) same passed) link refl tt read

    cut-ended : (said text : List TalkEvent) (count : ℕ) (end : Status) → full ≡ Some text → Passed said text (length r.queries) → count < length (bye_sent r.version)
        → GoesOn (Some said) new (take count (bye_sent r.version)) → (end ≡ runs.PeerFault) ⊎ (end ≡ runs.OutOfMemory) → FaultClause before now end → x.unread ≡ []
        → Ended asking r x before now end
    cut-ended said text count end same passed short bye stop cause read =
        let part : take count (bye_sent r.version) ≡ outs (take count own.farewell) = take-map Out count own.farewell in
        let goes = subst (GoesOn (Some said) new) part bye in
        let link = subst (GoesOn (Some (of_link said)) (linked new)) (link-same (outs (take count own.farewell)) (IsOfLink-outs (take count own.farewell)))
        (linked-goes (Some said) new (outs (take count own.farewell)) goes) in
        let less : count < length own.farewell = subst (λ (n : ℕ). count < n) (length-map own.farewell Out) short in
        let at = at-full said text (length r.queries) same passed in
        elim stop [
          | inl peer ↦
              at_bye asking r x challenges t1 (linked new) r0 full draws legal narrow told wrote (waits_lawful r.version r.depth (updates r x)) before now (Some (of_link said))
              (Err port_stops.Failed) (Err end) at (count, less, link) (port_stops.Failed, refl, peer) cause read
          | inr memory ↦
              at_bye asking r x challenges t1 (linked new) r0 full draws legal narrow told wrote (waits_lawful r.version r.depth (updates r x)) before now (Some (of_link said))
              (Err port_stops.OutOfMemory) (Err end) at (count, less, link) (port_stops.OutOfMemory, refl, memory) cause read
        ]

    query-ended : (end : Status) → EndsWith own r.queries (cut r.depth challenges) t1 (linked new) r0 full end → FaultClause before now end → Ended asking r x before now end
    query-ended end e cause =
        after_queries asking r x challenges t1 (linked new) r0 full draws legal narrow told wrote (waits_lawful r.version r.depth (updates r x)) before now end e cause

    gap-ended : (said text : List TalkEvent) (count : ℕ) → full ≡ Some text → Passed said text count → linked new ≡ Some (of_link said) → Ended asking r x before now runs.OutOfMemory
    gap-ended said text count same passed unsent =
        let goes : GoesOn (Some (of_link said)) (linked new) [] = subst (λ (o : Option (List TalkEvent)). GoesOn (Some (of_link said)) o []) (sym unsent) (sym (append-nil (of_link said))) in
        let writes : GoesOn (Some text) full [] = subst (λ (o : Option (List TalkEvent)). GoesOn (Some text) o []) (sym same) (sym (append-nil text)) in
        let c = came asking r x challenges passed.done [] [] t1 (Some (of_link said)) (linked new) r0 (Some text) full draws legal narrow told wrote passed.passed goes writes in
        between-ended challenges passed.done c before now

-- ---- a call

module _ (asked : List Question) (s : SketchValues) (places : List (Option ℕ)) (is : IsSketch s) (chosen : choice s asked ≡ Ok places)
    (stream : List Update) (stands : Stands stream s) (form : Form) (x : Exchange) (behind : List TalkEvent) (report : List ℕ)
    (as_if : IsAsIf asked s places stream form behind report x) where
  abbrev version : Version
  version = version_for s.depth asked

  abbrev r : Run Question
  r = run_of asked s places stream form

  same-updates : updates r x ≡ stream
  same-updates = ap (λ (z : Records). z.legal) as_if.told

  legal-to-end : IsLegalToEnd r x
  legal-to-end = ap (λ (z : Records). z.fault) as_if.told

  whole : All (IsWhole s.depth) (map (block_for s) places)
  whole = blocks-whole s is asked places (chosen-is s asked places chosen).take

  are-cut : cut s.depth (flat_map (block_for s) places) ≡ map (block_for s) places
  are-cut = cut-blocks s.depth (sketch-some s is) (block_for s) places whole

  can-run : CanRun r x
  can-run = record {
    some = sketch-some s is;
    shallow = sketch-shallow s asked is;
    asked = fit-pose s asked is (chosen-is s asked places chosen).fit;
    blocks = λ challenges drawn.
        let same : flat_map (block_for s) places ≡ challenges = cc in
        subst (λ (l : List ℕ). All (IsWhole s.depth) (cut s.depth l)) same (subst (All (IsWhole s.depth)) (sym are-cut) whole);
    short = λ less. absurd (omega (arith, less, as_if.seeded));
  }

  tested : All (IsTested (tally stream)) asked
  tested = subst (λ (t : Tally). All (IsTested t) asked) stands.told (chosen-is s asked places chosen).tested

  may-ask : first_refusal (updates r x) 1 asked ≡ None
  may-ask = ap (λ (us : List Update). first_refusal us 1 asked) same-updates ∙ none-refused stream 1 asked tested

  module _ (talk0 lines0 : List TalkEvent) (new full : Option (List TalkEvent)) (goes : new ≡ Some (talk0 ++ behind)) (writes : full ≡ Some (lines0 ++ outs report))
      (before now : Counts) where
    abbrev begun : Option (List TalkEvent)
    begun = Some (of_link talk0)

    told : (more : List TalkEvent) → GoesOn begun (linked new) more → x.talk ≡ stream_sent version s.depth (updates r x) ++ more
    told more on =
        let link : linked new ≡ Some (of_link talk0 ++ of_link behind) = ap linked goes ∙ ap Some (link-append talk0 behind) in
        let both : of_link talk0 ++ of_link behind ≡ of_link talk0 ++ more = subst (λ (o : Option (List TalkEvent)). GoesOn begun o more) link on in
        let same = append_cancel_left (of_link talk0) (of_link behind) more both in
        as_if.talk ∙ ap (λ (us : List Update). stream_sent version s.depth us ++ of_link behind) (sym same-updates)
        ∙ ap (λ (l : List TalkEvent). stream_sent version s.depth (updates r x) ++ l) same

    wrote : (bytes : List ℕ) → GoesOn (Some lines0) full (outs bytes) → x.report ≡ bytes
    wrote bytes on =
        let both : lines0 ++ outs report ≡ lines0 ++ outs bytes = subst (λ (o : Option (List TalkEvent)). GoesOn (Some lines0) o (outs bytes)) writes on in
        as_if.written ∙ outs-injective report bytes (append_cancel_left lines0 (outs report) (outs bytes) both)

    abbrev ChallengesOf : List ℕ
    ChallengesOf = flat_map (block_for s) places

    -- what was said of the stream was said of the records that were read
    moved : (P : List Update → List (List ℕ) → Type 0) → P stream (map (block_for s) places) → P (updates r x) (cut s.depth ChallengesOf)
    moved P p = subst (λ (us : List Update). P us (cut s.depth ChallengesOf)) (sym same-updates) (subst (P stream) (sym are-cut) p)

    moved-passed : (said text : List TalkEvent) (count : ℕ) → PassedBy (asking version s.depth stream) asked (map (block_for s) places) begun (Some (of_link said)) (Some lines0) (Some text) count
        → PassedBy (asking version s.depth (updates r x)) asked (cut s.depth ChallengesOf) begun (Some (of_link said)) (Some lines0) (Some text) count
    moved-passed said text count = moved (λ us bs. PassedBy (asking version s.depth us) asked bs begun (Some (of_link said)) (Some lines0) (Some text) count)

    moved-ends : (end : Status) → EndsWith (asking version s.depth stream) asked (map (block_for s) places) begun (linked new) (Some lines0) full end
        → EndsWith (asking version s.depth (updates r x)) asked (cut s.depth ChallengesOf) begun (linked new) (Some lines0) full end
    moved-ends end = moved (λ us bs. EndsWith (asking version s.depth us) asked bs begun (linked new) (Some lines0) full end)

    said-ended : SaidBye version s stream stands.legal.items asked places begun (Some lines0) new full → Ended asking r x before now runs.Accepted
    said-ended b =
        bye-ended r x ChallengesOf begun (Some lines0) new full talk0 lines0 refl legal-to-end may-ask told wrote before now b.talk b.lines b.same
        (moved-passed b.talk b.lines (length asked) b.done) b.bye as_if.read

    stopped-ended : (end : Status) → Stopped version s stream stands.legal.items asked places begun (Some lines0) new full end → FaultClause before now end → Ended asking r x before now end
    stopped-ended end (inl e) cause =
        query-ended r x ChallengesOf begun (Some lines0) new full talk0 lines0 refl legal-to-end may-ask told wrote before now end (moved-ends end e) cause
    stopped-ended end (inr (inl b)) cause =
        cut-ended r x ChallengesOf begun (Some lines0) new full talk0 lines0 refl legal-to-end may-ask told wrote before now b.talk b.lines b.count end b.same
        (moved-passed b.talk b.lines (length asked) b.done) b.short b.bye b.stop cause as_if.read
    stopped-ended end (inr (inr b)) cause =
        subst (Ended asking r x before now) (sym b.stop)
        (gap-ended r x ChallengesOf begun (Some lines0) new full talk0 lines0 refl legal-to-end may-ask told wrote before now b.talk b.lines b.number b.same
        (moved-passed b.talk b.lines b.number b.done) b.unsent)

    abbrev Came_to : AskStatus → Type 0
    Came_to status = Ends version s stream stands.legal.items asked places begun (Some lines0) new full (as_result status)

    ended : (status : AskStatus) (end : Status) → Came_to status → run_status status ≡ Some end → FaultClause before now end → Ended asking r x before now end
    ended statuses.Accepted end b same cause = let own : runs.Accepted ≡ end = cc in subst (Ended asking r x before now) own (said-ended b)
    ended (statuses.Rejected query round reason) end b same cause = stopped-ended end (b end same) cause
    ended (statuses.WriteFault port) end b same cause = stopped-ended end (b end same) cause
    ended statuses.PeerFault end b same cause = stopped-ended end (b end same) cause
    ended statuses.OutOfMemory end b same cause = stopped-ended end (b end same) cause
    ended (statuses.BadSketch offset) end b same cause = absurd cc
    ended statuses.Busy end b same cause = absurd cc
    ended statuses.NotWhole end b same cause = absurd cc
    ended (statuses.Unfit query) end b same cause = absurd cc
    ended (statuses.Signed query) end b same cause = absurd cc
    ended (statuses.NoSeat query) end b same cause = absurd cc
    ended (statuses.TooWide query) end b same cause = absurd cc
    ended (statuses.TooHigh query) end b same cause = absurd cc
    ended (statuses.OutOfStep held kept) end b same cause = absurd cc
    ended statuses.BadFrame end b same cause = absurd cc
    ended statuses.PeerClosed end b same cause = absurd cc
    ended statuses.ReadFault end b same cause = absurd cc

    kept : (law : AreKept) (status : AskStatus) (end : Status) → run_status status ≡ Some end → HasRisen before.peer now.peer before.report now.report status
        → AsksAll version (asking version s.depth stream) s 1 asked places (Some talk0) new (Some lines0) full (as_result status)
        → QuestionClauses r x before now end
    kept law status end same rose asks =
        let came_to = ends-of version s stream stands.legal.items asked places begun (Some lines0) stands.told (chosen-is s asked places chosen).take tested
        talk0 lines0 new full (as_result status) refl refl asks in
        law r x before now end can-run (ended status end came_to same (fault-of before now status end same rose))

-- the call keeps them, over each stream that the loaded sketch stands for
pub ask-keeps : (law : AreKept) (asked : List Question) (start : Option (List ℕ)) (old new blank full : Option (List TalkEvent)) (status : AskStatus)
    (t : IsInTalk asked start old new blank full status) (before now : Counts) → HasRisen before.peer now.peer before.report now.report status
    → AskClauses asked t.s t.places old new blank full before now status
ask-keeps law asked start old new blank full status t before now rose = λ stream stands talk behind wrote report was blank_was goes writes end same form x as_if.
    let version = version_for t.s.depth asked in
    let opening = recall_sent version t.s.depth t.s.tally.count ++ held_heard version (held_by t.s.tally) in
    let mid : t.mid ≡ Some (talk ++ opening) = GoesOn-told talk t.mid opening (subst (λ (o : Option (List TalkEvent)). GoesOn o t.mid opening) was t.opened) in
    let came : new ≡ Some ((talk ++ opening) ++ behind) =
    GoesOn-told talk new (opening ++ behind) (subst (λ (o : Option (List TalkEvent)). GoesOn o new (opening ++ behind)) was goes)
    ∙ ap Some (sym (append_assoc talk opening behind)) in
    let full_is : full ≡ Some (wrote ++ outs report) = GoesOn-told wrote full (outs report) (subst (λ (o : Option (List TalkEvent)). GoesOn o full (outs report)) blank_was writes) in
    let asks = subst (λ (o : Option (List TalkEvent)). AsksAll version (asking version t.s.depth stream) t.s 1 asked t.places (Some (talk ++ opening)) new o full (as_result status)) blank_was
    (subst (λ (o : Option (List TalkEvent)). AsksAll version (asking version t.s.depth stream) t.s 1 asked t.places o new blank full (as_result status)) mid (t.asks stream stands)) in
    kept asked t.s t.places t.loaded.0 t.chosen stream stands form x behind report as_if (talk ++ opening) wrote new full came full_is before now law status end same rose asks
