-- What came of the questions of an ask, one after another.
use Rattle.std.proofs.Common.{◌≡◌, ℕ, zero, suc, ◌+◌, ◌*◌, ◌<◌, Result, Ok, Err, Option, Some, None, List, [], ◌∷◌, length, get_or, take, drop, refl, sym, ap, subst, ◌∙◌, inl, inr, arith}
use Rattle.std.specs.Prelude.{IfErr}
use Rattle.std.specs.List.{AllZip}
use Rattle.std.proofs.lemmas.List.{drop_more, take-append-drop}
use Rattle.sip_ports.specs.Desk.{IsOfLink}
use Rattle.sip_ports.specs.Ports.{GoesOn, SendsWhole, outs}
use Rattle.sip_ports.specs.declared.port.TalkEvent.{TalkEvent}
use Rattle.sip_ports.proofs.TalkLemmas.{GoesOn-refl, GoesOn-trans}
use Rattle.sip_vector.specs.Answers.{pairs}
use Rattle.sip_vector.specs.declared.query.Query.{Query}
use Rattle.sip_vector.specs.declared.query.Query.TheVariants.{Inner}
use Rattle.sip_vector.specs.declared.update.Update.{Update}
use Rattle.sip_wire.specs.Spelling.{spelling}
use Rattle.sip_wire.specs.declared.message.Message.TheVariants as messages
use Rattle.sip_wire.specs.declared.version.Version.{Version}
use Rattle.sip_verifier.specs.Keeping.{KeepsTalk}
use Rattle.sip_verifier.specs.Reports.{line}
use Rattle.sip_verifier.specs.declared.status.Port.TheVariants as run_ports
use Rattle.sip_verifier.specs.declared.status.Status.{Status}
use Rattle.sip_verifier.specs.declared.status.Status.TheVariants as runs
use Rattle.sip_verifier.specs.runs.Askers.{Remaining}
use Rattle.sip_verifier.specs.runs.Manners.{Manner}
use Rattle.sip_verifier.specs.runs.Progress.{Checks}
use Rattle.sip_questions.specs.Questions.{Answered, asking, to_large, to_query}
use Rattle.sip_above.specs.declared.large.Large.{Large}
use Rattle.sip_above.specs.Questions.{query_of}
use Rattle.sip_questions.specs.Sittings.{remaining_of}
use Rattle.sip_questions.specs.declared.question.Question.{Question}
use Rattle.sip_questions.specs.declared.question.Question.TheVariants as questions
use Rattle.sip_sketch.specs.Sketches.{SeatValues, SketchValues, size_of}
use Rattle.sip_ask.specs.Asking.{AsksAll, Came, IsStored, IsStoredInPart, StoresFirst, marked_by, none_of, steps_of}
use Rattle.sip_ask.specs.Causes.{HasRisen, IsStop}
use Rattle.sip_ask.specs.Choosing.{choice}
use Rattle.sip_ask.specs.Marking.{mark, used_at}
use Rattle.sip_ask.specs.Turns.{block_at}
use Rattle.sip_ask.specs.declared.status.AskPort.TheVariants as ports
use Rattle.sip_ask.specs.declared.status.AskStatus.{AskStatus}
use Rattle.sip_ask.specs.declared.status.AskStatus.TheVariants as statuses
use Rattle.sip_ask.specs.inside.Ending.{of_run}
use Rattle.sip_ask.specs.declared.asking.Asking.{Asking}
use Rattle.sip_ask.specs.inside.Seating.{Takes}
use Rattle.sip_ask.specs.inside.Steps.{IsIdle, IsMarked, IsNext, IsReportStop, SaysNone, StoresSeat, asks_at, behind_turn}
use Rattle.sip_ask.proofs.Chosen.{asks-none, asks-some, chosen-is}
use Rattle.sip_sketch.proofs.Marked.{length-used}

-- ---- a marked sketch

pub marked_size : (place : ℕ) (s : SketchValues) → size_of (mark place s) ≡ size_of s
marked_size place s = ap (λ (n : ℕ). 84 + n * (18 + 8 * s.depth)) (length-used place s.seats)

marked_count : (place : Option ℕ) (s : SketchValues) → length (marked_by place s).seats ≡ length s.seats
marked_count None s = refl
marked_count (Some place) s = length-used place s.seats

pub next_count : (place : Option ℕ) (s next : SketchValues) → next ≡ marked_by place s → length next.seats ≡ length s.seats
next_count place s next is = ap (λ (t : SketchValues). length t.seats) is ∙ marked_count place s

block-used : (k place : ℕ) (seats : List SeatValues) → block_at k (used_at place seats) ≡ block_at k seats
block-used zero zero [] = refl
block-used zero (suc place) [] = refl
block-used (suc k) zero [] = refl
block-used (suc k) (suc place) [] = refl
block-used zero zero (x ∷ xs) = refl
block-used zero (suc place) (x ∷ xs) = refl
block-used (suc k) zero (x ∷ xs) = refl
block-used (suc k) (suc place) (x ∷ xs) = block-used k place xs

marked_blocks : (place : Option ℕ) (s : SketchValues) (k : ℕ) → block_at k (marked_by place s).seats ≡ block_at k s.seats
marked_blocks None s k = refl
marked_blocks (Some place) s k = block-used k place s.seats

pub next_block : (place : Option ℕ) (s next : SketchValues) (k : ℕ) → next ≡ marked_by place s → block_at k next.seats ≡ block_at k s.seats
next_block place s next k is = ap (λ (t : SketchValues). block_at k t.seats) is ∙ marked_blocks place s k

-- ---- storing it

module _ (s : SketchValues) (place : ℕ) (old new : Option (List TalkEvent)) where
  abbrev Marked : AskStatus → Type 0
  Marked status = IsMarked s place old new (Err status)

  pub marked_part : (status : AskStatus) → Marked status → IsStoredInPart s place old new
  marked_part (statuses.WriteFault ports.Sketch) marked = marked
  marked_part statuses.OutOfMemory marked = marked
  marked_part _ marked = absurd marked

  pub marked_ends : (status : AskStatus) → Marked status → IsStop status
  marked_ends (statuses.WriteFault ports.Sketch) marked = tt
  marked_ends statuses.OutOfMemory marked = tt
  marked_ends _ marked = absurd marked

  -- whatever the report counts
  pub marked_risen : (before now report_before report_now : ℕ) (status : AskStatus) → Marked status → HasRisen before now 0 0 status → HasRisen before now report_before report_now status
  marked_risen before now report_before report_now (statuses.WriteFault ports.Sketch) marked risen = risen
  marked_risen before now report_before report_now statuses.OutOfMemory marked risen = tt
  marked_risen before now report_before report_now _ marked risen = absurd marked

-- ---- what a question did to the file

-- behind the file only the link was used
link_said : (version : Version) (old new before now : Option (List TalkEvent)) (r : Result (Unit {0}) Status) → KeepsTalk old new before now version r
    → (said : List TalkEvent) × IsOfLink said × GoesOn old new said
link_said version old new before now (Ok x) kept = (kept.said, kept.link, kept.talk)
link_said version old new before now (Err (runs.Rejected query round reason)) kept = (kept.said, kept.link, kept.talk)
link_said version old new before now (Err (runs.WriteFault run_ports.Report)) kept = (kept.said, kept.link, kept.talk)
link_said version old new before now (Err runs.PeerFault) kept = (kept.said, kept.link, kept.talk)
link_said version old new before now (Err _) kept = (kept.said, kept.link, kept.talk)

pub stored_then : (s : SketchValues) (place : ℕ) (old mid new before now : Option (List TalkEvent)) (version : Version) (r : Result (Unit {0}) Status)
    → GoesOn old mid (steps_of s place) → KeepsTalk mid new before now version r → StoresSeat s (Some place) old new (of_run r)
stored_then s place old mid new before now version r stored kept = by_result r
  where
    is_stored : IsStored s place old new
    is_stored =
        let said = link_said version mid new before now r kept in
        record { said = said.0; link = said.1; talk = GoesOn-trans old mid new (steps_of s place) said.0 stored said.2 }

    by_result : (r : Result (Unit {0}) Status) → StoresSeat s (Some place) old new (of_run r)
    by_result (Ok x) = is_stored
    by_result (Err status) = inr is_stored

-- ---- what came of a question

module _ (m : Manner Question Answered) (s : SketchValues) (number : ℕ) (question : Question) where
  -- the file was not stored
  pub unmarked_came : (old new blank : Option (List TalkEvent)) (place : ℕ) (status : AskStatus) → IsMarked s place old new (Err status) → Came m s number question old new blank blank (Some place) (Err status)
  unmarked_came old new blank place (statuses.WriteFault ports.Sketch) marked = (marked, GoesOn-refl blank)
  unmarked_came old new blank place statuses.OutOfMemory marked = inl (marked, GoesOn-refl blank)
  unmarked_came old new blank place _ marked = absurd marked

  -- it was, and the question was asked
  pub asked_came : (old mid new blank full : Option (List TalkEvent)) (place : ℕ) (r : Result (Unit {0}) Status) → GoesOn old mid (steps_of s place)
      → Checks m question (block_at place s.seats) number mid new blank full r → (r ≡ Err (runs.WriteFault run_ports.Keep) → ⊥)
      → Came m s number question old new blank full (Some place) (of_run r)
  asked_came old mid new blank full place (Ok x) stored checks kept = record { mid = mid; stored = stored; checks = checks }
  asked_came old mid new blank full place (Err (runs.Rejected k round reason)) stored checks kept = record { mid = mid; stored = stored; checks = checks }
  asked_came old mid new blank full place (Err (runs.WriteFault run_ports.Report)) stored checks kept = record { mid = mid; stored = stored; checks = checks }
  asked_came old mid new blank full place (Err (runs.WriteFault run_ports.Keep)) stored checks kept = absurd (kept refl)
  asked_came old mid new blank full place (Err runs.PeerFault) stored checks kept = record { mid = mid; stored = stored; checks = checks }
  asked_came old mid new blank full place (Err runs.OutOfMemory) stored checks kept = inr (record { mid = mid; stored = stored; checks = checks })
  asked_came old mid new blank full place (Err _) stored checks kept = absurd checks

-- its line was written, or a front of it
lined_as : (m : Manner Question Answered) (s : SketchValues) (number : ℕ) (question : Question) (old blank full : Option (List TalkEvent)) (r : Result (Unit {0}) AskStatus) (text : List ℕ)
    → m.line question (none_of question) ≡ text → SendsWhole blank full r text → IfErr r IsReportStop → Came m s number question old old blank full None r
lined_as m s number question old blank full (Ok x) text same says stops =
    (GoesOn-refl old, subst (λ (l : List ℕ). GoesOn blank full (outs l)) (sym same) says)
lined_as m s number question old blank full (Err (statuses.WriteFault ports.Report)) text same (n, less, went) stops =
    (GoesOn-refl old, take n text, (drop n text, same ∙ sym (take-append-drop n text)), went)
lined_as m s number question old blank full (Err statuses.OutOfMemory) text same (n, less, went) stops =
    (GoesOn-refl old, take n text, (drop n text, same ∙ sym (take-append-drop n text)), went)
lined_as m s number question old blank full (Err _) text same says stops = absurd stops

pub lined_came : (m : Manner Question Answered) (s : SketchValues) (number : ℕ) (question : Question) (old blank full : Option (List TalkEvent)) (r : Result (Unit {0}) AskStatus)
    → ((query : Query) → m.line (questions.Query query) (to_query (pairs [])) ≡ line query (pairs []))
    → ((large : Large) → m.line (questions.Large large) (to_large []) ≡ line (query_of large) (pairs []))
    → SaysNone question blank full r → IfErr r IsReportStop → Came m s number question old old blank full None r
lined_came m s number (questions.Query query) old blank full r same also says stops = lined_as m s number (questions.Query query) old blank full r (line query (pairs [])) (same query) says stops
lined_came m s number (questions.Large large) old blank full r same also says stops = lined_as m s number (questions.Large large) old blank full r (line (query_of large) (pairs [])) (also large) says stops
lined_came m s number (questions.Lookup lookup) old blank full r same also says stops = absurd says
lined_came m s number (questions.Moment moment) old blank full r same also says stops = absurd says

-- in an equal manner
pub came_as : (stream : List Update) (version now : Version) (depth levels : ℕ) → version ≡ now → depth ≡ levels
    → (s : SketchValues) (number : ℕ) (question : Question) (old new blank full : Option (List TalkEvent)) (place : Option ℕ) (r : Result (Unit {0}) AskStatus)
    → Came (asking version depth stream) s number question old new blank full place r → Came (asking now levels stream) s number question old new blank full place r
came_as stream version now depth levels same_version same_depth s number question old new blank full place r came =
    subst (λ (v : Version). Came (asking v levels stream) s number question old new blank full place r) same_version
    (subst (λ (d : ℕ). Came (asking version d stream) s number question old new blank full place r) same_depth came)

-- ---- all of them

module _ (version : Version) where
  -- nothing was stored yet
  nothing_stored : (s : SketchValues) (places : List (Option ℕ)) (talk : Option (List TalkEvent)) → StoresFirst version s places talk talk
  nothing_stored s [] talk = ([], record { link = tt; sent = (spelling version messages.Bye, refl) }, GoesOn-refl talk)
  nothing_stored s (None ∷ places) talk = nothing_stored s places talk
  nothing_stored s (Some place ∷ places) talk = inl (record { count = 0; short = omega arith; talk = GoesOn-refl talk })

  -- one question was done
  pub stores_more : (s next : SketchValues) (place : Option ℕ) (places : List (Option ℕ)) (old mid new : Option (List TalkEvent)) (r : Result (Unit {0}) AskStatus) (x : Unit {0})
      → r ≡ Ok x → StoresSeat s place old mid r → next ≡ marked_by place s → StoresFirst version next places mid new → StoresFirst version s (place ∷ places) old new
  stores_more s next None places old mid new r x is stores same rest =
      subst (λ (talk : Option (List TalkEvent)). StoresFirst version s places talk new) stores (subst (λ (n : SketchValues). StoresFirst version n places mid new) same rest)
  stores_more s next (Some place) places old mid new r x is stores same rest =
      let stored : IsStored s place old mid = subst (StoresSeat s (Some place) old mid) is stores in
      inr (inr (mid, stored, subst (λ (n : SketchValues). StoresFirst version n places mid new) same rest))

  -- it stopped at one
  pub stores_stop : (s : SketchValues) (place : Option ℕ) (places : List (Option ℕ)) (old new : Option (List TalkEvent)) (r : Result (Unit {0}) AskStatus) (status : AskStatus)
      → r ≡ Err status → StoresSeat s place old new r → StoresFirst version s (place ∷ places) old new
  stores_stop s None places old new r status is stores =
      subst (λ (talk : Option (List TalkEvent)). StoresFirst version s places old talk) (sym stores) (nothing_stored s places old)
  stores_stop s (Some place) places old new r status is stores = elim (subst (StoresSeat s (Some place) old new) is stores) [
    | inl part ↦ inl part
    | inr stored ↦ inr (inl stored)
  ]

  module _ (m : Manner Question Answered) (s : SketchValues) (number : ℕ) (question : Question) (more : List Question) (place : Option ℕ) (places : List (Option ℕ)) (r : Result (Unit {0}) AskStatus) where
    pub asks_more : (next : SketchValues) (after : ℕ) (old mid new blank half full : Option (List TalkEvent)) (result : Result (Unit {0}) AskStatus) (x : Unit {0})
        → r ≡ Ok x → Came m s number question old mid blank half place r → next ≡ marked_by place s → after ≡ suc number
        → AsksAll version m next after more places mid new half full result → AsksAll version m s number (question ∷ more) (place ∷ places) old new blank full result
    asks_more next after old mid new blank half full result x is came same counted rest =
        let own : Came m s number question old mid blank half place (Ok tt) = subst (Came m s number question old mid blank half place) is came in
        let behind : AsksAll version m (marked_by place s) (suc number) more places mid new half full result =
        subst (λ (n : ℕ). AsksAll version m (marked_by place s) n more places mid new half full result) counted
        (subst (λ (n : SketchValues). AsksAll version m n after more places mid new half full result) same rest) in
        inl (mid, half, own, behind)

    pub asks_stop : (old new blank full : Option (List TalkEvent)) (status : AskStatus)
        → r ≡ Err status → Came m s number question old new blank full place r → AsksAll version m s number (question ∷ more) (place ∷ places) old new blank full (Err status)
    asks_stop old new blank full status is came = inr (status, refl, subst (Came m s number question old new blank full place) is came)

  -- ---- at a question among them

  module _ (s : SketchValues) (places : List (Option ℕ)) (i : ℕ) (p : Option ℕ) (r : Result (Unit {0}) AskStatus) (within : i < length places) where
    pub stores_more_at : (next : SketchValues) (old mid new : Option (List TalkEvent)) (x : Unit {0}) → r ≡ Ok x → StoresSeat s (get_or places i p) old mid r
        → next ≡ marked_by (get_or places i p) s → StoresFirst version next (drop (i + 1) places) mid new → StoresFirst version s (drop i places) old new
    stores_more_at next old mid new x is stores same rest =
        rw (drop_more places i p within) (stores_more s next (get_or places i p) (drop (i + 1) places) old mid new r x is stores same rest)

    pub stores_stop_at : (old new : Option (List TalkEvent)) (status : AskStatus) → r ≡ Err status → StoresSeat s (get_or places i p) old new r → StoresFirst version s (drop i places) old new
    stores_stop_at old new status is stores = rw (drop_more places i p within) (stores_stop s (get_or places i p) (drop (i + 1) places) old new r status is stores)

    module _ (m : Manner Question Answered) (number : ℕ) (asked : List Question) (q : Question) (least : i < length asked) where
      pub asks_more_at : (next : SketchValues) (after : ℕ) (old mid new blank half full : Option (List TalkEvent)) (result : Result (Unit {0}) AskStatus) (x : Unit {0})
          → r ≡ Ok x → Came m s number (get_or asked i q) old mid blank half (get_or places i p) r → next ≡ marked_by (get_or places i p) s → after ≡ suc number
          → AsksAll version m next after (drop (i + 1) asked) (drop (i + 1) places) mid new half full result → AsksAll version m s number (drop i asked) (drop i places) old new blank full result
      asks_more_at next after old mid new blank half full result x is came same counted rest =
          rw (drop_more asked i q least, drop_more places i p within)
          (asks_more m s number (get_or asked i q) (drop (i + 1) asked) (get_or places i p) (drop (i + 1) places) r next after old mid new blank half full result x is came same counted rest)

      pub asks_stop_at : (old new blank full : Option (List TalkEvent)) (status : AskStatus) → r ≡ Err status → Came m s number (get_or asked i q) old new blank full (get_or places i p) r
          → AsksAll version m s number (drop i asked) (drop i places) old new blank full (Err status)
      asks_stop_at old new blank full status is came =
          rw (drop_more asked i q least, drop_more places i p within)
          (asks_stop m s number (get_or asked i q) (drop (i + 1) asked) (get_or places i p) (drop (i + 1) places) r old new blank full status is came)

-- ---- what is left to be asked

take-at : (s : SketchValues) (asked : List Question) (places : List (Option ℕ)) (i : ℕ) (q : Question) (p : Option ℕ) → AllZip (Takes s) asked places → i < length asked → Takes s (get_or asked i q) (get_or places i p)
take-at s [] places i q p takes lt = absurd (omega (arith, lt))
take-at s (x ∷ asked) [] i q p takes lt = absurd takes
take-at s (x ∷ asked) (y ∷ places) zero q p takes lt = takes.0
take-at s (x ∷ asked) (y ∷ places) (suc i) q p takes lt = take-at s asked places i q p takes.1 (omega (arith, lt))

pub same_count : (s : SketchValues) (asked : List Question) (places : List (Option ℕ)) → AllZip (Takes s) asked places → length asked ≡ length places
same_count s [] [] takes = refl
same_count s [] (y ∷ places) takes = absurd takes
same_count s (x ∷ asked) [] takes = absurd takes
same_count s (x ∷ asked) (y ∷ places) takes = let rest = same_count s asked places takes.1 in omega (arith, rest)

-- a place that was chosen is that of a question
pub within_asked : (s : SketchValues) (asked : List Question) (places : List (Option ℕ)) (i : ℕ) → choice s asked ≡ Ok places → i < length places → i < length asked
within_asked s asked places i chosen lt = let same = same_count s asked places (chosen-is s asked places chosen).take in omega (arith, same, lt)

-- the next question is asked on its seat, or takes none
pub next_is : (a : Asking) (s : SketchValues) (asked : List Question) (places : List (Option ℕ)) (i : ℕ) (q : Question) (p : Option ℕ) → AllZip (Takes s) asked places → i < length asked → i < length places
    → (remaining_of a.asker).left ≡ asks_at s (drop i asked) (drop i places) → length a.sketch.seats ≡ length s.seats → ((k : ℕ) → block_at k a.sketch.seats ≡ block_at k s.seats)
    → IsNext a (get_or asked i q) (get_or places i p)
next_is a s asked places i q p takes least within left count blocks = by_place (get_or places i p) refl
  where
    by_place : (place : Option ℕ) → get_or places i p ≡ place → IsNext a (get_or asked i q) place
    by_place None is = (s.tally, subst (Takes s (get_or asked i q)) is (take-at s asked places i q p takes least))
    by_place (Some place) is =
        let serves = subst (Takes s (get_or asked i q)) is (take-at s asked places i q p takes least) in
        let more = asks_at s (drop (i + 1) asked) (drop (i + 1) places) in (
          omega (arith, count, serves.0.inside),
          record { more = more; first = left ∙ asks-some s asked places i place q p least within is ∙ ap (λ (b : List ℕ). (get_or asked i q, b) ∷ more) (sym (blocks place)) },
        )

-- a turn changes neither the version nor the depth
pub behind_version : (place : Option ℕ) (old new : Remaining Question) → new ≡ behind_turn place old → new.version ≡ old.version
behind_version None old new is = ap (λ (r : Remaining Question). r.version) is
behind_version (Some place) old new is = ap (λ (r : Remaining Question). r.version) is

pub behind_depth : (place : Option ℕ) (old new : Remaining Question) → new ≡ behind_turn place old → new.depth ≡ old.depth
behind_depth None old new is = ap (λ (r : Remaining Question). r.depth) is
behind_depth (Some place) old new is = ap (λ (r : Remaining Question). r.depth) is

-- and leaves the questions behind it
pub behind_left : (s : SketchValues) (asked : List Question) (places : List (Option ℕ)) (i : ℕ) (p : Option ℕ) (old new : Remaining Question) → i < length asked → i < length places
    → new ≡ behind_turn (get_or places i p) old → old.left ≡ asks_at s (drop i asked) (drop i places) → new.left ≡ asks_at s (drop (i + 1) asked) (drop (i + 1) places)
behind_left s asked places i p old new least within is left = by_place (get_or places i p) refl is
  where
    by_place : (place : Option ℕ) → get_or places i p ≡ place → new ≡ behind_turn place old → new.left ≡ asks_at s (drop (i + 1) asked) (drop (i + 1) places)
    by_place None at same = ap (λ (r : Remaining Question). r.left) same ∙ left ∙ asks-none s asked places i (questions.Query Inner) p least within at
    by_place (Some place) at same = ap (λ (r : Remaining Question). r.left) same ∙ ap (λ (l : List (Question × List ℕ)). drop 1 l) (left ∙ asks-some s asked places i place (questions.Query Inner) p least within at)
