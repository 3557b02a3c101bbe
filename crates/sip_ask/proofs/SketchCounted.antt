-- Each wrong answer that a line of an ask has is counted, over all challenges of its sketch.
use Rattle.std.proofs.Common.{◌≡◌, ◌≢◌, ℕ, ◌<◌, true, List, [], ◌∷◌, ◌++◌, length, get_or, map, take, All, Option, Some, None, Ok, inl, inr, refl, sym, ap, subst, ◌∙◌, arith}
use Rattle.std.specs.Prelude.{option_to_list, flat_map}
use Rattle.std.specs.List.{AllZip, zip}
use Rattle.std.proofs.lemmas.List.{get_or_default}
use Rattle.std.proofs.lemmas.List.Elements.{All-cons, All-head, All-nil, All-tail}
use Rattle.sip_counts.specs.Late.{some_fooled}
use Rattle.sip_ports.specs.declared.port.TalkEvent.{TalkEvent}
use Rattle.sip_vector.specs.Pieces.{cut}
use Rattle.sip_vector.specs.declared.update.Update.{Update}
use Rattle.sip_stream.specs.Records.{Records}
use Rattle.sip_stream.specs.declared.form.Form.{Form}
use Rattle.sip_wire.specs.declared.version.Version.{Version}
use Rattle.sip_verifier.specs.Exchanges.{Exchange}
use Rattle.sip_verifier.specs.Snapshots.{counts}
use Rattle.sip_verifier.specs.runs.CountClause.{AreInTalk, CountClause, Written, questions_written}
use Rattle.sip_verifier.specs.runs.Manners.{Question as PosedBy}
use Rattle.sip_verifier.specs.runs.Runs.{Run, updates}
use Rattle.sip_questions.specs.Counting.{CountsOf, counting}
use Rattle.sip_questions.specs.Honest.{answer}
use Rattle.sip_questions.specs.Questions.{Answered, asking}
use Rattle.sip_questions.specs.declared.question.Question.{Question}
use Rattle.sip_questions.proofs.PromisedRuns.{promised}
use Rattle.sip_sketch.specs.Sketches.{IsSketch, SeatValues, SketchValues}
use Rattle.sip_sketch.specs.Standing.{Stands}
use Rattle.sip_sketch.specs.declared.kind.SeatKind.TheVariants as kinds
use Rattle.sip_ask.specs.Causes.{HasRisen}
use Rattle.sip_ask.specs.Choosing.{choice}
use Rattle.sip_ask.specs.Counting.{Asked, IsCounted, LedTo, SeatPlan, challenges_in, plan_of}
use Rattle.sip_ask.specs.Promises.{IsAsIf, block_for, run_of}
use Rattle.sip_ask.specs.SketchCounts.{CountOnSketches, IsFoundOut, SketchCount}
use Rattle.sip_ask.specs.Turns.{block_at}
use Rattle.sip_ask.specs.declared.status.AskStatus.{AskStatus}
use Rattle.sip_ask.specs.inside.Seating.{Takes}
use Rattle.sip_ask.proofs.AskKept.{AreKept, ask-keeps, blocks-whole, cut-blocks}
use Rattle.sip_ask.proofs.Chosen.{block-at, chosen-is}
use Rattle.sip_ask.proofs.Counted.{few-mislead, question-found}
use Rattle.sip_ask.proofs.Fooled.{any-fooled}
use Rattle.sip_ask.proofs.Served.{sketch-some}
use Rattle.sip_ask.proofs.Tested.{chosen-counted}

-- ---- one line

some-seat : SeatValues
some-seat = record { kind = kinds.Entries; is_used = true; block = []; first = 0; second = 0 }

module _ (s : SketchValues) (is : IsSketch s) (version : Version) (stream : List Update) where
  abbrev Counted : Question → Type 0
  Counted q = IsCounted s.depth (record { version = version; stream = stream; question = q })

  abbrev HasCount : Written Question Answered → Type 0
  HasCount w = CountsOf version s.depth stream w.question w.question.query w.answer

  -- a wrong answer on a seat
  seat-found : (plans : List SeatPlan) (place : ℕ) (plan : SeatPlan) (w : Written Question Answered) → place < length s.seats → length plans ≡ length s.seats
      → get_or plans place plan ≡ plan → w.question.block ≡ block_at place s.seats → LedTo s.seats place plan version stream w.question
      → Counted w.question.query → HasCount w → w.answer ≢ answer s.depth stream w.question.query
      → some_fooled s.depth (map (plan_of s.depth) plans) [] (challenges_in s.seats) ≡ true
  unfolding some_fooled
  seat-found plans place plan w inside many at block led can count wrong =
      let a : Asked = record { version = version; stream = stream; question = w.question.query } in
      let seat = get_or s.seats place some-seat in
      any-fooled s.depth plan a w.question.block w.question.replies
      (λ strategy talk. question-found version s.depth stream w.question w.question.query w.answer strategy can count wrong talk)
      place plans s.seats seat (challenges_in (take place s.seats)) [] is.blocks inside (omega (arith, inside, many)) at
      (get_or_default s.seats place seat some-seat inside) (block ∙ block-at s.seats place some-seat inside) refl (led.asked, led.replies)

  -- ---- all lines

  abbrev questions : List (Written Question Answered) → List (PosedBy Question)
  questions lines = questions_written lines

  module _ (r : Run Question) (same_version : r.version ≡ version) (plans : List SeatPlan) (many : length plans ≡ length s.seats) where
    abbrev Found : Option ℕ × Written Question Answered → Type 0
    Found line = IsFoundOut s stream r plans line.0 line.1

    line-found : (q : Question) (place : Option ℕ) (w : Written Question Answered) → Takes s q place → w.question.query ≡ q → w.question.block ≡ block_for s place
        → Counted q → HasCount w → Found (place, w)
    line-found q None w takes same block can count = tt
    line-found q (Some place) w takes same block can count = λ plan at led wrong.
        seat-found plans place plan w takes.0.inside many at block (subst (λ (v : Version). LedTo s.seats place plan v stream w.question) same_version led)
        (subst Counted (sym same) can) count wrong

    all-found : (asked : List Question) (places : List (Option ℕ)) (lines : List (Written Question Answered)) → AllZip (Takes s) asked places → All Counted asked
        → map (λ q. q.query) (questions lines) ≡ take (length (questions lines)) asked
        → map (λ q. q.block) (questions lines) ≡ take (length (questions lines)) (map (block_for s) places)
        → All HasCount lines → All Found (zip places lines)
    all-found asked [] lines takes can are at count = All-nil Found
    all-found asked (place ∷ places) [] takes can are at count = All-nil Found
    all-found [] (place ∷ places) (w ∷ lines) takes can are at count = absurd takes
    all-found (q ∷ asked) (place ∷ places) (w ∷ lines) takes can are at count =
        let query : w.question.query ≡ q = cc in
        let queries : map (λ q. q.query) (questions lines) ≡ take (length (questions lines)) asked = cc in
        let block : w.question.block ≡ block_for s place = cc in
        let blocks : map (λ q. q.block) (questions lines) ≡ take (length (questions lines)) (map (block_for s) places) = cc in
        All-cons Found (place, w) (zip places lines)
        (line-found q place w takes.0 query block (All-head Counted q asked can) (All-head HasCount w lines count))
        (all-found asked places lines takes.1 (All-tail Counted q asked can) queries blocks (All-tail HasCount w lines count))

-- ---- the questions in a talk are the first ones

front : {X Y : Type 0} (f : X → Y) (xs ys : List X) (zs : List Y) → map f (xs ++ ys) ≡ take (length (xs ++ ys)) zs → map f xs ≡ take (length xs) zs
front {X} {Y} f [] ys [] e = refl
front {X} {Y} f [] ys (z ∷ zs) e = refl
front {X} {Y} f (x ∷ xs) ys [] e = absurd (let no = e in cc)
front {X} {Y} f (x ∷ xs) ys (z ∷ zs) e =
    let here : f x ≡ z = cc in
    let rest : map f (xs ++ ys) ≡ take (length (xs ++ ys)) zs = cc in
    let more = front f xs ys zs rest in
    λ i. here i ∷ more i

-- ---- a call

kept-law : AreKept
kept-law r x before now status can e = promised r x can before now status e

module _ (asked : List Question) (s : SketchValues) (places : List (Option ℕ)) (is : IsSketch s) (chosen : choice s asked ≡ Ok places) (stream : List Update) (stands : Stands stream s)
    (form : Form) (behind : List TalkEvent) (report : List ℕ) (x : Exchange) (as_if : IsAsIf asked s places stream form behind report x) where
  abbrev r : Run Question
  r = run_of asked s places stream form

  same-updates : updates r x ≡ stream
  same-updates = ap (λ (z : Records). z.legal) as_if.told

  blocks-are : (challenges : List ℕ) → r.challenges ≡ Some challenges → cut s.depth challenges ≡ map (block_for s) places
  blocks-are challenges drawn =
      let own : challenges ≡ flat_map (block_for s) places = cc in
      ap (cut s.depth) own ∙ cut-blocks s.depth (sketch-some s is) (block_for s) places (blocks-whole s is asked places (chosen-is s asked places chosen).take)

  record AreFirstOnes (lines : List (Written Question Answered)) : Type 0 where
    queries : map (λ q. q.query) (questions_written lines) ≡ take (length (questions_written lines)) asked
    blocks : map (λ q. q.block) (questions_written lines) ≡ take (length (questions_written lines)) (map (block_for s) places)

  none-first : (lines : List (Written Question Answered)) → questions_written lines ≡ [] → AreFirstOnes lines
  none-first [] none = record { queries = nothing asked; blocks = nothing (map (block_for s) places) }
    where
      nothing : {Y : Type 0} (ys : List Y) → [] ≡ take 0 ys
      nothing {Y} [] = refl
      nothing {Y} (y ∷ ys) = refl
  none-first (w ∷ lines) none = absurd (let no = none in cc)

  first-ones : (lines : List (Written Question Answered)) → AreInTalk asking counting r x (questions_written lines) → AreFirstOnes lines
  first-ones lines (inl none) = none-first lines none
  first-ones lines (inr (after, rest, reached)) =
      let are = reached.are_questions in
      record {
        queries = front (λ (q : PosedBy Question). q.query) (questions_written lines) (option_to_list after) asked are.queries;
        blocks = front (λ (q : PosedBy Question). q.block) (questions_written lines) (option_to_list after) (map (block_for s) places)
            (are.blocks ∙ ap (take (length (questions_written lines ++ option_to_list after))) (blocks-are are.challenges are.drawn));
      }

  count-of : CountClause asking counting r x → SketchCount s stream r places x
  count-of c =
      let first = first-ones c.lines c.questions in
      let own = chosen-is s asked places chosen in
      let counted = subst (λ (us : List Update). All (λ w. counting.CountsFor r.version s.depth us w.question w.answer) c.lines) same-updates c.counted in
      record {
        lines = c.lines;
        questions = c.questions;
        rejected = c.rejected;
        is_rejection = c.is_rejection;
        report = c.report;
        few = λ plans sound. few-mislead s.depth plans (sketch-some s is) sound;
        counted = λ plans many. all-found s is r.version stream r refl plans many asked places c.lines own.take (chosen-counted s stream r.version asked places stands chosen)
            first.queries first.blocks counted;
      }

pub counts-on : (asked : List Question) (start : Option (List ℕ)) (old new blank full : Option (List TalkEvent)) (a b c d : ℕ) (status : AskStatus)
    → HasRisen a b c d status → CountOnSketches asked start old new blank full status
counts-on asked start old new blank full a b c d status rose = λ t stream stands talk behind wrote report was blank_was goes writes end same form x as_if.
    let clauses = ask-keeps kept-law asked start old new blank full status t (counts 0 0 a c 0) (counts 0 0 b d 0) rose stream stands talk behind wrote report was blank_was goes writes end same form x as_if in
    count-of asked t.s t.places t.loaded.0 t.chosen stream stands form behind report x as_if clauses.count
