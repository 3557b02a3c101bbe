-- A seat that a question takes refuses nothing: what it keeps of a side without negatives is that side's weight.
use Rattle.std.proofs.Common.{◌≡◌, ℕ, suc, ◌+◌, Bool, false, ℤ, pos, List, [], ◌∷◌, get_or, All, None, refl, sym, ap, subst, ◌∙◌, arith}
use Rattle.std.specs.Prelude.{◌-ℤ◌, Err}
use Rattle.std.specs.Int.{from_bool}
use Rattle.std.proofs.lemmas.Int.{ints}
use Rattle.std.proofs.lemmas.List.Elements.{All-get_or, All-head, All-tail}
use Rattle.sip_vector.specs.Streams.{most_weight}
use Rattle.sip_vector.specs.Thresholds.{is_wide, share_of}
use Rattle.sip_vector.specs.declared.query.Query.{Query}
use Rattle.sip_vector.specs.declared.query.Query.TheVariants.{Sub, Range, F2, Inner, Heavy, Share, Above}
use Rattle.sip_vector.specs.declared.tally.Tally.{Tally}
use Rattle.sip_vector.specs.declared.update.Side.{Side}
use Rattle.sip_vector.specs.declared.update.Side.TheVariants.{First, Second}
use Rattle.sip_wire.specs.declared.version.Version.{Version}
use Rattle.sip_verifier.specs.QuerySeats.{RunningNumbers, split_root_is}
use Rattle.sip_verifier.specs.Weights.{weight_in}
use Rattle.sip_verifier.specs.Widths.{is_wide_seat}
use Rattle.sip_verifier.specs.declared.status.Status.{Status}
use Rattle.sip_verifier.specs.declared.status.Status.TheVariants as runs
use Rattle.sip_verifier.specs.declared.weights.Weights.{Weights}
use Rattle.sip_moments.specs.Moments.{is_too_high}
use Rattle.sip_questions.specs.Questions.{first_by}
use Rattle.sip_questions.specs.Sittings.{Starts, question_at, refusal_at, running_at}
use Rattle.sip_questions.specs.declared.question.Question.{Question}
use Rattle.sip_questions.specs.declared.question.Question.TheVariants as questions
use Rattle.sip_questions.specs.declared.seat.QuestionSeat.{QuestionSeat}
use Rattle.sip_questions.specs.declared.seat.QuestionSeat.TheVariants as seats
use Rattle.sip_sketch.specs.Fields.{Field, IsValue}
use Rattle.sip_sketch.specs.Seats.{beside, numbers_kept, side_of}
use Rattle.sip_sketch.specs.Sketches.{IsSketch, SeatValues, SketchValues, code_of, second_of, total_field}
use Rattle.sip_sketch.specs.declared.kind.SeatKind.{SeatKind}
use Rattle.sip_sketch.specs.declared.kind.SeatKind.TheVariants as kinds
use Rattle.sip_sketch.proofs.Kept as kept
use Rattle.sip_sketch.proofs.Kept.{heavy_field}
use Rattle.sip_sketch.proofs.Whole.{SeatFits, fits_from, ranged_from}
use Rattle.sip_ask.specs.Choosing.{is_signed, is_wide_of, kind_for, kind_of, negative_told, weight_told}
use Rattle.sip_ask.specs.inside.Seating.{IsSeat, IsTested, Serves}

-- ---- what a seat keeps of a total

same-weight : (t : Tally) (side : Side) → kept.weight_told t side ≡ weight_told t side
same-weight t First = refl
same-weight t Second = refl

same-negative : (t : Tally) (side : Side) → kept.negative_told t side ≡ negative_told t side
same-negative t First = refl
same-negative t Second = refl

exact-total : (w x : ℕ) → IsValue (total_field w false) x → pos x -ℤ pos most_weight ≡ pos w
exact-total w x value =
    let both = ranged_from (total_field w false).size (most_weight + w) (most_weight + w) x value in
    omega (arith, ints, both.0, both.1)

kept-total : (t : Tally) (side : Side) (x : ℕ) → negative_told t side ≡ false → IsValue (second_of t (code_of (kinds.Heavy side)) (from_bool false)) x
    → pos x -ℤ pos most_weight ≡ pos (weight_told t side)
kept-total t side x none value =
    let own = subst (λ (f : Field). IsValue f x) (heavy_field t side false) value in
    let closed = subst (λ (b : Bool). IsValue (total_field (kept.weight_told t side) b) x) (same-negative t side ∙ none) own in
    exact-total (kept.weight_told t side) x closed ∙ ap pos (same-weight t side)

-- ---- what it refuses

-- the answer to a question may be too wide, by what a seat keeps
abbrev is_wide_at : Question → RunningNumbers → Bool
is_wide_at (questions.Query query) running = is_wide_seat query running
is_wide_at (questions.Lookup lookup) running = false
is_wide_at (questions.Moment moment) running = false
is_wide_at (questions.Large large) (split_root_is hash weight) = is_wide large.at_least (pos weight)
is_wide_at (questions.Large large) running = false

abbrev is_high_by : (Side → ℕ) → Question → Bool
is_high_by weight (questions.Query query) = false
is_high_by weight (questions.Lookup lookup) = false
is_high_by weight (questions.Moment moment) = is_too_high (weight moment.side) moment.degree
is_high_by weight (questions.Large large) = false

refuses-none : (weight : Side → ℕ) (number : ℕ) (seat : QuestionSeat) → is_wide_at (question_at seat) (running_at seat) ≡ false
    → is_high_by weight (question_at seat) ≡ false → refusal_at weight number seat ≡ None
refuses-none weight number (seats.Query seat) narrow low = rw narrow refl
refuses-none weight number (seats.Lookup lookup root) narrow low = refl
refuses-none weight number (seats.Moment moment point) narrow low = rw low refl
refuses-none weight number (seats.Large large root) narrow low = rw narrow refl

query-narrow : (t : Tally) (query : Query) (first x : ℕ) → IsValue (second_of t (code_of (kind_of query)) (from_bool false)) x
    → is_signed t (questions.Query query) ≡ false → is_wide_of t (questions.Query query) ≡ false
    → is_wide_seat query (beside (weight_told t (side_of (kind_of query))) (numbers_kept (kind_of query) first x)) ≡ false
query-narrow t (Sub lo hi) first x value own narrow = refl
query-narrow t (Range side lo hi) first x value own narrow = refl
query-narrow t (F2 side) first x value own narrow = refl
query-narrow t Inner first x value own narrow = refl
query-narrow t (Heavy side at_least) first x value own narrow = ap (is_wide at_least) (kept-total t side x own value) ∙ narrow
query-narrow t (Share side num den) first x value own narrow = ap (λ (n : ℤ). is_wide (share_of num den n) n) (kept-total t side x own value) ∙ narrow
query-narrow t (Above side at_least) first x value own narrow = refl

question-narrow : (t : Tally) (q : Question) (first x : ℕ) → IsValue (second_of t (code_of (kind_for q)) (from_bool false)) x → IsTested t q
    → is_wide_at q (beside (weight_told t (side_of (kind_for q))) (numbers_kept (kind_for q) first x)) ≡ false
question-narrow t (questions.Query query) first x value tested = query-narrow t query first x value tested.unsigned tested.narrow
question-narrow t (questions.Lookup lookup) first x value tested = refl
question-narrow t (questions.Moment moment) first x value tested = refl
question-narrow t (questions.Large large) first x value tested = tested.narrow

question-low : (t : Tally) (q : Question) → IsTested t q → is_high_by (weight_told t) q ≡ false
question-low t (questions.Query query) tested = refl
question-low t (questions.Lookup lookup) tested = refl
question-low t (questions.Moment moment) tested = tested.low
question-low t (questions.Large large) tested = refl

-- a seat of the question's kind that was not used
pub seat-refuses : (depth : ℕ) (t : Tally) (q : Question) (seat : SeatValues) (result : QuestionSeat) (number : ℕ) → SeatFits depth t seat
    → seat.kind ≡ kind_for q → seat.is_used ≡ false → IsTested t q → question_at result ≡ q → running_at result ≡ beside (weight_told t (side_of seat.kind)) (numbers_kept seat.kind seat.first seat.second)
    → refusal_at (weight_told t) number result ≡ None
seat-refuses depth t q seat result number fits kind unused tested asks keeps =
    let second = subst (λ (b : Bool). IsValue (second_of t (code_of (kind_for q)) (from_bool b)) seat.second) unused
    (subst (λ (k : SeatKind). IsValue (second_of t (code_of k) (from_bool seat.is_used)) seat.second) kind fits.second) in
    let narrow = question-narrow t q seat.first seat.second second tested in
    let running : running_at result ≡ beside (weight_told t (side_of (kind_for q))) (numbers_kept (kind_for q) seat.first seat.second) =
    keeps ∙ ap (λ (k : SeatKind). beside (weight_told t (side_of k)) (numbers_kept k seat.first seat.second)) kind in
    refuses-none (weight_told t) number result
    (subst (λ (x : Question). is_wide_at x (running_at result) ≡ false) (sym asks) (subst (λ (n : RunningNumbers). is_wide_at q n ≡ false) (sym running) narrow))
    (subst (λ (x : Question). is_high_by (weight_told t) x ≡ false) (sym asks) (question-low t q tested))

-- that of the seat at a place which serves it
pub seat-free : (s : SketchValues) (is : IsSketch s) (q : Question) (place : ℕ) (own : SeatValues) (result : QuestionSeat) (number : ℕ) → own ≡ get_or s.seats place own → Serves s q place
    → IsTested s.tally q → question_at result ≡ q → running_at result ≡ beside (weight_told s.tally (side_of own.kind)) (numbers_kept own.kind own.first own.second) → refusal_at (weight_told s.tally) number result ≡ None
seat-free s is q place own result number at serves tested asks keeps =
    let fits = subst (SeatFits s.depth s.tally) (sym at) (All-get_or (SeatFits s.depth s.tally) s.seats place own serves.inside (fits_from s is)) in
    let seat = subst (IsSeat q) (sym at) (serves.seat own) in
    seat-refuses s.depth s.tally q own result number fits seat.kind seat.unused tested asks keeps

-- so none of them is refused
pub seats-refuse : (weight : Side → ℕ) (number : ℕ) (all : List QuestionSeat) → All (λ seat. (k : ℕ) → refusal_at weight k seat ≡ None) all
    → first_by (refusal_at weight) number all ≡ None
seats-refuse weight number [] none = refl
seats-refuse weight number (seat ∷ all) none =
    let P : QuestionSeat → Type 0 = λ x. (k : ℕ) → refusal_at weight k x ≡ None in
    let here = All-head P seat all none number in
    rw here (seats-refuse weight (suc number) all (All-tail P seat all none))

-- and only memory may be wanting
starts-wanting : (version : Version) (depth : ℕ) (weight : Side → ℕ) (all : List QuestionSeat) (status : Status) → first_by (refusal_at weight) 1 all ≡ None
    → Starts version depth weight all (Err status) → status ≡ runs.OutOfMemory
starts-wanting version depth weight all runs.OutOfMemory none starts = refl
starts-wanting version depth weight all runs.Accepted none starts = absurd cc
starts-wanting version depth weight all runs.Served none starts = absurd cc
starts-wanting version depth weight all runs.Wrote none starts = absurd cc
starts-wanting version depth weight all (runs.Rejected query round reason) none starts = absurd cc
starts-wanting version depth weight all (runs.Usage word) none starts = absurd cc
starts-wanting version depth weight all (runs.BadStream at why) none starts = absurd cc
starts-wanting version depth weight all runs.BadSeed none starts = absurd cc
starts-wanting version depth weight all runs.SeedSpent none starts = absurd cc
starts-wanting version depth weight all (runs.BadTranscript at) none starts = absurd cc
starts-wanting version depth weight all (runs.BadFrame offset) none starts = absurd cc
starts-wanting version depth weight all (runs.TooWide query) none starts = absurd cc
starts-wanting version depth weight all (runs.TooHigh query) none starts = absurd cc
starts-wanting version depth weight all (runs.ReadFault port) none starts = absurd cc
starts-wanting version depth weight all (runs.WriteFault port) none starts = absurd cc
starts-wanting version depth weight all runs.PeerFault none starts = absurd cc
starts-wanting version depth weight all runs.PeerClosed none starts = absurd cc

-- where these are the weights of the sketch
pub starts-none : (version : Version) (depth : ℕ) (t : Tally) (w : Weights) (all : List QuestionSeat) (status : Status) → w.first ≡ t.first → w.second ≡ t.second
    → first_by (refusal_at (weight_told t)) 1 all ≡ None → Starts version depth (weight_in w) all (Err status) → status ≡ runs.OutOfMemory
starts-none version depth t w all status first second none starts =
    let same : weight_in w ≡ weight_told t = λ i side. by_side side i in
    starts-wanting version depth (weight_in w) all status (ap (λ (weight : Side → ℕ). first_by (refusal_at weight) 1 all) same ∙ none) starts
  where
    by_side : (side : Side) → weight_in w side ≡ weight_told t side
    by_side First = first
    by_side Second = second
