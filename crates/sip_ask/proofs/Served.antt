-- What a seat keeps serves each question of its kind.
use Rattle.std.proofs.Common.{◌≡◌, ℕ, ◌≤◌, List, [], ◌∷◌, All, get_or, refl, sym, ap, subst, ◌∙◌}
use Rattle.std.specs.Prelude.{IsTrue}
use Rattle.std.proofs.lemmas.List.Elements.{All-cons, All-head, All-nil, All-tail}
use Rattle.sip_vector.specs.Streams.{weight}
use Rattle.sip_vector.specs.Limits.{most_depth}
use Rattle.sip_vector.specs.declared.query.Query.{Query}
use Rattle.sip_vector.specs.declared.query.Query.TheVariants.{Sub, Range, F2, Inner, Heavy, Share, Above}
use Rattle.sip_vector.specs.declared.tally.Tally.{Tally}
use Rattle.sip_vector.specs.declared.update.Side.{Side}
use Rattle.sip_vector.specs.declared.update.Side.TheVariants.{First, Second}
use Rattle.sip_vector.specs.declared.update.Update.{Update}
use Rattle.sip_wire.specs.Versions.{Speaks, deepest}
use Rattle.sip_wire.specs.declared.version.Version.{Version}
use Rattle.sip_wire.proofs.Asking.{needed-speaks}
use Rattle.sip_verifier.specs.QuerySeats.{RunningNumbers, RunsOn, keeps}
use Rattle.sip_above.specs.Questions as larges
use Rattle.sip_verifier.proofs.SeatsHead.{depth-shallow}
use Rattle.sip_questions.specs.Promises.{CanPose}
use Rattle.sip_questions.specs.Questions.{queries_among, version_for}
use Rattle.sip_questions.specs.Sittings.{query_like}
use Rattle.sip_questions.specs.declared.question.Question.{Question}
use Rattle.sip_questions.specs.declared.question.Question.TheVariants as questions
use Rattle.sip_sketch.specs.Seats.{beside, numbers_kept, query_of, side_of}
use Rattle.sip_sketch.specs.Sketches.{IsSketch, SeatValues, SketchValues, byte}
use Rattle.sip_sketch.specs.Standing.{SeatStands, Stands}
use Rattle.sip_sketch.specs.declared.kind.SeatKind.{SeatKind}
use Rattle.sip_sketch.proofs.Whole.{head_from, ranged_from}
use Rattle.sip_ask.specs.Choosing.{fits, kind_for, kind_of, weight_told}
use Rattle.sip_ask.specs.inside.Seating.{Serves}
use Rattle.sip_ask.proofs.Premises.{large-fits, lookup-fits, moment-fits, query-fits}

-- ---- the kind of a question

kind-keeps : (query : Query) (w first second : ℕ) → IsTrue (keeps query (beside w (numbers_kept (kind_of query) first second)))
kind-keeps (Sub lo hi) w first second = refl
kind-keeps (Range side lo hi) w first second = refl
kind-keeps (F2 side) w first second = refl
kind-keeps Inner w first second = refl
kind-keeps (Heavy side at_least) w first second = refl
kind-keeps (Share side num den) w first second = refl
kind-keeps (Above side at_least) w first second = refl

kind-runs : (depth : ℕ) (stream : List Update) (query : Query) (block : List ℕ) (w first second : ℕ)
    → RunsOn depth stream (query_of (kind_of query)) block (beside w (numbers_kept (kind_of query) first second))
    → RunsOn depth stream query block (beside w (numbers_kept (kind_of query) first second))
kind-runs depth stream (Sub lo hi) block w first second runs = runs
kind-runs depth stream (Range side lo hi) block w first second runs = runs
kind-runs depth stream (F2 side) block w first second runs = runs
kind-runs depth stream Inner block w first second runs = runs
kind-runs depth stream (Heavy side at_least) block w first second runs = runs
kind-runs depth stream (Share side num den) block w first second runs = runs
kind-runs depth stream (Above side at_least) block w first second runs = runs

-- ---- a seat that serves a question

-- its numbers are of the question's kind
pub served-keeps : (question : Question) (seat : SeatValues) (w : ℕ) → seat.kind ≡ kind_for question
    → IsTrue (keeps (query_like question) (beside w (numbers_kept seat.kind seat.first seat.second)))
served-keeps question seat w kind =
    subst (λ (k : SeatKind). IsTrue (keeps (query_like question) (beside w (numbers_kept k seat.first seat.second)))) (sym kind)
    (kind-keeps (query_like question) w seat.first seat.second)

-- and stand for the stream, where the weight of the seat's side is told
pub served-runs : (depth : ℕ) (stream : List Update) (question : Question) (seat : SeatValues) (w : ℕ) → seat.kind ≡ kind_for question
    → w ≡ weight stream (side_of seat.kind) → SeatStands depth stream seat
    → RunsOn depth stream (query_like question) seat.block (beside w (numbers_kept seat.kind seat.first seat.second))
served-runs depth stream question seat w kind told stands =
    let weighed = subst (λ (n : ℕ). RunsOn depth stream (query_of seat.kind) seat.block (beside n (numbers_kept seat.kind seat.first seat.second))) (sym told) stands in
    let own = subst (λ (k : SeatKind). RunsOn depth stream (query_of k) seat.block (beside w (numbers_kept k seat.first seat.second))) kind weighed in
    subst (λ (k : SeatKind). RunsOn depth stream (query_like question) seat.block (beside w (numbers_kept k seat.first seat.second))) (sym kind)
    (kind-runs depth stream (query_like question) seat.block w seat.first seat.second own)

-- the weight of a side is told
pub told-weight : (s : SketchValues) (stream : List Update) (side : Side) → Stands stream s → weight_told s.tally side ≡ weight stream side
told-weight s stream First stands = ap (λ (t : Tally). t.first) stands.told
told-weight s stream Second stands = ap (λ (t : Tally). t.second) stands.told

-- the numbers of a seat that serves a question are those of each stream that the sketch stands for
pub stands_at : (s : SketchValues) (question : Question) (place : ℕ) (d : SeatValues) (w : ℕ) (block : List ℕ) (numbers : RunningNumbers) → Serves s question place
    → w ≡ weight_told s.tally (side_of (get_or s.seats place d).kind) → block ≡ (get_or s.seats place d).block → numbers ≡ beside w (numbers_kept (get_or s.seats place d).kind (get_or s.seats place d).first (get_or s.seats place d).second)
    → (stream : List Update) → Stands stream s → RunsOn s.depth stream (query_like question) block numbers
stands_at s question place d w block numbers serves told same_block same_numbers stream stands =
    let seat = get_or s.seats place d in
    let weighs = told ∙ told-weight s stream (side_of seat.kind) stands in
    let own = served-runs s.depth stream question seat w (serves.seat d).kind weighs (stands.seats place d serves.inside (serves.seat d).unused) in
    rw (same_block, same_numbers) own

-- ---- the version

pub sketch-deep : (s : SketchValues) → IsSketch s → s.depth ≤ most_depth
sketch-deep s is = (ranged_from (byte 1 most_depth).size 1 most_depth s.depth (head_from s is).depth).1

pub sketch-some : (s : SketchValues) → IsSketch s → 1 ≤ s.depth
sketch-some s is = (ranged_from (byte 1 most_depth).size 1 most_depth s.depth (head_from s is).depth).0

pub sketch-shallow : (s : SketchValues) (asked : List Question) → IsSketch s → s.depth ≤ deepest (version_for s.depth asked)
sketch-shallow s asked is = depth-shallow s.depth (queries_among asked) (sketch-deep s is)

all-pose : (version : Version) (depth : ℕ) (asked : List Question) → All (λ q. IsTrue (fits depth q)) asked → All (Speaks version depth) (queries_among asked)
    → All (CanPose version depth) asked
all-pose version depth [] fit speak = All-nil (CanPose version depth)
all-pose version depth (questions.Query q ∷ more) fit speak =
    let fits-all : Question → Type 0 = λ x. IsTrue (fits depth x) in
    All-cons (CanPose version depth) (questions.Query q) more
    (query-fits depth q (All-head fits-all (questions.Query q) more fit), All-head (Speaks version depth) q (queries_among more) speak)
    (all-pose version depth more (All-tail fits-all (questions.Query q) more fit) (All-tail (Speaks version depth) q (queries_among more) speak))
all-pose version depth (questions.Large l ∷ more) fit speak =
    let fits-all : Question → Type 0 = λ x. IsTrue (fits depth x) in
    let spoken : Query → Type 0 = Speaks version depth in
    All-cons (CanPose version depth) (questions.Large l) more
    (large-fits depth l (All-head fits-all (questions.Large l) more fit), All-head spoken (larges.query_of l) (queries_among more) speak)
    (all-pose version depth more (All-tail fits-all (questions.Large l) more fit) (All-tail spoken (larges.query_of l) (queries_among more) speak))
all-pose version depth (questions.Lookup l ∷ more) fit speak =
    let fits-all : Question → Type 0 = λ x. IsTrue (fits depth x) in
    All-cons (CanPose version depth) (questions.Lookup l) more (lookup-fits depth l (All-head fits-all (questions.Lookup l) more fit))
    (all-pose version depth more (All-tail fits-all (questions.Lookup l) more fit) speak)
all-pose version depth (questions.Moment m ∷ more) fit speak =
    let fits-all : Question → Type 0 = λ x. IsTrue (fits depth x) in
    All-cons (CanPose version depth) (questions.Moment m) more (moment-fits depth m (All-head fits-all (questions.Moment m) more fit))
    (all-pose version depth more (All-tail fits-all (questions.Moment m) more fit) speak)

-- in the version of the talk each question that fits can be asked
pub fit-pose : (s : SketchValues) (asked : List Question) → IsSketch s → All (λ q. IsTrue (fits s.depth q)) asked
    → All (CanPose (version_for s.depth asked) s.depth) asked
fit-pose s asked is fit =
    all-pose (version_for s.depth asked) s.depth asked fit (needed-speaks s.depth (queries_among asked) (sketch-deep s is))
