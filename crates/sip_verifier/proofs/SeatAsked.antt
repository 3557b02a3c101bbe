-- The general talk of a seat's query, kind by kind.
use Rattle.std.proofs.Common.{◌≡◌, ℕ, ℤ, ap, ◌*◌, ◌%◌, ◌≤◌, Some, List, length, ◌^◌, refl, sym, subst, ◌∙◌, inl, inr, arith}
use Rattle.std.specs.Prelude.{IsTrue}
use Rattle.std.proofs.lemmas.Bool.{cases_order}
use Rattle.std.proofs.lemmas.Nat.{pow_below}
use Rattle.sip_wire.specs.declared.version.Version.{Version}
use Rattle.sip_field.specs.Moduli.{m61_modulus}
use Rattle.sip_vector.specs.declared.query.Query.{Query}
use Rattle.sip_vector.specs.declared.query.Query.TheVariants.{Sub, Range, F2, Inner, Heavy, Share, Above}
use Rattle.sip_vector.specs.declared.update.Side.{Side}
use Rattle.sip_vector.specs.declared.update.Side.TheVariants.{First, Second}
use Rattle.sip_vector.specs.declared.update.Update.{Update}
use Rattle.sip_vector.specs.Extensions.{ext, ones}
use Rattle.sip_vector.specs.Streams.{int_sum, vector}
use Rattle.sip_vector.specs.Thresholds.{share_of}
use Rattle.sip_vector.specs.Trees.{Counted, augroot}
use Rattle.sip_vector.proofs.Sides.{length-vector}
use Rattle.sip_mle.specs.StandsFor.{PointStandsFor}
use Rattle.sip_wire.specs.declared.message.Message.TheVariants as messages
use Rattle.sip_wire.specs.Spelling.{fits}
use Rattle.sip_subvec.specs.Asking.{most_answer}
use Rattle.sip_subvec.specs.Protocol.{sub_asked, sub_protocol}
use Rattle.sip_sums.specs.AcceptsSum.{product_at}
use Rattle.sip_sums.specs.Protocol.{sum_asked, sum_protocol}
use Rattle.sip_sums.specs.Questions.{Lists, lists, lists_of}
use Rattle.sip_replies.specs.Replies as replied
use Rattle.sip_verifier.specs.Asking.{question_of}
use Rattle.sip_verifier.specs.Kinds.{Kind, KindRow, built, heavy_kind, kind_row, sub_kind, sum_kind, Holds}
use Rattle.sip_verifier.specs.Questions.{IsDue, said_by_kind}
use Rattle.sip_verifier.specs.Rooms.{most_places}
use Rattle.sip_verifier.specs.QuerySeats.{RunningNumbers, Seated, root_is, point_is, points_are, aug_root_is, RunsOn, StandsFor, is_seat}
use Rattle.sip_wire.specs.Versions.{Speaks}
use Rattle.sip_wire.proofs.Asking.{query-fits}
use Rattle.sip_heavy.specs.Protocol.{heavy_asked, heavy_protocol}
use Rattle.sip_verifier.specs.inside.Protocols.{IsProtocol}
use Rattle.sip_verifier.proofs.SeatTotals.{root_total}
use Rattle.sip_verifier.proofs.SeatsHead.{seat-fits}

-- the query of a seat has a spelling in each version in which it can be asked
pub seat_has_spelling : (version : Version) (s : Seated) → IsTrue (is_seat (length s.block) s)
    → Speaks version (length s.block) s.query → IsTrue (fits version (messages.Query s.query))
seat_has_spelling version s seat speaks =
    query-fits version (length s.block) s.query speaks (seat-fits (length s.block) s s.block seat refl)

-- by this spelling it is asked
pub asked_has_spelling : (version : Version) (s : Seated) (query : Query) → query ≡ s.query → IsTrue (is_seat (length s.block) s)
    → Speaks version (length s.block) s.query → IsTrue (fits version (messages.Query query))
asked_has_spelling version s query same seat speaks =
    subst (λ (q : Query). IsTrue (fits version (messages.Query q))) (sym same) (seat_has_spelling version s seat speaks)

-- what is said and what holds by the protocol of a query's kind is so of the query's questions
of_row : (version : Version) (depth : ℕ) (stream : List Update) (query : Query) (block : List ℕ) (kind : Kind)
    → kind_row version depth stream query ≡ built kind → IsProtocol version depth stream query block (kind.protocol block)
of_row version depth stream query block kind is = record {
  said = λ replies. sym (ap (λ (row : KindRow). said_by_kind row (question_of query block replies)) is);
  accepts = λ replies answer a. subst (Holds (λ k. replied.IsAccepted (k.protocol block) block replies answer)) (sym is) a;
  faulty = λ replies fault f. subst (Holds (λ k. replied.IsFaulty (k.protocol block) block replies fault)) (sym is) f;
  unjudged = λ replies ended u. subst (Holds (λ k. replied.IsUnjudged (k.protocol block) block replies ended)) (sym is) u;
  waits = λ replies w. subst (Holds (λ k. IsDue (k.protocol block) block replies)) (sym is) w;
}

-- ---- a sub-vector

-- its answer has room
pub sub_has_room : (s : Seated) (lo hi room : ℕ) → s.query ≡ Sub lo hi
    → most_places s.query s.running ≤ room → most_answer lo hi ≤ room
sub_has_room s lo hi room is has = subst (λ (q : Query). most_places q s.running ≤ room) is has

-- its protocol is that of the stream for which its root stands
pub sub_is_protocol : (version : Version) (depth : ℕ) (stream : List Update) (query : Query) (block : List ℕ)
    (lo hi value : ℕ) → query ≡ Sub lo hi → RunsOn depth stream query block (root_is value)
    → IsProtocol version depth stream query block (sub_protocol (sub_asked version m61_modulus value lo hi block))
sub_is_protocol version depth stream (Sub low high) block lo hi value is stands =
    let same_lo : low ≡ lo = cc in
    let same_hi : high ≡ hi = cc in
    let same = stands.same in
    rw (sym same_lo, sym same_hi, same) (of_row version depth stream (Sub low high) block (sub_kind version (vector depth stream First) low high) refl)
sub_is_protocol version depth stream (Range side low high) block lo hi value is stands = absurd stands
sub_is_protocol version depth stream (F2 side) block lo hi value is stands = absurd stands
sub_is_protocol version depth stream Inner block lo hi value is stands = absurd stands
sub_is_protocol version depth stream (Heavy side at_least) block lo hi value is stands = absurd stands
sub_is_protocol version depth stream (Share side num den) block lo hi value is stands = absurd stands
sub_is_protocol version depth stream (Above side least) block lo hi value is stands = absurd stands

-- by the running numbers of a seat
pub sub_protocol_is : (version : Version) (depth : ℕ) (stream : List Update) (s : Seated) (block : List ℕ) (lo hi value : ℕ)
    → s.query ≡ Sub lo hi → s.running ≡ root_is value → s.block ≡ block → StandsFor depth stream s
    → IsProtocol version depth stream s.query block (sub_protocol (sub_asked version m61_modulus value lo hi block))
sub_protocol_is version depth stream s block lo hi value is keeps own stands =
    sub_is_protocol version depth stream s.query block lo hi value is
    (subst (λ (r : RunningNumbers). RunsOn depth stream s.query block r) keeps
    (subst (λ (b : List ℕ). RunsOn depth stream s.query b s.running) own stands))

-- ---- a sum

-- its row has the two lists
sum_row : (version : Version) (depth : ℕ) (stream : List Update) (query : Query) (l : Lists) → lists_of depth stream query ≡ Some l
    → kind_row version depth stream query ≡ built (sum_kind version depth l.first l.second)
sum_row version depth stream (Sub low high) l is = absurd cc
sum_row version depth stream (Range side low high) l is =
    let own : l ≡ lists (vector depth stream side) (ones depth low high) = cc in rw own refl
sum_row version depth stream (F2 side) l is =
    let own : l ≡ lists (vector depth stream side) (vector depth stream side) = cc in rw own refl
sum_row version depth stream Inner l is =
    let own : l ≡ lists (vector depth stream First) (vector depth stream Second) = cc in rw own refl
sum_row version depth stream (Heavy side at_least) l is = absurd cc
sum_row version depth stream (Share side num den) l is = absurd cc
sum_row version depth stream (Above side least) l is = absurd cc

-- its protocol is that of the product of the two extensions
pub sum_is_protocol : (version : Version) (depth : ℕ) (stream : List Update) (query : Query) (block : List ℕ)
    (l : Lists) (product : ℕ) → lists_of depth stream query ≡ Some l
    → product ≡ product_at m61_modulus l.first l.second block
    → IsProtocol version depth stream query block (sum_protocol (sum_asked version m61_modulus product))
sum_is_protocol version depth stream query block l product is same =
    subst (λ n. IsProtocol version depth stream query block (sum_protocol (sum_asked version m61_modulus n))) (sym same)
    (of_row version depth stream query block (sum_kind version depth l.first l.second) (sum_row version depth stream query l is))

-- ---- the product of a seat

-- a power of two has one exponent
pub same_power : (one other : ℕ) → 2 ^ one ≡ 2 ^ other → one ≡ other
same_power one other e = elim (cases_order one other) [
  | inl same ↦ same
  | inr (inl less) ↦ absurd (let below = pow_below one other less in omega (arith, below, e))
  | inr (inr more) ↦ absurd (let below = pow_below other one more in omega (arith, below, e))
]

-- a point that stands for a side's vector has a challenge for each level
levels_of : (depth : ℕ) (stream : List Update) (side : Side) (block : List ℕ) (value : ℕ)
    → PointStandsFor m61_modulus block value (vector depth stream side) → length block ≡ depth
levels_of depth stream side block value stands =
    same_power (length block) depth (sym stands.whole ∙ length-vector depth stream side)

-- a range sum's: the vector's extension and the interval's
pub range_product : (depth : ℕ) (stream : List Update) (s : Seated) (side : Side) (lo hi value interval product : ℕ) (block : List ℕ)
    → s.query ≡ Range side lo hi → s.running ≡ point_is value → s.block ≡ block
    → interval ≡ ext m61_modulus (ones (length block) lo hi) block
    → product ≡ (value * interval) % m61_modulus → StandsFor depth stream s
    → (lists_of depth stream s.query ≡ Some (lists (vector depth stream side) (ones depth lo hi)))
    × (product ≡ product_at m61_modulus (vector depth stream side) (ones depth lo hi) s.block)
range_product depth stream s side lo hi value interval product block is keeps own interval_is product_is stands =
    let runs : PointStandsFor m61_modulus block value (vector depth stream side) = rw (is, keeps, own) at stands in
    let size = levels_of depth stream side block value runs in
    (rw is refl, rw (product_is, interval_is, size, own, runs.same) refl)

-- a second moment's: the vector's extension twice
pub square_product : (depth : ℕ) (stream : List Update) (s : Seated) (side : Side) (value product : ℕ)
    → s.query ≡ F2 side → s.running ≡ point_is value
    → product ≡ (value * value) % m61_modulus → StandsFor depth stream s
    → (lists_of depth stream s.query ≡ Some (lists (vector depth stream side) (vector depth stream side)))
    × (product ≡ product_at m61_modulus (vector depth stream side) (vector depth stream side) s.block)
square_product depth stream s side value product is keeps product_is stands =
    let runs : PointStandsFor m61_modulus s.block value (vector depth stream side) = rw (is, keeps) at stands in
    (rw is refl, rw (product_is, runs.same) refl)

-- an inner product's: the extensions of both vectors
pub inner_product : (depth : ℕ) (stream : List Update) (s : Seated) (first second product : ℕ)
    → s.query ≡ Inner → s.running ≡ points_are first second
    → product ≡ (first * second) % m61_modulus → StandsFor depth stream s
    → (lists_of depth stream s.query ≡ Some (lists (vector depth stream First) (vector depth stream Second)))
    × (product ≡ product_at m61_modulus (vector depth stream First) (vector depth stream Second) s.block)
inner_product depth stream s first second product is keeps product_is stands =
    let runs : PointStandsFor m61_modulus s.block first (vector depth stream First) × PointStandsFor m61_modulus s.block second (vector depth stream Second) = rw (is, keeps) at stands in
    (rw is refl, rw (product_is, runs.0.same, runs.1.same) refl)

-- ---- heavy hitters

-- its protocol is that of the stream for which its augmented root stands
heavy_is_protocol : (version : Version) (depth : ℕ) (stream : List Update) (query : Query) (block : List ℕ)
    (side : Side) (at_least hash : ℕ) (sum : ℤ) → query ≡ Heavy side at_least → RunsOn depth stream query block (aug_root_is hash sum)
    → IsProtocol version depth stream query block (heavy_protocol (heavy_asked version m61_modulus hash sum (length block) at_least))
heavy_is_protocol version depth stream (Sub lo hi) block side at_least hash sum is stands = absurd stands
heavy_is_protocol version depth stream (Range own lo hi) block side at_least hash sum is stands = absurd stands
heavy_is_protocol version depth stream (F2 own) block side at_least hash sum is stands = absurd stands
heavy_is_protocol version depth stream Inner block side at_least hash sum is stands = absurd stands
heavy_is_protocol version depth stream (Heavy own least) block side at_least hash sum is stands =
    let same_least : least ≡ at_least = cc in
    let hash_is : hash ≡ (augroot m61_modulus (vector depth stream own) block).hash = ap (λ (n : Counted). n.hash) stands.same in
    let sum_is : sum ≡ int_sum (vector depth stream own) = root_total m61_modulus block hash sum (vector depth stream own) stands in
    let size : length block ≡ depth = same_power (length block) depth (sym stands.whole ∙ length-vector depth stream own) in
    rw (sym same_least, hash_is, sum_is, size) (of_row version depth stream (Heavy own least) block (heavy_kind version depth stream own least) refl)
heavy_is_protocol version depth stream (Share own num den) block side at_least hash sum is stands = absurd cc
heavy_is_protocol version depth stream (Above own least) block side at_least hash sum is stands = absurd stands

-- likewise for a share, by the count that it comes to
share_is_protocol : (version : Version) (depth : ℕ) (stream : List Update) (query : Query) (block : List ℕ)
    (side : Side) (num den at_least hash : ℕ) (sum : ℤ) → query ≡ Share side num den → at_least ≡ share_of num den sum
    → RunsOn depth stream query block (aug_root_is hash sum)
    → IsProtocol version depth stream query block (heavy_protocol (heavy_asked version m61_modulus hash sum (length block) at_least))
share_is_protocol version depth stream (Sub lo hi) block side num den at_least hash sum is least stands = absurd stands
share_is_protocol version depth stream (Range own lo hi) block side num den at_least hash sum is least stands = absurd stands
share_is_protocol version depth stream (F2 own) block side num den at_least hash sum is least stands = absurd stands
share_is_protocol version depth stream Inner block side num den at_least hash sum is least stands = absurd stands
share_is_protocol version depth stream (Above own count) block side num den at_least hash sum is least stands = absurd stands
share_is_protocol version depth stream (Heavy own count) block side num den at_least hash sum is least stands = absurd cc
share_is_protocol version depth stream (Share own over under) block side num den at_least hash sum is least stands =
    let same_num : over ≡ num = cc in
    let same_den : under ≡ den = cc in
    let hash_is : hash ≡ (augroot m61_modulus (vector depth stream own) block).hash = ap (λ (n : Counted). n.hash) stands.same in
    let sum_is : sum ≡ int_sum (vector depth stream own) = root_total m61_modulus block hash sum (vector depth stream own) stands in
    let size : length block ≡ depth = same_power (length block) depth (sym stands.whole ∙ length-vector depth stream own) in
    rw (least, sym same_num, sym same_den, hash_is, sum_is, size) (of_row version depth stream (Share own over under) block
    (heavy_kind version depth stream own (share_of over under (int_sum (vector depth stream own)))) refl)

-- by the running numbers of a seat
pub heavy_protocol_is : (version : Version) (depth : ℕ) (stream : List Update) (s : Seated) (block : List ℕ)
    (side : Side) (at_least hash : ℕ) (sum : ℤ) → s.query ≡ Heavy side at_least → s.running ≡ aug_root_is hash sum → s.block ≡ block → StandsFor depth stream s
    → IsProtocol version depth stream s.query block (heavy_protocol (heavy_asked version m61_modulus hash sum (length block) at_least))
heavy_protocol_is version depth stream s block side at_least hash sum is keeps own stands =
    heavy_is_protocol version depth stream s.query block side at_least hash sum is
    (subst (λ (r : RunningNumbers). RunsOn depth stream s.query block r) keeps
    (subst (λ (b : List ℕ). RunsOn depth stream s.query b s.running) own stands))

pub share_protocol_is : (version : Version) (depth : ℕ) (stream : List Update) (s : Seated) (block : List ℕ)
    (side : Side) (num den at_least hash : ℕ) (sum : ℤ) → s.query ≡ Share side num den → at_least ≡ share_of num den sum
    → s.running ≡ aug_root_is hash sum → s.block ≡ block → StandsFor depth stream s
    → IsProtocol version depth stream s.query block (heavy_protocol (heavy_asked version m61_modulus hash sum (length block) at_least))
share_protocol_is version depth stream s block side num den at_least hash sum is least keeps own stands =
    share_is_protocol version depth stream s.query block side num den at_least hash sum is least
    (subst (λ (r : RunningNumbers). RunsOn depth stream s.query block r) keeps
    (subst (λ (b : List ℕ). RunsOn depth stream s.query b s.running) own stands))
