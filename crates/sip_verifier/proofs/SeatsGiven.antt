-- The seats of a run before any update, one after another.
use Rattle.std.proofs.Common.{◌≡◌, ℕ, zero, suc, ◌+◌, ◌-◌, ◌*◌, ◌/◌, ◌^◌, ◌<◌, ◌≤◌, ℤ, pos, List, [], ◌∷◌, ◌++◌, length, map, All, get_or, take, drop, replicate, refl, sym, ap, ◌∙◌, subst, arith, length-take-le, length-drop, take_all}
use Rattle.std.specs.Prelude.{IsTrue}
use Rattle.std.specs.List.{list_all}
use Rattle.std.proofs.Math.Nat.{suc-mul, mul_comm, mul-add-div, div-eq_of_lt, mul-le-mul_right}
use Rattle.std.proofs.lemmas.Bool.{and_from, le-leb, lt-ltb}
use Rattle.std.proofs.lemmas.List.{map-append, length-map, take_more, drop-drop}
use Rattle.std.proofs.lemmas.List.Elements.{All-push}
use Rattle.std.proofs.lemmas.List.Folds.{list_all-append}
use Rattle.sip_field.specs.Moduli.{m61_modulus}
use Rattle.sip_mle.specs.StandsFor.{PointStandsFor}
use Rattle.sip_tree.specs.StandsFor.{RootStandsFor, AugRootStandsFor, SplitRootStandsFor}
use Rattle.sip_vector.specs.declared.query.Query.{Query}
use Rattle.sip_vector.specs.declared.query.Query.TheVariants.{Sub, Range, F2, Inner, Heavy, Share, Above}
use Rattle.sip_vector.specs.declared.update.Side.{Side}
use Rattle.sip_vector.specs.declared.update.Side.TheVariants.{First, Second}
use Rattle.sip_vector.specs.Answers.{Fits}
use Rattle.sip_vector.specs.Limits.{most_share}
use Rattle.sip_vector.specs.Pieces.{pieces, cut}
use Rattle.sip_vector.specs.Streams.{vector}
use Rattle.sip_vector.proofs.Sides.{vector-nil}
use Rattle.sip_verifier.specs.QuerySeats.{Seated, root_is, point_is, points_are, aug_root_is, split_root_is, RunsOn, StandsFor, can_be_asked, does_fit, is_seat, keeps}
use Rattle.sip_verifier.specs.Tasks.{CanBeAsked}

-- ---- one seat

-- the running numbers of zeros stand for the stream of no update
module _ (depth : ℕ) (block : List ℕ) (size : length block ≡ depth) where
  pub root_of_none : (value : ℕ) (side : Side) → RootStandsFor m61_modulus block value (replicate (2 ^ length block) (pos 0))
      → RootStandsFor m61_modulus block value (vector depth [] side)
  root_of_none value side stands = rw (vector-nil depth side)
      (subst (λ n. RootStandsFor m61_modulus block value (replicate (2 ^ n) (pos 0))) size stands)

  pub point_of_none : (value : ℕ) (side : Side) → PointStandsFor m61_modulus block value (replicate (2 ^ length block) (pos 0))
      → PointStandsFor m61_modulus block value (vector depth [] side)
  point_of_none value side stands = rw (vector-nil depth side)
      (subst (λ n. PointStandsFor m61_modulus block value (replicate (2 ^ n) (pos 0))) size stands)

  pub new_root : (query : Query) (value : ℕ) → IsTrue (keeps query (root_is value))
      → RootStandsFor m61_modulus block value (replicate (2 ^ length block) (pos 0)) → RunsOn depth [] query block (root_is value)
  new_root (Sub lo hi) value kept stands = root_of_none value First stands
  new_root (Range side lo hi) value kept stands = absurd cc
  new_root (F2 side) value kept stands = absurd cc
  new_root Inner value kept stands = absurd cc
  new_root (Heavy side least) value kept stands = absurd cc
  new_root (Share side num den) value kept stands = absurd cc
  new_root (Above side least) value kept stands = absurd cc

  pub new_point : (query : Query) (value : ℕ) → IsTrue (keeps query (point_is value))
      → PointStandsFor m61_modulus block value (replicate (2 ^ length block) (pos 0)) → RunsOn depth [] query block (point_is value)
  new_point (Sub lo hi) value kept stands = absurd cc
  new_point (Range side lo hi) value kept stands = point_of_none value side stands
  new_point (F2 side) value kept stands = point_of_none value side stands
  new_point Inner value kept stands = absurd cc
  new_point (Heavy side least) value kept stands = absurd cc
  new_point (Share side num den) value kept stands = absurd cc
  new_point (Above side least) value kept stands = absurd cc

  pub new_points : (query : Query) (first second : ℕ) → IsTrue (keeps query (points_are first second))
      → PointStandsFor m61_modulus block first (replicate (2 ^ length block) (pos 0))
      → PointStandsFor m61_modulus block second (replicate (2 ^ length block) (pos 0)) → RunsOn depth [] query block (points_are first second)
  new_points (Sub lo hi) first second kept one other = absurd cc
  new_points (Range side lo hi) first second kept one other = absurd cc
  new_points (F2 side) first second kept one other = absurd cc
  new_points Inner first second kept one other = (point_of_none first First one, point_of_none second Second other)
  new_points (Heavy side least) first second kept one other = absurd cc
  new_points (Share side num den) first second kept one other = absurd cc
  new_points (Above side least) first second kept one other = absurd cc

  pub aug_root_of_none : (hash : ℕ) (total : ℤ) (side : Side)
      → AugRootStandsFor m61_modulus block hash total (replicate (2 ^ length block) (pos 0))
      → AugRootStandsFor m61_modulus block hash total (vector depth [] side)
  aug_root_of_none hash total side stands = rw (vector-nil depth side)
      (subst (λ n. AugRootStandsFor m61_modulus block hash total (replicate (2 ^ n) (pos 0))) size stands)

  pub new_split_root : (query : Query) (hash weight : ℕ) → IsTrue (keeps query (split_root_is hash weight))
      → SplitRootStandsFor m61_modulus block hash weight (replicate (2 ^ length block) (pos 0)) (replicate (2 ^ length block) (pos 0))
      → RunsOn depth [] query block (split_root_is hash weight)
  new_split_root (Sub lo hi) hash weight kept stands = absurd cc
  new_split_root (Range side lo hi) hash weight kept stands = absurd cc
  new_split_root (F2 side) hash weight kept stands = absurd cc
  new_split_root Inner hash weight kept stands = absurd cc
  new_split_root (Heavy side least) hash weight kept stands = absurd cc
  new_split_root (Above side least) hash weight kept stands = rw (vector-nil depth side)
      (subst (λ n. SplitRootStandsFor m61_modulus block hash weight (replicate (2 ^ n) (pos 0)) (replicate (2 ^ n) (pos 0))) size stands)
  new_split_root (Share side num den) hash weight kept stands = absurd cc

  pub new_aug_root : (query : Query) (hash : ℕ) (total : ℤ) → IsTrue (keeps query (aug_root_is hash total))
      → AugRootStandsFor m61_modulus block hash total (replicate (2 ^ length block) (pos 0))
      → RunsOn depth [] query block (aug_root_is hash total)
  new_aug_root (Sub lo hi) hash total kept stands = absurd cc
  new_aug_root (Range side lo hi) hash total kept stands = absurd cc
  new_aug_root (F2 side) hash total kept stands = absurd cc
  new_aug_root Inner hash total kept stands = absurd cc
  new_aug_root (Heavy side least) hash total kept stands = aug_root_of_none hash total side stands
  new_aug_root (Above side least) hash total kept stands = absurd cc
  new_aug_root (Share side num den) hash total kept stands = aug_root_of_none hash total side stands

-- a query that fits passes the test
fits-does : (depth : ℕ) (query : Query) → Fits depth query → IsTrue (does_fit depth query)
fits-does depth (Sub lo hi) fits = and_from _ _ (le-leb lo hi fits.0) (lt-ltb hi (2 ^ depth) fits.1)
fits-does depth (Range side lo hi) fits = and_from _ _ (le-leb lo hi fits.0) (lt-ltb hi (2 ^ depth) fits.1)
fits-does depth (F2 side) fits = refl
fits-does depth Inner fits = refl
fits-does depth (Heavy side least) fits = and_from _ _ (le-leb 1 least fits.0) (lt-ltb least (2 ^ 63) fits.1)
fits-does depth (Above side least) fits = and_from _ _ (le-leb 1 least fits.0) (lt-ltb least (2 ^ 63) fits.1)
fits-does depth (Share side num den) fits =
    and_from _ _ (le-leb 1 num fits.0) (and_from _ _ (le-leb num den fits.1) (le-leb den most_share fits.2))

-- a query that can be asked can be that of a seat
pub asked-can : (depth : ℕ) (query : Query) → CanBeAsked depth query → IsTrue (can_be_asked depth query)
asked-can depth query can = and_from _ _ can.0 (fits-does depth query can.1)

-- ---- blocks

pub pieces-next : {X : Type 0} (k n : ℕ) (xs : List X) → pieces k (suc n) xs ≡ pieces k n xs ++ take k (drop (n * k) xs) ∷ []
pieces-next k zero xs = let none : 0 ≡ zero * k = omega arith in ap (λ m. take k (drop m xs) ∷ []) none
pieces-next k (suc n) xs =
    let more = suc-mul n k in
    let count : k + n * k ≡ suc n * k = omega arith in
    ap (λ l. take k xs ∷ l) (pieces-next k n (drop k xs)) ∙ ap (λ l. take k xs ∷ (pieces k n (drop k xs) ++ take k l ∷ [])) (drop-drop (n * k) k xs ∙ ap (λ m. drop m xs) count)

pub pieces-more : {X : Type 0} (k n : ℕ) (xs : List X) → pieces k (n + 1) xs ≡ pieces k n xs ++ take k (drop (n * k) xs) ∷ []
pieces-more k n xs = let next : n + 1 ≡ suc n = omega arith in ap (λ m. pieces k m xs) next ∙ pieces-next k n xs

-- there are as many as there are queries
pub cut-whole : {X : Type 0} (k n : ℕ) (xs : List X) → 1 ≤ k → length xs ≡ k * n → cut k xs ≡ pieces k n xs
cut-whole k n xs some size =
    let part : (k - 1) / k ≡ 0 = div-eq_of_lt (omega arith) in
    let count : (length xs + (k - 1)) / k ≡ n = ap (λ m. (m + (k - 1)) / k) size ∙ mul-add-div (omega arith) n (k - 1) ∙ (let whole = part in omega arith) in
    ap (λ m. pieces k m xs) count

-- a block is whole
pub block-size : {X : Type 0} (k n i : ℕ) (xs : List X) → i < n → length xs ≡ k * n → length (take k (drop (i * k) xs)) ≡ k
block-size k n i xs lt size =
    let room : suc i * k ≤ n * k = mul-le-mul_right k lt in
    let more = suc-mul i k in
    let turned = mul_comm k n in
    length-take-le k (drop (i * k) xs) (omega (arith, length-drop (i * k) xs))

-- ---- all of them

-- the seats of the first so many queries, in order
pub record AreGiven (depth levels index : ℕ) (queries : List Query) (numbers : List ℕ) (seats : List Seated) : Type 0 where
  pub asked : map (λ s. s.query) seats ≡ take index queries
  pub at_blocks : map (λ (s : Seated). s.block) seats ≡ pieces levels index numbers
  pub each : IsTrue (list_all (is_seat depth) seats)
  pub stand : All (StandsFor depth []) seats

-- one more
pub given-more : (depth levels index : ℕ) (queries : List Query) (numbers : List ℕ) (seats : List Seated) (d : Query) (s : Seated) → AreGiven depth levels index queries numbers seats
    → index < length queries → s.query ≡ get_or queries index d → s.block ≡ take levels (drop (index * levels) numbers) → IsTrue (is_seat depth s) × StandsFor depth [] s
    → AreGiven depth levels (index + 1) queries numbers (seats ++ s ∷ [])
given-more depth levels index queries numbers seats d s given lt query block one = record {
  asked = map-append (λ (x : Seated). x.query) seats (s ∷ []) ∙ ap (λ l. l ++ s.query ∷ []) given.asked ∙ ap (λ q. take index queries ++ q ∷ []) query ∙ sym (take_more queries index d lt);
  at_blocks = map-append (λ (x : Seated). x.block) seats (s ∷ []) ∙ ap (λ l. l ++ s.block ∷ []) given.at_blocks ∙ ap (λ b. pieces levels index numbers ++ b ∷ []) block ∙ sym (pieces-more levels index numbers);
  each = list_all-append (is_seat depth) seats (s ∷ []) ∙ and_from _ _ given.each (and_from _ _ one.0 refl);
  stand = All-push (StandsFor depth []) seats s given.stand one.1;
}

-- how many there are
pub given-count : (depth levels index : ℕ) (queries : List Query) (numbers : List ℕ) (seats : List Seated) → AreGiven depth levels index queries numbers seats → index ≤ length queries → length seats ≡ index
given-count depth levels index queries numbers seats given le = sym (length-map seats (λ (s : Seated). s.query)) ∙ ap length given.asked ∙ length-take-le index queries le

-- the last one is there
pub given-asked : (depth levels index : ℕ) (queries : List Query) (numbers : List ℕ) (seats : List Seated) → AreGiven depth levels index queries numbers seats → length queries ≤ index → map (λ s. s.query) seats ≡ queries
given-asked depth levels index queries numbers seats given le = given.asked ∙ take_all index queries le

pub given-blocks : (depth levels index : ℕ) (queries : List Query) (numbers : List ℕ) (seats : List Seated) → AreGiven depth levels index queries numbers seats → index ≡ length queries → 1 ≤ depth → levels ≡ depth → length numbers ≡ depth * length queries
    → map (λ (s : Seated). s.block) seats ≡ cut depth numbers
given-blocks depth levels index queries numbers seats given whole some same size =
    given.at_blocks ∙ ap (λ k. pieces k index numbers) same ∙ ap (λ n. pieces depth n numbers) whole ∙ sym (cut-whole depth (length queries) numbers some size)
