-- The task whose seats are a root for each lookup, and those seats beside the lookups.
use Rattle.std.proofs.Common.{◌≡◌, ℕ, zero, suc, ◌*◌, ◌≤◌, ◌^◌, Bool, true, false, List, [], ◌∷◌, length, map, All, refl, sym, ap, subst, ◌∙◌, arith}
use Rattle.std.specs.Prelude.{IsTrue, ◌||◌, nat_lt, replicate, if◌then◌else◌}
use Rattle.std.specs.List.{list_all, list_any, zip}
use Rattle.std.proofs.lemmas.Bool.{and_from, lt-ltb}
use Rattle.std.proofs.lemmas.List.{length-map, length-replicate}
use Rattle.std.proofs.lemmas.Slice.Zip.{length-zip}
use Rattle.std.proofs.lemmas.List.Elements.{All-replicate, All-cons, All-nil, All-head, All-tail}
use Rattle.std.proofs.lemmas.List.Folds.{list_all-map, list_any_none}
use Rattle.std.proofs.Math.Nat.{one-le-pow}
use Rattle.sip_vector.specs.declared.query.Query.{Query}
use Rattle.sip_vector.specs.declared.query.Query.TheVariants.{Sub}
use Rattle.sip_vector.specs.Limits.{most_depth, most_narrow_depth}
use Rattle.sip_wire.specs.declared.version.Version.TheVariants.{One, Two}
use Rattle.sip_wire.specs.Versions.{Speaks, is_of_two, needed}
use Rattle.sip_wire.proofs.Asking.{needed-speaks}
use Rattle.sip_verifier.specs.declared.task.Task.{Task}
use Rattle.sip_verifier.specs.Draws.{challenges_of}
use Rattle.sip_verifier.specs.Exchanges.{Exchange}
use Rattle.sip_verifier.specs.Inquiries.{run_over}
use Rattle.sip_verifier.specs.QuerySeats.{Seated}
use Rattle.sip_verifier.specs.runs.Askers.{blocks_in, queries_in}
use Rattle.sip_verifier.specs.SeatNumbers.{has_root}
use Rattle.sip_verifier.specs.Tasks.{CanBeAsked, CanBeDone}
use Rattle.sip_lookup.specs.Lookups.{CanLook, item_of}
use Rattle.sip_lookup.specs.Tasks.{CanLookUp, run_of}
use Rattle.sip_lookup.specs.declared.lookup.Lookup.{Lookup}
use Rattle.sip_lookup.specs.declared.task.LookTask.{LookTask}

-- a query whose seat is a root
abbrev pub rooted_query : Query
rooted_query = Sub 0 0

-- ---- the version

none_of_two : (n : ℕ) → list_any is_of_two (replicate n rooted_query) ≡ false
none_of_two n = list_any_none is_of_two (replicate n rooted_query) (All-replicate (λ k. is_of_two k ≡ false) n rooted_query refl)

pub same_version : (depth n : ℕ) → needed depth (replicate n rooted_query) ≡ needed depth []
same_version depth n = ap (λ (b : Bool). if nat_lt most_narrow_depth depth || b then Two else One) (none_of_two n)

-- any sub-vector can be asked for in it
pub any_speaks : (depth lo hi : ℕ) → depth ≤ most_depth → Speaks (needed depth []) depth (Sub lo hi)
any_speaks depth lo hi most = needed-speaks depth (Sub lo hi ∷ []) most 0 (Sub lo hi) (omega arith)

-- ---- the task

module _ (task : LookTask) (rooted : Task) (same_depth : rooted.depth ≡ task.depth) (same_form : rooted.form ≡ task.form)
    (queries : rooted.queries.items ≡ replicate (length task.lookups.items) rooted_query) where
  count : length rooted.queries.items ≡ length task.lookups.items
  count = ap (λ (ks : List Query). length ks) queries ∙ length-replicate (length task.lookups.items) rooted_query

  pub rooted_can : CanLookUp task → CanBeDone rooted
  rooted_can can = record {
    some = omega (arith, count, can.some);
    asked = subst (All (CanBeAsked rooted.depth)) (sym queries)
        (All-replicate (CanBeAsked rooted.depth) (length task.lookups.items) rooted_query (refl, (omega arith, one-le-pow rooted.depth 2 (omega arith))));
  }

  -- what a run asks is the lookups over it
  pub run_same : (x : Exchange) → run_over rooted task.lookups.items x ≡ run_of task x
  run_same x =
      let version : needed rooted.depth rooted.queries.items ≡ needed task.depth [] = ap (λ (d : ℕ). needed d rooted.queries.items) same_depth ∙ ap (needed task.depth) queries ∙ same_version task.depth (length task.lookups.items) in
      let challenges : challenges_of (rooted.depth * length rooted.queries.items) x.seed ≡ challenges_of (task.depth * length task.lookups.items) x.seed = ap (λ (d : ℕ). challenges_of (d * length rooted.queries.items) x.seed) same_depth ∙ ap (λ (n : ℕ). challenges_of (task.depth * n) x.seed) count in
      cc

-- ---- seats beside lookups

module _ {X : Type 0} where
  -- what is asked, and at which block
  abbrev pub asks_beside : List X → List Seated → List (X × List ℕ)
  asks_beside xs seats = map (λ (ask : X × Seated). (ask.0, ask.1.block)) (zip xs seats)

  pub queries_beside : (xs : List X) (seats : List Seated) → length seats ≡ length xs → queries_in (asks_beside xs seats) ≡ xs
  queries_beside [] seats same = refl
  queries_beside (x ∷ xs) [] same = absurd (omega (arith, same))
  queries_beside (x ∷ xs) (s ∷ seats) same = ap (λ (l : List X). x ∷ l) (queries_beside xs seats (omega (arith, same)))

  pub blocks_beside : (xs : List X) (seats : List Seated) → length seats ≡ length xs → blocks_in (asks_beside xs seats) ≡ map (λ (s : Seated). s.block) seats
  blocks_beside [] [] same = refl
  blocks_beside [] (s ∷ seats) same = absurd (omega (arith, same))
  blocks_beside (x ∷ xs) [] same = absurd (omega (arith, same))
  blocks_beside (x ∷ xs) (s ∷ seats) same = ap (λ (l : List (List ℕ)). s.block ∷ l) (blocks_beside xs seats (omega (arith, same)))

  -- no more are asked than there are seats
  pub few_beside : (xs : List X) (seats : List Seated) (queries : List Query) (most : ℕ) → map (λ (s : Seated). s.query) seats ≡ queries → length queries ≤ most → length (asks_beside xs seats) ≤ most
  few_beside xs seats queries most same few =
      omega (arith, length-map {B = X × List ℕ} (zip xs seats) (λ (ask : X × Seated). (ask.0, ask.1.block)), length-zip xs seats, length-map seats (λ (s : Seated). s.query), ap (λ (ks : List Query). length ks) same, few)

  -- what holds of each seat holds beside the lookups
  pub All-beside : (P : Seated → Type 0) (xs : List X) (seats : List Seated) → All P seats → All (λ (ask : X × Seated). P ask.1) (zip xs seats)
  All-beside P [] seats all = All-nil (λ (ask : X × Seated). P ask.1)
  All-beside P (x ∷ xs) [] all = All-nil (λ (ask : X × Seated). P ask.1)
  All-beside P (x ∷ xs) (s ∷ seats) all =
      All-cons (λ (ask : X × Seated). P ask.1) (x, s) (zip xs seats) (All-head P s seats all) (All-beside P xs seats (All-tail P s seats all))

-- ---- the seats' roots

-- seats of such queries are as many, and each has a root
pub seats_count : (n : ℕ) (seats : List Seated) → map (λ (s : Seated). s.query) seats ≡ replicate n rooted_query → length seats ≡ n
seats_count n seats e = sym (length-map seats (λ (s : Seated). s.query)) ∙ ap (λ (ks : List Query). length ks) e ∙ length-replicate n rooted_query

all_rooted : (n : ℕ) → list_all has_root (replicate n rooted_query) ≡ true
all_rooted n = by_recursion n
  where
    by_recursion : (k : ℕ) → list_all has_root (replicate k rooted_query) ≡ true
    by_recursion zero = refl
    by_recursion (suc k) = by_recursion k

pub seats_rooted : (n : ℕ) (seats : List Seated) → map (λ (s : Seated). s.query) seats ≡ replicate n rooted_query → IsTrue (list_all (λ (s : Seated). has_root s.query) seats)
seats_rooted n seats e = sym (list_all-map has_root (λ (s : Seated). s.query) seats) ∙ ap (list_all has_root) e ∙ all_rooted n

-- lookups that can be asked are at items of the stream
pub items_below : (depth : ℕ) (lookups : List Lookup) → All (CanLook depth) lookups → IsTrue (list_all (λ (l : Lookup). nat_lt (item_of l) (2 ^ depth)) lookups)
items_below depth [] can = refl
items_below depth (l ∷ lookups) can = and_from _ _ (lt-ltb (item_of l) (2 ^ depth) (All-head (CanLook depth) l lookups can)) (items_below depth lookups (All-tail (CanLook depth) l lookups can))
