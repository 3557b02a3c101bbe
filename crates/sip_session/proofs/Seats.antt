-- The queries of a panel's seats: each query once for each helper.
use Rattle.std.proofs.Common.{◌≡◌, ℕ, zero, suc, ◌+◌, ◌-◌, ◌*◌, ◌/◌, ◌<◌, ◌≤◌, Bool, true, false, ◌||◌, Option, Some, None, List, [], ◌∷◌, ◌++◌, length, map, take, replicate, inl, inr, refl, sym, ap, ◌∙◌, arith, suc-add, length-append, length-take-le}
use Rattle.std.specs.Prelude.{All, slice_get, option_map, nat_lt, if◌then◌else◌}
use Rattle.std.specs.List.{list_any}
use Rattle.std.proofs.Math.Nat.{add-div_left, div-le_self}
use Rattle.std.proofs.lemmas.Bool.{cases_Bool}
use Rattle.std.proofs.lemmas.Nat.{mul-add-lt}
use Rattle.std.proofs.lemmas.List.{map-append, length-replicate}
use Rattle.std.proofs.lemmas.List.Elements.{All-append, All-head, All-nil, All-replicate, All-tail}
use Rattle.std.proofs.lemmas.List.Folds.{list_any-append}
use Rattle.sip_vector.specs.declared.query.Query.{Query}
use Rattle.sip_vector.specs.declared.update.Update.{Update}
use Rattle.sip_vector.specs.Limits.{most_narrow_depth}
use Rattle.sip_wire.specs.declared.version.Version.TheVariants.{One, Two}
use Rattle.sip_wire.specs.Versions.{is_of_two, needed}
use Rattle.sip_verifier.specs.Widths.{first_true, first_wide, is_too_wide}
use Rattle.sip_session.specs.Panels.{seat_queries}

-- ---- which query a seat has

get_repeated : {X : Type 0} (h i : ℕ) (q : X) (rest : List X) → i < h
    → slice_get (replicate h q ++ rest) i ≡ Some q
get_repeated zero i q rest less = absurd (omega (arith, less))
get_repeated (suc h) zero q rest less = refl
get_repeated (suc h) (suc i) q rest less = get_repeated h i q rest (omega arith)

get_behind : {X : Type 0} (h j : ℕ) (q : X) (rest : List X)
    → slice_get (replicate h q ++ rest) (h + j) ≡ slice_get rest j
get_behind zero j q rest = ap (slice_get rest) (let e : 0 + j ≡ j = omega arith in e)
get_behind (suc h) j q rest =
    ap (slice_get (replicate (suc h) q ++ rest)) (suc-add h j) ∙ get_behind h j q rest

-- seat k·h + i is one of query k
pub get_seat : (h i : ℕ) (queries : List Query) (k : ℕ) → i < h
    → slice_get (seat_queries h queries) (k * h + i) ≡ slice_get queries k
get_seat h i [] k less = refl
get_seat h i (q ∷ queries) zero less =
    ap (slice_get (replicate h q ++ seat_queries h queries))
    (let e : 0 * h + i ≡ i = omega arith in e)
    ∙ get_repeated h i q (seat_queries h queries) less
get_seat h i (q ∷ queries) (suc k) less =
    ap (slice_get (replicate h q ++ seat_queries h queries))
    (let e : suc k * h + i ≡ h + (k * h + i) = omega arith in e)
    ∙ get_behind h (k * h + i) q (seat_queries h queries) ∙ get_seat h i queries k less

pub length-seats : (h : ℕ) (queries : List Query)
    → length (seat_queries h queries) ≡ length queries * h
length-seats h [] = let e : 0 ≡ 0 * h = omega arith in e
length-seats h (q ∷ queries) =
    length-append (replicate h q) (seat_queries h queries)
    ∙ ap (λ n. n + length (seat_queries h queries)) (length-replicate h q)
    ∙ ap (λ n. h + n) (length-seats h queries)
    ∙ (let e : h + length queries * h ≡ suc (length queries) * h = omega arith in e)

-- while the seats of a query are added there is room for another one
pub seats_front : (h i s : ℕ) (queries so_far : List Query) (q : Query) → i < length queries
    → s < h → so_far ≡ seat_queries h (take i queries) ++ replicate s q
    → length so_far < h * length queries
seats_front h i s queries so_far q less fewer are =
    let whole : length (seat_queries h (take i queries)) ≡ i * h =
    length-seats h (take i queries)
    ∙ ap (λ n. n * h) (length-take-le i queries (omega (arith, less))) in
    let room : i * h + s < h * length queries = mul-add-lt i h s (length queries) less fewer in
    let size : length so_far ≡ i * h + s =
    ap length are ∙ length-append (seat_queries h (take i queries)) (replicate s q)
    ∙ ap (λ n. length (seat_queries h (take i queries)) + n) (length-replicate s q)
    ∙ ap (λ n. n + s) whole in
    omega (arith, size, room)

-- what holds of each query holds of each seat's
pub All-seats : (P : Query → Type 0) (h : ℕ) (queries : List Query) → All P queries
    → All P (seat_queries h queries)
All-seats P h [] all = All-nil P
All-seats P h (q ∷ queries) all =
    All-append P (replicate h q) (seat_queries h queries)
    (All-replicate P h q (All-head P q queries all))
    (All-seats P h queries (All-tail P q queries all))

-- ---- the version

or_false : (b : Bool) → (b || false) ≡ b
or_false true = refl
or_false false = refl

or_itself : (b : Bool) → (b || b) ≡ b
or_itself true = refl
or_itself false = refl

any_repeated : (test : Query → Bool) (h : ℕ) (q : Query) → 0 < h
    → list_any test (replicate h q) ≡ test q
any_repeated test zero q some = absurd (omega (arith, some))
any_repeated test (suc zero) q some = or_false (test q)
any_repeated test (suc (suc h)) q some =
    ap (λ (b : Bool). test q || b) (any_repeated test (suc h) q (omega arith)) ∙ or_itself (test q)

pub any_seats : (test : Query → Bool) (h : ℕ) (queries : List Query) → 0 < h
    → list_any test (seat_queries h queries) ≡ list_any test queries
any_seats test h [] some = refl
any_seats test h (q ∷ queries) some =
    list_any-append test (replicate h q) (seat_queries h queries)
    ∙ ap (λ (b : Bool). b || list_any test (seat_queries h queries)) (any_repeated test h q some)
    ∙ ap (λ (b : Bool). test q || b) (any_seats test h queries some)

pub needed-seats : (depth h : ℕ) (queries : List Query) → 0 < h
    → needed depth (seat_queries h queries) ≡ needed depth queries
needed-seats depth h queries some =
    ap (λ (b : Bool). if nat_lt most_narrow_depth depth || b then Two else One)
    (any_seats is_of_two h queries some)

-- ---- the first query that may be too wide

some_is : (n : ℕ) → Some n ≡ None → ⊥
some_is n e = absurd cc

zero_div : (h : ℕ) → 0 / h ≡ 0
zero_div h = omega (arith, div-le_self 0 h)

zero_over : (s h : ℕ) → 1 ≡ s → (s - 1) / h ≡ 0
zero_over s h e = let none : s - 1 ≡ 0 = omega arith in rw none (zero_div h)

pub first_some : (tests : List Bool) (n : ℕ) → first_true tests ≡ Some n → 1 ≤ n
first_some [] n e = absurd cc
first_some (true ∷ tests) n e = let same : 1 ≡ n = cc in omega (arith, same)
first_some (false ∷ tests) n e = go (first_true tests) e
  where
    go : (o : Option ℕ) → option_map suc o ≡ Some n → 1 ≤ n
    go None e = absurd cc
    go (Some m) e = let same : suc m ≡ n = cc in omega (arith, same)

-- tests that fail are passed over
passed : (h : ℕ) (tests : List Bool)
    → first_true (replicate h false ++ tests) ≡ option_map (λ n. h + n) (first_true tests)
passed zero tests = go (first_true tests)
  where
    go : (o : Option ℕ) → o ≡ option_map (λ n. 0 + n) o
    go None = refl
    go (Some n) = let e : n ≡ 0 + n = omega arith in ap Some e
passed (suc h) tests = ap (option_map suc) (passed h tests) ∙ go (first_true tests)
  where
    go : (o : Option ℕ) → option_map suc (option_map (λ n. h + n) o) ≡ option_map (λ n. suc h + n) o
    go None = refl
    go (Some n) = let e : suc (h + n) ≡ suc h + n = omega arith in ap Some e

map-repeated : {X Y : Type 0} (f : X → Y) (h : ℕ) (x : X)
    → map f (replicate h x) ≡ replicate h (f x)
map-repeated f zero x = refl
map-repeated f (suc h) x = ap (λ l. f x ∷ l) (map-repeated f h x)

module _ (stream : List Update) (h : ℕ) (some : 0 < h) where
  abbrev tests_behind : Query → List Query → Bool → List Bool
  tests_behind q queries b = replicate h b ++ map (is_too_wide stream) (seat_queries h queries)

  tests_are : (q : Query) (queries : List Query)
      → map (is_too_wide stream) (seat_queries h (q ∷ queries)) ≡ tests_behind q queries
      (is_too_wide stream q)
  tests_are q queries =
      map-append (is_too_wide stream) (replicate h q) (seat_queries h queries)
      ∙ ap (λ l. l ++ map (is_too_wide stream) (seat_queries h queries))
      (map-repeated (is_too_wide stream) h q)

  first_at : (h : ℕ) → 0 < h → (rest : List Bool) → first_true (replicate h true ++ rest) ≡ Some 1
  first_at zero some rest = absurd (omega (arith, some))
  first_at (suc h) some rest = refl

  -- the query of the first seat is the first query
  pub first_query : (queries : List Query) (seat : ℕ)
      → first_wide stream (seat_queries h queries) ≡ Some seat
      → first_wide stream queries ≡ Some ((seat - 1) / h + 1)
  first_query [] seat e = absurd cc
  first_query (q ∷ queries) seat e = elim (cases_Bool (is_too_wide stream q)) [
    | inl it ↦
        let one : Some 1 ≡ Some seat =
        sym (first_at h some (map (is_too_wide stream) (seat_queries h queries)))
        ∙ ap (λ (b : Bool). first_true (tests_behind q queries b)) (sym it)
        ∙ ap first_true (sym (tests_are q queries)) ∙ e in
        let same : 1 ≡ seat = cc in
        let none : (seat - 1) / h ≡ 0 = zero_over seat h same in
        rw it (ap Some (let is : 1 ≡ (seat - 1) / h + 1 = omega (arith, none) in is))
    | inr not ↦
        let behind : option_map (λ n. h + n) (first_wide stream (seat_queries h queries)) ≡ Some
        seat =
        sym (passed h (map (is_too_wide stream) (seat_queries h queries)))
        ∙ ap (λ (b : Bool). first_true (tests_behind q queries b)) (sym not)
        ∙ ap first_true (sym (tests_are q queries)) ∙ e in
        rw not (later (first_wide stream (seat_queries h queries)) refl behind
        (λ n is. first_query queries n is))
  ]
    where
      later : (o : Option ℕ) → first_wide stream (seat_queries h queries) ≡ o
          → option_map (λ n. h + n) o ≡ Some seat
          → ((n : ℕ) → first_wide stream (seat_queries h queries) ≡ Some n
          → first_wide stream queries ≡ Some ((n - 1) / h + 1))
          → option_map suc (first_wide stream queries) ≡ Some ((seat - 1) / h + 1)
      later None is e so_far = absurd cc
      later (Some n) is e so_far =
          let sum : h + n ≡ seat = cc in
          let least : 1 ≤ n = first_some (map (is_too_wide stream) (seat_queries h queries)) n is in
          let so : first_wide stream queries ≡ Some ((n - 1) / h + 1) = so_far n is in
          let over : (h + (n - 1)) / h ≡ (n - 1) / h + 1 = add-div_left (n - 1) some in
          let from : seat - 1 ≡ h + (n - 1) = omega arith in
          ap (option_map suc) so ∙ ap Some
          (let is : suc ((n - 1) / h + 1) ≡ (h + (n - 1)) / h + 1 = omega (arith, over) in
          is ∙ ap (λ m. m / h + 1) (sym from))

  -- none is too wide where no seat's is
  pub no_query : (queries : List Query) → first_wide stream (seat_queries h queries) ≡ None
      → first_wide stream queries ≡ None
  no_query [] e = refl
  no_query (q ∷ queries) e = elim (cases_Bool (is_too_wide stream q)) [
    | inl it ↦
        absurd (some_is 1 (sym (first_at h some
        (map (is_too_wide stream) (seat_queries h queries)))
        ∙ ap (λ (b : Bool). first_true (tests_behind q queries b)) (sym it)
        ∙ ap first_true (sym (tests_are q queries)) ∙ e))
    | inr not ↦
        let behind : option_map (λ n. h + n) (first_wide stream (seat_queries h queries)) ≡ None =
        sym (passed h (map (is_too_wide stream) (seat_queries h queries)))
        ∙ ap (λ (b : Bool). first_true (tests_behind q queries b)) (sym not)
        ∙ ap first_true (sym (tests_are q queries)) ∙ e in
        rw not (ap (option_map suc) (no_query queries
        (none_of (first_wide stream (seat_queries h queries)) behind)))
  ]
    where
      none_of : (o : Option ℕ) → option_map (λ n. h + n) o ≡ None → o ≡ None
      none_of None e = refl
      none_of (Some n) e = absurd cc
