-- The rounds of a legal stream, against a helper that has heard nothing.
use Rattle.std.proofs.Common.{◌≡◌, ◌≢◌, ◌⊎◌, ℕ, ◌+◌, ◌^◌, ◌<◌, ◌≤◌, Bool, true, false, IsTrue, ℤ, pos, nat_abs, List, [], ◌∷◌, ◌++◌, length, Option, Some, None, inl, inr, refl, sym, ap, ◌∙◌, subst, append_assoc, append-nil, arith, FitsSigned, w64, if◌then◌else◌}
use Rattle.std.specs.Prelude.{All, nat_lt}
use Rattle.std.specs.List.{flat_map, list_all}
use Rattle.std.specs.Option.{option_map}
use Rattle.std.proofs.lemmas.Bool.{and_from, lt-ltb, le-leb}
use Rattle.std.proofs.lemmas.Int.{ints}
use Rattle.std.proofs.lemmas.List.Elements.{All-cons, All-nil, All-head, All-tail}
use Rattle.sip_stream.specs.Reading.{IsFair}
use Rattle.sip_vector.specs.Streams.{most_weight, same_side, weight, IsLegal}
use Rattle.sip_vector.specs.declared.update.Side.{Side}
use Rattle.sip_vector.specs.declared.update.Side.TheVariants.{First, Second}
use Rattle.sip_vector.specs.declared.update.Update.{Update}
use Rattle.sip_vector.proofs.Sides.{weight-append, weight-one}
use Rattle.sip_wire.specs.declared.message.Message.{Message}
use Rattle.sip_wire.specs.declared.message.Message.TheVariants as messages
use Rattle.sip_wire.specs.declared.version.Version.{Version}
use Rattle.sip_wire.specs.declared.version.Version.TheVariants.{One, Two}
use Rattle.sip_wire.specs.Spelling.{fits, has_room, all_hold, spelling}
use Rattle.sip_wire.specs.Table.{most_rows}
use Rattle.sip_wire.specs.Versions.{deepest, number_of}
use Rattle.sip_helper.specs.declared.heard.Heard.TheVariants.{Part, Whole}
use Rattle.sip_helper.specs.Serving.{IsMessage}
use Rattle.sip_helper.specs.Streams.{vectors_of}
use Rattle.sip_helper.specs.Turns.{HelperState, OpenQuery, fresh, no_weight, step, depth_of, stays_legal, version_opened, weights_after, with_updates, zero_vectors}
use Rattle.sip_helper.specs.declared.vectors.Weights.{Weights}
use Rattle.sip_helper.proofs.OwedReplies.{added_again, from_zero}
use Rattle.sip_verifier.specs.Feeding.{has_spelling}
use Rattle.sip_verifier.proofs.FramesFit.{end_fits, frame_fits, open_fits, spelled_fair}
use Rattle.sip_duel.proofs.TurnLemmas.{IsSettled, settled_owed, settled_state}
use Rattle.sip_duel.proofs.WalkLemmas.{Round, Comes, Walk}
use Rattle.sip_duel.proofs.RevealLemmas.{Then, walk_then}
use Rattle.sip_duel.proofs.QueryLemmas.{IsAtRest}

-- ---- messages without a reply

abbrev pub silent : Message → Round
silent m = record { message = m; reply = [] }

none_open : (q : Option OpenQuery) → q ≡ None → IsSettled q
none_open q e = subst IsSettled (sym e) tt

then_settled : (Last : List ℕ → List ℕ → Type 0) (v : Version) (t : HelperState) (rest : List Round) → t.open_query ≡ None → Walk Last v t rest → Then Last v t [] rest
then_settled Last v t [] e walk = absurd walk
then_settled Last v t (next ∷ rest) e walk =
    let is = none_open t.open_query e in
    (sym (settled_owed t is), subst (λ x. Walk Last v x (next ∷ rest)) (sym (settled_state t is)) walk)

-- ---- pieces of a legal stream

same_own : (side : Side) → same_side side side ≡ true
same_own First = refl
same_own Second = refl

-- no update weighs more than its side
small : (m : ℕ) (us : List Update) → ((side : Side) → weight us side ≤ m) → All (λ (u : Update). nat_abs u.delta ≤ m) us
small m [] light = All-nil (λ (u : Update). nat_abs u.delta ≤ m)
small m (u ∷ us) light =
    All-cons (λ (x : Update). nat_abs x.delta ≤ m) u us
    (omega (arith, light u.side, weight-append (u ∷ []) us u.side, weight-one u u.side (same_own u.side)))
    (small m us (λ side. omega (arith, light side, weight-append (u ∷ []) us side)))

all_fair : (depth : ℕ) (us : List Update) → All (λ (u : Update). u.item < 2 ^ depth) us → All (λ (u : Update). u.delta ≢ pos 0) us → All (λ (u : Update). nat_abs u.delta ≤ most_weight) us → All (IsFair depth) us
all_fair depth [] items deltas sizes = All-nil (IsFair depth)
all_fair depth (u ∷ us) items deltas sizes =
    All-cons (IsFair depth) u us (record {
      item = All-head (λ (x : Update). x.item < 2 ^ depth) u us items;
      delta = All-head (λ (x : Update). x.delta ≢ pos 0) u us deltas;
      size = All-head (λ (x : Update). nat_abs x.delta ≤ most_weight) u us sizes;
    }) (all_fair depth us (All-tail (λ (x : Update). x.item < 2 ^ depth) u us items) (All-tail (λ (x : Update). x.delta ≢ pos 0) u us deltas) (All-tail (λ (x : Update). nat_abs x.delta ≤ most_weight) u us sizes))

fits_small : (z : ℤ) → nat_abs z ≤ most_weight → FitsSigned w64 z
fits_small z lt = omega (arith, ints, lt)

all_in_range : (us : List Update) → All (λ (u : Update). nat_abs u.delta ≤ most_weight) us → All (λ (u : Update). FitsSigned w64 u.delta) us
all_in_range [] sizes = All-nil (λ (u : Update). FitsSigned w64 u.delta)
all_in_range (u ∷ us) sizes =
    All-cons (λ (x : Update). FitsSigned w64 x.delta) u us (fits_small u.delta (All-head (λ (x : Update). nat_abs x.delta ≤ most_weight) u us sizes))
    (all_in_range us (All-tail (λ (x : Update). nat_abs x.delta ≤ most_weight) u us sizes))

all_below : (depth : ℕ) (us : List Update) → All (λ (u : Update). u.item < 2 ^ depth) us → list_all (λ (u : Update). nat_lt u.item (2 ^ depth)) us ≡ true
all_below depth [] items = refl
all_below depth (u ∷ us) items = and_from _ _ (lt-ltb u.item (2 ^ depth) (All-head (λ (x : Update). x.item < 2 ^ depth) u us items)) (all_below depth us (All-tail (λ (x : Update). x.item < 2 ^ depth) u us items))

-- the later part of a list
All-back : {X : Type 0} (P : X → Type 0) (xs ys : List X) → All P (xs ++ ys) → All P ys
All-back P [] ys all = all
All-back P (x ∷ xs) ys all = All-back P xs ys (All-tail P x (xs ++ ys) all)

All-front : {X : Type 0} (P : X → Type 0) (xs ys : List X) → All P (xs ++ ys) → All P xs
All-front P [] ys all = All-nil P
All-front P (x ∷ xs) ys all = All-cons P x xs (All-head P x (xs ++ ys) all) (All-front P xs ys (All-tail P x (xs ++ ys) all))

same_weights : (a b c d : ℕ) → a ≡ c → b ≡ d → ◌≡◌ {A = Weights} (record { first = a; second = b }) (record { first = c; second = d })
same_weights a b c d e f = cc

-- ---- frames of updates

abbrev pub IsPiece : List Update → Type 0
IsPiece us = (0 < length us) × (length us ≤ most_rows)

abbrev pub feed : List (List Update) → List Round → List Round
feed [] tail = tail
feed (us ∷ pieces) tail = silent (messages.Updates (record { items = us })) ∷ feed pieces tail

-- behind the opening and these updates
pub record IsFed (v : Version) (depth : ℕ) (s : HelperState) (fed : List Update) : Type 0 where
  pub version : s.version ≡ v
  pub heard : s.heard ≡ Part depth
  pub vectors : (s.vectors ≡ None) ⊎ (s.vectors ≡ Some (with_updates (zero_vectors depth) fed))
  pub weights : s.weights ≡ weights_after no_weight fed
  pub queries : s.queries ≡ 0
  pub closed : s.open_query ≡ None

module _ (Last : List ℕ → List ℕ → Type 0) (v : Version) (depth : ℕ) (shallow : depth ≤ deepest v) where
  -- a piece of a legal stream may come
  piece_comes : (s : HelperState) (fed us rest : List Update) → IsFed v depth s fed → IsPiece us → IsLegal depth (fed ++ (us ++ rest)) → Comes v s (messages.Updates (record { items = us }))
  piece_comes s fed us rest is piece legal = record {
    is = subst (λ x. IsMessage x (messages.Updates (record { items = us }))) (sym is.version) (record {
      has_spelling = frame_fits v us piece.0 piece.1 (spelled_fair v depth [] us shallow refl (all_fair depth us items deltas sizes));
      to_helper = refl;
      in_range = all_in_range us sizes;
    });
    same = ap (λ x. spelling x (messages.Updates (record { items = us }))) (sym is.version);
    may = ap (λ h. elim h as (λ _. Bool) [ Part d ↦ stays_legal d s.weights us | _ ↦ false ]) is.heard ∙ ap (λ w. stays_legal depth w us) is.weights
        ∙ and_from _ _ (all_below depth us items) (and_from _ _ (le-leb _ _ (added First)) (le-leb _ _ (added Second)));
  }
    where
      both : (side : Side) → weight (fed ++ (us ++ rest)) side ≤ most_weight
      both First = legal.first
      both Second = legal.second

      light : (side : Side) → weight fed side + weight us side ≤ most_weight
      light side = omega (arith, both side, weight-append fed (us ++ rest) side, weight-append us rest side)

      added : (side : Side) → (0 + weight fed side) + weight us side ≤ most_weight
      added side = omega (arith, light side)

      items : All (λ (u : Update). u.item < 2 ^ depth) us
      items = All-front (λ (u : Update). u.item < 2 ^ depth) us rest (All-back (λ (u : Update). u.item < 2 ^ depth) fed (us ++ rest) legal.items)

      deltas : All (λ (u : Update). u.delta ≢ pos 0) us
      deltas = All-front (λ (u : Update). u.delta ≢ pos 0) us rest (All-back (λ (u : Update). u.delta ≢ pos 0) fed (us ++ rest) legal.deltas)

      sizes : All (λ (u : Update). nat_abs u.delta ≤ most_weight) us
      sizes = small most_weight us (λ side. omega (arith, light side))

  fed_more : (s : HelperState) (fed us : List Update) (refused : Bool) → IsFed v depth s fed → IsFed v depth (step s refused (messages.Updates (record { items = us }))) (fed ++ us)
  fed_more s fed us refused is = record {
    version = is.version;
    heard = is.heard;
    vectors = by_refused refused is.vectors;
    weights = ap (λ w. weights_after w us) is.weights ∙ again;
    queries = is.queries;
    closed = is.closed;
  }
    where
      added : (side : Side) → (0 + weight fed side) + weight us side ≡ 0 + weight (fed ++ us) side
      added side = omega (arith, weight-append fed us side)

      again : weights_after (weights_after no_weight fed) us ≡ weights_after no_weight (fed ++ us)
      again = same_weights _ _ _ _ (added First) (added Second)

      by_refused : (r : Bool) → (s.vectors ≡ None) ⊎ (s.vectors ≡ Some (with_updates (zero_vectors depth) fed))
          → ((if r then None else option_map (λ x. with_updates x us) s.vectors) ≡ None) ⊎ ((if r then None else option_map (λ x. with_updates x us) s.vectors) ≡ Some (with_updates (zero_vectors depth) (fed ++ us)))
      by_refused true had = inl refl
      by_refused false (inl had) = inl (ap (option_map (λ x. with_updates x us)) had)
      by_refused false (inr had) = inr (ap (option_map (λ x. with_updates x us)) had ∙ ap Some (added_again (zero_vectors depth) fed us))

  pub walk_feed : (pieces : List (List Update)) (s : HelperState) (fed : List Update) (tail : List Round) → IsFed v depth s fed → All IsPiece pieces → IsLegal depth (fed ++ flat_map (λ us. us) pieces)
      → ((t : HelperState) → IsFed v depth t (fed ++ flat_map (λ us. us) pieces) → Walk Last v t tail) → Walk Last v s (feed pieces tail)
  walk_feed [] s fed tail is fine legal on = on s (subst (IsFed v depth s) (sym (append-nil fed)) is)
  walk_feed (us ∷ pieces) s fed tail is fine legal on =
      let m : Message = messages.Updates (record { items = us }) in
      let again : fed ++ (us ++ flat_map (λ x. x) pieces) ≡ (fed ++ us) ++ flat_map (λ x. x) pieces = sym (append_assoc fed us (flat_map (λ x. x) pieces)) in
      walk_then Last v s (silent m) (feed pieces tail) (piece_comes s fed us (flat_map (λ x. x) pieces) is (All-head IsPiece us pieces fine) legal)
      (λ refused u w agree. then_settled Last v (step s refused m) (feed pieces tail) is.closed
      (walk_feed pieces (step s refused m) (fed ++ us) tail (fed_more s fed us refused is) (All-tail IsPiece us pieces fine) (subst (IsLegal depth) again legal)
      (λ t at. on t (subst (IsFed v depth t) (sym again) at))))

  -- ---- the whole stream

  opening_fits : (w : Version) → IsTrue (fits w (messages.Open (number_of w) depth)) → IsTrue (fits One (messages.Open (number_of w) depth))
  unfolding fits has_room all_hold
  opening_fits One is = is
  opening_fits Two is = is

  opened_version : (w : Version) → version_opened (number_of w) ≡ w
  opened_version One = refl
  opened_version Two = refl

  opening_same : (w : Version) → spelling w (messages.Open (number_of w) depth) ≡ spelling One (messages.Open (number_of w) depth)
  unfolding spelling
  opening_same One = refl
  opening_same Two = refl

  abbrev pub stream_rounds : List (List Update) → List Round → List Round
  stream_rounds pieces tail = silent (messages.Open (number_of v) depth) ∷ feed pieces (silent messages.EndStream ∷ tail)

  end_walk : (some : 1 ≤ depth) (s : HelperState) (stream : List Update) (tail : List Round) → IsFed v depth s stream
      → ((t : HelperState) → IsAtRest v depth (vectors_of depth stream) t 0 → Walk Last v t tail) → Walk Last v s (silent messages.EndStream ∷ tail)
  end_walk some s stream tail is on =
      walk_then Last v s (silent messages.EndStream) tail (record {
        is = subst (λ x. IsMessage x messages.EndStream) (sym is.version) (record { has_spelling = end_fits v; to_helper = refl; in_range = tt });
        same = ap (λ x. spelling x messages.EndStream) (sym is.version);
        may = ap (λ h. elim h as (λ _. Bool) [ Part d ↦ true | _ ↦ false ]) is.heard;
      })
      (λ refused u w agree. then_settled Last v (step s refused messages.EndStream) tail is.closed (on (step s refused messages.EndStream) (record {
        version = is.version;
        heard = ap (λ h. Whole (depth_of h)) is.heard;
        vectors = whole is.vectors;
        queries = is.queries;
        closed = is.closed;
      })))
    where
      whole : (s.vectors ≡ None) ⊎ (s.vectors ≡ Some (with_updates (zero_vectors depth) stream)) → (s.vectors ≡ None) ⊎ (s.vectors ≡ Some (vectors_of depth stream))
      whole (inl e) = inl e
      whole (inr e) = inr (e ∙ ap Some (from_zero depth stream))

  pub walk_stream : (some : 1 ≤ depth) (pieces : List (List Update)) (tail : List Round) → All IsPiece pieces → IsLegal depth (flat_map (λ us. us) pieces)
      → ((t : HelperState) → IsAtRest v depth (vectors_of depth (flat_map (λ us. us) pieces)) t 0 → Walk Last v t tail) → Walk Last v fresh (stream_rounds pieces tail)
  walk_stream some pieces tail fine legal on =
      let m : Message = messages.Open (number_of v) depth in
      walk_then Last v fresh (silent m) (feed pieces (silent messages.EndStream ∷ tail)) (record {
        is = record { has_spelling = opening_fits v (open_fits v depth some shallow); to_helper = refl; in_range = tt };
        same = opening_same v;
        may = refl;
      })
      (λ refused u w agree. then_settled Last v (step fresh refused m) (feed pieces (silent messages.EndStream ∷ tail)) refl
      (walk_feed pieces (step fresh refused m) [] (silent messages.EndStream ∷ tail) (record {
        version = opened_version v;
        heard = refl;
        vectors = begun refused;
        weights = refl;
        queries = refl;
        closed = refl;
      }) fine legal (λ t at. end_walk some t (flat_map (λ us. us) pieces) tail at on)))
    where
      begun : (r : Bool) → ((if r then None else Some (zero_vectors depth)) ≡ None) ⊎ ((if r then None else Some (zero_vectors depth)) ≡ Some (zero_vectors depth))
      begun true = inl refl
      begun false = inr refl
