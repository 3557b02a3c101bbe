-- The rounds of a query whose replies are read by a protocol, against a helper that owes honest ones.
use Rattle.std.proofs.Common.{◌≡◌, ℕ, suc, ◌+◌, ◌<◌, ◌≤◌, Bool, true, false, IsTrue, List, [], ◌∷◌, ◌++◌, length, drop, Some, None, Result, Ok, Err, refl, sym, ap, ◌∙◌, subst, append-nil, arith, length-append}
use Rattle.std.specs.Prelude.{⊤, All, nat_lt, nat_le, if◌then◌else◌, ◌||◌, is_some}
use Rattle.std.specs.List.{flat_map}
use Rattle.std.specs.Option.{option_and_then}
use Rattle.std.proofs.lemmas.Bool.{lt-ltb}
use Rattle.std.proofs.lemmas.List.Elements.{All-head, All-tail}
use Rattle.sip_vector.specs.declared.query.Query.{Query}
use Rattle.sip_vector.specs.Steps.{◌>>=◌}
use Rattle.sip_wire.specs.declared.message.Message.TheVariants as messages
use Rattle.sip_wire.specs.declared.message.Reason.{Reason}
use Rattle.sip_wire.specs.declared.version.Version.{Version}
use Rattle.sip_wire.specs.Spelling.{spelling}
use Rattle.sip_replies.specs.Protocols.{Rules}
use Rattle.sip_replies.specs.Replies.{Fault, in_round, learnt, read_reply, run_from}
use Rattle.sip_replies.proofs.Agreeing.{run_same}
use Rattle.sip_helper.specs.declared.heard.Heard.TheVariants.{Whole}
use Rattle.sip_helper.specs.Kinds.{help_row}
use Rattle.sip_helper.specs.Serving.{IsMessage}
use Rattle.sip_helper.specs.Turns.{HelperState, step, owed, after_answer, after_reply, depth_of}
use Rattle.sip_helper.specs.Vectors.{Vectors}
use Rattle.sip_helper.proofs.OwedReplies.{due, left_above, next_due, owed_honest}
use Rattle.sip_duel.proofs.WalkLemmas.{Round, Comes, Walk}

-- ---- one round more

-- what holds behind a message, by the rounds that follow: of the last reply, or that the reply was the one that was owed
abbrev pub Then : (List ℕ → List ℕ → Type 0) → Version → HelperState → List ℕ → List Round → Type 0
Then Last v t b [] = Last b (owed t)
Then Last v t b (next ∷ rest) = (b ≡ owed t) × Walk Last v (after_answer t) (next ∷ rest)

pub walk_then : (Last : List ℕ → List ℕ → Type 0) (v : Version) (s : HelperState) (r : Round) (rest : List Round) → Comes v s r.message
    → ((refused : Bool) (u w : List ℕ) → r.reply ++ u ≡ owed (step s refused r.message) ++ w → Then Last v (step s refused r.message) r.reply rest) → Walk Last v s (r ∷ rest)
walk_then Last v s r [] comes on = (comes, on)
walk_then Last v s r (next ∷ rest) comes on = (comes, on)

-- ---- honest replies, one after another

-- what is replied at each of the challenges, the first of them behind these
abbrev pub replies_from : (List ℕ → List ℕ) → List ℕ → List ℕ → List (List ℕ)
replies_from f revealed [] = []
replies_from f revealed (r ∷ rs) = f revealed ∷ replies_from f (revealed ++ r ∷ []) rs

-- each reply is whole
abbrev pub AreWhole : {S : Type 0} → Rules S → List ℕ → S → List (List ℕ) → Type 0
AreWhole R rs s [] = ⊤
AreWhole {S} R rs s (b ∷ bs) = (t : S) × (read_reply R s b ≡ Ok t) × AreWhole R (drop 1 rs) (learnt R rs t) bs

-- each but the last one is
abbrev pub AreWholeSoFar : {S : Type 0} → Rules S → List ℕ → S → List (List ℕ) → Type 0
AreWholeSoFar R rs s [] = ⊤
AreWholeSoFar R rs s (b ∷ []) = ⊤
AreWholeSoFar {S} R rs s (b ∷ next ∷ bs) = (t : S) × (read_reply R s b ≡ Ok t) × AreWholeSoFar R (drop 1 rs) (learnt R rs t) (next ∷ bs)

pub so_far : {S : Type 0} (R : Rules S) (rs : List ℕ) (s : S) (bs : List (List ℕ)) → AreWhole R rs s bs → AreWholeSoFar R rs s bs
so_far R rs s [] whole = tt
so_far R rs s (b ∷ []) whole = tt
so_far R rs s (b ∷ next ∷ bs) whole = (whole.0, whole.1, so_far R (drop 1 rs) (learnt R rs whole.0) (next ∷ bs) whole.2)

run_one : {S : Type 0} (R : Rules S) (s : S) (b : List ℕ) (t : S) → read_reply R s b ≡ Ok t → run_from R 0 [] s (b ∷ []) ≡ Ok t
unfolding run_from
run_one R s b t e = ap (λ r. in_round 0 r >>= λ x. run_from R 1 [] x []) e

-- whole replies that agree are the same
pub same_whole : {S : Type 0} (R : Rules S) (s : S) (a b : List ℕ) (x y : S) (u w : List ℕ) → read_reply R s a ≡ Ok x → read_reply R s b ≡ Ok y → a ++ u ≡ b ++ w → a ≡ b
same_whole R s a b x y u w first second agree =
    let both = run_same R 0 [] s (a ∷ []) (b ∷ []) u w x y (run_one R s a x first) (run_one R s b y second) refl
    (ap (λ l. l ++ u) (append-nil a) ∙ agree ∙ ap (λ l. l ++ w) (sym (append-nil b))) in
    let lists = both.0 in cc

same_state : {S : Type 0} (R : Rules S) (s : S) (a b : List ℕ) (x y : S) → read_reply R s a ≡ Ok x → read_reply R s b ≡ Ok y → a ≡ b → x ≡ y
same_state {S} R s a b x y first second same = let both : ◌≡◌ {A = Result S Reason} (Ok x) (Ok y) = sym first ∙ ap (read_reply R s) same ∙ second in cc

pub run_cons : {S : Type 0} (R : Rules S) (j : ℕ) (rs : List ℕ) (s : S) (r : List ℕ) (more : List (List ℕ)) → run_from R j rs s (r ∷ more) ≡ (in_round j (read_reply R s r) >>= λ t. run_from R (j + 1) (drop 1 rs) (learnt R rs t) more)
unfolding run_from
run_cons R j rs s r more = refl

-- replies without a fault are whole
pub run_whole : {S : Type 0} (R : Rules S) (j : ℕ) (rs : List ℕ) (s : S) (bs : List (List ℕ)) (t : S) → run_from R j rs s bs ≡ Ok t → AreWhole R rs s bs
run_whole R j rs s [] t e = tt
run_whole {S} R j rs s (b ∷ bs) t e = by_read (λ x f. run_whole R (j + 1) (drop 1 rs) (learnt R rs x) bs t f) (read_reply R s b) refl (sym (run_cons R j rs s b bs) ∙ e)
  where
    by_read : ((x : S) → run_from R (j + 1) (drop 1 rs) (learnt R rs x) bs ≡ Ok t → AreWhole R (drop 1 rs) (learnt R rs x) bs) → (r : Result S Reason) → read_reply R s b ≡ r → (in_round j r >>= λ x. run_from R (j + 1) (drop 1 rs) (learnt R rs x) bs) ≡ Ok t → AreWhole R rs s (b ∷ bs)
    by_read on (Ok x) is f = (x, is, on x f)
    by_read on (Err reason) is f = absurd cc

-- those before the one with the fault are whole
pub fault_so_far : {S : Type 0} (R : Rules S) (j : ℕ) (rs : List ℕ) (s : S) (bs : List (List ℕ)) (fault : Fault) → run_from R j rs s bs ≡ Err fault → j + length bs ≤ suc fault.round → AreWholeSoFar R rs s bs
fault_so_far R j rs s [] fault e last = tt
fault_so_far R j rs s (b ∷ []) fault e last = tt
fault_so_far {S} R j rs s (b ∷ next ∷ bs) fault e last = by_read (λ x f. fault_so_far R (j + 1) (drop 1 rs) (learnt R rs x) (next ∷ bs) fault f (omega (arith, last))) (read_reply R s b) refl (sym (run_cons R j rs s b (next ∷ bs)) ∙ e)
  where
    by_read : ((x : S) → run_from R (j + 1) (drop 1 rs) (learnt R rs x) (next ∷ bs) ≡ Err fault → AreWholeSoFar R (drop 1 rs) (learnt R rs x) (next ∷ bs)) → (r : Result S Reason) → read_reply R s b ≡ r → (in_round j r >>= λ x. run_from R (j + 1) (drop 1 rs) (learnt R rs x) (next ∷ bs)) ≡ Err fault → AreWholeSoFar R rs s (b ∷ next ∷ bs)
    by_read on (Ok x) is f = (x, is, on x f)
    by_read on (Err reason) is f = let same : ◌≡◌ {A = Fault} (record { round = j; reason = reason }) fault = cc in absurd (omega (arith, last, ap (λ (x : Fault). x.round) same))

-- ---- the rounds behind a query

abbrev pub reveals : List ℕ → List (List ℕ) → List Round
reveals rs [] = []
reveals [] (b ∷ bs) = []
reveals (r ∷ rs) (b ∷ bs) = record { message = messages.Reveal r; reply = b } ∷ reveals rs bs

module _ (v : Version) (depth : ℕ) (vs : Vectors) (q : Query) (none : (help_row q).refused_by vs ≡ None) (asked : ℕ) where
  -- what the query's row replies
  abbrev pub honest : List ℕ → List ℕ
  honest revealed = flat_map (spelling v) ((help_row q).honest vs revealed)

  -- its reply is owed, behind these challenges
  pub record IsDue (t : HelperState) (revealed : List ℕ) : Type 0 where
    pub version : t.version ≡ v
    pub heard : t.heard ≡ Whole depth
    pub vectors : t.vectors ≡ Some vs
    pub standing : t.open_query ≡ Some (due q revealed)
    pub queries : t.queries ≡ asked

  pub due_owed : (t : HelperState) (revealed : List ℕ) → IsDue t revealed → owed t ≡ honest revealed
  due_owed t revealed is = owed_honest t vs q revealed is.vectors is.standing none ∙ ap (λ w. flat_map (spelling w) ((help_row q).honest vs revealed)) is.version

  -- the query once its reply was given, where a level is left
  given_open : (t : HelperState) (revealed : List ℕ) → IsDue t revealed → length revealed + 1 < depth → (after_answer t).open_query ≡ Some (record (due q revealed) { given = true })
  given_open t revealed is more =
      ap (λ x. option_and_then (after_reply (depth_of x) t.vectors) t.open_query) is.heard
      ∙ ap (λ x. option_and_then (after_reply depth x) t.open_query) is.vectors
      ∙ ap (λ x. option_and_then (after_reply depth (Some vs)) x) is.standing
      ∙ ap (λ x. if is_some x || nat_le depth (length revealed + 1) then None else Some (record (due q revealed) { given = true })) none
      ∙ ap (λ x. if x then None else Some (record (due q revealed) { given = true })) (left_above (length revealed + 1) depth more)

  reveal_may : (t : HelperState) (revealed : List ℕ) (r : ℕ) → IsDue t revealed → length revealed + 1 < depth → IsTrue (Rattle.sip_helper.specs.Turns.is_allowed (after_answer t) (messages.Reveal r))
  reveal_may t revealed r is more =
      ap (λ x. elim x as (λ _. Bool) [ Some o ↦ Rattle.sip_helper.specs.Turns.may_reveal (depth_of t.heard) o | None ↦ false ]) (given_open t revealed is more)
      ∙ ap (λ x. nat_lt (length revealed + 1) (depth_of x)) is.heard ∙ lt-ltb (length revealed + 1) depth more

  reveal_due : (t : HelperState) (revealed : List ℕ) (r : ℕ) (refused : Bool) → IsDue t revealed → length revealed + 1 < depth → IsDue (step (after_answer t) refused (messages.Reveal r)) (revealed ++ r ∷ [])
  reveal_due t revealed r refused is more = record {
    version = is.version;
    heard = is.heard;
    vectors = is.vectors;
    queries = is.queries;
    standing = next_due t depth vs q revealed r is.heard is.vectors is.standing none more;
  }

  module _ (Last : List ℕ → List ℕ → Type 0) {S : Type 0} (R : Rules S) (tail : List Round) where
    -- what the last reply comes to, behind earlier ones that were honest
    abbrev pub Ends : List ℕ → List ℕ → List (List ℕ) → Type 0
    Ends revealed rs bs = (earlier more : List (List ℕ)) (last : List ℕ) (t : HelperState) (behind : List ℕ) → IsDue t behind → length behind + suc (length more) ≡ depth
        → bs ≡ earlier ++ last ∷ [] → replies_from honest revealed rs ≡ earlier ++ owed t ∷ more
        → (u w : List ℕ) → last ++ u ≡ owed t ++ w → Then Last v t last tail

    length-replies : (revealed rs : List ℕ) → length (replies_from honest revealed rs) ≡ length rs
    length-replies revealed [] = refl
    length-replies revealed (r ∷ rs) = ap suc (length-replies (revealed ++ r ∷ []) rs)

    pub walk_reveals : (t : HelperState) (s : S) (revealed : List ℕ) (r : ℕ) (rs : List ℕ) (b : List ℕ) (bs : List (List ℕ)) → IsDue t revealed → length revealed + suc (length rs) ≡ depth → length bs ≤ length rs
        → All (λ c. IsMessage v (messages.Reveal c)) (r ∷ rs) → AreWhole R (r ∷ rs) s (replies_from honest revealed (r ∷ rs)) → AreWholeSoFar R (r ∷ rs) s (b ∷ bs)
        → Ends revealed (r ∷ rs) (b ∷ bs) → (u w : List ℕ) → b ++ u ≡ owed t ++ w → Then Last v t b (reveals (r ∷ rs) bs ++ tail)
    walk_reveals t s revealed r rs b [] is count few fit own so ends u w agree =
        ends [] (replies_from honest (revealed ++ r ∷ []) rs) b t revealed is (ap (λ n. length revealed + suc n) (length-replies (revealed ++ r ∷ []) rs) ∙ count) refl
        (ap (λ l. l ∷ replies_from honest (revealed ++ r ∷ []) rs) (sym (due_owed t revealed is))) u w agree
    walk_reveals t s revealed r [] b (next ∷ bs) is count few fit own so ends u w agree = absurd (omega (arith, few))
    walk_reveals t s revealed r (c ∷ rs) b (next ∷ bs) is count few fit own so ends u w agree =
        let due_is = due_owed t revealed is in
        let same : b ≡ owed t = same_whole R s b (owed t) so.0 own.0 u w so.1 (ap (read_reply R s) due_is ∙ own.1) agree in
        let state : so.0 ≡ own.0 = same_state R s b (honest revealed) so.0 own.0 so.1 own.1 (same ∙ due_is) in
        let more : length revealed + 1 < depth = omega (arith, count) in
        let comes : Comes v (after_answer t) (messages.Reveal r) = record {
          is = subst (λ x. IsMessage x (messages.Reveal r)) (sym is.version) (All-head (λ x. IsMessage v (messages.Reveal x)) r (c ∷ rs) fit);
          same = ap (λ x. spelling x (messages.Reveal r)) (sym is.version);
          may = reveal_may t revealed r is more;
        } in (
          same,
          walk_then Last v (after_answer t) (record { message = messages.Reveal r; reply = next }) (reveals (c ∷ rs) bs ++ tail) comes
              (λ refused x y again. walk_reveals (step (after_answer t) refused (messages.Reveal r)) (learnt R (r ∷ c ∷ rs) so.0) (revealed ++ r ∷ []) c rs next bs
              (reveal_due t revealed r refused is more) (omega (arith, count, length-append revealed (r ∷ []))) (omega (arith, few)) (All-tail (λ x. IsMessage v (messages.Reveal x)) r (c ∷ rs) fit)
              (subst (λ z. AreWhole R (c ∷ rs) (learnt R (r ∷ c ∷ rs) z) (replies_from honest (revealed ++ r ∷ []) (c ∷ rs))) (sym state) own.2) so.2
              (λ earlier others last z behind at size split front. ends (b ∷ earlier) others last z behind at size (ap (λ l. b ∷ l) split)
              (ap (λ l. honest revealed ∷ l) front ∙ ap (λ l. l ∷ (earlier ++ owed z ∷ others)) (sym (same ∙ due_is))))
              x y again),
        )
