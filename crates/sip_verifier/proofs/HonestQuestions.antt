-- A question that heard honest replies: where it was accepted its answer is the stream's own, and it has no fault.
use Rattle.std.proofs.Common.{◌≡◌, ◌≢◌, ℕ, ◌≤◌, Bool, true, false, ℤ, pos, negsuc, Option, Some, None, List, [], ◌∷◌, ◌++◌, length, All, if◌then◌else◌, inl, inr, refl, sym, ap, ◌∙◌, subst, arith}
use Rattle.std.specs.Prelude.{nat_le, ◌≤ℤ◌}
use Rattle.std.proofs.lemmas.Bool.{cases_Bool, leb-true, leb-false}
use Rattle.std.proofs.lemmas.Int.{ints}
use Rattle.std.proofs.lemmas.List.Elements.{All-head, All-tail}
use Rattle.std.specs.List.{flat_map}
use Rattle.sip_wire.specs.declared.version.Version.{Version}
use Rattle.sip_field.specs.Moduli.{m61_modulus}
use Rattle.sip_vector.specs.declared.query.Query.{Query}
use Rattle.sip_vector.specs.declared.query.Query.TheVariants.{Sub, Range, F2, Inner, Heavy, Share, Above}
use Rattle.sip_vector.specs.declared.update.Side.{Side}
use Rattle.sip_vector.specs.declared.update.Side.TheVariants.{First, Second}
use Rattle.sip_vector.proofs.Sides.{total-is}
use Rattle.sip_vector.specs.declared.update.Update.{Update}
use Rattle.sip_vector.specs.Answers.{Answer, Fits, answer, pairs}
use Rattle.sip_vector.specs.Extensions.{ones}
use Rattle.sip_vector.specs.Streams.{int_sum, vector, IsLegal, IsStrict}
use Rattle.sip_vector.specs.Thresholds.{share_of}
use Rattle.sip_vector.specs.Trees.{root, augroot}
use Rattle.sip_wire.specs.declared.message.Reason.TheVariants as reasons
use Rattle.sip_replies.specs.Protocols.{Protocol}
use Rattle.sip_replies.specs.Replies as general
use Rattle.sip_replies.specs.Replies.{Fault, IsStated, joined}
use Rattle.sip_subvec.specs.AcceptsSub.{Stated}
use Rattle.sip_subvec.specs.Honest.{honest_replies, CanBeShown}
use Rattle.sip_subvec.specs.Protocol.{sub_asked, sub_protocol}
use Rattle.sip_subvec.proofs.HonestLaws.{shown_accepted}
use Rattle.sip_subvec.proofs.HonestStreams.{legal_shown}
use Rattle.sip_sums.specs.AcceptsSum.{product_at}
use Rattle.sip_sums.specs.Honest as sums
use Rattle.sip_sums.specs.Protocol.{SumState, sum_asked, sum_protocol}
use Rattle.sip_sums.specs.Questions.{Lists, lists, lists_of}
use Rattle.sip_heavy.specs.Counting.{heavy_over}
use Rattle.sip_heavy.specs.Honest as heavies
use Rattle.sip_heavy.specs.Protocol.{HeavyState, count_of}
use Rattle.sip_heavy.proofs.HonestStreams.{legal_sent, none_asked}
use Rattle.sip_heavy.proofs.HonestVerdicts.{asked_of, heavy_accepted}
use Rattle.sip_verifier.specs.CompletenessClause.{honest_bytes, HasFewEntries}
use Rattle.sip_wire.specs.Versions.{Speaks, deepest}
use Rattle.sip_verifier.specs.Questions.{Accepts, IsFaulty}
use Rattle.sip_verifier.proofs.Blocks.{IsBlock}
use Rattle.sip_verifier.proofs.HonestReplies as honest
use Rattle.sip_verifier.proofs.ShareAnswers.{share_answer}
use Rattle.sip_verifier.proofs.SumAnswers.{sums_answer}
use Rattle.sip_verifier.proofs.SumLaws.{sums_honest}
use Rattle.sip_verifier.proofs.WideSeats.{share_least}

-- ---- a sub-vector

module _ (version : Version) (depth : ℕ) (stream : List Update) (lo hi : ℕ) (block : List ℕ) (shown : CanBeShown version m61_modulus depth lo hi (vector depth stream First)) (size : length block ≡ depth) where
  abbrev pub sub_protocol_at : Protocol Stated
  sub_protocol_at = sub_protocol (sub_asked version m61_modulus
      (root m61_modulus (vector depth stream First) block) lo hi block)

  -- honest replies are accepted, and state the stream's own answer
  pub sub_honest : IsStated sub_protocol_at block
      (honest_replies version m61_modulus (vector depth stream First) lo hi block)
      (answer depth stream (Sub lo hi))
  sub_honest = shown_accepted version m61_modulus depth lo hi (vector depth stream First) block shown size

-- ---- a sum

module _ (version : Version) (depth : ℕ) (stream : List Update) (query : Query) (l : Lists)
    (is : lists_of depth stream query ≡ Some l) (some : 1 ≤ depth) (legal : IsLegal depth stream)
    (block : List ℕ) (at : IsBlock depth block) where
  abbrev pub sum_protocol_at : Protocol SumState
  sum_protocol_at = sum_protocol (sum_asked version m61_modulus (product_at m61_modulus l.first l.second block))

  abbrev pub sum_replies : List (List ℕ)
  sum_replies = sums.honest_replies version m61_modulus depth l.first l.second block

  -- honest replies are accepted, and state the stream's own answer
  pub sum_honest : IsStated sum_protocol_at block sum_replies (answer depth stream query)
  sum_honest = rw (sums_answer depth stream query l is)
      (sums_honest version depth stream query l block legal some is at.size at.below)

  -- where replies agree with honest ones, they are taken whole
  sum_done : (replies : List (List ℕ)) (written : Answer) (b a : List ℕ)
      → general.IsAccepted sum_protocol_at block replies written
      → flat_map (λ x. x) sum_replies ++ b ≡ joined replies ++ a
      → (b ≡ a) × (written ≡ answer depth stream query)
  sum_done replies written b a accepts agree =
      honest.stated_honest sum_protocol_at block sum_replies (answer depth stream query) sum_honest replies
      b a agree written accepts

  -- and have no fault
  sum_faulty : (replies : List (List ℕ)) (fault : Fault) (b a : List ℕ)
      → general.IsFaulty sum_protocol_at block replies fault → fault.reason ≢ reasons.Closed
      → flat_map (λ x. x) sum_replies ++ b ≡ joined replies ++ a → ⊥
  sum_faulty replies fault b a faulty other agree =
      honest.none_faulty sum_protocol_at block sum_replies (answer depth stream query) sum_honest replies
      b a agree fault faulty other

-- ---- heavy hitters

-- a sum of numbers of which none is negative is not negative
int_sum_above : (numbers : List ℤ) → All (λ a. pos 0 ≤ℤ a) numbers → pos 0 ≤ℤ int_sum numbers
int_sum_above [] above = omega (arith, ints)
int_sum_above (a ∷ numbers) above =
    omega (arith, ints, All-head (λ z. pos 0 ≤ℤ z) a numbers above, int_sum_above numbers (All-tail (λ z. pos 0 ≤ℤ z) a numbers above))

-- by whether the answer is known without a reply
abbrev accepted_where : {S : Type 0} → Protocol S → List ℕ → List (List ℕ) → Answer → Option Answer → Type 0
accepted_where P block replies answer unasked = elim unasked [
  | None ↦ IsStated P block replies answer
  | Some known ↦ (replies ≡ []) × (answer ≡ known)
]

pub accepted_asked : {S : Type 0} (P : Protocol S) (block : List ℕ) (replies : List (List ℕ)) (answer : Answer) → P.unasked ≡ None
    → general.IsAccepted P block replies answer → IsStated P block replies answer
accepted_asked P block replies answer e h = subst (accepted_where P block replies answer) e h

pub accepted_unasked : {S : Type 0} (P : Protocol S) (block : List ℕ) (replies : List (List ℕ)) (answer known : Answer) → P.unasked ≡ Some known
    → general.IsAccepted P block replies answer → (replies ≡ []) × (answer ≡ known)
accepted_unasked P block replies answer known e h = subst (accepted_where P block replies answer) e h

module _ (version : Version) (depth : ℕ) (stream : List Update) (side : Side) (at_least : ℕ) (least : 1 ≤ at_least) (some : 1 ≤ depth)
    (shallow : depth ≤ deepest version) (legal : IsLegal depth stream) (strict : IsStrict depth stream side)
    (block : List ℕ) (size : length block ≡ depth) where
  abbrev pub numbers : List ℤ
  numbers = vector depth stream side

  abbrev pub heavy_at : Protocol HeavyState
  heavy_at = heavy_over version m61_modulus depth at_least numbers block

  abbrev pub shown : List (List ℕ)
  shown = heavies.honest_replies version m61_modulus numbers at_least block

  -- the total of a strict side is a count
  abbrev pub count : ℕ
  count = count_of (int_sum numbers)

  pub is_count : int_sum numbers ≡ pos count
  is_count = by_sum (int_sum numbers) (int_sum_above numbers strict)
    where
      by_sum : (z : ℤ) → pos 0 ≤ℤ z → z ≡ pos (count_of z)
      by_sum (pos n) above = refl
      by_sum (negsuc n) above = absurd (let no = above in omega (arith, ints, no))

  -- the total reaches the threshold: honest replies are accepted, and state the stream's own answer
  module _ (reached : nat_le at_least count ≡ true) where
    pub asked : heavy_at.unasked ≡ None
    asked = ap (λ (b : Bool). if b then None else Some (pairs [])) reached

    pub heavy_honest : IsStated heavy_at block shown (answer depth stream (Heavy side at_least))
    heavy_honest =
        let sent = legal_sent version depth count stream side legal strict some shallow (total-is depth stream side legal.items ∙ is_count) in
        let can = asked_of version m61_modulus depth at_least count numbers sent least (leb-true at_least count reached) in
        accepted_asked heavy_at block shown (answer depth stream (Heavy side at_least)) asked
        (heavy_accepted version m61_modulus depth at_least count numbers can block size)

    honest_is : honest_bytes version depth stream (Heavy side at_least, block) ≡ joined shown
    honest_is = ap (λ (b : Bool). joined (if b then shown else [])) reached

    reached_done : (replies : List (List ℕ)) (written : Answer) (b a : List ℕ) → general.IsAccepted heavy_at block replies written
        → honest_bytes version depth stream (Heavy side at_least, block) ++ b ≡ joined replies ++ a → (b ≡ a) × (written ≡ answer depth stream (Heavy side at_least))
    reached_done replies written b a accepts agree =
        honest.stated_honest heavy_at block shown (answer depth stream (Heavy side at_least)) heavy_honest replies b a
        (ap (λ (l : List ℕ). l ++ b) (sym honest_is) ∙ agree) written (accepted_asked heavy_at block replies written asked accepts)

    reached_faulty : (replies : List (List ℕ)) (fault : Fault) (b a : List ℕ) → general.IsFaulty heavy_at block replies fault → fault.reason ≢ reasons.Closed
        → honest_bytes version depth stream (Heavy side at_least, block) ++ b ≡ joined replies ++ a → ⊥
    reached_faulty replies fault b a faulty other agree =
        honest.none_faulty heavy_at block shown (answer depth stream (Heavy side at_least)) heavy_honest replies b a
        (ap (λ (l : List ℕ). l ++ b) (sym honest_is) ∙ agree) fault faulty other

  -- it does not: nothing is asked, and no entry is heavy
  module _ (below : nat_le at_least count ≡ false) where
    pub unasked : heavy_at.unasked ≡ Some (pairs [])
    unasked = ap (λ (b : Bool). if b then None else Some (pairs [])) below

    pub none_is : answer depth stream (Heavy side at_least) ≡ pairs []
    none_is = (accepted_unasked heavy_at block [] (answer depth stream (Heavy side at_least)) (pairs []) unasked
        (none_asked version m61_modulus (augroot m61_modulus numbers block).hash depth at_least count numbers block strict is_count (leb-false at_least count below))).1

    below_done : (replies : List (List ℕ)) (written : Answer) (b a : List ℕ) → general.IsAccepted heavy_at block replies written
        → honest_bytes version depth stream (Heavy side at_least, block) ++ b ≡ joined replies ++ a → (b ≡ a) × (written ≡ answer depth stream (Heavy side at_least))
    below_done replies written b a accepts agree =
        let known = accepted_unasked heavy_at block replies written (pairs []) unasked accepts in
        let nothing : honest_bytes version depth stream (Heavy side at_least, block) ≡ [] = ap (λ (x : Bool). joined (if x then shown else [])) below in
        (ap (λ (l : List ℕ). l ++ b) (sym nothing) ∙ agree ∙ ap (λ (l : List (List ℕ)). joined l ++ a) known.0, known.1 ∙ sym none_is)

    below_faulty : (replies : List (List ℕ)) (fault : Fault) → general.IsFaulty heavy_at block replies fault → ⊥
    below_faulty replies fault faulty = let no = sym unasked ∙ faulty.asked in cc

  heavy_done : (replies : List (List ℕ)) (written : Answer) (b a : List ℕ) → general.IsAccepted heavy_at block replies written
      → honest_bytes version depth stream (Heavy side at_least, block) ++ b ≡ joined replies ++ a → (b ≡ a) × (written ≡ answer depth stream (Heavy side at_least))
  heavy_done replies written b a accepts agree = elim (cases_Bool (nat_le at_least count)) [
    | inl reached ↦ reached_done reached replies written b a accepts agree
    | inr below ↦ below_done below replies written b a accepts agree
  ]

  heavy_faulty : (replies : List (List ℕ)) (fault : Fault) (b a : List ℕ) → general.IsFaulty heavy_at block replies fault → fault.reason ≢ reasons.Closed
      → honest_bytes version depth stream (Heavy side at_least, block) ++ b ≡ joined replies ++ a → ⊥
  heavy_faulty replies fault b a faulty other agree = elim (cases_Bool (nat_le at_least count)) [
    | inl reached ↦ reached_faulty reached replies fault b a faulty other agree
    | inr below ↦ below_faulty below replies fault faulty
  ]

-- ---- questions

module _ (version : Version) (depth : ℕ) (stream : List Update) (some : 1 ≤ depth) (legal : IsLegal depth stream) where
  -- an accepted question that heard honest replies took them whole, and its answer is the stream's
  pub question_done : (query : Query) (block : List ℕ) (replies : List (List ℕ)) (written : Answer) (b a : List ℕ) → Fits depth query → Speaks version depth query → HasFewEntries version depth stream query → IsBlock depth block
      → Accepts version depth stream (record { query = query; block = block; replies = replies }) written → honest_bytes version depth stream (query, block) ++ b ≡ joined replies ++ a → (b ≡ a) × (written ≡ answer depth stream query)
  question_done (Sub lo hi) block replies written b a fits speaks few at accepts agree =
      let shown = legal_shown version depth lo hi stream legal some speaks fits.0 fits.1 few in
      honest.stated_honest (sub_protocol_at version depth stream lo hi block shown at.size) block
      (honest_replies version m61_modulus (vector depth stream First) lo hi block)
      (answer depth stream (Sub lo hi)) (sub_honest version depth stream lo hi block shown at.size) replies
      b a agree written accepts
  question_done (Range side lo hi) block replies written b a fits speaks few at accepts agree =
      sum_done version depth stream (Range side lo hi) (lists (vector depth stream side) (ones depth lo hi)) refl some legal block at
      replies written b a accepts agree
  question_done (F2 side) block replies written b a fits speaks few at accepts agree =
      sum_done version depth stream (F2 side) (lists (vector depth stream side) (vector depth stream side)) refl some legal block at
      replies written b a accepts agree
  question_done Inner block replies written b a fits speaks few at accepts agree =
      sum_done version depth stream Inner (lists (vector depth stream First) (vector depth stream Second)) refl some legal block at
      replies written b a accepts agree
  question_done (Heavy side at_least) block replies written b a fits speaks few at accepts agree =
      heavy_done version depth stream side at_least fits.0 some speaks.shallow legal few.0 block at.size replies written b a accepts agree
  question_done (Above side least) block replies written b a fits speaks few at accepts agree = absurd accepts
  question_done (Share side num den) block replies written b a fits speaks few at accepts agree =
      let at_least : ℕ = share_of num den (int_sum (vector depth stream side)) in
      let least : 1 ≤ at_least = share_least num den (int_sum (vector depth stream side)) fits.0 fits.1 in
      let done : (b ≡ a) × (written ≡ answer depth stream (Heavy side at_least)) =
      heavy_done version depth stream side at_least least some speaks.shallow legal few.0 block at.size replies written b a accepts agree in
      (done.0, done.1 ∙ sym (share_answer depth stream side num den (omega (arith, fits.0, fits.1)) legal few.0))

  -- a question that heard honest replies has no fault, but that of the end of the link
  pub question_faulty : (query : Query) (block : List ℕ) (replies : List (List ℕ)) (fault : Fault) (b a : List ℕ) → Fits depth query → Speaks version depth query → HasFewEntries version depth stream query → IsBlock depth block
      → IsFaulty version depth stream (record { query = query; block = block; replies = replies }) fault → fault.reason ≢ reasons.Closed → honest_bytes version depth stream (query, block) ++ b ≡ joined replies ++ a → ⊥
  question_faulty (Sub lo hi) block replies fault b a fits speaks few at faulty other agree =
      let shown = legal_shown version depth lo hi stream legal some speaks fits.0 fits.1 few in
      honest.none_faulty (sub_protocol_at version depth stream lo hi block shown at.size) block
      (honest_replies version m61_modulus (vector depth stream First) lo hi block)
      (answer depth stream (Sub lo hi)) (sub_honest version depth stream lo hi block shown at.size) replies
      b a agree fault faulty other
  question_faulty (Range side lo hi) block replies fault b a fits speaks few at faulty other agree =
      sum_faulty version depth stream (Range side lo hi) (lists (vector depth stream side) (ones depth lo hi)) refl some legal block at
      replies fault b a faulty other agree
  question_faulty (F2 side) block replies fault b a fits speaks few at faulty other agree =
      sum_faulty version depth stream (F2 side) (lists (vector depth stream side) (vector depth stream side)) refl some legal block at
      replies fault b a faulty other agree
  question_faulty Inner block replies fault b a fits speaks few at faulty other agree =
      sum_faulty version depth stream Inner (lists (vector depth stream First) (vector depth stream Second)) refl some legal block at
      replies fault b a faulty other agree
  question_faulty (Heavy side at_least) block replies fault b a fits speaks few at faulty other agree =
      heavy_faulty version depth stream side at_least fits.0 some speaks.shallow legal few.0 block at.size replies fault b a faulty other agree
  question_faulty (Above side least) block replies fault b a fits speaks few at faulty other agree = absurd faulty
  question_faulty (Share side num den) block replies fault b a fits speaks few at faulty other agree =
      let at_least : ℕ = share_of num den (int_sum (vector depth stream side)) in
      let least : 1 ≤ at_least = share_least num den (int_sum (vector depth stream side)) fits.0 fits.1 in
      heavy_faulty version depth stream side at_least least some speaks.shallow legal few.0 block at.size replies fault b a faulty other agree
