-- All honest replies: what they state, and that it is accepted.
use Rattle.std.proofs.Common.{◌≡◌, ℕ, ◌+◌, ◌<◌, ◌≤◌, Result, Ok, List, [], ◌∷◌, ◌++◌, length, take, append-nil, All, ℤ, refl, sym, ap, ◌∙◌, subst, arith}
use Rattle.std.specs.Prelude.{IsTrue}
use Rattle.std.proofs.lemmas.Bool.{eq-eqb}
use Rattle.std.proofs.lemmas.List.{append_assoc, length-append, take_at}
use Rattle.std.proofs.lemmas.List.Concat.{flat_map-cons}
use Rattle.std.proofs.lemmas.List.Elements.{All-nil, All-cons, All-append, All-take}
use Rattle.std.proofs.lemmas.List.FromFn.{length-map-range_with_len}
use Rattle.sip_field.specs.Residue.{residue}
use Rattle.sip_vector.specs.Answers.{number}
use Rattle.sip_wire.specs.declared.message.Message.{Message}
use Rattle.sip_wire.specs.declared.message.Message.TheVariants as messages
use Rattle.sip_wire.specs.declared.version.Version.{Version}
use Rattle.sip_wire.specs.Spelling.{fits, spelling}
use Rattle.sip_replies.specs.Protocols.{Rules}
use Rattle.sip_wire.proofs.Longest.{claim_fits}
use Rattle.sip_wire.proofs.SmallNumbers.{in_range}
use Rattle.sip_counts.proofs.Walks.{walk, fronts_walk, walk_snoc}
use Rattle.sip_replies.proofs.Passing.{run_is, run_none}
use Rattle.sip_replies.specs.Replies.{Fault, read_reply, run_from, run, verdict, IsAccepted, IsUnfinished}
use Rattle.sip_sums.specs.AcceptsSum.{Coefficients, product_at, total}
use Rattle.sip_sums.specs.Checking.{zero_polynomial}
use Rattle.sip_sums.specs.Honest.{opening, poly_message, honest_messages, honest_reply, honest_replies, CanBeSummed}
use Rattle.sip_sums.specs.Protocol.{SumState, sum_asked, sum_protocol, sum_rules}
use Rattle.sip_sums.proofs.HonestRounds.{due, sent, sent_elements, adds_up_to_due, value_is_due, first_due, last_due}
use Rattle.sip_sums.proofs.ReadSums.{known}
use Rattle.sip_sums.proofs.ReadFrames.{poly_fits}
use Rattle.sip_sums.proofs.SumFrames.{poly_read, claim_read}

abbrev Residues : ℕ → List ℕ → Type 0
Residues p = All (λ x. x < p)

-- the front of a list has what the list has
pub all_front : {X : Type 0} (P : X → Type 0) (front rest : List X) → All P (front ++ rest) → All P front
all_front P front rest h = subst (All P) (take_at front rest (length front) refl) (All-take P (length front) (front ++ rest) h)

-- ---- what they state

module _ (version : Version) (p depth : ℕ) (first second : List ℤ) (can : CanBeSummed p depth first second) where
  abbrev R : Rules SumState
  R = sum_rules version p

  abbrev sum : ℤ
  sum = total first second

  abbrev reply : List ℕ → List ℕ
  reply = honest_reply version p depth first second

  abbrev replies : List ℕ → List (List ℕ)
  replies = honest_replies version p depth first second

  abbrev Due : List ℕ → ℕ
  Due = due p depth first second can

  abbrev Sent : List ℕ → Coefficients
  Sent = sent p depth first second can

  -- each message has a spelling
  pub messages_fit : (revealed : List ℕ) → All (λ m. IsTrue (fits version m)) (honest_messages p depth first second revealed)
  unfolding honest_messages
  messages_fit revealed =
      let P : Message → Type 0 = λ m. IsTrue (fits version m) in
      let last : Message = poly_message (Sent revealed) in
      All-append P (opening first second revealed) (last ∷ []) (before revealed)
      (All-cons P last [] (poly_fits version (Sent revealed) (sent_elements p depth first second can revealed)) (All-nil P))
    where
      before : (front : List ℕ) → All (λ m. IsTrue (fits version m)) (opening first second front)
      before [] = All-cons (λ m. IsTrue (fits version m)) (messages.Claim sum) [] (claim_fits version sum (in_range sum can.small) can.small) (All-nil (λ m. IsTrue (fits version m)))
      before (r ∷ front) = All-nil (λ m. IsTrue (fits version m))

  -- reply 0
  first_read : read_reply R R.start (reply []) ≡ Ok (known sum (residue p sum) (Sent []))
  unfolding honest_messages
  first_read =
      let poly = poly_message (Sent []) in
      let adds = adds_up_to_due p depth first second can [] (omega (arith, can.levels)) (All-nil (λ x. x < p)) in
      ap (read_reply R R.start) (flat_map-cons (spelling version) (messages.Claim sum) (poly ∷ [])
      ∙ ap (λ l. spelling version (messages.Claim sum) ++ l) (flat_map-cons (spelling version) poly []))
      ∙ claim_read version p sum (spelling version poly ++ []) can.small
      ∙ poly_read version p sum (residue p sum) zero_polynomial (Sent []) (sent_elements p depth first second can []) (adds ∙ first_due p depth first second can)

  -- a later reply
  later_read : (c : ℕ) (front : List ℕ) (last : Coefficients) → length (c ∷ front) < depth → Residues p (c ∷ front)
      → read_reply R (known sum (Due (c ∷ front)) last) (reply (c ∷ front)) ≡ Ok (known sum (Due (c ∷ front)) (Sent (c ∷ front)))
  unfolding honest_messages
  later_read c front last short rs =
      let f : List ℕ = c ∷ front in
      ap (read_reply R (known sum (Due f) last)) (flat_map-cons (spelling version) (poly_message (Sent f)) [])
      ∙ poly_read version p sum (Due f) last (Sent f) (sent_elements p depth first second can f) (adds_up_to_due p depth first second can f short rs)

  -- The claim is known, and what is due is expected.
  pub record Reaches (q : Result SumState Fault) (f : List ℕ) : Type 0 where
    pub last : Coefficients
    pub is : q ≡ Ok (known sum (Due f) last)

  goes_on : (q r : Result SumState Fault) (f g : List ℕ) → q ≡ r → f ≡ g → Reaches r f → Reaches q g
  goes_on q r f g e h rest = record { last = rest.last; is = e ∙ rest.is ∙ ap (λ k. Ok (known sum (Due k) rest.last)) h }

  later_run : (challenges front : List ℕ) (c j : ℕ) (more : List ℕ) (last : Coefficients) → length ((c ∷ front) ++ challenges) ≤ depth → Residues p ((c ∷ front) ++ challenges)
      → Reaches (run_from R j (challenges ++ more) (known sum (Due (c ∷ front)) last) (walk reply (c ∷ front) challenges)) ((c ∷ front) ++ challenges)
  unfolding walk
  later_run [] front c j more last short rs =
      goes_on _ _ (c ∷ front) ((c ∷ front) ++ []) (run_none R j more (known sum (Due (c ∷ front)) last)) (sym (append-nil (c ∷ front))) (record { last = last; is = refl })
  later_run (r ∷ challenges) front c j more last short rs =
      let f : List ℕ = c ∷ front in
      let longer = length-append f (r ∷ challenges) in
      let less : length f < depth = omega arith in
      let its : Residues p f = all_front (λ x. x < p) f (r ∷ challenges) rs in
      let same : (f ++ r ∷ []) ++ challenges ≡ f ++ r ∷ challenges = append_assoc f (r ∷ []) challenges in
      let rest = later_run challenges (front ++ r ∷ []) c (j + 1) more (Sent f) (omega (arith, ap length same)) (subst (Residues p) (sym same) rs) in
      goes_on _ _ ((f ++ r ∷ []) ++ challenges) (f ++ r ∷ challenges)
      (run_is R j (r ∷ (challenges ++ more)) (known sum (Due f) last) (reply f) (walk reply (f ++ r ∷ []) challenges) (known sum (Due f) (Sent f)) (later_read c front last less its)
      ∙ ap (λ k. run_from R (j + 1) (challenges ++ more) (known sum k (Sent f)) (walk reply (f ++ r ∷ []) challenges)) (value_is_due p depth first second can f less its r))
      same rest

  -- all replies so far, from reply 0 on
  pub all_run : (r : ℕ) (challenges more : List ℕ) → length (r ∷ challenges) ≤ depth → Residues p (r ∷ challenges) → Reaches (run R ((r ∷ challenges) ++ more) (replies (r ∷ challenges))) (r ∷ challenges)
  unfolding walk
  all_run r challenges more short rs =
      let rest = later_run challenges [] r 1 more (Sent []) short rs in
      goes_on _ _ (r ∷ challenges) (r ∷ challenges)
      (ap (run R ((r ∷ challenges) ++ more)) (fronts_walk reply [] (r ∷ challenges))
      ∙ run_is R 0 ((r ∷ challenges) ++ more) R.start (reply []) (walk reply (r ∷ []) challenges) (known sum (residue p sum) (Sent [])) first_read
      ∙ ap (λ k. run_from R 1 (challenges ++ more) (known sum k (Sent [])) (walk reply (r ∷ []) challenges)) (value_is_due p depth first second can [] (omega (arith, can.levels)) (All-nil (λ x. x < p)) r))
      refl rest

  -- what they state so far
  pub stated : (revealed more : List ℕ) → length revealed ≤ depth → Residues p revealed → (s : SumState) × (run R (revealed ++ more) (replies revealed) ≡ Ok s)
  stated [] more short rs = (R.start, run_none R 0 more R.start)
  stated (r ∷ revealed) more short rs = let a = all_run r revealed more short rs in (known sum (Due (r ∷ revealed)) a.last, a.is)

  -- there is one for each challenge, and one challenge more gives one reply more
  pub replies_count : (challenges : List ℕ) → length (replies challenges) ≡ length challenges
  replies_count challenges = length-map-range_with_len (λ j. reply (take j challenges)) 0 (length challenges)

  pub replies_more : (revealed : List ℕ) (r : ℕ) → replies (revealed ++ r ∷ []) ≡ replies revealed ++ reply revealed ∷ []
  replies_more revealed r =
      fronts_walk reply [] (revealed ++ r ∷ []) ∙ walk_snoc reply [] revealed r ∙ ap (λ xs. xs ++ reply revealed ∷ []) (sym (fronts_walk reply [] revealed))

  -- ---- they are accepted

  verdict_by : (product expected : ℕ) (challenges : List ℕ) (all : List (List ℕ)) (last : Coefficients) → run R challenges all ≡ Ok (known sum expected last) → expected ≡ product
      → verdict (sum_protocol (sum_asked version p product)) challenges all ≡ Ok (number sum)
  verdict_by product expected challenges all last is e = let test = eq-eqb expected product e in rw (is, test) refl

  -- against the product of the extensions, with the sum
  pub summed_accepted : (challenges : List ℕ) → length challenges ≡ depth → Residues p challenges
      → IsAccepted (sum_protocol (sum_asked version p (product_at p first second challenges))) challenges (replies challenges) (number sum)
  summed_accepted [] all rs = absurd (omega (arith, can.levels))
  summed_accepted (r ∷ challenges) all rs =
      let cs : List ℕ = r ∷ challenges in
      let a = all_run r challenges [] (omega arith) rs in
      record {
        all = replies_count cs;
        found = verdict_by (product_at p first second cs) (Due cs) cs (replies cs) a.last (ap (λ l. run R l (replies cs)) (sym (append-nil cs)) ∙ a.is) (last_due p depth first second can cs all rs);
      }

  -- ---- they have no fault

  -- where the last one is whole
  pub summed_unfinished : (revealed more : List ℕ) → length (revealed ++ more) ≤ depth → Residues p (revealed ++ more) → IsUnfinished R (revealed ++ more) (replies revealed)
  summed_unfinished revealed more short rs = record {
    few = omega (arith, replies_count revealed, length-append revealed more);
    passes = λ fault e. absurd
        (let is = stated revealed more (omega (arith, length-append revealed more)) (all_front (λ x. x < p) revealed more rs) in
        let both = sym is.1 ∙ e in cc);
  }
