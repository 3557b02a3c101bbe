-- All honest replies to a question for a moment: what they state, and that it is accepted.
use Rattle.std.proofs.Common.{◌≡◌, ℕ, ◌+◌, ◌-◌, ◌%◌, ◌^◌, ◌<◌, ◌≤◌, Result, Ok, List, [], ◌∷◌, ◌++◌, length, take, append-nil, All, ℤ, nat_abs, refl, sym, ap, ◌∙◌, subst, arith}
use Rattle.std.specs.List.{range_with_len}
use Rattle.std.proofs.Math.Nat.{mod-lt}
use Rattle.std.proofs.lemmas.Bool.{eq-eqb}
use Rattle.std.proofs.lemmas.List.{append_assoc, length-append}
use Rattle.std.proofs.lemmas.List.Concat.{flat_map-cons}
use Rattle.std.proofs.lemmas.List.Elements.{All-nil, All-map}
use Rattle.std.proofs.lemmas.List.FromFn.{length-map-range_with_len}
use Rattle.sip_field.specs.Moduli.{m61_modulus}
use Rattle.sip_field.specs.Residue.{residue}
use Rattle.sip_vector.specs.Answers.{number}
use Rattle.sip_wire.specs.declared.message.Message.TheVariants as messages
use Rattle.sip_wire.specs.declared.version.Version.{Version}
use Rattle.sip_wire.specs.Spelling.{spelling}
use Rattle.sip_wire.specs.Table.{most_claim, most_degree}
use Rattle.sip_counts.specs.Rounds.{sum_of_ends, value_at}
use Rattle.sip_counts.proofs.Walks.{walk, fronts_walk}
use Rattle.sip_replies.specs.Protocols.{Rules}
use Rattle.sip_replies.specs.Replies.{Fault, IsAccepted, read_reply, run, run_from, verdict}
use Rattle.sip_replies.proofs.Passing.{run_is, run_none}
use Rattle.sip_sums.specs.Honest.{over_cube}
use Rattle.sip_sums.proofs.HonestSums.{all_front}
use Rattle.sip_moments.specs.AcceptsMoment.{power_at}
use Rattle.sip_moments.specs.Honest.{begun, honest_messages, honest_replies, honest_reply, its_polynomial, of_first, round_polynomial}
use Rattle.sip_moments.specs.Moments.{moment}
use Rattle.sip_moments.specs.Protocol.{MomentState, moment_asked, moment_protocol, moment_rules}
use Rattle.sip_moments.specs.Stating.{IsPolynomial, power_message}
use Rattle.sip_moments.proofs.MomentCube.{polynomial-is, proving_level}
use Rattle.sip_moments.proofs.ReadMoments.{known}
use Rattle.sip_moments.proofs.Residues.{residue_of_moment}
use Rattle.sip_moments.proofs.StatedMoments.{first_read, power_read}
use Rattle.sip_moments.proofs.TrueRounds.{are_rounds, last_sum, rounds, sums}

abbrev Residues : List ℕ → Type 0
Residues = All (λ x. x < m61_modulus)

-- a moment can be shown: a frame has room for its polynomials, and a claim for the moment
pub record CanBeShown (k depth : ℕ) (numbers : List ℤ) : Type 0 where
  pub low : k ≤ most_degree
  pub levels : 1 ≤ depth
  pub size : length numbers ≡ 2 ^ depth
  pub small : nat_abs (moment k numbers) ≤ most_claim

module _ (version : Version) (k depth : ℕ) (numbers : List ℤ) (can : CanBeShown k depth numbers) where
  abbrev p : ℕ
  p = m61_modulus

  abbrev R : Rules MomentState
  R = moment_rules version p k

  abbrev z : ℤ
  z = moment k numbers

  abbrev reply : List ℕ → List ℕ
  reply = honest_reply version p k depth numbers

  abbrev replies : List ℕ → List (List ℕ)
  replies = honest_replies version p k depth numbers

  -- what is expected once these challenges are revealed, and the polynomial that is sent then
  abbrev Due : List ℕ → ℕ
  Due f = sums p k numbers f

  abbrev Sent : List ℕ → List ℕ
  Sent f = round_polynomial p k numbers f (depth - length f - 1)

  above : 1 < p
  above = omega arith

  -- ---- the polynomials

  sent_elements : (f : List ℕ) → IsPolynomial k (Sent f)
  sent_elements f =
      let n : ℕ = depth - length f - 1 in
      let c : ℕ → ℕ = λ m. over_cube p (of_first p k m) numbers numbers f n % p in
      record {
        long = length-map-range_with_len c 0 (k + 1);
        elements = All-map (λ x. x < p) c (range_with_len 0 (k + 1))
            (λ i m at. mod-lt _ (omega arith));
      }

  -- it is that of the folded list
  sent_is : (f : List ℕ) → length f < depth → Residues f → rounds p k numbers f ≡ Sent f
  sent_is f short rs =
      let n : ℕ = depth - length f - 1 in
      let size : length numbers ≡ 2 ^ (length f + n + 1) =
      can.size ∙ ap (λ j. 2 ^ j) (let e : depth ≡ length f + n + 1 = omega (arith, short) in e) in
      sym (ap (its_polynomial p) (proving_level p (begun p k numbers) f))
      ∙ polynomial-is p k numbers f n above rs size

  adds_up_to_due : (f : List ℕ) → length f < depth → Residues f → sum_of_ends p (Sent f) ≡ Due f
  adds_up_to_due f short rs =
      ap (sum_of_ends p) (sym (sent_is f short rs))
      ∙ (are_rounds p k depth numbers above can.size).ends f short

  value_is_due : (f : List ℕ) → length f < depth → Residues f → (r : ℕ)
      → value_at p (Sent f) r ≡ Due (f ++ r ∷ [])
  value_is_due f short rs r =
      ap (λ c. value_at p c r) (sym (sent_is f short rs))
      ∙ (are_rounds p k depth numbers above can.size).values f r short

  first_due : Due [] ≡ residue p z
  first_due = sym (residue_of_moment p k numbers (omega arith))

  -- ---- one reply

  -- reply 0
  zero_read : read_reply R R.start (reply []) ≡ Ok (known z (residue p z) (Sent []))
  unfolding honest_messages
  zero_read =
      let power = power_message (Sent []) in
      let test = eq-eqb (sum_of_ends p (Sent [])) (residue p z)
      (adds_up_to_due [] (omega (arith, can.levels)) (All-nil (λ x. x < p)) ∙ first_due) in
      ap (read_reply R R.start) (flat_map-cons (spelling version) (messages.Claim z) (power ∷ [])
      ∙ ap (λ l. spelling version (messages.Claim z) ++ l)
      (flat_map-cons (spelling version) power [] ∙ append-nil (spelling version power)))
      ∙ first_read version p k 0 can.low z (Sent []) can.small (sent_elements [])
      ∙ rw test refl

  -- a later reply
  later_read : (c : ℕ) (front last : List ℕ) → length (c ∷ front) < depth → Residues (c ∷ front)
      → read_reply R (known z (Due (c ∷ front)) last) (reply (c ∷ front))
      ≡ Ok (known z (Due (c ∷ front)) (Sent (c ∷ front)))
  unfolding honest_messages
  later_read c front last short rs =
      let f : List ℕ = c ∷ front in
      let power = power_message (Sent f) in
      let test = eq-eqb (sum_of_ends p (Sent f)) (Due f) (adds_up_to_due f short rs) in
      ap (read_reply R (known z (Due f) last))
      (flat_map-cons (spelling version) power [] ∙ append-nil (spelling version power))
      ∙ power_read version p k 0 can.low z (Due f) last (Sent f) (sent_elements f)
      ∙ rw test refl

  -- ---- all replies

  -- The claim is known, and what is due is expected.
  record Reaches (q : Result MomentState Fault) (f : List ℕ) : Type 0 where
    last : List ℕ
    is : q ≡ Ok (known z (Due f) last)

  goes_on : (q r : Result MomentState Fault) (f g : List ℕ) → q ≡ r → f ≡ g → Reaches r f
      → Reaches q g
  goes_on q r f g e h rest =
      record { last = rest.last; is = e ∙ rest.is ∙ ap (λ c. Ok (known z (Due c) rest.last)) h }

  later_run : (challenges front : List ℕ) (c j : ℕ) (last : List ℕ)
      → length ((c ∷ front) ++ challenges) ≤ depth → Residues ((c ∷ front) ++ challenges)
      → Reaches (run_from R j challenges (known z (Due (c ∷ front)) last)
      (walk reply (c ∷ front) challenges)) ((c ∷ front) ++ challenges)
  unfolding walk
  later_run [] front c j last short rs =
      goes_on _ _ (c ∷ front) ((c ∷ front) ++ []) (run_none R j [] (known z (Due (c ∷ front)) last))
      (sym (append-nil (c ∷ front))) (record { last = last; is = refl })
  later_run (r ∷ challenges) front c j last short rs =
      let f : List ℕ = c ∷ front in
      let longer = length-append f (r ∷ challenges) in
      let less : length f < depth = omega arith in
      let its : Residues f = all_front (λ x. x < p) f (r ∷ challenges) rs in
      let same : (f ++ r ∷ []) ++ challenges ≡ f ++ r ∷ challenges =
      append_assoc f (r ∷ []) challenges in
      let rest = later_run challenges (front ++ r ∷ []) c (j + 1) (Sent f)
      (omega (arith, ap length same)) (subst Residues (sym same) rs) in
      goes_on _ _ ((f ++ r ∷ []) ++ challenges) (f ++ r ∷ challenges)
      (run_is R j (r ∷ challenges) (known z (Due f) last) (reply f)
      (walk reply (f ++ r ∷ []) challenges) (known z (Due f) (Sent f))
      (later_read c front last less its)
      ∙ ap (λ n. run_from R (j + 1) challenges (known z n (Sent f))
      (walk reply (f ++ r ∷ []) challenges)) (value_is_due f less its r))
      same rest

  all_run : (r : ℕ) (challenges : List ℕ) → length (r ∷ challenges) ≤ depth
      → Residues (r ∷ challenges)
      → Reaches (run R (r ∷ challenges) (replies (r ∷ challenges))) (r ∷ challenges)
  unfolding walk
  all_run r challenges short rs =
      let rest = later_run challenges [] r 1 (Sent []) short rs in
      goes_on _ _ (r ∷ challenges) (r ∷ challenges)
      (ap (run R (r ∷ challenges)) (fronts_walk reply [] (r ∷ challenges))
      ∙ run_is R 0 (r ∷ challenges) R.start (reply []) (walk reply (r ∷ []) challenges)
      (known z (residue p z) (Sent [])) zero_read
      ∙ ap (λ n. run_from R 1 challenges (known z n (Sent []))
      (walk reply (r ∷ []) challenges))
      (value_is_due [] (omega (arith, can.levels)) (All-nil (λ x. x < p)) r))
      refl rest

  -- ---- they are accepted

  verdict_by : (power expected : ℕ) (challenges : List ℕ) (all : List (List ℕ)) (last : List ℕ)
      → run R challenges all ≡ Ok (known z expected last) → expected ≡ power
      → verdict (moment_protocol (moment_asked version p k power)) challenges all ≡ Ok (number z)
  verdict_by power expected challenges all last is e =
      let test = eq-eqb expected power e in rw (is, test) refl

  -- against the power of the extension, with the moment
  pub shown_accepted : (challenges : List ℕ) → length challenges ≡ depth → Residues challenges
      → IsAccepted (moment_protocol (moment_asked version p k (power_at p k numbers challenges)))
      challenges (replies challenges) (number z)
  shown_accepted [] all rs = absurd (omega (arith, can.levels))
  shown_accepted (r ∷ challenges) all rs =
      let cs : List ℕ = r ∷ challenges in
      let a = all_run r challenges (omega arith) rs in
      record {
        all = length-map-range_with_len (λ j. reply (take j cs)) 0 (length cs);
        found = verdict_by (power_at p k numbers cs) (Due cs) cs (replies cs) a.last a.is
            (last_sum p k numbers cs (omega arith) rs
            (can.size ∙ ap (λ n. 2 ^ n) (sym all)));
      }
