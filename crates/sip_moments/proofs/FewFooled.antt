-- A strategy has wrong replies accepted at few vectors of challenges.
use Rattle.std.proofs.Common.{◌≡◌, ◌≢◌, ℕ, zero, suc, ◌*◌, ◌-◌, ◌/◌, ◌≤◌, ◌^◌, Bool, true, not, Option, Some, None, List, [], ◌∷◌, length, ℤ, nat_abs, refl, ap, sym, ◌∙◌, arith, inl, inr}
use Rattle.std.specs.Ordering.{int_eq}
use Rattle.std.specs.Cmp.{signed_Decides}
use Rattle.std.proofs.lemmas.Bool.{cases_Bool, and_parts, and_from, not-true, both_ways}
use Rattle.sip_field.specs.Moduli.{m61_modulus}
use Rattle.sip_field.specs.Prime.{IsPrime}
use Rattle.sip_field.specs.LawProofs.Primes.{m61_prime}
use Rattle.sip_field.specs.Residue.{residue}
use Rattle.sip_wire.specs.Table.{most_claim}
use Rattle.sip_wire.specs.declared.version.Version.{Version}
use Rattle.sip_counts.specs.Counts.{counted}
use Rattle.sip_counts.specs.Rounds.{adds_up}
use Rattle.sip_counts.specs.Strategies.{Strategy, IsOfBytes, replies, all_there, is_wrong, takes_wrong}
use Rattle.sip_counts.proofs.EachVector.{counted-empty, counted-longer, counted-longer_grows}
use Rattle.sip_counts.proofs.Talks.{all_there-nil}
use Rattle.sip_replies.specs.Replies.{Fault, run}
use Rattle.sip_replies.proofs.Passing.{run_none, same_ok}
use Rattle.sip_sums.specs.AcceptsSum.{is_small_claim}
use Rattle.sip_sums.specs.Counting.{is_said}
use Rattle.sip_sums.proofs.FewFooled.{says_decides, strategy_small}
use Rattle.sip_sums.proofs.SaidSums.{claim_said}
use Rattle.sip_moments.specs.AcceptsMoment.{power_at, accepts_stated}
use Rattle.sip_moments.specs.Counting.{said, is_right, accepts_moment, accepts_small}
use Rattle.sip_moments.specs.Moments.{moment}
use Rattle.sip_moments.specs.Protocol.{MomentState, moment_rules}
use Rattle.sip_moments.proofs.SaidMoments.{polynomials_said, said_stated, accepted_parts}
use Rattle.sip_moments.proofs.WrongMoments.{few_wrong_moments}

-- ---- where wrong replies are taken

record Taken (version : Version) (p k : ℕ) (numbers : List ℤ) (strategy : Strategy) (r : List ℕ) : Type 0 where
  all : List (List ℕ)
  there : all_there (replies strategy r) ≡ Some all
  good : accepts_moment version p k numbers r all ≡ true
  wrong : said version p k all ≢ Some (moment k numbers)

taken_at : (version : Version) (p k : ℕ) (numbers : List ℤ) (strategy : Strategy) (test : List ℕ → List (List ℕ) → Bool) (r : List ℕ) → ((all : List (List ℕ)) → test r all ≡ true → accepts_moment version p k numbers r all ≡ true)
    → takes_wrong test (is_right version p k (moment k numbers)) strategy r ≡ true → (t : Taken version p k numbers strategy r) × (test r t.all ≡ true)
unfolding takes_wrong
taken_at version p k numbers strategy test r good h = by_all (all_there (replies strategy r)) refl h
  where
    by_all : (o : Option (List (List ℕ))) → all_there (replies strategy r) ≡ o → is_wrong (test r) (is_right version p k (moment k numbers)) o ≡ true → (t : Taken version p k numbers strategy r) × (test r t.all ≡ true)
    by_all None is b = absurd (cc)
    by_all (Some all) is b =
        let right : Bool = is_right version p k (moment k numbers) all in
        let both = and_parts (test r all) (not right) b in (
          record {
            all = all;
            there = is;
            good = good all both.0;
            wrong = λ same. both_ways right (not-true right both.1) ((says_decides (moment k numbers) (said version p k all)).1 same);
          },
          both.0,
        )

-- ---- the count

-- the test accepts no more than is accepted, and a claim that it accepts is small
abbrev Accepts : Version → ℕ → ℕ → List ℤ → Strategy → (List ℕ → List (List ℕ) → Bool) → Type 0
Accepts version p k numbers strategy test =
    (r : List ℕ) (all : List (List ℕ)) → test r all ≡ true → accepts_moment version p k numbers r all ≡ true

abbrev IsSmall : Version → ℕ → ℕ → Strategy → (List ℕ → List (List ℕ) → Bool) → Type 0
IsSmall version p k strategy test =
    (r : List ℕ) (all : List (List ℕ)) → all_there (replies strategy r) ≡ Some all → test r all ≡ true → said version p k all ≡ Some (claim_said version strategy) → is_small_claim p (claim_said version strategy) ≡ true

module _ (version : Version) (p k : ℕ) (numbers : List ℤ) (prime : IsPrime p) (strategy : Strategy) (test : List ℕ → List (List ℕ) → Bool) (good : Accepts version p k numbers strategy test) (small : IsSmall version p k strategy test) where
  abbrev wrongly : List ℕ → Bool
  wrongly = takes_wrong test (is_right version p k (moment k numbers)) strategy

  abbrev stated : List ℕ → Bool
  stated r = accepts_stated p k numbers r (record { claim = claim_said version strategy; polynomials = replies (polynomials_said version k strategy) r })

  -- no replies state no claim
  none_accepted : wrongly [] ≡ true → ⊥
  none_accepted h =
      let t = taken_at version p k numbers strategy test [] (good []) h in
      let nil : [] ≡ t.0.all = all_there-nil t.0.all t.0.there in
      let a = accepted_parts version p k numbers [] t.0.all t.0.good in
      let same : (moment_rules version p k).start ≡ a.s = same_ok {E = Fault} _ _ (sym (run_none (moment_rules version p k) 0 [] (moment_rules version p k).start) ∙ ap (run (moment_rules version p k) []) nil ∙ a.states) in
      let none : None ≡ Some a.some = ap (λ (s : MomentState). s.claim) same ∙ a.claim in
      absurd (cc)

  -- what is accepted adds up, and the claim is not the moment
  some_accepted : (x : ℕ) (r : List ℕ) → wrongly (x ∷ r) ≡ true → (stated (x ∷ r) ≡ true) × (claim_said version strategy ≢ moment k numbers)
  some_accepted x r h =
      let t = taken_at version p k numbers strategy test (x ∷ r) (good (x ∷ r)) h in
      let power : ℕ = power_at p k numbers (x ∷ r) in
      let claim : ℤ = claim_said version strategy in
      let a = accepted_parts version p k numbers (x ∷ r) t.0.all t.0.good in
      let s = said_stated version p k power x strategy r t.0.all a.s t.0.there a.states a.ends in (
        and_from (is_small_claim p claim) (adds_up p k power (residue p claim) (replies (polynomials_said version k strategy) (x ∷ r)) (x ∷ r)) (small (x ∷ r) t.0.all t.0.there t.1 s.says) s.adds,
        λ e. t.0.wrong (s.says ∙ ap (λ (z : ℤ). Some z) e),
      )

  -- so few vectors are counted
  pub few_fooled : (d : ℕ) → length numbers ≡ 2 ^ d → nat_abs (moment k numbers) ≤ (p - 1) / 2 → counted p wrongly d ≤ k * d * p ^ (d - 1)
  few_fooled zero long fits = omega (arith, counted-empty p wrongly none_accepted)
  few_fooled (suc m) long fits = elim (cases_Bool (int_eq (claim_said version strategy) (moment k numbers))) [
    | inl same ↦ omega (arith, counted-longer p m wrongly (λ x v h. (some_accepted x v h).1 ((signed_Decides (claim_said version strategy) (moment k numbers)).0 same)))
    | inr differ ↦
        let few = few_wrong_moments p k (suc m) numbers (claim_said version strategy) (polynomials_said version k strategy) prime long fits
        (λ e. both_ways (int_eq (claim_said version strategy) (moment k numbers)) differ ((signed_Decides (claim_said version strategy) (moment k numbers)).1 e)) in
        let grows = counted-longer_grows p m wrongly stated (λ x v h. (some_accepted x v h).0) in
        omega arith
  ]

-- over any prime, where the claim is tested to be small
pub few_fooled_small : (version : Version) (p k d : ℕ) (numbers : List ℤ) (strategy : Strategy)
    → IsPrime p → length numbers ≡ 2 ^ d → nat_abs (moment k numbers) ≤ (p - 1) / 2
    → counted p (takes_wrong (accepts_small version p k numbers)
    (is_right version p k (moment k numbers)) strategy) d ≤ k * d * p ^ (d - 1)
few_fooled_small version p k d numbers strategy prime long fits =
    few_fooled version p k numbers prime strategy (accepts_small version p k numbers)
    (λ r all h. (and_parts (accepts_moment version p k numbers r all)
    (is_said (is_small_claim p) (said version p k all)) h).0)
    (λ r all there h says. sym (ap (is_said (is_small_claim p)) says)
    ∙ (and_parts (accepts_moment version p k numbers r all)
    (is_said (is_small_claim p) (said version p k all)) h).1)
    d long fits

-- over 2^61 - 1, where the replies are bytes
pub few_fooled_bytes : (version : Version) (k d : ℕ) (numbers : List ℤ) (strategy : Strategy)
    → length numbers ≡ 2 ^ d → nat_abs (moment k numbers) ≤ most_claim → IsOfBytes strategy
    → counted m61_modulus (takes_wrong (accepts_moment version m61_modulus k numbers)
    (is_right version m61_modulus k (moment k numbers)) strategy) d
    ≤ k * d * m61_modulus ^ (d - 1)
few_fooled_bytes version k d numbers strategy long fits bytes =
    few_fooled version m61_modulus k numbers m61_prime strategy
    (accepts_moment version m61_modulus k numbers)
    (λ r all h. h)
    (λ r all there h says. strategy_small version strategy bytes)
    d long (let half : (m61_modulus - 1) / 2 ≡ most_claim = refl in omega (arith, fits))
