-- A written answer that is wrong makes its challenges counted.
use Rattle.std.proofs.Common.{◌≡◌, ◌≢◌, ℕ, true, eqb, is_ok, Option, Some, None, Ok, List, length, map, ℤ, ap, sym, ◌∙◌, refl}
use Rattle.std.proofs.lemmas.Bool.{and_from, eq-eqb, false_from_ne_true}
use Rattle.sip_vector.specs.Answers.{Answer, number}
use Rattle.sip_wire.specs.declared.message.Reason.{Reason}
use Rattle.sip_wire.specs.declared.message.Reason.TheVariants as reasons
use Rattle.sip_wire.specs.declared.version.Version.{Version}
use Rattle.sip_counts.specs.Strategies.{Strategy, replies, takes_wrong}
use Rattle.sip_counts.proofs.Talks.{takes_wrong-at}
use Rattle.sip_replies.specs.Replies.{in_round, run, verdict, IsAccepted}
use Rattle.sip_sums.specs.AcceptsSum.{product_at, total}
use Rattle.sip_sums.specs.Counting.{said, is_right, accepts_sum}
use Rattle.sip_sums.specs.Protocol.{SumState, sum_asked, sum_protocol, sum_rules, claimed}
use Rattle.sip_sums.proofs.FewFooled.{says_decides}
use Rattle.sip_replies.proofs.Passing.{step_passed, round_passed, test_passed, same_ok}
use Rattle.sip_sums.proofs.SaidSums.{run_says}

-- ---- answers

module _ (version : Version) (p product : ℕ) (r : List ℕ) (all : List (List ℕ)) (claim : ℤ) where
  -- the claim of a verdict is what the replies say
  claim_answered : (s : SumState) (o : Option ℤ) → s.claim ≡ o → claimed (sum_asked version p product) s o ≡ Ok (number claim) → s.claim ≡ Some claim
  claim_answered s None is e = absurd (cc)
  claim_answered s (Some other) is e =
      let passed = test_passed {B = Answer} (eqb s.expected product) reasons.Root (λ _. Ok (number other)) (number claim) e in
      let same : number other ≡ number claim = same_ok {E = Reason} _ _ passed.1 in
      is ∙ (cc)

  verdict_says : verdict (sum_protocol (sum_asked version p product)) r all ≡ Ok (number claim) → said version p all ≡ Some claim
  verdict_says e =
      let a = step_passed {B = Answer} (run (sum_rules version p) r all) (λ s. in_round (length r) (claimed (sum_asked version p product) s s.claim)) (number claim) e in
      let passed = round_passed (length r) (claimed (sum_asked version p product) a.x a.x.claim) (number claim) a.then in
      run_says version p r all a.x claim a.first (claim_answered a.x a.x.claim refl passed)

-- a number that was written for accepted replies, and is not the sum, makes the challenges counted
pub written_counts : (version : Version) (p : ℕ) (first second : List ℤ) (strategy : Strategy) (block : List ℕ) (taken : List (List ℕ)) (claim : ℤ)
    → IsAccepted (sum_protocol (sum_asked version p (product_at p first second block))) block taken (number claim)
    → replies strategy block ≡ map Some taken → claim ≢ total first second
    → takes_wrong (accepts_sum version p first second) (is_right version p (total first second)) strategy block ≡ true
written_counts version p first second strategy block taken claim accepted talk wrong =
    let product : ℕ = product_at p first second block in
    let P = sum_protocol (sum_asked version p product) in
    let says = verdict_says version p product block taken claim accepted.found in
    let ok : is_ok (verdict P block taken) ≡ true = ap is_ok accepted.found in
    let good : accepts_sum version p first second block taken ≡ true = and_from (eqb (length taken) (length block)) (is_ok (verdict P block taken)) (eq-eqb (length taken) (length block) accepted.all) ok in
    takes_wrong-at (accepts_sum version p first second) (is_right version p (total first second)) strategy block taken talk good
    (false_from_ne_true (is_right version p (total first second) taken) (λ same.
    let both = sym says ∙ (says_decides (total first second) (said version p taken)).0 same in
    wrong (let e : claim ≡ total first second = cc in e)))
