-- A number that was written and is not the moment makes its challenges counted.
use Rattle.std.proofs.Common.{◌≡◌, ◌≢◌, ℕ, true, eqb, is_ok, Option, Some, None, Ok, List, length, map, ℤ, ap, sym, ◌∙◌, refl}
use Rattle.std.proofs.lemmas.Bool.{and_from, eq-eqb, false_from_ne_true}
use Rattle.sip_field.specs.Moduli.{m61_modulus}
use Rattle.sip_vector.specs.declared.update.Update.{Update}
use Rattle.sip_vector.specs.Answers.{Answer, number}
use Rattle.sip_vector.specs.Streams.{IsLegal}
use Rattle.sip_vector.proofs.Sides.{length-vector}
use Rattle.sip_wire.specs.declared.message.Reason.{Reason}
use Rattle.sip_wire.specs.declared.message.Reason.TheVariants as reasons
use Rattle.sip_wire.specs.declared.version.Version.{Version}
use Rattle.sip_counts.specs.Strategies.{Strategy, replies, takes_wrong}
use Rattle.sip_counts.proofs.Talks.{takes_wrong-at}
use Rattle.sip_replies.specs.Replies.{in_round, run, verdict, IsAccepted}
use Rattle.sip_replies.proofs.Passing.{step_passed, round_passed, test_passed, same_ok}
use Rattle.sip_sums.proofs.FewFooled.{says_decides}
use Rattle.sip_verifier.specs.runs.Manners.{Question}
use Rattle.sip_moments.specs.declared.moment.Moment.{Moment}
use Rattle.sip_moments.specs.AcceptsMoment.{power_at}
use Rattle.sip_moments.specs.Counting.{said, is_right, accepts_moment}
use Rattle.sip_moments.specs.Manner.{CountsFor, FewFor, asking, numbers_of}
use Rattle.sip_moments.specs.Moments.{moment}
use Rattle.sip_moments.specs.Protocol.{MomentState, moment_asked, moment_protocol, moment_rules, claimed}
use Rattle.sip_moments.proofs.FewFooled.{few_fooled_bytes}
use Rattle.sip_moments.proofs.LightVectors.{moment_fits}
use Rattle.sip_moments.proofs.SaidMoments.{run_says}

-- ---- answers

module _ (version : Version) (p k power : ℕ) (r : List ℕ) (all : List (List ℕ)) (claim : ℤ) where
  -- the claim of a verdict is what the replies say
  claim_answered : (s : MomentState) (o : Option ℤ) → s.claim ≡ o
      → claimed (moment_asked version p k power) s o ≡ Ok (number claim) → s.claim ≡ Some claim
  claim_answered s None is e = absurd (cc)
  claim_answered s (Some other) is e =
      let passed = test_passed {B = Answer} (eqb s.expected power) reasons.Root
      (λ _. Ok (number other)) (number claim) e in
      let same : number other ≡ number claim = same_ok {E = Reason} _ _ passed.1 in
      is ∙ (cc)

  pub verdict_says : verdict (moment_protocol (moment_asked version p k power)) r all
      ≡ Ok (number claim) → said version p k all ≡ Some claim
  verdict_says e =
      let a = step_passed {B = Answer} (run (moment_rules version p k) r all)
      (λ s. in_round (length r) (claimed (moment_asked version p k power) s s.claim))
      (number claim) e in
      let passed = round_passed (length r)
      (claimed (moment_asked version p k power) a.x a.x.claim) (number claim) a.then in
      run_says version p k r all a.x claim a.first (claim_answered a.x a.x.claim refl passed)

-- a number that was written for accepted replies, and is not the moment, makes the challenges
-- counted
pub written_counts : (version : Version) (p k : ℕ) (numbers : List ℤ) (strategy : Strategy)
    (block : List ℕ) (taken : List (List ℕ)) (claim : ℤ)
    → IsAccepted (moment_protocol (moment_asked version p k (power_at p k numbers block))) block
    taken (number claim)
    → replies strategy block ≡ map Some taken → claim ≢ moment k numbers
    → takes_wrong (accepts_moment version p k numbers)
    (is_right version p k (moment k numbers)) strategy block ≡ true
written_counts version p k numbers strategy block taken claim accepted talk wrong =
    let power : ℕ = power_at p k numbers block in
    let P = moment_protocol (moment_asked version p k power) in
    let says = verdict_says version p k power block taken claim accepted.found in
    let ok : is_ok (verdict P block taken) ≡ true = ap is_ok accepted.found in
    let good : accepts_moment version p k numbers block taken ≡ true =
    and_from (eqb (length taken) (length block)) (is_ok (verdict P block taken))
    (eq-eqb (length taken) (length block) accepted.all) ok in
    takes_wrong-at (accepts_moment version p k numbers) (is_right version p k (moment k numbers))
    strategy block taken talk good
    (false_from_ne_true (is_right version p k (moment k numbers) taken) (λ same.
    let both = sym says ∙ (says_decides (moment k numbers) (said version p k taken)).0 same in
    wrong (let e : claim ≡ moment k numbers = cc in e)))

-- ---- in a run

module _ (version : Version) (depth : ℕ) (stream : List Update) (legal : IsLegal depth stream) where
  -- no helper has a wrong moment accepted at more blocks than its count
  pub few_moments : (m : Moment) → FewFor version depth stream m
  few_moments m = λ can strategy bytes.
      few_fooled_bytes version m.degree depth (numbers_of depth stream m) strategy
      (length-vector depth stream m.side) (moment_fits depth stream m legal can) bytes

  same_number : (other stated : ℤ) → Some stated ≡ Some other → other ≡ stated
  same_number other stated e = cc

  -- a number that accepted replies state is counted
  pub moment_counts : (q : Question Moment) (written : ℤ)
      → (asking version depth stream).Accepts q written → CountsFor version depth stream q written
  moment_counts q written accepted = λ can. record {
    few = few_moments q.query can;
    counts = λ strategy other talk same wrong.
        written_counts version m61_modulus q.query.degree (numbers_of depth stream q.query)
        strategy q.block q.replies written accepted talk
        (λ right. wrong (same_number other written same ∙ right));
  }
