-- A written answer that is wrong makes its challenges counted; and the numbers of a legal stream are small.
use Rattle.std.proofs.Common.{◌≡◌, ◌≢◌, ℕ, ◌-◌, ◌/◌, ◌≤◌, ◌^◌, true, eqb, is_ok, Some, Ok, List, length, get_or, map, All, ℤ, nat_abs, ap, sym, ◌∙◌, arith}
use Rattle.std.specs.List.{range_with_len}
use Rattle.std.proofs.lemmas.Bool.{and_from, eq-eqb, false_from_ne_true}
use Rattle.std.proofs.lemmas.List.Elements.{All-map, All-from_get_or}
use Rattle.sip_field.specs.Moduli.{m61_modulus}
use Rattle.sip_vector.specs.declared.update.Side.TheVariants.{First}
use Rattle.sip_vector.specs.declared.update.Update.{Update}
use Rattle.sip_vector.specs.declared.update.Entry.{Entry}
use Rattle.sip_vector.specs.Steps.{◌>>=◌, needs}
use Rattle.sip_vector.specs.Streams.{most_weight, frequency, vector, IsLegal}
use Rattle.sip_vector.specs.Vectors.{nonzero_within}
use Rattle.sip_wire.specs.declared.message.Reason.{Reason}
use Rattle.sip_wire.specs.declared.message.Reason.TheVariants as reasons
use Rattle.sip_vector.specs.Answers.{Answer, pairs}
use Rattle.sip_counts.specs.Strategies.{Strategy, replies, takes_wrong}
use Rattle.sip_counts.proofs.Talks.{takes_wrong-at}
use Rattle.sip_replies.proofs.Passing.{step_passed, test_passed, round_passed, same_ok}
use Rattle.sip_replies.proofs.SameEntries.{same_entries}
use Rattle.sip_subvec.specs.AcceptsSub.{gives_root}
use Rattle.sip_wire.specs.declared.version.Version.{Version}
use Rattle.sip_replies.specs.Replies.{in_round, run, verdict, IsAccepted}
use Rattle.sip_subvec.specs.Counting.{said, is_right, accepts_sub}
use Rattle.sip_subvec.specs.Protocol.{sub_asked, sub_protocol, sub_rules}
use Rattle.sip_subvec.proofs.FewFooled.{said_by}
use Rattle.sip_subvec.proofs.HonestStreams.{frequency_light}

-- ---- streams

-- the numbers of a legal stream's vector are small
pub vector-small : (d : ℕ) (stream : List Update) → IsLegal d stream → All (λ a. nat_abs a ≤ (m61_modulus - 1) / 2) (vector d stream First)
vector-small d stream legal =
    let room : most_weight ≤ (m61_modulus - 1) / 2 = omega arith in
    All-map (λ (a : ℤ). nat_abs a ≤ (m61_modulus - 1) / 2) (frequency stream First) (range_with_len 0 (2 ^ d))
    (All-from_get_or (λ (i : ℕ). nat_abs (frequency stream First i) ≤ (m61_modulus - 1) / 2) (range_with_len 0 (2 ^ d)) 0
    (λ i _. omega (arith, frequency_light stream First (get_or (range_with_len 0 (2 ^ d)) i 0), legal.first)))

-- ---- answers

-- the entries of a verdict are what the replies say
pub verdict_says : (version : Version) (p top lo hi : ℕ) (r : List ℕ) (all : List (List ℕ))
    (es : List Entry)
    → verdict (sub_protocol (sub_asked version p top lo hi r)) r all ≡ Ok (pairs es)
    → said version lo hi all ≡ es
verdict_says version p top lo hi r all es e =
    let a = step_passed {B = Answer} (run (sub_rules version lo hi) r all)
    (λ s. in_round (length r) (needs (gives_root p top lo hi r s) reasons.Root
    >>= λ _. Ok (pairs s.entries))) (pairs es) e in
    let passed = round_passed (length r)
    (needs (gives_root p top lo hi r a.x) reasons.Root >>= λ _. Ok (pairs a.x.entries)) (pairs es)
    a.then in
    let b = test_passed {B = Answer} (gives_root p top lo hi r a.x) reasons.Root
    (λ _. Ok (pairs a.x.entries)) (pairs es) passed in
    let same : pairs a.x.entries ≡ pairs es = same_ok {E = Reason} _ _ b.1 in
    said_by version lo hi r all a.x a.first ∙ (cc)

-- replies that are accepted pass the test
pub accepted_sub : (version : Version) (p top lo hi : ℕ) (block : List ℕ) (taken : List (List ℕ))
    (answer : List Entry)
    → IsAccepted (sub_protocol (sub_asked version p top lo hi block)) block taken (pairs answer)
    → accepts_sub version p top lo hi block taken ≡ true
accepted_sub version p top lo hi block taken answer accepted =
    let P = sub_protocol (sub_asked version p top lo hi block) in
    let ok : is_ok (verdict P block taken) ≡ true = ap is_ok accepted.found in
    and_from (eqb (length taken) (length block)) (is_ok (verdict P block taken))
    (eq-eqb (length taken) (length block) accepted.all) ok

pub written_counts : (version : Version) (p top lo hi : ℕ) (numbers : List ℤ) (tops : List ℕ → ℕ)
    (strategy : Strategy) (block : List ℕ) (taken : List (List ℕ)) (answer : List Entry)
    → tops block ≡ top
    → IsAccepted (sub_protocol (sub_asked version p top lo hi block)) block taken (pairs answer)
    → replies strategy block ≡ map Some taken → answer ≢ nonzero_within lo hi numbers
    → takes_wrong (λ r. accepts_sub version p (tops r) lo hi r) (is_right version lo hi numbers)
    strategy block ≡ true
written_counts version p top lo hi numbers tops strategy block taken answer is accepted talk wrong =
    let says = verdict_says version p top lo hi block taken answer accepted.found in
    let good : accepts_sub version p top lo hi block taken ≡ true =
    accepted_sub version p top lo hi block taken answer accepted in
    takes_wrong-at (λ r. accepts_sub version p (tops r) lo hi r) (is_right version lo hi numbers)
    strategy block taken talk (ap (λ t. accepts_sub version p t lo hi block taken) is ∙ good)
    (false_from_ne_true (is_right version lo hi numbers taken) (λ same. wrong (sym says
    ∙ (same_entries (said version lo hi taken) (nonzero_within lo hi numbers)).0 same)))
