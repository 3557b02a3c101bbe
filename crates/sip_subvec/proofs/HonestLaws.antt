-- Honest replies about what can be shown.
use Rattle.std.proofs.Common.{◌≡◌, ℕ, Ok, List, ◌++◌, length, ℤ, arith}
use Rattle.std.proofs.lemmas.List.{length-append}
use Rattle.std.proofs.lemmas.List.FromFn.{length-map-range_with_len}
use Rattle.std.specs.Prelude.{take}
use Rattle.sip_vector.specs.Answers.{pairs}
use Rattle.sip_vector.specs.Trees.{root}
use Rattle.sip_vector.specs.Vectors.{nonzero_within}
use Rattle.sip_wire.specs.declared.version.Version.{Version}
use Rattle.sip_replies.specs.Replies.{run, IsAccepted, IsUnfinished}
use Rattle.sip_subvec.specs.Honest.{honest_reply, honest_replies, CanBeShown}
use Rattle.sip_subvec.specs.Protocol.{sub_asked, sub_protocol, sub_rules}
use Rattle.sip_subvec.proofs.HonestStates.{all_stated, honest_stated, honest_verdict}
use Rattle.sip_subvec.proofs.HonestStreams.{shown_rows}

module _ (version : Version) where
  -- there is one for each challenge
  pub replies_count : (p : ℕ) (numbers : List ℤ) (lo hi : ℕ) (challenges : List ℕ)
      → length (honest_replies version p numbers lo hi challenges) ≡ length challenges
  replies_count p numbers lo hi challenges =
      length-map-range_with_len (λ j. honest_reply version p numbers lo hi (take j challenges)) 0
      (length challenges)

  pub shown_accepted : (p depth lo hi : ℕ) (numbers : List ℤ) (challenges : List ℕ)
      → CanBeShown version p depth lo hi numbers → length challenges ≡ depth
      → IsAccepted (sub_protocol (sub_asked version p (root p numbers challenges) lo hi challenges))
      challenges (honest_replies version p numbers lo hi challenges)
      (pairs (nonzero_within lo hi numbers))
  shown_accepted p depth lo hi numbers challenges shown all = record {
    all = replies_count p numbers lo hi challenges;
    found = honest_verdict version p numbers lo hi shown.some shown.elements
        (shown_rows version p depth lo hi numbers shown) shown.few challenges
        (omega (arith, shown.levels)) (rw all shown.size) shown.order
        (omega (arith, shown.size, shown.within));
  }

  -- what they state so far
  pub shown_stated : (p depth lo hi : ℕ) (numbers : List ℤ) (rs challenges : List ℕ)
      → CanBeShown version p depth lo hi numbers
      → run (sub_rules version lo hi) rs (honest_replies version p numbers lo hi challenges)
      ≡ Ok (all_stated version p numbers lo hi challenges)
  shown_stated p depth lo hi numbers rs challenges shown =
      honest_stated version p numbers lo hi shown.some shown.elements
      (shown_rows version p depth lo hi numbers shown) shown.few rs challenges

  pub shown_unfinished : (p depth lo hi : ℕ) (numbers : List ℤ) (revealed more : List ℕ)
      → CanBeShown version p depth lo hi numbers
      → IsUnfinished (sub_rules version lo hi) (revealed ++ more)
      (honest_replies version p numbers lo hi revealed)
  shown_unfinished p depth lo hi numbers revealed more shown = record {
    few = omega (arith, replies_count p numbers lo hi revealed, length-append revealed more);
    passes = λ fault e. absurd
        (let is = shown_stated p depth lo hi numbers (revealed ++ more) revealed shown in cc);
  }
