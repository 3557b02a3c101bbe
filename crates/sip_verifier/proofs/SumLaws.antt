-- Laws of sums, over the lists of a query and modulo 2^61 - 1.
use Rattle.std.proofs.Common.{◌≡◌, ℕ, ◌*◌, ◌-◌, ◌^◌, ◌<◌, ◌≤◌, Some, List, length, All, arith}
use Rattle.sip_field.specs.LawProofs.Primes.{m61_prime}
use Rattle.sip_field.specs.Moduli.{m61_modulus}
use Rattle.sip_vector.specs.declared.query.Query.{Query}
use Rattle.sip_vector.specs.declared.update.Update.{Update}
use Rattle.sip_vector.specs.Answers.{number}
use Rattle.sip_vector.specs.Streams.{IsLegal}
use Rattle.sip_wire.specs.declared.version.Version.{Version}
use Rattle.sip_counts.specs.Strategies.{Strategy, IsOfBytes, fooled}
use Rattle.sip_replies.specs.Replies.{IsAccepted}
use Rattle.sip_sums.specs.AcceptsSum.{product_at, total}
use Rattle.sip_sums.specs.Counting.{accepts_sum, is_right}
use Rattle.sip_sums.specs.Honest.{CanBeSummed, honest_replies}
use Rattle.sip_sums.specs.Protocol.{sum_asked, sum_protocol}
use Rattle.sip_sums.specs.Questions.{Lists, lists_of}
use Rattle.sip_sums.proofs.FewFooled.{few_fooled_bytes}
use Rattle.sip_sums.proofs.HonestSums.{summed_accepted}
use Rattle.sip_sums.proofs.LegalTotals.{legal_small}

-- no strategy has a wrong number accepted at more blocks
pub few_sums : (version : Version) (d : ℕ) (stream : List Update) (q : Query) (l : Lists) (strategy : Strategy)
    → IsLegal d stream → lists_of d stream q ≡ Some l → IsOfBytes strategy
    → fooled m61_modulus d (accepts_sum version m61_modulus l.first l.second)
    (is_right version m61_modulus (total l.first l.second)) strategy
    ≤ 2 * d * m61_modulus ^ (d - 1)
few_sums version d stream q l strategy legal is bytes =
    let small = legal_small d stream q l legal is in
    few_fooled_bytes version d l.first l.second strategy m61_prime small.first small.second small.fits bytes

-- honest replies are accepted, and state the sum
pub sums_honest : (version : Version) (d : ℕ) (stream : List Update) (q : Query) (l : Lists) (block : List ℕ)
    → IsLegal d stream → 1 ≤ d → lists_of d stream q ≡ Some l → length block ≡ d
    → All (λ r. r < m61_modulus) block
    → IsAccepted (sum_protocol (sum_asked version m61_modulus
    (product_at m61_modulus l.first l.second block))) block
    (honest_replies version m61_modulus d l.first l.second block) (number (total l.first l.second))
sums_honest version d stream q l block legal some is size below =
    let small = legal_small d stream q l legal is in
    let can : CanBeSummed m61_modulus d l.first l.second = record {
      some = omega arith;
      elements = omega arith;
      levels = some;
      size = small.first;
      same = small.second;
      small = small.fits;
    } in
    summed_accepted version m61_modulus d l.first l.second can block size below
