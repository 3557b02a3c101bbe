-- How many challenges a wrong moment can be accepted at: what is counted.
use Rattle.std.specs.Prelude.{ℕ, Bool, ◌&&◌, ℤ, List, [], take, Option, None, Result, Ok, Err}
use Rattle.std.specs.Ordering.{int_eq}
use Rattle.sip_wire.specs.declared.version.Version.{Version}
use Rattle.sip_replies.specs.Replies.{Fault, run, accepts}
use Rattle.sip_sums.specs.AcceptsSum.{is_small_claim}
use Rattle.sip_sums.specs.Counting.{is_said}
use Rattle.sip_moments.specs.AcceptsMoment.{power_at}
use Rattle.sip_moments.specs.Protocol.{MomentState, moment_asked, moment_protocol, moment_rules}

-- the claim that a state has, if one came
abbrev pub claim_of : Result MomentState Fault → Option ℤ
claim_of (Ok s) = s.claim
claim_of (Err _) = None

-- the claim that reply 0 states; no challenge is needed to read it
abbrev pub said : Version → ℕ → ℕ → List (List ℕ) → Option ℤ
said version p k replies = claim_of (run (moment_rules version p k) [] (take 1 replies))

-- the replies say this moment
abbrev pub is_right : Version → ℕ → ℕ → ℤ → List (List ℕ) → Bool
is_right version p k moment replies = is_said (int_eq moment) (said version p k replies)

-- the replies at these challenges are accepted
abbrev pub accepts_moment : Version → ℕ → ℕ → List ℤ → List ℕ → List (List ℕ) → Bool
accepts_moment version p k numbers challenges replies =
    accepts (moment_protocol (moment_asked version p k (power_at p k numbers challenges)))
    challenges replies

-- The replies are accepted modulo p. The bytes of a claim leave room for those that are small
-- modulo 2^61 - 1; over a lesser modulus the claim has to be small for it.
abbrev pub accepts_small : Version → ℕ → ℕ → List ℤ → List ℕ → List (List ℕ) → Bool
accepts_small version p k numbers challenges replies =
    accepts_moment version p k numbers challenges replies
    && is_said (is_small_claim p) (said version p k replies)
