-- How many challenges a wrong sum can be accepted at: what is counted, and what a call promises of
-- it.
use Rattle.std.specs.Prelude.{ℕ, ◌*◌, Bool, false, ◌&&◌, ℤ, List, [], take, Option, Some, None}
use Rattle.std.specs.Prelude.{Result, Ok, Err}
use Rattle.std.specs.Ordering.{int_eq}
use Rattle.sip_field.specs.Moduli.{m61_modulus}
use Rattle.sip_counts.specs.Clauses.{FewAndCounted}
use Rattle.sip_wire.specs.declared.version.Version.{Version}
use Rattle.sip_replies.specs.Replies.{Fault, run, accepts}
use Rattle.sip_sums.specs.AcceptsSum.{is_small_claim, product_at, total}
use Rattle.sip_sums.specs.Protocol.{SumState, sum_asked, sum_protocol, sum_rules}

-- ---- over bytes

-- the claim that a state has, if one came
abbrev pub claim_of : Result SumState Fault → Option ℤ
claim_of (Ok s) = s.claim
claim_of (Err _) = None

-- the claim that reply 0 states; no challenge is needed to read it
abbrev pub said : Version → ℕ → List (List ℕ) → Option ℤ
said version p replies = claim_of (run (sum_rules version p) [] (take 1 replies))

-- a claim was stated that passes this test
abbrev pub is_said : (ℤ → Bool) → Option ℤ → Bool
is_said test None = false
is_said test (Some claim) = test claim

-- the replies say this sum
abbrev pub is_right : Version → ℕ → ℤ → List (List ℕ) → Bool
is_right version p sum replies = is_said (int_eq sum) (said version p replies)

-- the replies at these challenges are accepted
abbrev pub accepts_sum : Version → ℕ → List ℤ → List ℤ → List ℕ → List (List ℕ) → Bool
accepts_sum version p first second challenges replies =
    accepts (sum_protocol (sum_asked version p (product_at p first second challenges)))
    challenges replies

-- The replies are accepted modulo p. The bytes of a claim leave room for those that are small
-- modulo 2^61 - 1; over a lesser modulus the claim has to be small for it.
abbrev pub accepts_small : Version → ℕ → List ℤ → List ℤ → List ℕ → List (List ℕ) → Bool
accepts_small version p first second challenges replies =
    accepts_sum version p first second challenges replies
    && is_said (is_small_claim p) (said version p replies)

-- ---- on a call

-- What a call that writes the answer to a query for the sum of the products of these lists promises
-- of a helper that lies: `block` are the query's challenges, `taken` the replies of this run, and
-- `written` the answer, if one was written.
abbrev pub SumCountClause : Version → ℕ → List ℤ → List ℤ → List ℕ → List (List ℕ) → Option ℤ
    → Type 0
SumCountClause version d first second block taken written =
    FewAndCounted m61_modulus d (2 * d) (accepts_sum version m61_modulus first second)
    (is_right version m61_modulus (total first second)) block taken written (total first second)
