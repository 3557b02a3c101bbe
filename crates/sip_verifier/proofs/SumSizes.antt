-- How many bytes the replies to a query for a sum have.
use Rattle.std.proofs.Common.{◌≡◌, ℕ, ◌+◌, ◌<◌, ◌≤◌, true, ℤ, Option, Some, None, Ok, Err, List, [], ◌∷◌, length, refl, subst, arith}
use Rattle.std.specs.Prelude.{◌==◌, is_none, if◌then◌else◌}
use Rattle.sip_wire.specs.declared.kind.Kind.{Kind}
use Rattle.sip_wire.specs.declared.kind.Kind.TheVariants as kinds
use Rattle.sip_wire.specs.declared.kind.Place.{Place}
use Rattle.sip_wire.specs.declared.kind.Place.TheVariants as places
use Rattle.sip_wire.specs.declared.message.Message.{Message}
use Rattle.sip_wire.specs.declared.message.Message.TheVariants as messages
use Rattle.sip_wire.specs.declared.message.Reason.TheVariants as reasons
use Rattle.sip_wire.specs.declared.message.WireFault.{WireFault}
use Rattle.sip_wire.specs.declared.version.Version.{Version}
use Rattle.sip_wire.specs.Reading.{read_frame}
use Rattle.sip_wire.specs.Table.{allows}
use Rattle.sip_replies.specs.declared.check.More.TheVariants as mores
use Rattle.sip_replies.specs.Replies.{joined, reason_of}
use Rattle.sip_replies.proofs.Passing.{test_passed}
use Rattle.sip_sums.specs.AcceptsSum.{Coefficients, sum_of_ends}
use Rattle.sip_sums.specs.LawProofs.ReplyTests.{sum_tests}
use Rattle.sip_sums.specs.Protocol.{SumState, sum_asked, sum_rules, sum_step}
use Rattle.sip_verifier.specs.ReplyBound.{most_sum_bytes}
use Rattle.sip_verifier.proofs.FrameSizes.{read_frame-size}
use Rattle.sip_verifier.proofs.PlaceSizes.{at_claim, at_poly, cut_most}
use Rattle.sip_verifier.proofs.ReplySizes.{Sizes, replies_size, same_due}
use Rattle.sip_verifier.proofs.TakenReplies.{AreTaken}

-- the bytes of a claim are left until it came
abbrev pub claim_left : Option ℤ → ℕ
claim_left None = 11
claim_left (Some claim) = 0

abbrev pub place_at : Option ℤ → Place
place_at claim = if is_none claim then places.Claim else places.Poly

-- nothing is asked of a state
abbrev pub Any : SumState → Type 0
Any s = Unit {0}

heard_claim : (kind : Kind) → allows places.Claim kind ≡ true → allows places.ToVerifier kind ≡ true
heard_claim kinds.Claim a = refl
heard_claim kinds.Refuse a = refl
heard_claim kinds.Open a = absurd cc
heard_claim kinds.Updates a = absurd cc
heard_claim kinds.EndStream a = absurd cc
heard_claim kinds.Query a = absurd cc
heard_claim kinds.Reveal a = absurd cc
heard_claim kinds.Bye a = absurd cc
heard_claim kinds.Poly a = absurd cc
heard_claim kinds.Entries a = absurd cc
heard_claim kinds.Siblings a = absurd cc
heard_claim kinds.Leaves a = absurd cc
heard_claim kinds.Nodes a = absurd cc
heard_claim kinds.LevelEnd a = absurd cc
heard_claim kinds.AskLook a = absurd cc
heard_claim kinds.Found a = absurd cc
heard_claim kinds.End a = absurd cc
heard_claim kinds.AskMoment a = absurd cc
heard_claim kinds.Held a = absurd cc
heard_claim kinds.Recall a = absurd cc
heard_claim kinds.Marks a = absurd cc
heard_claim (kinds.Power degree) a = absurd cc

heard_poly : (kind : Kind) → allows places.Poly kind ≡ true → allows places.ToVerifier kind ≡ true
heard_poly kinds.Poly a = refl
heard_poly kinds.Refuse a = refl
heard_poly kinds.Open a = absurd cc
heard_poly kinds.Updates a = absurd cc
heard_poly kinds.EndStream a = absurd cc
heard_poly kinds.Query a = absurd cc
heard_poly kinds.Reveal a = absurd cc
heard_poly kinds.Bye a = absurd cc
heard_poly kinds.Claim a = absurd cc
heard_poly kinds.Entries a = absurd cc
heard_poly kinds.Siblings a = absurd cc
heard_poly kinds.Leaves a = absurd cc
heard_poly kinds.Nodes a = absurd cc
heard_poly kinds.LevelEnd a = absurd cc
heard_poly kinds.AskLook a = absurd cc
heard_poly kinds.Found a = absurd cc
heard_poly kinds.End a = absurd cc
heard_poly kinds.AskMoment a = absurd cc
heard_poly kinds.Held a = absurd cc
heard_poly kinds.Recall a = absurd cc
heard_poly kinds.Marks a = absurd cc
heard_poly (kinds.Power degree) a = absurd cc

module _ (version : Version) (p : ℕ) where
  abbrev state : Option ℤ → ℕ → Coefficients → SumState
  state claim expected last = record { claim = claim; expected = expected; last = last }

  -- a claim goes on
  due : (c : Option ℤ) (expected : ℕ) (last : Coefficients) (t : SumState) (m : Message) (bytes rest : List ℕ)
      → read_frame version (place_at c) bytes ≡ Ok (m, rest) → sum_step p (state c expected last) m ≡ Ok (mores.Due, t)
      → length bytes + claim_left t.claim ≤ claim_left c + length rest
  due None expected last t (messages.Claim v) bytes rest read e =
      let size_is = read_frame-size version places.Claim bytes (messages.Claim v) rest heard_claim read in
      let same = (same_due mores.Due mores.Due _ t e).1 in
      subst (λ (s : SumState). length bytes + claim_left s.claim ≤ 11 + length rest) same (omega (arith, size_is.long))
  due (Some claim) expected last t (messages.Claim v) bytes rest read e = absurd cc
  due None expected last t (messages.Poly a b c) bytes rest read e = absurd cc
  due (Some claim) expected last t (messages.Poly a b c) bytes rest read e =
      let x = test_passed (sum_of_ends p (record { c0 = a; c1 = b; c2 = c }) == expected) reasons.Sum (λ _. Ok (mores.Complete, state (Some claim) expected (record { c0 = a; c1 = b; c2 = c }))) (mores.Due, t) e in
      absurd (let both = (same_due mores.Complete mores.Due _ t x.1).0 in cc)
  due c expected last t (messages.Refuse code) bytes rest read e = absurd cc
  due c expected last t (messages.Open v d) bytes rest read e = absurd cc
  due c expected last t (messages.Updates us) bytes rest read e = absurd cc
  due c expected last t messages.EndStream bytes rest read e = absurd cc
  due c expected last t (messages.Query q) bytes rest read e = absurd cc
  due c expected last t (messages.Reveal r) bytes rest read e = absurd cc
  due c expected last t messages.Bye bytes rest read e = absurd cc
  due c expected last t (messages.Entries v) bytes rest read e = absurd cc
  due c expected last t (messages.Siblings l r) bytes rest read e = absurd cc
  due c expected last t (messages.Leaves v) bytes rest read e = absurd cc
  due c expected last t (messages.Nodes v) bytes rest read e = absurd cc
  due c expected last t messages.LevelEnd bytes rest read e = absurd cc
  due c expected last t (messages.AskLook code item) bytes rest read e = absurd cc
  due c expected last t (messages.Found flag index) bytes rest read e = absurd cc
  due c expected last t messages.End bytes rest read e = absurd cc
  due c expected last t (messages.AskMoment side degree) bytes rest read e = absurd cc
  due c expected last t (messages.Held held) bytes rest read e = absurd cc
  due c expected last t (messages.Recall count) bytes rest read e = absurd cc
  due c expected last t (messages.Marks v) bytes rest read e = absurd cc
  due c expected last t (messages.Power v) bytes rest read e = absurd cc

  -- a polynomial completes, and then no claim comes
  complete : (c : Option ℤ) (expected : ℕ) (last : Coefficients) (t : SumState) (m : Message) (bytes rest : List ℕ)
      → read_frame version (place_at c) bytes ≡ Ok (m, rest) → sum_step p (state c expected last) m ≡ Ok (mores.Complete, t)
      → (length bytes ≤ 27 + length rest) × (claim_left t.claim ≤ 0)
  complete None expected last t (messages.Claim v) bytes rest read e = absurd (let both = (same_due mores.Due mores.Complete _ t e).0 in cc)
  complete (Some claim) expected last t (messages.Claim v) bytes rest read e = absurd cc
  complete None expected last t (messages.Poly a b c) bytes rest read e = absurd cc
  complete (Some claim) expected last t (messages.Poly a b c) bytes rest read e =
      let x = test_passed (sum_of_ends p (record { c0 = a; c1 = b; c2 = c }) == expected) reasons.Sum (λ _. Ok (mores.Complete, state (Some claim) expected (record { c0 = a; c1 = b; c2 = c }))) (mores.Complete, t) e in
      let same = (same_due mores.Complete mores.Complete _ t x.1).1 in
      let size_is = read_frame-size version places.Poly bytes (messages.Poly a b c) rest heard_poly read in
      (omega (arith, size_is.long), subst (λ (s : SumState). claim_left s.claim ≤ 0) same (omega arith))
  complete c expected last t (messages.Refuse code) bytes rest read e = absurd cc
  complete c expected last t (messages.Open v d) bytes rest read e = absurd cc
  complete c expected last t (messages.Updates us) bytes rest read e = absurd cc
  complete c expected last t messages.EndStream bytes rest read e = absurd cc
  complete c expected last t (messages.Query q) bytes rest read e = absurd cc
  complete c expected last t (messages.Reveal r) bytes rest read e = absurd cc
  complete c expected last t messages.Bye bytes rest read e = absurd cc
  complete c expected last t (messages.Entries v) bytes rest read e = absurd cc
  complete c expected last t (messages.Siblings l r) bytes rest read e = absurd cc
  complete c expected last t (messages.Leaves v) bytes rest read e = absurd cc
  complete c expected last t (messages.Nodes v) bytes rest read e = absurd cc
  complete c expected last t messages.LevelEnd bytes rest read e = absurd cc
  complete c expected last t (messages.AskLook code item) bytes rest read e = absurd cc
  complete c expected last t (messages.Found flag index) bytes rest read e = absurd cc
  complete c expected last t messages.End bytes rest read e = absurd cc
  complete c expected last t (messages.AskMoment side degree) bytes rest read e = absurd cc
  complete c expected last t (messages.Held held) bytes rest read e = absurd cc
  complete c expected last t (messages.Recall count) bytes rest read e = absurd cc
  complete c expected last t (messages.Marks v) bytes rest read e = absurd cc
  complete c expected last t (messages.Power v) bytes rest read e = absurd cc

  cut : (c : Option ℤ) (bytes : List ℕ) (fault : WireFault) → read_frame version (place_at c) bytes ≡ Err fault → reason_of fault ≡ reasons.Closed → length bytes < 27
  cut None bytes fault e closed = omega (arith, cut_most version places.Claim bytes fault 11 (omega arith) (at_claim version) e closed)
  cut (Some claim) bytes fault e closed = cut_most version places.Poly bytes fault 27 (omega arith) (at_poly version) e closed

  sum_sizes : Sizes (sum_rules version p) Any (λ s. claim_left s.claim) 0 27 27
  sum_sizes = record {
    due = λ s t m bytes rest h read e. (tt, due s.claim s.expected s.last t m bytes rest read e);
    complete = λ s t m bytes rest h read e. let x = complete s.claim s.expected s.last t m bytes rest read e in (x.0, λ r. (tt, x.1));
    cut = λ s bytes fault h e closed. cut s.claim bytes fault e closed;
    tests = λ s m reason e. sum_tests (sum_asked version p 0) s m reason e;
  }

  -- The replies about a sum have no more bytes than these; where there is no round, none.
  pub sums_short : (rs : List ℕ) (replies : List (List ℕ)) → AreTaken (sum_rules version p) rs replies → length (joined replies) ≤ most_sum_bytes (length rs)
  sums_short [] [] taken = omega arith
  sums_short [] (b ∷ more) taken = absurd (omega (arith, taken.few))
  sums_short (r ∷ rs) replies taken =
      omega (arith, replies_size (sum_rules version p) Any (λ s. claim_left s.claim) 0 27 27 sum_sizes (r ∷ rs) 11 replies (omega arith) tt (omega arith) taken)
