-- What the replies of a strategy of bytes state is what a strategy of polynomials says, with a claim that no challenge changes.
use Rattle.std.proofs.Common.{◌≡◌, ℕ, ◌+◌, Bool, true, false, eqb, is_ok, Option, Some, None, Result, Ok, Err, List, [], ◌∷◌, length, drop, ℤ, refl, ap, sym, ◌∙◌, subst}
use Rattle.std.proofs.lemmas.Bool.{and_parts, and_from}
use Rattle.sip_field.specs.Residue.{residue}
use Rattle.sip_vector.specs.Answers.{Answer, number}
use Rattle.sip_vector.specs.Steps.{◌>>=◌, needs}
use Rattle.sip_wire.specs.declared.message.Reason.TheVariants as reasons
use Rattle.sip_wire.specs.declared.version.Version.{Version}
use Rattle.sip_counts.specs.Strategies.{Strategy, replies, all_there}
use Rattle.sip_counts.proofs.Talks.{There, all_there-cons, all_there-nil, bytes_in, replies-more}
use Rattle.sip_replies.proofs.Passing.{run_is, run_none, run_parts, same_ok}
use Rattle.sip_replies.specs.Protocols.{Rules}
use Rattle.sip_replies.specs.Replies.{Fault, in_round, learnt, read_reply, run_from, run, verdict}
use Rattle.sip_sums.specs.AcceptsSum.{Coefficients, value_at, sum_of_ends, adds_up, product_at}
use Rattle.sip_sums.specs.Counting.{claim_of, said, accepts_sum}
use Rattle.sip_sums.specs.Protocol.{SumState, sum_asked, sum_protocol, sum_rules, claimed}
use Rattle.sip_sums.proofs.ReadSums.{known, Adds, polynomial_in, claim_in, first_polynomial_in, first_adds, later_adds}

-- what a strategy's later replies say
abbrev later_said : Version → Strategy → List ℕ → Coefficients
later_said version strategy v = polynomial_in version (bytes_in (strategy v))

-- what all its replies say
unfoldable pub claim_said : Version → Strategy → ℤ
claim_said version strategy = claim_in version (bytes_in (strategy []))

-- the polynomial of each reply, that of reply 0 behind the claim
pub polynomials_said : Version → Strategy → List ℕ → Coefficients
polynomials_said version strategy [] = first_polynomial_in version (bytes_in (strategy []))
polynomials_said version strategy (x ∷ v) = later_said version strategy (x ∷ v)

-- ---- later replies

module _ (version : Version) (p product : ℕ) where
  abbrev R : Rules SumState
  R = sum_rules version p

  -- From what is known the polynomials of the replies add up to the product, and the claim stays.
  pub record Ended (claim : ℤ) (expected : ℕ) (cs : List Coefficients) (r : List ℕ) (t : SumState) : Type 0 where
    pub stays : t.claim ≡ Some claim
    pub adds : adds_up p product expected cs r ≡ true

  none_later : (claim : ℤ) (j expected : ℕ) (rs : List ℕ) (last : Coefficients) (all : List (List ℕ)) (t : SumState) → [] ≡ all
      → run_from R j rs (known claim expected last) all ≡ Ok t → eqb t.expected product ≡ true → Ended claim expected [] [] t
  unfolding adds_up
  none_later claim j expected rs last [] t is e h =
      let same : known claim expected last ≡ t = same_ok {E = Fault} (known claim expected last) t (sym (run_none R j rs (known claim expected last)) ∙ e) in
      record {
        stays = sym (ap (λ (s : SumState). s.claim) same);
        adds = ap (λ (s : SumState). eqb s.expected product) same ∙ h;
      }
  none_later claim j expected rs last (b ∷ bs) t is e h = absurd (cc)

  -- a polynomial that adds up, and those behind it
  one_more : (claim : ℤ) (expected x : ℕ) (r : List ℕ) (polynomials : List ℕ → Coefficients) (c : Coefficients) (t : SumState) → c ≡ polynomials [] → eqb (sum_of_ends p c) expected ≡ true
      → Ended claim (value_at p c x) (replies (λ v. polynomials (x ∷ v)) r) r t → Ended claim expected (replies polynomials (x ∷ r)) (x ∷ r) t
  unfolding adds_up
  one_more claim expected x r polynomials c t is adds rest = record {
    stays = rest.stays;
    adds =
        ap (λ cs. adds_up p product expected cs (x ∷ r)) (replies-more polynomials x r)
        ∙ ap (λ k. adds_up p product expected (k ∷ replies (λ v. polynomials (x ∷ v)) r) (x ∷ r)) (sym is)
        ∙ and_from (eqb (sum_of_ends p c) expected) (adds_up p product (value_at p c x) (replies (λ v. polynomials (x ∷ v)) r) r) adds rest.adds;
  }

  later : (r : List ℕ) (claim : ℤ) (j expected : ℕ) (last : Coefficients) (strategy : Strategy) (all : List (List ℕ)) (t : SumState) → all_there (replies strategy r) ≡ Some all
      → run_from R j r (known claim expected last) all ≡ Ok t → eqb t.expected product ≡ true → Ended claim expected (replies (later_said version strategy) r) r t
  unfolding bytes_in
  later [] claim j expected last strategy all t there e h = none_later claim j expected [] last all t (all_there-nil all there) e h
  later (x ∷ r) claim j expected last strategy all t there e h =
      let its = all_there-cons (strategy []) (replies (λ v. strategy (x ∷ v)) r) all (ap all_there (sym (replies-more strategy x r)) ∙ there) in
      let parts = run_parts R j (x ∷ r) (known claim expected last) its.head its.tail t (ap (run_from R j (x ∷ r) (known claim expected last)) its.whole ∙ e) in
      let c : Coefficients = polynomial_in version its.head in
      let now = later_adds version p claim expected last its.head parts.next parts.first in
      let rest = later r claim (j + 1) (value_at p c x) c (λ v. strategy (x ∷ v)) its.tail t its.is_tail
      (ap (λ (s : SumState). run_from R (j + 1) r (record s { expected = value_at p s.last x }) its.tail) now.is ∙ parts.rest) h in
      one_more claim expected x r (later_said version strategy) c t
      (ap (λ (o : Option (List ℕ)). polynomial_in version (bytes_in o)) (sym its.is_head)) now.adds rest

-- ---- all replies

-- what all replies of a strategy state
module _ (version : Version) (p product x : ℕ) (strategy : Strategy) (r : List ℕ) where
  abbrev S : Rules SumState
  S = sum_rules version p

  abbrev claim : ℤ
  claim = claim_said version strategy

  from_first : (all : List (List ℕ)) (t : SumState) (its : There (strategy []) (replies (λ v. strategy (x ∷ v)) r) all) (bytes : List ℕ) → strategy [] ≡ Some bytes
      → Adds p (claim_in version bytes) (residue p (claim_in version bytes)) (first_polynomial_in version bytes) t
      → Adds p claim (residue p claim) (polynomials_said version strategy []) t
  unfolding claim_said polynomials_said bytes_in
  from_first all t its bytes is adds =
      subst (λ (o : Option (List ℕ)). Adds p (claim_in version (bytes_in o)) (residue p (claim_in version (bytes_in o))) (first_polynomial_in version (bytes_in o)) t) (sym is) adds

  said_by : (all : List (List ℕ)) (t u : SumState) (head : List ℕ) (tail : List (List ℕ)) → head ∷ tail ≡ all → read_reply S S.start head ≡ Ok t → t.claim ≡ Some claim → said version p all ≡ Some claim
  said_by all t u head tail whole e its =
      ap (λ (l : List (List ℕ)). said version p l) (sym whole)
      ∙ ap claim_of (run_is S 0 [] S.start head [] t e ∙ run_none S 1 [] t) ∙ its

  -- the polynomials that the strategy says add up, and its claim is what the replies say
  pub record SaidBy (all : List (List ℕ)) : Type 0 where
    pub adds : adds_up p product (residue p claim) (replies (polynomials_said version strategy) (x ∷ r)) (x ∷ r) ≡ true
    pub says : said version p all ≡ Some claim

  -- so it is where the replies pass all tests
  pub said_stated : (all : List (List ℕ)) (s : SumState) → all_there (replies strategy (x ∷ r)) ≡ Some all → run S (x ∷ r) all ≡ Ok s → eqb s.expected product ≡ true → SaidBy all
  unfolding polynomials_said
  said_stated all s there e h =
      let its = all_there-cons (strategy []) (replies (λ v. strategy (x ∷ v)) r) all (ap all_there (sym (replies-more strategy x r)) ∙ there) in
      let parts = run_parts S 0 (x ∷ r) S.start its.head its.tail s (ap (run S (x ∷ r)) its.whole ∙ e) in
      let now = from_first all parts.next its its.head its.is_head (first_adds version p its.head parts.next parts.first) in
      let c : Coefficients = polynomials_said version strategy [] in
      let rest = later version p product r claim 1 (value_at p c x) c (λ v. strategy (x ∷ v)) its.tail s its.is_tail
      (ap (λ (t : SumState). run_from S 1 r (record t { expected = value_at p t.last x }) its.tail) now.is ∙ parts.rest) h in
      record {
        adds = (one_more version p product claim (residue p claim) x r (polynomials_said version strategy) c s refl now.adds rest).adds;
        says = said_by all parts.next s its.head its.tail its.whole parts.first (sym (ap (λ (t : SumState). t.claim) now.is));
      }

-- ---- what replies say

module _ (version : Version) (p : ℕ) where
  abbrev Q : Rules SumState
  Q = sum_rules version p

  -- a claim that came stays
  claim_stays : (all : List (List ℕ)) (claim : ℤ) (j expected : ℕ) (rs : List ℕ) (last : Coefficients) (t : SumState) → run_from Q j rs (known claim expected last) all ≡ Ok t → t.claim ≡ Some claim
  claim_stays [] claim j expected rs last t e =
      let same : known claim expected last ≡ t = same_ok {E = Fault} (known claim expected last) t (sym (run_none Q j rs (known claim expected last)) ∙ e) in
      sym (ap (λ (s : SumState). s.claim) same)
  claim_stays (b ∷ bs) claim j expected [] last t e =
      let parts = run_parts Q j [] (known claim expected last) b bs t e in
      let now = later_adds version p claim expected last b parts.next parts.first in
      claim_stays bs claim (j + 1) expected [] (polynomial_in version b) t (ap (λ (s : SumState). run_from Q (j + 1) [] s bs) now.is ∙ parts.rest)
  claim_stays (b ∷ bs) claim j expected (r ∷ rs) last t e =
      let parts = run_parts Q j (r ∷ rs) (known claim expected last) b bs t e in
      let now = later_adds version p claim expected last b parts.next parts.first in
      let c : Coefficients = polynomial_in version b in
      claim_stays bs claim (j + 1) (value_at p c r) rs c t
      (ap (λ (s : SumState). run_from Q (j + 1) rs (record s { expected = value_at p s.last r }) bs) now.is ∙ parts.rest)

  -- the claim that replies state is the one that they say
  pub run_says : (r : List ℕ) (all : List (List ℕ)) (s : SumState) (claim : ℤ) → run Q r all ≡ Ok s → s.claim ≡ Some claim → said version p all ≡ Some claim
  run_says r [] s claim e is =
      let same : Q.start ≡ s = same_ok {E = Fault} Q.start s (sym (run_none Q 0 r Q.start) ∙ e) in
      let none : None ≡ Some claim = ap (λ (t : SumState). t.claim) same ∙ is in
      absurd (cc)
  run_says r (b ∷ bs) s claim e is =
      let parts = run_parts Q 0 r Q.start b bs s e in
      let now = first_adds version p b parts.next parts.first in
      let its : ℤ = claim_in version b in
      let stays = by_challenges r its (first_polynomial_in version b) parts.next now.is parts.rest in
      ap claim_of (run_is Q 0 [] Q.start b [] parts.next parts.first ∙ run_none Q 1 [] parts.next)
      ∙ sym (ap (λ (t : SumState). t.claim) now.is) ∙ sym stays ∙ is
    where
      by_challenges : (r : List ℕ) (its : ℤ) (c : Coefficients) (next : SumState) → known its (residue p its) c ≡ next → run_from Q 1 (drop 1 r) (learnt Q r next) bs ≡ Ok s → s.claim ≡ Some its
      by_challenges [] its c next is h = claim_stays bs its 1 (residue p its) [] c s (ap (λ (t : SumState). run_from Q 1 [] t bs) is ∙ h)
      by_challenges (x ∷ xs) its c next is h =
          claim_stays bs its 1 (value_at p c x) xs c s (ap (λ (t : SumState). run_from Q 1 xs (record t { expected = value_at p t.last x }) bs) is ∙ h)

-- ---- replies that are accepted

-- what accepted replies state
pub record Accepted (version : Version) (p product : ℕ) (r : List ℕ) (all : List (List ℕ)) : Type 0 where
  pub s : SumState
  pub states : run (sum_rules version p) r all ≡ Ok s
  pub some : ℤ
  pub claim : s.claim ≡ Some some
  pub ends : eqb s.expected product ≡ true

-- what a claim comes to behind the last reply, by the test of the root
abbrev pub tested : List ℕ → Bool → ℤ → Result Answer Fault
tested r test claim = in_round (length r) (needs test reasons.Root >>= λ _. Ok (number claim))

module _ (version : Version) (p product : ℕ) (r : List ℕ) (all : List (List ℕ)) where
  root_passed : (s : SumState) (claim : ℤ) (test : Bool) → run (sum_rules version p) r all ≡ Ok s → s.claim ≡ Some claim → eqb s.expected product ≡ test → is_ok (tested r test claim) ≡ true → Accepted version p product r all
  root_passed s claim true is its root k = record { s = s; states = is; some = claim; claim = its; ends = root }
  root_passed s claim false is its root k = absurd (cc)

  claim_passed : (s : SumState) (o : Option ℤ) → run (sum_rules version p) r all ≡ Ok s → s.claim ≡ o → is_ok (in_round (length r) (claimed (sum_asked version p product) s o)) ≡ true → Accepted version p product r all
  claim_passed s None is its k = absurd (cc)
  claim_passed s (Some claim) is its k = root_passed s claim (eqb s.expected product) is its refl k

  all_passed : (q : Result SumState Fault) → run (sum_rules version p) r all ≡ q → is_ok (q >>= λ s. in_round (length r) (claimed (sum_asked version p product) s s.claim)) ≡ true → Accepted version p product r all
  all_passed (Err fault) is k = absurd (cc)
  all_passed (Ok s) is k = claim_passed s s.claim is refl k

-- replies that are accepted state a claim, and pass the last test
pub accepted_parts : (version : Version) (p : ℕ) (first second : List ℤ) (r : List ℕ) (all : List (List ℕ)) → accepts_sum version p first second r all ≡ true → Accepted version p (product_at p first second r) r all
accepted_parts version p first second r all h =
    let product : ℕ = product_at p first second r in
    all_passed version p product r all (run (sum_rules version p) r all) refl
    (and_parts (eqb (length all) (length r)) (is_ok (verdict (sum_protocol (sum_asked version p product)) r all)) h).1
