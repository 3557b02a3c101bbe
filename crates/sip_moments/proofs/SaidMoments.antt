-- What the replies of a strategy of bytes state is what a strategy of polynomials says, with a claim
-- that no challenge changes.
use Rattle.std.proofs.Common.{◌≡◌, ℕ, ◌+◌, Bool, true, false, eqb, is_ok, Option, Some, None, Result, Ok, Err, List, [], ◌∷◌, length, drop, ℤ, refl, ap, sym, ◌∙◌, subst}
use Rattle.std.proofs.lemmas.Bool.{and_parts, and_from}
use Rattle.sip_field.specs.Residue.{residue}
use Rattle.sip_vector.specs.Steps.{◌>>=◌}
use Rattle.sip_wire.specs.declared.version.Version.{Version}
use Rattle.sip_counts.specs.Rounds.{adds_up, is_expected, value_at}
use Rattle.sip_counts.specs.Strategies.{Strategy, replies, all_there}
use Rattle.sip_counts.proofs.Talks.{There, all_there-cons, all_there-nil, bytes_in, replies-more}
use Rattle.sip_replies.proofs.Passing.{run_is, run_none, run_parts, same_ok}
use Rattle.sip_replies.specs.Protocols.{Rules}
use Rattle.sip_replies.specs.Replies.{Fault, in_round, learnt, read_reply, run_from, run, verdict}
use Rattle.sip_sums.proofs.ReadSums.{claim_in}
use Rattle.sip_sums.proofs.SaidSums.{claim_said, tested}
use Rattle.sip_moments.specs.AcceptsMoment.{power_at}
use Rattle.sip_moments.specs.Counting.{claim_of, said, accepts_moment}
use Rattle.sip_moments.specs.Protocol.{MomentState, moment_asked, moment_protocol, moment_rules, claimed}
use Rattle.sip_moments.proofs.ReadMoments.{known, Adds, polynomial_in, first_polynomial_in, first_adds, later_adds}

-- what a strategy's later replies say
abbrev later_said : Version → ℕ → Strategy → List ℕ → List ℕ
later_said version k strategy v = polynomial_in version k (bytes_in (strategy v))

-- the polynomial of each reply, that of reply 0 behind the claim
pub polynomials_said : Version → ℕ → Strategy → List ℕ → List ℕ
polynomials_said version k strategy [] = first_polynomial_in version k (bytes_in (strategy []))
polynomials_said version k strategy (x ∷ v) = later_said version k strategy (x ∷ v)

-- ---- later replies

module _ (version : Version) (p k power : ℕ) where
  abbrev R : Rules MomentState
  R = moment_rules version p k

  -- From what is known the polynomials of the replies add up to the power, and the claim stays.
  pub record Ended (claim : ℤ) (expected : ℕ) (cs : List (List ℕ)) (r : List ℕ) (t : MomentState) : Type 0 where
    pub stays : t.claim ≡ Some claim
    pub adds : adds_up p k power expected cs r ≡ true

  none_later : (claim : ℤ) (j expected : ℕ) (rs : List ℕ) (last : List ℕ) (all : List (List ℕ)) (t : MomentState) → [] ≡ all
      → run_from R j rs (known claim expected last) all ≡ Ok t → eqb t.expected power ≡ true → Ended claim expected [] [] t
  unfolding adds_up
  none_later claim j expected rs last [] t is e h =
      let same : known claim expected last ≡ t = same_ok {E = Fault} (known claim expected last) t (sym (run_none R j rs (known claim expected last)) ∙ e) in
      record {
        stays = sym (ap (λ (s : MomentState). s.claim) same);
        adds = ap (λ (s : MomentState). eqb s.expected power) same ∙ h;
      }
  none_later claim j expected rs last (b ∷ bs) t is e h = absurd (cc)

  -- a polynomial that adds up, and those behind it
  one_more : (claim : ℤ) (expected x : ℕ) (r : List ℕ) (polynomials : List ℕ → List ℕ) (c : List ℕ) (t : MomentState) → c ≡ polynomials [] → is_expected p k expected c ≡ true
      → Ended claim (value_at p c x) (replies (λ v. polynomials (x ∷ v)) r) r t → Ended claim expected (replies polynomials (x ∷ r)) (x ∷ r) t
  unfolding adds_up
  one_more claim expected x r polynomials c t is adds rest = record {
    stays = rest.stays;
    adds =
        ap (λ cs. adds_up p k power expected cs (x ∷ r)) (replies-more polynomials x r)
        ∙ ap (λ y. adds_up p k power expected (y ∷ replies (λ v. polynomials (x ∷ v)) r) (x ∷ r)) (sym is)
        ∙ and_from (is_expected p k expected c) (adds_up p k power (value_at p c x) (replies (λ v. polynomials (x ∷ v)) r) r) adds rest.adds;
  }

  later : (r : List ℕ) (claim : ℤ) (j expected : ℕ) (last : List ℕ) (strategy : Strategy) (all : List (List ℕ)) (t : MomentState) → all_there (replies strategy r) ≡ Some all
      → run_from R j r (known claim expected last) all ≡ Ok t → eqb t.expected power ≡ true → Ended claim expected (replies (later_said version k strategy) r) r t
  unfolding bytes_in
  later [] claim j expected last strategy all t there e h = none_later claim j expected [] last all t (all_there-nil all there) e h
  later (x ∷ r) claim j expected last strategy all t there e h =
      let its = all_there-cons (strategy []) (replies (λ v. strategy (x ∷ v)) r) all (ap all_there (sym (replies-more strategy x r)) ∙ there) in
      let parts = run_parts R j (x ∷ r) (known claim expected last) its.head its.tail t (ap (run_from R j (x ∷ r) (known claim expected last)) its.whole ∙ e) in
      let c : List ℕ = polynomial_in version k its.head in
      let now = later_adds version p k claim expected last its.head parts.next parts.first in
      let rest = later r claim (j + 1) (value_at p c x) c (λ v. strategy (x ∷ v)) its.tail t its.is_tail
      (ap (λ (s : MomentState). run_from R (j + 1) r (record s { expected = value_at p s.last x }) its.tail) now.is ∙ parts.rest) h in
      one_more claim expected x r (later_said version k strategy) c t
      (ap (λ (o : Option (List ℕ)). polynomial_in version k (bytes_in o)) (sym its.is_head)) now.adds rest

-- ---- all replies

-- what all replies of a strategy state
module _ (version : Version) (p k power x : ℕ) (strategy : Strategy) (r : List ℕ) where
  abbrev S : Rules MomentState
  S = moment_rules version p k

  abbrev claim : ℤ
  claim = claim_said version strategy

  from_first : (all : List (List ℕ)) (t : MomentState) (its : There (strategy []) (replies (λ v. strategy (x ∷ v)) r) all) (bytes : List ℕ) → strategy [] ≡ Some bytes
      → Adds p k (claim_in version bytes) (residue p (claim_in version bytes)) (first_polynomial_in version k bytes) t
      → Adds p k claim (residue p claim) (polynomials_said version k strategy []) t
  unfolding claim_said polynomials_said bytes_in
  from_first all t its bytes is adds =
      subst (λ (o : Option (List ℕ)). Adds p k (claim_in version (bytes_in o)) (residue p (claim_in version (bytes_in o))) (first_polynomial_in version k (bytes_in o)) t) (sym is) adds

  said_by : (all : List (List ℕ)) (t u : MomentState) (head : List ℕ) (tail : List (List ℕ)) → head ∷ tail ≡ all → read_reply S S.start head ≡ Ok t → t.claim ≡ Some claim → said version p k all ≡ Some claim
  said_by all t u head tail whole e its =
      ap (λ (l : List (List ℕ)). said version p k l) (sym whole)
      ∙ ap claim_of (run_is S 0 [] S.start head [] t e ∙ run_none S 1 [] t) ∙ its

  -- the polynomials that the strategy says add up, and its claim is what the replies say
  pub record SaidBy (all : List (List ℕ)) : Type 0 where
    pub adds : adds_up p k power (residue p claim) (replies (polynomials_said version k strategy) (x ∷ r)) (x ∷ r) ≡ true
    pub says : said version p k all ≡ Some claim

  -- so it is where the replies pass all tests
  pub said_stated : (all : List (List ℕ)) (s : MomentState) → all_there (replies strategy (x ∷ r)) ≡ Some all → run S (x ∷ r) all ≡ Ok s → eqb s.expected power ≡ true → SaidBy all
  unfolding polynomials_said
  said_stated all s there e h =
      let its = all_there-cons (strategy []) (replies (λ v. strategy (x ∷ v)) r) all (ap all_there (sym (replies-more strategy x r)) ∙ there) in
      let parts = run_parts S 0 (x ∷ r) S.start its.head its.tail s (ap (run S (x ∷ r)) its.whole ∙ e) in
      let now = from_first all parts.next its its.head its.is_head (first_adds version p k its.head parts.next parts.first) in
      let c : List ℕ = polynomials_said version k strategy [] in
      let rest = later version p k power r claim 1 (value_at p c x) c (λ v. strategy (x ∷ v)) its.tail s its.is_tail
      (ap (λ (t : MomentState). run_from S 1 r (record t { expected = value_at p t.last x }) its.tail) now.is ∙ parts.rest) h in
      record {
        adds = (one_more version p k power claim (residue p claim) x r (polynomials_said version k strategy) c s refl now.adds rest).adds;
        says = said_by all parts.next s its.head its.tail its.whole parts.first (sym (ap (λ (t : MomentState). t.claim) now.is));
      }

-- ---- what replies say

module _ (version : Version) (p k : ℕ) where
  abbrev Q : Rules MomentState
  Q = moment_rules version p k

  -- a claim that came stays
  claim_stays : (all : List (List ℕ)) (claim : ℤ) (j expected : ℕ) (rs : List ℕ) (last : List ℕ) (t : MomentState) → run_from Q j rs (known claim expected last) all ≡ Ok t → t.claim ≡ Some claim
  claim_stays [] claim j expected rs last t e =
      let same : known claim expected last ≡ t = same_ok {E = Fault} (known claim expected last) t (sym (run_none Q j rs (known claim expected last)) ∙ e) in
      sym (ap (λ (s : MomentState). s.claim) same)
  claim_stays (b ∷ bs) claim j expected [] last t e =
      let parts = run_parts Q j [] (known claim expected last) b bs t e in
      let now = later_adds version p k claim expected last b parts.next parts.first in
      claim_stays bs claim (j + 1) expected [] (polynomial_in version k b) t (ap (λ (s : MomentState). run_from Q (j + 1) [] s bs) now.is ∙ parts.rest)
  claim_stays (b ∷ bs) claim j expected (r ∷ rs) last t e =
      let parts = run_parts Q j (r ∷ rs) (known claim expected last) b bs t e in
      let now = later_adds version p k claim expected last b parts.next parts.first in
      let c : List ℕ = polynomial_in version k b in
      claim_stays bs claim (j + 1) (value_at p c r) rs c t
      (ap (λ (s : MomentState). run_from Q (j + 1) rs (record s { expected = value_at p s.last r }) bs) now.is ∙ parts.rest)

  -- the claim that replies state is the one that they say
  pub run_says : (r : List ℕ) (all : List (List ℕ)) (s : MomentState) (claim : ℤ) → run Q r all ≡ Ok s → s.claim ≡ Some claim → said version p k all ≡ Some claim
  run_says r [] s claim e is =
      let same : Q.start ≡ s = same_ok {E = Fault} Q.start s (sym (run_none Q 0 r Q.start) ∙ e) in
      let none : None ≡ Some claim = ap (λ (t : MomentState). t.claim) same ∙ is in
      absurd (cc)
  run_says r (b ∷ bs) s claim e is =
      let parts = run_parts Q 0 r Q.start b bs s e in
      let now = first_adds version p k b parts.next parts.first in
      let its : ℤ = claim_in version b in
      let stays = by_challenges r its (first_polynomial_in version k b) parts.next now.is parts.rest in
      ap claim_of (run_is Q 0 [] Q.start b [] parts.next parts.first ∙ run_none Q 1 [] parts.next)
      ∙ sym (ap (λ (t : MomentState). t.claim) now.is) ∙ sym stays ∙ is
    where
      by_challenges : (r : List ℕ) (its : ℤ) (c : List ℕ) (next : MomentState) → known its (residue p its) c ≡ next → run_from Q 1 (drop 1 r) (learnt Q r next) bs ≡ Ok s → s.claim ≡ Some its
      by_challenges [] its c next is h = claim_stays bs its 1 (residue p its) [] c s (ap (λ (t : MomentState). run_from Q 1 [] t bs) is ∙ h)
      by_challenges (x ∷ xs) its c next is h =
          claim_stays bs its 1 (value_at p c x) xs c s (ap (λ (t : MomentState). run_from Q 1 xs (record t { expected = value_at p t.last x }) bs) is ∙ h)

-- ---- replies that are accepted

-- what accepted replies state
pub record Accepted (version : Version) (p k power : ℕ) (r : List ℕ) (all : List (List ℕ)) : Type 0 where
  pub s : MomentState
  pub states : run (moment_rules version p k) r all ≡ Ok s
  pub some : ℤ
  pub claim : s.claim ≡ Some some
  pub ends : eqb s.expected power ≡ true

module _ (version : Version) (p k power : ℕ) (r : List ℕ) (all : List (List ℕ)) where
  root_passed : (s : MomentState) (claim : ℤ) (test : Bool) → run (moment_rules version p k) r all ≡ Ok s → s.claim ≡ Some claim → eqb s.expected power ≡ test → is_ok (tested r test claim) ≡ true → Accepted version p k power r all
  root_passed s claim true is its root h = record { s = s; states = is; some = claim; claim = its; ends = root }
  root_passed s claim false is its root h = absurd (cc)

  claim_passed : (s : MomentState) (o : Option ℤ) → run (moment_rules version p k) r all ≡ Ok s → s.claim ≡ o → is_ok (in_round (length r) (claimed (moment_asked version p k power) s o)) ≡ true → Accepted version p k power r all
  claim_passed s None is its h = absurd (cc)
  claim_passed s (Some claim) is its h = root_passed s claim (eqb s.expected power) is its refl h

  all_passed : (q : Result MomentState Fault) → run (moment_rules version p k) r all ≡ q → is_ok (q >>= λ s. in_round (length r) (claimed (moment_asked version p k power) s s.claim)) ≡ true → Accepted version p k power r all
  all_passed (Err fault) is h = absurd (cc)
  all_passed (Ok s) is h = claim_passed s s.claim is refl h

-- replies that are accepted state a claim, and pass the last test
pub accepted_parts : (version : Version) (p k : ℕ) (numbers : List ℤ) (r : List ℕ) (all : List (List ℕ)) → accepts_moment version p k numbers r all ≡ true → Accepted version p k (power_at p k numbers r) r all
accepted_parts version p k numbers r all h =
    let power : ℕ = power_at p k numbers r in
    all_passed version p k power r all (run (moment_rules version p k) r all) refl
    (and_parts (eqb (length all) (length r)) (is_ok (verdict (moment_protocol (moment_asked version p k power)) r all)) h).1
