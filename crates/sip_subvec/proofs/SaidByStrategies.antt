-- What the replies of a strategy of bytes state is what a strategy of siblings says, with entries that no challenge changes.
use Rattle.std.proofs.Common.{◌≡◌, ℕ, ◌+◌, ◌/◌, Bool, true, false, eqb, is_ok, Option, Some, Result, Ok, Err, List, [], ◌∷◌, ◌++◌, length, drop, refl, ap, sym, ◌∙◌, subst, append_assoc, append-nil}
use Rattle.std.proofs.lemmas.Bool.{and_parts, and_from}
use Rattle.sip_vector.specs.declared.update.Entry.{Entry}
use Rattle.sip_vector.specs.Answers.{Answer, pairs}
use Rattle.sip_vector.specs.Steps.{◌>>=◌, needs}
use Rattle.sip_wire.specs.declared.message.Reason.{Reason}
use Rattle.sip_wire.specs.declared.message.Reason.TheVariants as reasons
use Rattle.sip_wire.specs.declared.version.Version.{Version}
use Rattle.sip_counts.specs.Strategies.{Strategy, replies, all_there}
use Rattle.sip_counts.proofs.Talks.{all_there-cons, all_there-nil, bytes_in, replies-more}
use Rattle.sip_replies.specs.Replies.{Fault, in_round, read_reply, run_from, run, verdict}
use Rattle.sip_replies.proofs.Passing.{step_passed, same_ok}
use Rattle.sip_subvec.specs.AcceptsSub.{Siblings, Stated, gives_root}
use Rattle.sip_subvec.specs.Counting.{accepts_sub, are_all_asked, rise_within}
use Rattle.sip_subvec.specs.Examples.{neither}
use Rattle.sip_subvec.specs.Protocol.{at_level, sub_asked, sub_protocol, sub_rules}
use Rattle.sip_subvec.specs.Replies.{are_asked}
use Rattle.sip_subvec.proofs.FirstReply.{FirstKept, in_part, as_whole, first_rises}
use Rattle.sip_subvec.proofs.Halvings.{level_more}
use Rattle.sip_subvec.proofs.LaterReply.{later_reply, later_whole, later_reply-asked, known, with_siblings}
use Rattle.sip_subvec.proofs.Runs.{run_parts, run_none, stated_as}

-- ---- later replies

-- no siblings where a reply has a fault
pub siblings_in : {E : Type 0} → Result Siblings E → Siblings
siblings_in (Ok s) = s
siblings_in (Err _) = neither

-- what a strategy's later replies say, for the interval of their level
pub later_said : Version → ℕ → ℕ → Strategy → List ℕ → Siblings
later_said version lo hi strategy [] = siblings_in (later_reply version lo hi (bytes_in (strategy [])))
later_said version lo hi strategy (x ∷ v) =
    later_said version (lo / 2) (hi / 2) (λ w. strategy (x ∷ w)) v

pub record LaterSaid (version : Version) (lo hi : ℕ) (strategy : Strategy) (r : List ℕ)
    (ss : List Siblings) : Type 0 where
  pub same : ss ≡ replies (later_said version lo hi strategy) r
  pub asked : are_all_asked lo hi ss ≡ true

none_said : (version : Version) (lo hi : ℕ) (strategy : Strategy)
    → LaterSaid version lo hi strategy [] []
unfolding are_all_asked
none_said version lo hi strategy = record { same = refl; asked = refl }

said_here : (version : Version) (lo hi : ℕ) (strategy : Strategy) (bytes : List ℕ) (s : Siblings)
    → strategy [] ≡ Some bytes → later_reply version lo hi bytes ≡ Ok s
    → s ≡ later_said version lo hi strategy []
unfolding later_said siblings_in bytes_in
said_here version lo hi strategy bytes s is e =
    sym (ap (λ (o : Option (List ℕ)). siblings_in (later_reply version lo hi (bytes_in o))) is
    ∙ ap siblings_in e)

one_more_said : (version : Version) (lo hi x : ℕ) (strategy : Strategy) (r : List ℕ) (s : Siblings)
    (others : List Siblings) → s ≡ later_said version lo hi strategy [] → are_asked lo hi s ≡ true
    → LaterSaid version (lo / 2) (hi / 2) (λ w. strategy (x ∷ w)) r others
    → LaterSaid version lo hi strategy (x ∷ r) (s ∷ others)
unfolding later_said are_all_asked
one_more_said version lo hi x strategy r s others here asked rest = record {
  same =
      ap (λ k. k ∷ others) here
      ∙ ap (λ k. later_said version lo hi strategy [] ∷ k) rest.same
      ∙ sym (replies-more (later_said version lo hi strategy) x r);
  asked = and_from (are_asked lo hi s) (are_all_asked (lo / 2) (hi / 2) others) asked rest.asked;
}

-- later replies add what the strategy says to what is known
record Continued (version : Version) (es : List Entry) (x : Siblings) (xs : List Siblings)
    (low high : ℕ) (strategy : Strategy) (r : List ℕ) (t : Stated) : Type 0 where
  ss : List Siblings
  all : record { entries = es; siblings = (x ∷ xs) ++ ss } ≡ t
  said : LaterSaid version low high strategy r ss

module _ (version : Version) (lo hi : ℕ) (es : List Entry) (x : Siblings) where
  none_continued : (j : ℕ) (rs : List ℕ) (xs : List Siblings) (low high : ℕ) (strategy : Strategy)
      (all : List (List ℕ)) (t : Stated) → [] ≡ all
      → run_from (sub_rules version lo hi) j rs (known es x xs) all ≡ Ok t
      → Continued version es x xs low high strategy [] t
  none_continued j rs xs low high strategy [] t is e = record {
    ss = [];
    all =
        ap (stated_as es) (append-nil (x ∷ xs))
        ∙ same_ok {E = Fault} (known es x xs) t
        (sym (run_none version lo hi j rs (known es x xs)) ∙ e);
    said = none_said version low high strategy;
  }
  none_continued j rs xs low high strategy (b ∷ bs) t is e = absurd (cc)

  continued : (r : List ℕ) (j : ℕ) (rs : List ℕ) (xs : List Siblings) (low high : ℕ)
      (strategy : Strategy) (all : List (List ℕ)) (t : Stated) → at_level (x ∷ xs) lo ≡ low
      → at_level (x ∷ xs) hi ≡ high → all_there (replies strategy r) ≡ Some all
      → run_from (sub_rules version lo hi) j rs (known es x xs) all ≡ Ok t
      → Continued version es x xs low high strategy r t
  continued [] j rs xs low high strategy all t at_low at_high there e =
      none_continued j rs xs low high strategy all t (all_there-nil all there) e
  continued (c ∷ r) j rs xs low high strategy all t at_low at_high there e =
      let its = all_there-cons (strategy []) (replies (λ v. strategy (c ∷ v)) r) all
      (ap all_there (sym (replies-more strategy c r)) ∙ there) in
      let parts = run_parts version lo hi j rs (known es x xs) its.head its.tail t
      (ap (run_from (sub_rules version lo hi) j rs (known es x xs)) its.whole ∙ e) in
      let s = step_passed {B = Stated}
      (later_reply version (at_level (x ∷ xs) lo) (at_level (x ∷ xs) hi) its.head)
      (λ y. Ok (with_siblings (known es x xs) y)) parts.next
      (sym (later_whole lo hi es x xs version its.head) ∙ parts.first) in
      let next : with_siblings (known es x xs) s.x ≡ parts.next = same_ok {E = Reason} _ _ s.then in
      let here : later_reply version low high its.head ≡ Ok s.x =
      ap (λ (l : ℕ). later_reply version l high its.head) (sym at_low)
      ∙ ap (λ (h : ℕ). later_reply version (at_level (x ∷ xs) lo) h its.head) (sym at_high)
      ∙ s.first in
      let rest = continued r (j + 1) (drop 1 rs) (xs ++ s.x ∷ []) (low / 2) (high / 2)
      (λ v. strategy (c ∷ v)) its.tail t (level_more x s.x xs lo low at_low)
      (level_more x s.x xs hi high at_high) its.is_tail
      (ap (λ (u : Stated). run_from (sub_rules version lo hi) (j + 1) (drop 1 rs) u its.tail) next
      ∙ parts.rest) in
      record {
        ss = s.x ∷ rest.ss;
        all = ap (stated_as es) (sym (append_assoc (x ∷ xs) (s.x ∷ []) rest.ss)) ∙ rest.all;
        said = one_more_said version low high c strategy r s.x rest.ss
            (said_here version low high strategy its.head s.x its.is_head here)
            (later_reply-asked version low high its.head s.x here) rest.said;
      }

-- ---- all replies

-- nothing where reply 0 has a fault
state_in : {E : Type 0} → Result Stated E → Stated
state_in (Ok t) = t
state_in (Err _) = in_part []

first_of : List Siblings → Siblings
first_of [] = neither
first_of (x ∷ xs) = x

-- what a strategy's reply 0 says
first_said : Version → ℕ → ℕ → Strategy → Stated
first_said version lo hi strategy =
    state_in (read_reply (sub_rules version lo hi) (in_part []) (bytes_in (strategy [])))

pub entries_said : Version → ℕ → ℕ → Strategy → List Entry
entries_said version lo hi strategy = (first_said version lo hi strategy).entries

pub siblings_said : Version → ℕ → ℕ → Strategy → List ℕ → Siblings
siblings_said version lo hi strategy [] = first_of (first_said version lo hi strategy).siblings
siblings_said version lo hi strategy (x ∷ v) =
    later_said version (lo / 2) (hi / 2) (λ w. strategy (x ∷ w)) v

-- what all replies of a strategy state, and the bytes of reply 0
pub record Said (version : Version) (lo hi : ℕ) (strategy : Strategy) (r : List ℕ) (s : Stated)
    : Type 0 where
  pub bytes : List ℕ
  pub siblings_0 : Siblings
  pub is_first : strategy [] ≡ Some bytes
  pub first : read_reply (sub_rules version lo hi) (in_part []) bytes
      ≡ Ok (as_whole s.entries siblings_0)
  pub entries : s.entries ≡ entries_said version lo hi strategy
  pub siblings : s.siblings ≡ replies (siblings_said version lo hi strategy) r
  pub rise : rise_within lo hi s.entries ≡ true
  pub asked : are_all_asked lo hi s.siblings ≡ true

first_said-is : (version : Version) (lo hi : ℕ) (strategy : Strategy) (bytes : List ℕ) (t : Stated)
    → strategy [] ≡ Some bytes
    → read_reply (sub_rules version lo hi) (in_part []) bytes ≡ Ok t
    → t ≡ first_said version lo hi strategy
unfolding first_said state_in bytes_in
first_said-is version lo hi strategy bytes t is e =
    sym (ap (λ (o : Option (List ℕ)). state_in
    (read_reply (sub_rules version lo hi) (in_part []) (bytes_in o))) is ∙ ap state_in e)

module _ (version : Version) (lo hi x : ℕ) (strategy : Strategy) (r : List ℕ) where
  said_from : (bytes : List ℕ) (t : Stated) (ss : List Siblings) → strategy [] ≡ Some bytes
      → read_reply (sub_rules version lo hi) (in_part []) bytes ≡ Ok t
      → (kept : FirstKept lo hi (λ es. rise_within lo hi es ≡ true) t)
      → LaterSaid version (lo / 2) (hi / 2) (λ w. strategy (x ∷ w)) r ss
      → Said version lo hi strategy (x ∷ r) (stated_as t.entries (kept.x ∷ ss))
  unfolding entries_said siblings_said first_of are_all_asked
  said_from bytes t ss is e kept later =
      let same = first_said-is version lo hi strategy bytes t is e in
      let whole = kept.one ∙ same in
      record {
        bytes = bytes;
        siblings_0 = kept.x;
        is_first = is;
        first = e ∙ ap (λ (u : Stated). Ok u) (sym kept.one);
        entries = ap (λ (u : Stated). u.entries) same;
        siblings =
            ap (λ (u : Stated). first_of u.siblings ∷ ss) whole
            ∙ ap (λ k. siblings_said version lo hi strategy [] ∷ k) later.same
            ∙ sym (replies-more (siblings_said version lo hi strategy) x r);
        rise = kept.keeps;
        asked = and_from (are_asked lo hi kept.x) (are_all_asked (lo / 2) (hi / 2) ss) kept.asked
            later.asked;
      }

  -- what they state is what the strategy says
  pub said-stated : (rs : List ℕ) (all : List (List ℕ)) (s : Stated)
      → all_there (replies strategy (x ∷ r)) ≡ Some all
      → run (sub_rules version lo hi) rs all ≡ Ok s → Said version lo hi strategy (x ∷ r) s
  said-stated rs all s there e =
      let its = all_there-cons (strategy []) (replies (λ v. strategy (x ∷ v)) r) all
      (ap all_there (sym (replies-more strategy x r)) ∙ there) in
      let parts = run_parts version lo hi 0 rs (in_part []) its.head its.tail s
      (ap (run (sub_rules version lo hi) rs) its.whole ∙ e) in
      let kept = first_rises version lo hi its.head parts.next parts.first in
      let rest = continued version lo hi parts.next.entries kept.x r 1 (drop 1 rs) [] (lo / 2)
      (hi / 2) (λ v. strategy (x ∷ v)) its.tail s refl refl its.is_tail
      (ap (λ (u : Stated). run_from (sub_rules version lo hi) 1 (drop 1 rs) u its.tail) kept.one
      ∙ parts.rest) in
      subst (Said version lo hi strategy (x ∷ r)) rest.all
      (said_from its.head parts.next rest.ss its.is_head parts.first kept rest.said)

-- ---- replies that are accepted

pub record Accepted (version : Version) (p top lo hi : ℕ) (r : List ℕ) (all : List (List ℕ))
    : Type 0 where
  pub s : Stated
  pub states : run (sub_rules version lo hi) r all ≡ Ok s
  pub root : gives_root p top lo hi r s ≡ true

abbrev after_root : Bool → ℕ → List Entry → Result Answer Fault
after_root test d es = in_round d (needs test reasons.Root >>= λ _. Ok (pairs es))

module _ (version : Version) (p top lo hi : ℕ) (r : List ℕ) (all : List (List ℕ)) where
  root_passed : (s : Stated) (test : Bool) → run (sub_rules version lo hi) r all ≡ Ok s
      → gives_root p top lo hi r s ≡ test → is_ok (after_root test (length r) s.entries) ≡ true
      → Accepted version p top lo hi r all
  root_passed s true is root k = record { s = s; states = is; root = root }
  root_passed s false is root k = absurd (cc)

  all_passed : (q : Result Stated Fault) → run (sub_rules version lo hi) r all ≡ q
      → is_ok (q >>= λ s. after_root (gives_root p top lo hi r s) (length r) s.entries) ≡ true
      → Accepted version p top lo hi r all
  all_passed (Err fault) is k = absurd (cc)
  all_passed (Ok s) is k = root_passed s (gives_root p top lo hi r s) is refl k

  pub accepted_parts : accepts_sub version p top lo hi r all ≡ true
      → Accepted version p top lo hi r all
  accepted_parts h =
      all_passed (run (sub_rules version lo hi) r all) refl
      (and_parts (eqb (length all) (length r)) (is_ok
      (verdict (sub_protocol (sub_asked version p top lo hi r)) r all)) h).1
