-- A strategy has wrong replies accepted at few vectors of challenges.
use Rattle.std.proofs.Common.{◌≡◌, ◌≢◌, ℕ, zero, suc, ◌*◌, ◌-◌, ◌/◌, ◌<◌, ◌≤◌, ◌^◌, Bool, true, not, eqb, ◌&&◌, Option, Some, None, Ok, List, [], ◌∷◌, length, All, ℤ, nat_abs, refl, ap, sym, ◌∙◌, arith, inl, inr}
use Rattle.std.specs.List.{list_all}
use Rattle.std.specs.Cmp.Lexicographic.{pointwise}
use Rattle.std.proofs.lemmas.Bool.{cases_Bool, and_parts, and_from, eq-eqb, not-true, both_ways, false_from_ne_true}
use Rattle.sip_field.specs.Prime.{IsPrime}
use Rattle.sip_field.specs.Moduli.{m61_modulus}
use Rattle.sip_vector.specs.declared.update.Entry.{Entry}
use Rattle.sip_vector.specs.Trees.{root}
use Rattle.sip_vector.specs.Vectors.{nonzero_within}
use Rattle.sip_counts.specs.Counts.{counted}
use Rattle.sip_counts.specs.Strategies.{Strategy, IsOfBytes, replies, all_there, is_wrong, takes_wrong}
use Rattle.sip_counts.proofs.Vectors.{counted-grows, counted-none}
use Rattle.sip_counts.proofs.Talks.{all_there-nil, replies-length}
use Rattle.sip_replies.proofs.Passing.{same_ok}
use Rattle.sip_replies.specs.SameEntries.{is_same_entry}
use Rattle.sip_replies.proofs.SameEntries.{same_entries}
use Rattle.sip_subvec.specs.AcceptsSub.{Siblings, Stated, gives_root}
use Rattle.sip_wire.specs.declared.version.Version.{Version}
use Rattle.sip_replies.specs.Replies.{Fault, run}
use Rattle.sip_subvec.specs.Checking.{nothing}
use Rattle.sip_subvec.specs.Protocol.{sub_rules}
use Rattle.sip_subvec.specs.Counting.{has_small_value, rise_within, are_all_asked, accepts_stated, entries_of, said, is_right, accepts_sub, accepts_small}
use Rattle.sip_subvec.proofs.FirstReply.{as_whole}
use Rattle.sip_subvec.proofs.Runs.{run_none, same_run}
use Rattle.sip_subvec.proofs.WrongEntries.{few_wrong_entries}
use Rattle.sip_subvec.proofs.SaidByStrategies.{Said, said-stated, entries_said, siblings_said, Accepted, accepted_parts}
use Rattle.sip_subvec.proofs.SmallValues.{first_small}

-- ---- what a vector shows at which wrong replies are taken

record Taken (version : Version) (p lo hi : ℕ) (numbers : List ℤ) (strategy : Strategy) (r : List ℕ) : Type 0 where
  all : List (List ℕ)
  there : all_there (replies strategy r) ≡ Some all
  good : accepts_sub version p (root p numbers r) lo hi r all ≡ true
  wrong : said version lo hi all ≢ nonzero_within lo hi numbers

taken_at : (version : Version) (p lo hi : ℕ) (numbers : List ℤ) (strategy : Strategy) (test : List ℕ → List (List ℕ) → Bool) (r : List ℕ) → ((all : List (List ℕ)) → test r all ≡ true → accepts_sub version p (root p numbers r) lo hi r all ≡ true)
    → takes_wrong test (is_right version lo hi numbers) strategy r ≡ true → (t : Taken version p lo hi numbers strategy r) × (test r t.all ≡ true)
unfolding takes_wrong
taken_at version p lo hi numbers strategy test r good h = by_all (all_there (replies strategy r)) refl h
  where
    by_all : (o : Option (List (List ℕ))) → all_there (replies strategy r) ≡ o → is_wrong (test r) (is_right version lo hi numbers) o ≡ true → (t : Taken version p lo hi numbers strategy r) × (test r t.all ≡ true)
    by_all None is k = absurd (cc)
    by_all (Some all) is k =
        let both = and_parts (test r all) (not (is_right version lo hi numbers all)) k in (
          record {
            all = all;
            there = is;
            good = good all both.0;
            wrong = λ same. both_ways (is_right version lo hi numbers all) (not-true (is_right version lo hi numbers all) both.1) ((same_entries (said version lo hi all) (nonzero_within lo hi numbers)).1 same);
          },
          both.0,
        )

abbrev stated_by : List Entry → List Siblings → Stated
stated_by es ss = record { entries = es; siblings = ss }

-- accepted replies with small values pass all tests of what they state
passes_stated : (version : Version) (p top lo hi : ℕ) (strategy : Strategy) (r : List ℕ) (s : Stated) → Said version lo hi strategy r s → gives_root p top lo hi r s ≡ true → list_all (has_small_value p) s.entries ≡ true
    → accepts_stated p top lo hi r (record { entries = entries_said version lo hi strategy; siblings = replies (siblings_said version lo hi strategy) r }) ≡ true
passes_stated version p top lo hi strategy r s said root small =
    let same : s ≡ stated_by (entries_said version lo hi strategy) (replies (siblings_said version lo hi strategy) r) = ap (λ (k : List Entry). stated_by k s.siblings) said.entries ∙ ap (stated_by (entries_said version lo hi strategy)) said.siblings in
    let long : length s.siblings ≡ length r = ap length said.siblings ∙ replies-length (siblings_said version lo hi strategy) r in
    let whole : accepts_stated p top lo hi r s ≡ true =
    and_from (eqb (length s.siblings) (length r)) (rise_within lo hi s.entries && (list_all (has_small_value p) s.entries && (are_all_asked lo hi s.siblings && gives_root p top lo hi r s))) (eq-eqb (length s.siblings) (length r) long)
    (and_from (rise_within lo hi s.entries) (list_all (has_small_value p) s.entries && (are_all_asked lo hi s.siblings && gives_root p top lo hi r s)) said.rise
    (and_from (list_all (has_small_value p) s.entries) (are_all_asked lo hi s.siblings && gives_root p top lo hi r s) small
    (and_from (are_all_asked lo hi s.siblings) (gives_root p top lo hi r s) said.asked root))) in
    sym (ap (accepts_stated p top lo hi r) same) ∙ whole

-- replies say the entries that they state
pub said_by : (version : Version) (lo hi : ℕ) (rs : List ℕ) (all : List (List ℕ)) (s : Stated)
    → run (sub_rules version lo hi) rs all ≡ Ok s → said version lo hi all ≡ s.entries
said_by version lo hi rs all s is =
    ap entries_of (same_run version lo hi all 0 [] rs nothing ∙ is)

-- no replies state nothing
none_said : (version : Version) (lo hi : ℕ) (all : List (List ℕ)) → [] ≡ all → [] ≡ said version lo hi all
none_said version lo hi all nil =
    sym (said_by version lo hi [] [] nothing (run_none version lo hi 0 [] nothing))
    ∙ ap (said version lo hi) nil

none_stated : (version : Version) (p top lo hi : ℕ) (all : List (List ℕ)) → [] ≡ all → Accepted version p top lo hi [] all → accepts_stated p top lo hi [] (record { entries = []; siblings = [] }) ≡ true
unfolding rise_within are_all_asked
none_stated version p top lo hi all nil a =
    let same : nothing ≡ a.s = same_ok {E = Fault} nothing a.s
    (sym (run_none version lo hi 0 [] nothing) ∙ ap (run (sub_rules version lo hi) []) nil ∙ a.states) in
    ap (gives_root p top lo hi []) same ∙ a.root

-- ---- the count

module _ (version : Version) (p lo hi : ℕ) (numbers : List ℤ) (prime : IsPrime p) (le : lo ≤ hi) (all : All (λ (a : ℤ). nat_abs a ≤ (p - 1) / 2) numbers) where
  -- where each counted vector is one at which these entries are wrong and pass
  by_stated : (d : ℕ) (test : List ℕ → Bool) (entries : List Entry) (siblings : List ℕ → Siblings) → length numbers ≡ 2 ^ d → hi < 2 ^ d
      → ((r : List ℕ) → length r ≡ d → test r ≡ true → (accepts_stated p (root p numbers r) lo hi r (record { entries = entries; siblings = replies siblings r }) ≡ true) × (entries ≢ nonzero_within lo hi numbers))
      → counted p test d ≤ d * p ^ (d - 1)
  by_stated d test entries siblings len lt each =
      elim (cases_Bool (pointwise is_same_entry entries (nonzero_within lo hi numbers))) [
        | inl same ↦ omega (arith, counted-none p d test (λ v e. false_from_ne_true (test v) (λ h. (each v e h).1 ((same_entries entries (nonzero_within lo hi numbers)).0 same))))
        | inr differ ↦
            let few = few_wrong_entries p lo hi numbers entries siblings d prime len le lt all (λ same. both_ways (pointwise is_same_entry entries (nonzero_within lo hi numbers)) differ ((same_entries entries (nonzero_within lo hi numbers)).1 same)) in
            let grows = counted-grows p test (λ r. accepts_stated p (root p numbers r) lo hi r (record { entries = entries; siblings = replies siblings r })) d (λ v e _ h. (each v e h).0) in
            omega arith
      ]

  -- no challenge is revealed, and no reply is taken
  none_asked : (test : List ℕ → List (List ℕ) → Bool) (strategy : Strategy) → ((r : List ℕ) (all : List (List ℕ)) → test r all ≡ true → accepts_sub version p (root p numbers r) lo hi r all ≡ true)
      → length numbers ≡ 2 ^ 0 → hi < 2 ^ 0 → counted p (takes_wrong test (is_right version lo hi numbers) strategy) 0 ≤ 0 * p ^ (0 - 1)
  none_asked test strategy good len lt =
      by_stated 0 (takes_wrong test (is_right version lo hi numbers) strategy) [] (siblings_said version lo hi strategy) len lt each
    where
      at_none : takes_wrong test (is_right version lo hi numbers) strategy [] ≡ true → (accepts_stated p (root p numbers []) lo hi [] (record { entries = []; siblings = [] }) ≡ true) × ([] ≢ nonzero_within lo hi numbers)
      at_none h =
          let t = taken_at version p lo hi numbers strategy test [] (good []) h in
          let nil : [] ≡ t.0.all = all_there-nil t.0.all t.0.there in (
            none_stated version p (root p numbers []) lo hi t.0.all nil (accepted_parts version p (root p numbers []) lo hi [] t.0.all t.0.good),
            λ e. t.0.wrong (sym (none_said version lo hi t.0.all nil) ∙ e),
          )

      each : (r : List ℕ) → length r ≡ 0 → takes_wrong test (is_right version lo hi numbers) strategy r ≡ true → (accepts_stated p (root p numbers r) lo hi r (record { entries = []; siblings = replies (siblings_said version lo hi strategy) r }) ≡ true) × ([] ≢ nonzero_within lo hi numbers)
      each [] e h = at_none h
      each (x ∷ r) e h = absurd (omega arith)

  -- the replies state what the strategy says, with small values
  some_asked : (m : ℕ) (test : List ℕ → List (List ℕ) → Bool) (strategy : Strategy) → ((r : List ℕ) (all : List (List ℕ)) → test r all ≡ true → accepts_sub version p (root p numbers r) lo hi r all ≡ true)
      → ((x : ℕ) (r : List ℕ) (all : List (List ℕ)) (s : Stated) → test (x ∷ r) all ≡ true → run (sub_rules version lo hi) (x ∷ r) all ≡ Ok s → Said version lo hi strategy (x ∷ r) s → list_all (has_small_value p) s.entries ≡ true)
      → length numbers ≡ 2 ^ suc m → hi < 2 ^ suc m → counted p (takes_wrong test (is_right version lo hi numbers) strategy) (suc m) ≤ suc m * p ^ (suc m - 1)
  some_asked m test strategy good small len lt =
      by_stated (suc m) (takes_wrong test (is_right version lo hi numbers) strategy) (entries_said version lo hi strategy) (siblings_said version lo hi strategy) len lt each
    where
      at_some : (x : ℕ) (r : List ℕ) → takes_wrong test (is_right version lo hi numbers) strategy (x ∷ r) ≡ true
          → (accepts_stated p (root p numbers (x ∷ r)) lo hi (x ∷ r) (record { entries = entries_said version lo hi strategy; siblings = replies (siblings_said version lo hi strategy) (x ∷ r) }) ≡ true) × (entries_said version lo hi strategy ≢ nonzero_within lo hi numbers)
      at_some x r h =
          let t = taken_at version p lo hi numbers strategy test (x ∷ r) (good (x ∷ r)) h in
          let a = accepted_parts version p (root p numbers (x ∷ r)) lo hi (x ∷ r) t.0.all t.0.good in
          let s = said-stated version lo hi x strategy r (x ∷ r) t.0.all a.s t.0.there a.states in (
            passes_stated version p (root p numbers (x ∷ r)) lo hi strategy (x ∷ r) a.s s a.root (small x r t.0.all a.s t.1 a.states s),
            λ e. t.0.wrong (said_by version lo hi (x ∷ r) t.0.all a.s a.states ∙ s.entries ∙ e),
          )

      each : (r : List ℕ) → length r ≡ suc m → takes_wrong test (is_right version lo hi numbers) strategy r ≡ true
          → (accepts_stated p (root p numbers r) lo hi r (record { entries = entries_said version lo hi strategy; siblings = replies (siblings_said version lo hi strategy) r }) ≡ true) × (entries_said version lo hi strategy ≢ nonzero_within lo hi numbers)
      each [] e h = absurd (omega arith)
      each (x ∷ r) e h = at_some x r h

  -- any number of challenges
  pub few_fooled : (d : ℕ) (test : List ℕ → List (List ℕ) → Bool) (strategy : Strategy) → ((r : List ℕ) (all : List (List ℕ)) → test r all ≡ true → accepts_sub version p (root p numbers r) lo hi r all ≡ true)
      → ((x : ℕ) (r : List ℕ) (all : List (List ℕ)) (s : Stated) → test (x ∷ r) all ≡ true → run (sub_rules version lo hi) (x ∷ r) all ≡ Ok s → Said version lo hi strategy (x ∷ r) s → list_all (has_small_value p) s.entries ≡ true)
      → length numbers ≡ 2 ^ d → hi < 2 ^ d → counted p (takes_wrong test (is_right version lo hi numbers) strategy) d ≤ d * p ^ (d - 1)
  few_fooled zero test strategy good small len lt = none_asked test strategy good len lt
  few_fooled (suc m) test strategy good small len lt = some_asked m test strategy good small len lt

-- over any prime, where the values are tested to be small
pub few_fooled_small : (version : Version) (p d lo hi : ℕ) (numbers : List ℤ) (strategy : Strategy) → IsPrime p → length numbers ≡ 2 ^ d → lo ≤ hi → hi < 2 ^ d → All (λ a. nat_abs a ≤ (p - 1) / 2) numbers
    → counted p (takes_wrong (λ r. accepts_small version p (root p numbers r) lo hi r) (is_right version lo hi numbers) strategy) d ≤ d * p ^ (d - 1)
few_fooled_small version p d lo hi numbers strategy prime len le lt all =
    few_fooled version p lo hi numbers prime le all d (λ r. accepts_small version p (root p numbers r) lo hi r) strategy
    (λ r replies h. (and_parts (accepts_sub version p (root p numbers r) lo hi r replies) (list_all (has_small_value p) (said version lo hi replies)) h).0)
    (λ x r replies s h is _.
    let small = (and_parts (accepts_sub version p (root p numbers (x ∷ r)) lo hi (x ∷ r) replies) (list_all (has_small_value p) (said version lo hi replies)) h).1 in
    sym (ap (list_all (has_small_value p)) (said_by version lo hi (x ∷ r) replies s is)) ∙ small)
    len lt

-- over 2^61 - 1, where the replies are bytes
pub few_fooled_bytes : (version : Version) (d lo hi : ℕ) (numbers : List ℤ) (strategy : Strategy) → IsPrime m61_modulus → length numbers ≡ 2 ^ d → lo ≤ hi → hi < 2 ^ d → All (λ a. nat_abs a ≤ (m61_modulus - 1) / 2) numbers → IsOfBytes strategy
    → counted m61_modulus (takes_wrong (λ r. accepts_sub version m61_modulus (root m61_modulus numbers r) lo hi r) (is_right version lo hi numbers) strategy) d ≤ d * m61_modulus ^ (d - 1)
few_fooled_bytes version d lo hi numbers strategy prime len le lt all bytes =
    few_fooled version m61_modulus lo hi numbers prime le all d (λ r. accepts_sub version m61_modulus (root m61_modulus numbers r) lo hi r) strategy
    (λ r replies h. h)
    (λ x r replies s h is said. first_small version lo hi said.bytes (as_whole s.entries said.siblings_0) (bytes [] said.bytes said.is_first) said.first)
    len lt
