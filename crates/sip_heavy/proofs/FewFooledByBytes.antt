-- A strategy of bytes has wrong heavy entries accepted at few vectors of challenges.
use Rattle.std.proofs.Common.{◌≡◌, ◌≢◌, ℕ, ◌+◌, ◌-◌, ◌*◌, ◌<◌, ◌≤◌, ◌^◌, true, false, leb, Some, List, [], ◌∷◌, length, map, ℤ, pos, negsuc, ◌≤ℤ◌, ◌+ℤ◌, nat_abs, int_le, All, refl, ap, sym, ◌∙◌, arith}
use Rattle.std.specs.Prelude.{filter}
use Rattle.std.specs.List.{AllByRecursion, enumerate_from}
use Rattle.std.proofs.lemmas.Int.{ints}
use Rattle.std.proofs.lemmas.Bool.{lt-leb}
use Rattle.sip_field.specs.Prime.{IsPrime}
use Rattle.sip_counts.specs.Counts.{counted}
use Rattle.sip_counts.specs.Strategies.{Strategy, replies, takes_wrong}
use Rattle.sip_vector.specs.declared.update.Entry.{Entry}
use Rattle.sip_vector.specs.Answers.{pairs}
use Rattle.sip_vector.specs.Streams.{int_sum}
use Rattle.sip_wire.specs.declared.version.Version.{Version}
use Rattle.sip_replies.specs.Replies.{IsAccepted}
use Rattle.sip_heavy.specs.Counting.{asked_over, heavy_over, accepts_heavy, is_right}
use Rattle.sip_heavy.specs.Honest.{heavy_of}
use Rattle.sip_heavy.proofs.CountLeaves.{count_leaves, counts_few, counts_stand, counts_sum, long_counts}
use Rattle.sip_heavy.proofs.FewBytes as bytes
use Rattle.sip_heavy.proofs.TrueLevels.{sum_positive}

abbrev pub as_entry : ℕ → ℤ → Entry
as_entry i z = record { index = i; value = z }

pub positive_is : (z : ℤ) → pos 0 ≤ℤ z → (n : ℕ) × (z ≡ pos n)
positive_is (pos n) least = (n, refl)
positive_is (negsuc n) least = absurd (omega (arith, ints, least))

-- no number is as much as a threshold above their sum
pub none_heavy : (t i : ℕ) (numbers : List ℤ) → AllByRecursion (λ a. pos 0 ≤ℤ a) numbers → (n : ℕ) → int_sum numbers ≡ pos n → n < t → filter (λ e. int_le (pos t) e.value) (map (λ x. as_entry x.0 x.1) (enumerate_from i numbers)) ≡ []
none_heavy t i [] strict n sum less = refl
none_heavy t i (negsuc k ∷ numbers) strict n sum less = absurd (omega (arith, ints, strict.0))
none_heavy t i (pos k ∷ numbers) strict n sum less =
    let rest = positive_is (int_sum numbers) (sum_positive numbers strict.1) in
    let parts : pos k +ℤ pos rest.0 ≡ pos n = ap (λ z. pos k +ℤ z) (sym rest.1) ∙ sum in
    let both : k + rest.0 ≡ n = cc in
    let light : leb t k ≡ false = lt-leb t k (omega arith) in
    rw light (none_heavy t (i + 1) numbers strict.1 rest.0 rest.1 (omega arith))

module _ (version : Version) (p d t : ℕ) (numbers : List ℤ) where
  pub few_fooled_by_bytes : (strategy : Strategy) → IsPrime p → length numbers ≡ 2 ^ d → All (λ a. pos 0 ≤ℤ a) numbers → nat_abs (int_sum numbers) < p
      → counted p (takes_wrong (accepts_heavy version p d t numbers) (is_right version p d t numbers) strategy) d ≤ 3 * d * p ^ (d - 1)
  few_fooled_by_bytes strategy prime long strict small =
      bytes.few_fooled_by_bytes version p (asked_over d t numbers) (count_leaves p numbers) numbers strategy prime (long_counts p d numbers long) (counts_stand p numbers strict) (counts_sum p numbers) (counts_few p numbers strict small)

  pub written_counts : (strategy : Strategy) (block : List ℕ) (taken : List (List ℕ)) (answer : List Entry) → IsAccepted (heavy_over version p d t numbers block) block taken (pairs answer)
      → replies strategy block ≡ map Some taken → answer ≢ heavy_of t numbers → takes_wrong (accepts_heavy version p d t numbers) (is_right version p d t numbers) strategy block ≡ true
  written_counts = bytes.written_counts version p (asked_over d t numbers) (count_leaves p numbers) numbers
