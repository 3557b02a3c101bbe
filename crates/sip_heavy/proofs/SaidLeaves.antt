-- Leaves that are right, with one at each heavy number, say the heavy numbers.
use Rattle.std.proofs.Common.{◌≡◌, ℕ, suc, ◌+◌, ◌<◌, ◌≤◌, true, false, eqb, leb, ltb, ℤ, pos, negsuc, ◌≤ℤ◌, nat_abs, int_le, List, [], ◌∷◌, length, refl, ap, sym, subst, ◌∙◌, arith, inl, inr, add-one}
use Rattle.std.specs.Prelude.{filter, map, if◌then◌else◌}
use Rattle.std.specs.List.{list_all, enumerate_from}
use Rattle.std.proofs.lemmas.Int.{ints}
use Rattle.std.proofs.lemmas.Bool.{cases_Bool, cases_eq, and_parts, and_from, ne_eqb, lt-ltb, le-leb, leb-true, both_ways}
use Rattle.sip_vector.specs.declared.update.Entry.{Entry}
use Rattle.sip_vector.specs.Trees.{Counted}
use Rattle.sip_wire.specs.declared.message.Node.{Node}
use Rattle.sip_heavy.specs.declared.form.LeafForm.{LeafForm}
use Rattle.sip_heavy.specs.AcceptsHeavy.{heavy_entries, value_of}
use Rattle.sip_heavy.specs.Counting.{LeavesStand}
use Rattle.sip_heavy.specs.Honest.{heavy_of}
use Rattle.sip_heavy.specs.Rising.{Rises}
use Rattle.sip_heavy.specs.TrueNodes.{Spot, is_spot, are_true}
use Rattle.sip_heavy.proofs.WrongLevels.{has, is_clear, are_heavy}
use Rattle.sip_heavy.proofs.AcceptedLevels.{are_within}
use Rattle.sip_heavy.proofs.TrueLevels.{AreCounts, true_level}

-- ---- the heavy numbers

-- the indices of numbers of at least t, from this one on
abbrev pub heavy_from : ℕ → ℕ → List ℤ → List ℕ
heavy_from t i [] = []
heavy_from t i (a ∷ numbers) = if int_le (pos t) a then i ∷ heavy_from t (suc i) numbers else heavy_from t (suc i) numbers

-- no number is above its true count, and a node that is right stands for the number
pub record Tells (p : ℕ) (form : LeafForm) (s : Spot) (a : ℤ) : Type 0 where
  pub within : a ≤ℤ pos s.1
  pub reads : (x : Node) → is_spot p x s ≡ true → value_of p form x ≡ a

-- so it is for the numbers from an index on
abbrev pub Tell : ℕ → LeafForm → (ℕ → Spot) → ℕ → List ℤ → Type 0
Tell p form truth i [] = Unit {0}
Tell p form truth i (a ∷ numbers) = Tells p form (truth i) a × Tell p form truth (suc i) numbers

-- what is at least t has a count of at least t
pub counts_more : (t n : ℕ) (a : ℤ) → int_le (pos t) a ≡ true → a ≤ℤ pos n → leb t n ≡ true
counts_more t n (pos k) heavy within = le-leb t n (omega (arith, ints, leb-true t k heavy, within))
counts_more t n (negsuc k) heavy within = absurd cc

pub heavy_are : (p t : ℕ) (form : LeafForm) (truth : ℕ → Spot) (i : ℕ) (numbers : List ℤ) → Tell p form truth i numbers → are_heavy t truth (heavy_from t i numbers) ≡ true
heavy_are p t form truth i [] tell = refl
heavy_are p t form truth i (a ∷ numbers) tell =
    let ih = heavy_are p t form truth (suc i) numbers tell.1 in
    elim (cases_Bool (int_le (pos t) a)) [
      | inl e ↦ rw e (and_from (leb t (truth i).1) (are_heavy t truth (heavy_from t (suc i) numbers)) (counts_more t (truth i).1 a e tell.0.within) ih)
      | inr e ↦ rw e ih
    ]

pub heavy_within : (t n i : ℕ) (numbers : List ℤ) → i + length numbers ≤ n → are_within n (heavy_from t i numbers) ≡ true
heavy_within t n i [] room = refl
heavy_within t n i (a ∷ numbers) room =
    let ih = heavy_within t n (suc i) numbers (omega arith) in
    elim (cases_Bool (int_le (pos t) a)) [
      | inl e ↦ rw e (and_from (ltb i n) (are_within n (heavy_from t (suc i) numbers)) (lt-ltb i n (omega arith)) ih)
      | inr e ↦ rw e ih
    ]

-- ---- what is said

abbrev heavy_numbers : ℕ → ℕ → List ℤ → List Entry
heavy_numbers t i numbers = filter (λ e. int_le (pos t) e.value) (map (λ x. record { index = x.0; value = x.1 }) (enumerate_from i numbers))

-- no node stands before the first
none_before : (i least n : ℕ) (nodes : List Node) → i < least → Rises least n nodes → has nodes i ≡ false
none_before i least n [] before rises = refl
none_before i least n (x ∷ nodes) before rises =
    let here : eqb x.index i ≡ false = ne_eqb x.index i (λ e. absurd (omega (arith, e, rises.0))) in
    rw here (none_before i (suc x.index) n nodes (omega (arith, rises.0)) rises.2)

-- the first node is below these indices
without_first : (t i : ℕ) (x : Node) (nodes : List Node) (numbers : List ℤ) → x.index < i → list_all (has (x ∷ nodes)) (heavy_from t i numbers) ≡ true → list_all (has nodes) (heavy_from t i numbers) ≡ true
without_first t i x nodes [] below all = refl
without_first t i x nodes (a ∷ numbers) below all = elim (cases_Bool (int_le (pos t) a)) [
  | inl e ↦
      let all_here : list_all (has (x ∷ nodes)) (i ∷ heavy_from t (suc i) numbers) ≡ true = rw e at all in
      let parts = and_parts (has (x ∷ nodes) i) (list_all (has (x ∷ nodes)) (heavy_from t (suc i) numbers)) all_here in
      let other : eqb x.index i ≡ false = ne_eqb x.index i (λ k. absurd (omega (arith, k))) in
      let here : has nodes i ≡ true = rw other at parts.0 in
      rw e (and_from (has nodes i) (list_all (has nodes) (heavy_from t (suc i) numbers)) here (without_first t (suc i) x nodes numbers (omega arith) parts.1))
  | inr e ↦ rw e (without_first t (suc i) x nodes numbers (omega arith) (rw e at all))
]

-- a number without a node is not heavy
passed_over : (t i : ℕ) (a : ℤ) (nodes : List Node) (numbers : List ℤ) → has nodes i ≡ false → list_all (has nodes) (heavy_from t i (a ∷ numbers)) ≡ true → (int_le (pos t) a ≡ false) × (list_all (has nodes) (heavy_from t (suc i) numbers) ≡ true)
passed_over t i a nodes numbers none all = elim (cases_Bool (int_le (pos t) a)) [
  | inl e ↦
      let all_here : list_all (has nodes) (i ∷ heavy_from t (suc i) numbers) ≡ true = rw e at all in
      absurd (both_ways (has nodes i) none (and_parts (has nodes i) (list_all (has nodes) (heavy_from t (suc i) numbers)) all_here).0)
  | inr e ↦ (e, rw e at all)
]

-- those behind the first index
behind : (t i : ℕ) (a : ℤ) (nodes : List Node) (numbers : List ℤ) → list_all (has nodes) (heavy_from t i (a ∷ numbers)) ≡ true → list_all (has nodes) (heavy_from t (suc i) numbers) ≡ true
behind t i a nodes numbers all = elim (cases_Bool (int_le (pos t) a)) [
  | inl e ↦
      let all_here : list_all (has nodes) (i ∷ heavy_from t (suc i) numbers) ≡ true = rw e at all in
      (and_parts (has nodes i) (list_all (has nodes) (heavy_from t (suc i) numbers)) all_here).1
  | inr e ↦ rw e at all
]

-- one number more
numbers_more : (t i : ℕ) (a : ℤ) (numbers : List ℤ) → heavy_numbers t i (a ∷ numbers) ≡ (if int_le (pos t) a then record { index = i; value = a } ∷ heavy_numbers t (suc i) numbers else heavy_numbers t (suc i) numbers)
numbers_more t i a numbers = rw (add-one i) refl

said_from : (p t : ℕ) (form : LeafForm) (truth : ℕ → Spot) (i n : ℕ) (numbers : List ℤ) (nodes : List Node) → n ≡ i + length numbers → Tell p form truth i numbers → Rises i n nodes → are_true p truth nodes ≡ true
    → list_all (has nodes) (heavy_from t i numbers) ≡ true → heavy_entries p form t nodes ≡ heavy_numbers t i numbers
said_from p t form truth i n [] [] size tell rises right all = refl
said_from p t form truth i n [] (x ∷ nodes) size tell rises right all = absurd (omega (arith, rises.0, rises.1))
said_from p t form truth i n (a ∷ numbers) [] size tell rises right all =
    let over = passed_over t i a [] numbers refl all in
    let ih = said_from p t form truth (suc i) n numbers [] (omega arith) tell.1 tt refl over.1 in
    let light : int_le (pos t) a ≡ false = over.0 in
    rw (numbers_more t i a numbers, light) ih
said_from p t form truth i n (a ∷ numbers) (x ∷ nodes) size tell rises right all =
    let parts = and_parts (is_spot p x (truth x.index)) (are_true p truth nodes) right in
    elim (cases_eq x.index i) [
      | inl at ↦
          let value : value_of p form x ≡ a = tell.0.reads x (ap (λ j. is_spot p x (truth j)) (sym at) ∙ parts.0) in
          let later = without_first t (suc i) x nodes numbers (omega arith) (behind t i a (x ∷ nodes) numbers all) in
          let ih = said_from p t form truth (suc i) n numbers nodes (omega arith) tell.1 (subst (λ j. Rises (suc j) n nodes) at rises.2) parts.1 later in
          rw (numbers_more t i a numbers, value, at) (ap (λ (es : List Entry). if int_le (pos t) a then record { index = i; value = a } ∷ es else es) ih)
      | inr differ ↦
          let above : Rises (suc i) n (x ∷ nodes) = (omega (arith, rises.0, differ), rises.1, rises.2) in
          let over = passed_over t i a (x ∷ nodes) numbers (none_before i (suc i) n (x ∷ nodes) (omega arith) above) all in
          let ih = said_from p t form truth (suc i) n numbers (x ∷ nodes) (omega arith) tell.1 above right over.1 in
          let light : int_le (pos t) a ≡ false = over.0 in
          rw (numbers_more t i a numbers, light) ih
    ]

-- ---- all numbers

-- what leaves stand for, they tell, wherever they stand in a level
tell_from : (p : ℕ) (form : LeafForm) (truth : ℕ → Spot) (i : ℕ) (leaves : List Counted) (numbers : List ℤ) → LeavesStand p form leaves numbers
    → ((k : ℕ) → k < length leaves → truth (i + k) ≡ true_level p leaves k) → Tell p form truth i numbers
tell_from p form truth i [] [] stand are = tt
tell_from p form truth i [] (a ∷ numbers) stand are = absurd stand
tell_from p form truth i (c ∷ leaves) [] stand are = tt
tell_from p form truth i (c ∷ leaves) (a ∷ numbers) stand are =
    let none : i ≡ i + 0 = omega arith in
    let here : truth i ≡ (c.hash, nat_abs c.count) = ap truth none ∙ are 0 (omega arith) in
    let whole : c.count ≡ pos (nat_abs c.count) = rw stand.0.counts.1 refl in (
      record {
        within = subst (λ (s : Spot). a ≤ℤ pos s.1) (sym here) (subst (λ z. a ≤ℤ z) whole stand.0.within);
        reads = λ x right. stand.0.reads x (ap (is_spot p x) (sym here) ∙ right);
      },
      tell_from p form truth (suc i) leaves numbers stand.1 (λ k below. let e : suc i + k ≡ i + suc k = omega arith in ap truth e ∙ are (suc k) (omega arith)),
    )

pub leaves_tell : (p : ℕ) (form : LeafForm) (leaves : List Counted) (numbers : List ℤ) → LeavesStand p form leaves numbers → Tell p form (true_level p leaves) 0 numbers
leaves_tell p form leaves numbers stand = tell_from p form (true_level p leaves) 0 leaves numbers stand (λ k below. let e : 0 + k ≡ k = omega arith in ap (true_level p leaves) e)

-- as many numbers as leaves
pub stand_length : (p : ℕ) (form : LeafForm) (leaves : List Counted) (numbers : List ℤ) → LeavesStand p form leaves numbers → length numbers ≡ length leaves
stand_length p form [] [] stand = refl
stand_length p form [] (a ∷ numbers) stand = absurd stand
stand_length p form (c ∷ leaves) [] stand = absurd stand
stand_length p form (c ∷ leaves) (a ∷ numbers) stand = ap suc (stand_length p form leaves numbers stand.1)

-- they count
pub stand_counts : (p : ℕ) (form : LeafForm) (leaves : List Counted) (numbers : List ℤ) → LeavesStand p form leaves numbers → AreCounts leaves
stand_counts p form [] numbers stand = tt
stand_counts p form (c ∷ leaves) [] stand = absurd stand
stand_counts p form (c ∷ leaves) (a ∷ numbers) stand = (stand.0.counts, stand_counts p form leaves numbers stand.1)

pub said_right : (p t : ℕ) (form : LeafForm) (leaves : List Counted) (numbers : List ℤ) (nodes : List Node) → LeavesStand p form leaves numbers → Rises 0 (length numbers) nodes
    → is_clear p (true_level p leaves) (heavy_from t 0 numbers) nodes ≡ true → heavy_entries p form t nodes ≡ heavy_of t numbers
said_right p t form leaves numbers nodes stand rises clear =
    let parts = and_parts (are_true p (true_level p leaves) nodes) (list_all (has nodes) (heavy_from t 0 numbers)) clear in
    said_from p t form (true_level p leaves) 0 (length numbers) numbers nodes (omega arith) (leaves_tell p form leaves numbers stand) rises parts.0 parts.1
