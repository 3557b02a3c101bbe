-- Wrong entries are accepted at few vectors of challenges.
use Rattle.std.proofs.Common.{◌≡◌, ◌≢◌, ℕ, suc, ◌+◌, ◌*◌, ◌-◌, ◌/◌, ◌<◌, ◌≤◌, ◌^◌, Bool, true, eqb, ◌&&◌, List, [], ◌∷◌, length, get_or, map, All, ℤ, nat_abs, refl, ap, sym, ◌∙◌, arith, inl, inr}
use Rattle.std.specs.Prelude.{fold}
use Rattle.std.specs.List.{list_all}
use Rattle.std.specs.Cmp.Lexicographic.{bytes_decides}
use Rattle.std.proofs.Math.Nat.{pow-suc}
use Rattle.std.proofs.lemmas.Bool.{cases_Bool, and_parts, false_from_ne_true}
use Rattle.std.proofs.lemmas.List.{length-map}
use Rattle.std.proofs.lemmas.List.FromFn.{length-map-range_with_len}
use Rattle.sip_field.specs.Prime.{IsPrime}
use Rattle.sip_field.specs.Residue.{residue}
use Rattle.sip_vector.specs.declared.update.Entry.{Entry}
use Rattle.sip_vector.specs.Trees.{up, root}
use Rattle.sip_vector.specs.Vectors.{nonzero_within}
use Rattle.sip_vector.proofs.TreeUpdates.{length-up}
use Rattle.sip_counts.specs.Counts.{counted}
use Rattle.sip_counts.specs.Strategies.{replies}
use Rattle.sip_counts.proofs.Vectors.{counted-grows, counted-none}
use Rattle.sip_counts.proofs.Escapes.{few_become_good}
use Rattle.sip_subvec.specs.AcceptsSub.{Siblings, Stated, stated_level, stated_value, folded, gives_root}
use Rattle.sip_subvec.specs.Counting.{has_small_value, rise_within, are_all_asked, accepts_stated}
use Rattle.sip_subvec.proofs.Stretches.{agree, agree-same, window}
use Rattle.sip_subvec.proofs.WrongLevels.{agrees, agrees-step, agrees_from_folds}
use Rattle.sip_subvec.proofs.StatedEntries.{entries-right}

-- ---- the top of the tree

fold-length : (p : ℕ) (level r : List ℕ) → length level ≡ 2 ^ length r → length (fold (up p) level r) ≡ 1
fold-length p level [] len = let one : 2 ^ 0 ≡ 1 = refl in omega arith
fold-length p level (x ∷ r) len =
    let double : 2 ^ suc (length r) ≡ 2 * 2 ^ length r = rw pow-suc (omega arith) in
    fold-length p (up p level x) r (length-up p x level (2 ^ length r) (omega arith))

alone : (xs : List ℕ) → length xs ≡ 1 → xs ≡ get_or xs 0 0 ∷ []
alone [] e = absurd (omega arith)
alone (x ∷ []) e = refl
alone (x ∷ y ∷ xs) e = absurd (omega arith)

-- ---- the parts of the test

record Passes (p top lo hi : ℕ) (r : List ℕ) (s : Stated) : Type 0 where
  rise : rise_within lo hi s.entries ≡ true
  small : list_all (has_small_value p) s.entries ≡ true
  asked : are_all_asked lo hi s.siblings ≡ true
  root : gives_root p top lo hi r s ≡ true

passes : (p top lo hi : ℕ) (r : List ℕ) (s : Stated) → accepts_stated p top lo hi r s ≡ true → Passes p top lo hi r s
passes p top lo hi r s h =
    let rise : Bool = rise_within lo hi s.entries in
    let small : Bool = list_all (has_small_value p) s.entries in
    let asked : Bool = are_all_asked lo hi s.siblings in
    let gives : Bool = gives_root p top lo hi r s in
    let a = and_parts (eqb (length s.siblings) (length r)) (rise && (small && (asked && gives))) h in
    let b = and_parts rise (small && (asked && gives)) a.1 in
    let c = and_parts small (asked && gives) b.1 in
    let d = and_parts asked gives c.1 in
    record { rise = b.0; small = c.0; asked = d.0; root = d.1 }

-- ---- the count

module _ (p lo hi : ℕ) (numbers : List ℤ) (entries : List Entry) (siblings : List ℕ → Siblings) where
  -- what is accepted agrees with the true level after all challenges
  accepted_agrees : (r : List ℕ) → lo ≤ hi → hi < 2 ^ length r → length numbers ≡ 2 ^ length r → Passes p (root p numbers r) lo hi r (record { entries = entries; siblings = replies siblings r })
      → agrees p siblings lo hi (stated_level p lo hi entries) (map (residue p) numbers) r ≡ true
  accepted_agrees r le lt len h =
      let s : Stated = record { entries = entries; siblings = replies siblings r } in
      let level : List ℕ = map (residue p) numbers in
      let len_level : length level ≡ 2 ^ length r = length-map numbers (residue p) ∙ len in
      let one = alone (fold (up p) level r) (fold-length p level r len_level) in
      let top : folded p lo hi r s ≡ root p numbers r ∷ [] = (bytes_decides (folded p lo hi r s) (root p numbers r ∷ [])).0 h.root in
      let same : folded p lo hi r s ≡ fold (up p) level r = top ∙ sym one in
      agrees_from_folds p siblings lo hi (stated_level p lo hi entries) level r le lt len_level h.asked
      (ap (λ (k : List ℕ). agree p k (fold (up p) level r)) same ∙ agree-same p (fold (up p) level r))

  pub few_wrong_entries : (d : ℕ) → IsPrime p → length numbers ≡ 2 ^ d → lo ≤ hi → hi < 2 ^ d → All (λ a. nat_abs a ≤ (p - 1) / 2) numbers → entries ≢ nonzero_within lo hi numbers
      → counted p (λ r. accepts_stated p (root p numbers r) lo hi r (record { entries = entries; siblings = replies siblings r })) d ≤ d * p ^ (d - 1)
  unfolding agrees
  few_wrong_entries d prime len le lt all wrong =
      let test : List ℕ → Bool = λ r. accepts_stated p (root p numbers r) lo hi r (record { entries = entries; siblings = replies siblings r }) in
      let known : List ℕ = stated_level p lo hi entries in
      let level : List ℕ = map (residue p) numbers in
      let some : 0 < p = omega (arith, prime.above_one) in
      let len_level : length level ≡ 2 ^ d = length-map numbers (residue p) ∙ len in
      let len_known : length known ≡ hi + 1 - lo = length-map-range_with_len (λ i. residue p (stated_value entries i)) lo (hi + 1 - lo) in
      elim (cases_Bool (agree p known (window level lo hi))) [
        | inl right ↦ omega (
          arith,
          counted-none p d test (λ v _. false_from_ne_true (test v) (λ h.
              let w = passes p (root p numbers v) lo hi v (record { entries = entries; siblings = replies siblings v }) h in
              wrong (entries-right p lo hi numbers entries some (omega arith) all w.rise w.small right))),
        )
        | inr differs ↦
            let grows = counted-grows p test (agrees p siblings lo hi known level) d
            (λ v e _ h. accepted_agrees v le (rw e lt) (rw e len) (passes p (root p numbers v) lo hi v (record { entries = entries; siblings = replies siblings v }) h)) in
            let few = few_become_good p 1 d (agrees p siblings lo hi known level) differs (λ v short _ k. agrees-step p prime siblings d lo hi known level v le lt len_level len_known short k) in
            omega arith
      ]
