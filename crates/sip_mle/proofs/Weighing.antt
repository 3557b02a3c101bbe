-- The extension entry by entry: what a raised entry and what zeros add.
use Rattle.std.proofs.Common.{◌≡◌, ℕ, zero, suc, ◌+◌, ◌*◌, ◌%◌, ◌^◌, ◌<◌, ℤ, pos, ◌+ℤ◌, List, [], ◌∷◌, length, get_or, map, replicate, refl, sym, ◌∙◌, ap, subst, arith}
use Rattle.std.proofs.Math.Nat.{zero-mod, mod-add-mod, add-mod-mod}
use Rattle.std.proofs.lemmas.Nat.{mul-mod_first}
use Rattle.std.proofs.lemmas.List.{length-map, length-set}
use Rattle.std.proofs.lemmas.List.Sums.{sum_by-cons}
use Rattle.std.specs.List.{enumerate_from, sum_by}
use Rattle.sip_field.specs.Residue.{residue}
use Rattle.sip_vector.specs.Extensions.{chi, ext}
use Rattle.sip_vector.specs.Lines.{added_numbers, IsLinear}
use Rattle.sip_vector.specs.Weights.{raised_numbers}
use Rattle.sip_mle.specs.StandsFor.{PointStandsFor}
use Rattle.sip_vector.proofs.TreeResidues.{mod_plus}
use Rattle.sip_vector.proofs.TreeUpdates.{raise, residues_raised}
use Rattle.sip_vector.proofs.Lines.{length-added, sums, residues_added}

-- these residues, each times its factor, where the first one has the index k
abbrev pub weigh : ℕ → List ℕ → ℕ → List ℕ → ℕ
weigh p challenges k [] = 0
weigh p challenges k (x ∷ level) = x * chi p k challenges + weigh p challenges (k + 1) level

sum_is : (p : ℕ) (challenges : List ℕ) (k : ℕ) (numbers : List ℤ) →
    sum_by (λ x. residue p x.1 * chi p x.0 challenges) (enumerate_from k numbers) ≡ weigh p challenges k (map (residue p) numbers)
sum_is p challenges k [] = refl
sum_is p challenges k (x ∷ numbers) =
    sum_by-cons (λ y. residue p y.1 * chi p y.0 challenges) (k, x) (enumerate_from (k + 1) numbers)
    ∙ ap (λ s. residue p x * chi p k challenges + s) (sum_is p challenges (k + 1) numbers)

pub ext_is : (p : ℕ) (numbers : List ℤ) (challenges : List ℕ) →
    ext p numbers challenges ≡ weigh p challenges 0 (map (residue p) numbers) % p
ext_is p numbers challenges = ap (λ s. s % p) (sum_is p challenges 0 numbers)

weigh_raised : (p e : ℕ) (challenges level : List ℕ) (k i j : ℕ) → k + i ≡ j → i < length level →
    weigh p challenges k (raise p level i e) % p ≡ (weigh p challenges k level + e * chi p j challenges) % p
weigh_raised p e challenges [] k i j at h = absurd (omega arith)
weigh_raised p e challenges (x ∷ level) k zero j at h =
    let here : j ≡ k = omega arith in
    let c : ℕ = chi p k challenges in
    let rest : ℕ = weigh p challenges (k + 1) level in
    rw here
    (mod_plus p ((x + e) % p * c) ((x + e) * c) rest rest (mul-mod_first (x + e) c p) refl
    ∙ ap (λ n. n % p) (let same : (x + e) * c + rest ≡ x * c + rest + e * c = omega arith in same))
weigh_raised p e challenges (x ∷ level) k (suc i) j at h =
    let next : k + 1 + i ≡ j = omega arith in
    let within : i < length level = omega arith in
    let c : ℕ = chi p k challenges in
    let rest : ℕ = weigh p challenges (k + 1) level in
    let more : ℕ = e * chi p j challenges in
    mod_plus p (x * c) (x * c) (weigh p challenges (k + 1) (raise p level i e)) (rest + more) refl (weigh_raised p e challenges level (k + 1) i j next within)
    ∙ ap (λ n. n % p) (let same : x * c + (rest + more) ≡ x * c + rest + more = omega arith in same)

-- an entry that is raised by a signed number raises the extension by the number times the entry's
-- factor
pub ext_raised : (p : ℕ) (numbers : List ℤ) (challenges : List ℕ) (i : ℕ) (delta : ℤ) → 0 < p → i < length numbers →
    ext p (raised_numbers numbers i delta) challenges ≡ (ext p numbers challenges + residue p delta * chi p i challenges) % p
ext_raised p numbers challenges i delta some h =
    let level : List ℕ = map (residue p) numbers in
    let within : i < length level = omega (arith, length-map numbers (residue p)) in
    ext_is p (raised_numbers numbers i delta) challenges ∙ ap (λ l. weigh p challenges 0 l % p) (residues_raised p numbers i delta some h)
    ∙ weigh_raised p (residue p delta) challenges level 0 i i (omega arith) within
    ∙ sym (mod-add-mod (weigh p challenges 0 level) p (residue p delta * chi p i challenges))
    ∙ ap (λ n. (n + residue p delta * chi p i challenges) % p) (sym (ext_is p numbers challenges))

-- the extension of zeros is 0
weigh_zeros : (p : ℕ) (challenges : List ℕ) (k n : ℕ) → weigh p challenges k (map (residue p) (replicate n (pos 0))) ≡ 0
weigh_zeros p challenges k zero = refl
weigh_zeros p challenges k (suc n) = rw zero-mod (omega (arith, weigh_zeros p challenges (k + 1) n))

pub ext_of_zeros : (p n : ℕ) (challenges : List ℕ) → ext p (replicate n (pos 0)) challenges ≡ 0
ext_of_zeros p n challenges = ext_is p (replicate n (pos 0)) challenges ∙ ap (λ s. s % p) (weigh_zeros p challenges 0 n) ∙ zero-mod p

-- the extension of an entrywise sum
weigh_added : (p : ℕ) (challenges : List ℕ) (k : ℕ) (level others : List ℕ) → length level ≡ length others →
    weigh p challenges k (sums p level others) % p ≡ (weigh p challenges k level + weigh p challenges k others) % p
weigh_added p challenges k [] [] e = refl
weigh_added p challenges k [] (y ∷ others) e = absurd (omega (arith, e))
weigh_added p challenges k (x ∷ level) [] e = absurd (omega (arith, e))
weigh_added p challenges k (x ∷ level) (y ∷ others) e =
    let c : ℕ = chi p k challenges in
    let a : ℕ = weigh p challenges (k + 1) level in
    let b : ℕ = weigh p challenges (k + 1) others in
    mod_plus p _ _ _ _ (mul-mod_first (x + y) c p) (weigh_added p challenges (k + 1) level others (omega (arith, e)))
    ∙ ap (λ n. n % p) (let same : (x + y) * c + (a + b) ≡ x * c + a + (y * c + b) = omega arith in same)

pub ext_added : IsLinear ext
ext_added p numbers others challenges some e =
    let level : List ℕ = map (residue p) numbers in
    let beside : List ℕ = map (residue p) others in
    let long : length level ≡ length beside = length-map numbers (residue p) ∙ e ∙ sym (length-map others (residue p)) in
    let a : ℕ = weigh p challenges 0 level in
    let b : ℕ = weigh p challenges 0 beside in
    ext_is p (added_numbers numbers others) challenges ∙ ap (λ l. weigh p challenges 0 l % p) (residues_added p numbers others some)
    ∙ weigh_added p challenges 0 level beside long
    ∙ sym (mod-add-mod a p (b % p) ∙ add-mod-mod a b p)
    ∙ ap (λ n. (n + b % p) % p) (sym (ext_is p numbers challenges)) ∙ ap (λ n. (ext p numbers challenges + n) % p) (sym (ext_is p others challenges))

-- an update goes from a vector to the same with one entry raised
pub point_stands : (p : ℕ) (challenges : List ℕ) (i : ℕ) (delta : ℤ) (old new : ℕ) (numbers : List ℤ) → 0 < p → i < 2 ^ length challenges →
    new ≡ (old + residue p delta * chi p i challenges) % p →
    PointStandsFor p challenges old numbers → PointStandsFor p challenges new (raised_numbers numbers i delta)
point_stands p challenges i delta old new numbers some within is h =
    let inside : i < length numbers = omega (arith, h.whole) in
    record {
      whole = length-set numbers i (get_or numbers i (pos 0) +ℤ delta) ∙ h.whole;
      same = is ∙ ap (λ v. (v + residue p delta * chi p i challenges) % p) h.same ∙ sym (ext_raised p numbers challenges i delta some inside);
    }

-- and an absorbed point to the entrywise sum
pub points_stand : (p : ℕ) (challenges others_seat : List ℕ) (a b new : ℕ) (numbers others : List ℤ) → 0 < p → others_seat ≡ challenges → new ≡ (a + b) % p →
    PointStandsFor p challenges a numbers → PointStandsFor p others_seat b others → PointStandsFor p challenges new (added_numbers numbers others)
points_stand p challenges others_seat a b new numbers others some seat is f g =
    let h : PointStandsFor p challenges b others = subst (λ rs. PointStandsFor p rs b others) seat g in
    let long : length numbers ≡ length others = f.whole ∙ sym h.whole in
    record {
      whole = length-added numbers others long ∙ f.whole;
      same = is ∙ ap (λ k. (k + b) % p) f.same ∙ ap (λ k. (ext p numbers challenges + k) % p) h.same ∙ sym (ext_added p numbers others challenges some long);
    }
