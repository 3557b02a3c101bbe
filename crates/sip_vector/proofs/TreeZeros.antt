-- The trees over zeros.
use Rattle.std.proofs.Common.{◌≡◌, ℕ, zero, suc, ◌+◌, ◌*◌, ◌/◌, ◌%◌, ◌^◌, pos, List, [], ◌∷◌, map, replicate, refl, ◌∙◌, ap, arith}
use Rattle.std.proofs.Math.Nat.{zero-mod}
use Rattle.sip_field.specs.Residue.{residue}
use Rattle.sip_vector.specs.Trees.{Counted, up, root, leaf, parent, up3, augroot}
use Rattle.sip_vector.proofs.TreeUpdates.{top}
use Rattle.sip_vector.proofs.TreeCounted.{counted_top, same_node}

map_replicate : {X Y : Type 0} (f : X → Y) (n : ℕ) (x : X) → map f (replicate n x) ≡ replicate n (f x)
map_replicate f zero x = refl
map_replicate f (suc n) x = ap (λ xs. f x ∷ xs) (map_replicate f n x)

up_zeros : (p r n : ℕ) → up p (replicate n 0) r ≡ replicate (n / 2) 0
up_zeros p r zero = refl
up_zeros p r (suc zero) = refl
up_zeros p r (suc (suc n)) =
    let half : suc (suc n) / 2 ≡ suc (n / 2) = omega arith in
    let node : (0 + r * 0) % p ≡ 0 = ap (λ k. k % p) (let e : 0 + r * 0 ≡ 0 = omega arith in e) ∙ zero-mod p in
    rw (half, node) (ap (λ xs. 0 ∷ xs) (up_zeros p r n))

top_zeros : (p n : ℕ) (challenges : List ℕ) → top p (replicate n 0) challenges ≡ 0
top_zeros p zero [] = refl
top_zeros p (suc n) [] = refl
top_zeros p n (r ∷ challenges) = rw (up_zeros p r n) (top_zeros p (n / 2) challenges)

-- the root of zeros is 0
pub root_of_zeros : (p n : ℕ) (challenges : List ℕ) → root p (replicate n (pos 0)) challenges ≡ 0
root_of_zeros p n challenges =
    ap (λ level. top p level challenges) (map_replicate (residue p) n (pos 0) ∙ ap (replicate n) (zero-mod p)) ∙ top_zeros p n challenges

-- likewise in the augmented tree
abbrev pub nothing : Counted
nothing = record { hash = 0; count = pos 0 }

up3_zeros : (p r n : ℕ) → up3 p (replicate n nothing) r ≡ replicate (n / 2) nothing
up3_zeros p r zero = refl
up3_zeros p r (suc zero) = refl
up3_zeros p r (suc (suc n)) =
    let half : suc (suc n) / 2 ≡ suc (n / 2) = omega arith in
    let zeros : 0 + residue p (pos 0) * r + 0 * r ^ 2 + residue p (pos 0) * r ^ 3 ≡ 0 = rw (zero-mod p) (omega arith) in
    let node : parent p nothing nothing r ≡ nothing = same_node _ _ _ _ (ap (λ k. k % p) zeros ∙ zero-mod p) refl in
    rw half (ap (λ x. x ∷ up3 p (replicate n nothing) r) node ∙ ap (λ xs. nothing ∷ xs) (up3_zeros p r n))

pub counted_top_zeros : (p n : ℕ) (challenges : List ℕ) → counted_top p (replicate n nothing) challenges ≡ nothing
counted_top_zeros p zero [] = same_node _ _ _ _ (zero-mod p) refl
counted_top_zeros p (suc n) [] = refl
counted_top_zeros p n (r ∷ challenges) = rw (up3_zeros p r n) (counted_top_zeros p (n / 2) challenges)

-- the augmented root of zeros has the hash 0 and the count 0
pub augroot_of_zeros : (p n : ℕ) (challenges : List ℕ) → augroot p (replicate n (pos 0)) challenges ≡ nothing
augroot_of_zeros p n challenges =
    ap (λ level. counted_top p level challenges) (map_replicate (leaf p) n (pos 0) ∙ ap (replicate n) (same_node _ _ _ _ (zero-mod p) refl)) ∙ counted_top_zeros p n challenges
