-- The levels of a sub-vector's prover, and the bytes of an honest reply.
use Rattle.std.proofs.Common.{◌≡◌, ℕ, suc, ◌+◌, ◌-◌, ◌*◌, ◌^◌, ◌<◌, ◌≤◌, ◌%◌, Option, Some, None, List, [], ◌∷◌, ◌++◌, length, sym, ap, ◌∙◌, arith, append-nil}
use Rattle.std.specs.Prelude.{ℤ}
use Rattle.std.specs.Option.{option_map}
use Rattle.std.proofs.Math.Nat.{pow-succ', mod-eq_of_lt}
use Rattle.std.proofs.lemmas.List.{length_push}
use Rattle.std.proofs.lemmas.List.Concat.{flat_map-append}
use Rattle.sip_field.specs.Moduli.{m61_modulus}
use Rattle.sip_field.specs.Elements.{m61_number}
use Rattle.sip_field.specs.declared.mersenne.M61.{M61}
use Rattle.sip_vector.specs.Vectors.{nonzero_within}
use Rattle.sip_vector.proofs.Folds.{folds_left-two}
use Rattle.sip_wire.specs.declared.version.Version.{Version}
use Rattle.sip_wire.specs.Spelling.{spelling}
use Rattle.sip_subvec.specs.Honest.{Proving, proving, learnt, its_siblings, siblings_message, honest_messages, honest_reply}
use Rattle.sip_wire.proofs.SiblingElements.{HasElement}
use Rattle.sip_subvec.proofs.HonestStates.{proving-push}
use Rattle.sip_helper.specs.declared.sub_vector.SubVectorProver.{SubVectorProver}
use Rattle.sip_helper.specs.Vectors.{Vectors}
use Rattle.sip_helper.specs.SubVectors.{HasLevel}
use Rattle.sip_helper.proofs.Rows.{framed}

-- ---- levels

-- a level that may still be folded has two nodes
pub tall : (depth n : ℕ) (level : List ℕ) → length level ≡ 2 ^ (depth - n) → n < depth → 2 ≤ length level
tall depth n level height less = omega (arith, folds_left-two (depth - n) (omega arith), height)

pub half_of : (depth n size half : ℕ) → 2 * half ≡ size → size ≡ 2 ^ (depth - n) → n + 1 < depth → half ≡ 2 ^ (depth - (n + 1))
half_of depth n size half twice is less =
    let k = depth - (n + 1) in
    let exponent : depth - n ≡ suc k = omega arith in
    omega (arith, twice, is, ap (λ e. 2 ^ e) exponent, pow-succ' 2 k)

-- a prover that learnt one more challenge
pub one_higher : (depth : ℕ) (v : Vectors) (revealed : List ℕ) (old : SubVectorProver) (next : Proving) (r s : ℕ)
    → HasLevel depth v revealed old → r < m61_modulus → s ≡ r % m61_modulus → next ≡ learnt m61_modulus old.prover s
    → 2 * length next.level ≡ length old.prover.level → length revealed + 1 < depth → HasLevel depth v (revealed ++ r ∷ []) (record old { prover = next })
one_higher depth v revealed old next r s h element is above half less =
    let same : s ≡ r = is ∙ mod-eq_of_lt element in
    record {
      within = h.within;
      level = above ∙ ap (learnt m61_modulus old.prover) same ∙ ap (λ (x : Proving). learnt m61_modulus x r) h.level ∙ sym (proving-push m61_modulus v.first.numbers old.lo old.hi revealed r);
      height = half_of depth (length revealed) (length old.prover.level) (length next.level) half h.height less ∙ ap (λ n. 2 ^ (depth - n)) (sym (length_push revealed r));
    }

-- ---- messages that fit

-- the number of an element of the field, where there is one, has room in a message
pub element_is : (o : Option M61) → HasElement (option_map m61_number o)
element_is None = tt
element_is (Some x) = x.below

-- ---- replies

-- before any challenge, the entries and the siblings
pub reply_first : (version : Version) (p : ℕ) (numbers : List ℤ) (lo hi : ℕ) → honest_reply version p numbers lo hi [] ≡ framed version (nonzero_within lo hi numbers) ++ spelling version (siblings_message (its_siblings (proving p numbers lo hi [])))
unfolding honest_messages
reply_first version p numbers lo hi = flat_map-append (spelling version) _ _ ∙ ap (λ (l : List ℕ). framed version (nonzero_within lo hi numbers) ++ l) (append-nil (spelling version (siblings_message (its_siblings (proving p numbers lo hi [])))))

-- later the siblings alone
pub reply_behind : (version : Version) (p : ℕ) (numbers : List ℤ) (lo hi : ℕ) (revealed : List ℕ) → 0 < length revealed → honest_reply version p numbers lo hi revealed ≡ spelling version (siblings_message (its_siblings (proving p numbers lo hi revealed)))
unfolding honest_messages
reply_behind version p numbers lo hi [] some = absurd (omega (arith, some))
reply_behind version p numbers lo hi (r ∷ prefix) some = append-nil (spelling version (siblings_message (its_siblings (proving p numbers lo hi (r ∷ prefix)))))
