-- The levels of a prover of heavy hitters, and the messages of an honest reply.
use Rattle.std.proofs.Common.{◌≡◌, ℕ, zero, suc, ◌+◌, ◌-◌, ◌*◌, ◌%◌, ◌^◌, ◌<◌, ◌≤◌, Bool, true, false, Some, None, List, [], ◌∷◌, ◌++◌, length, All, ℤ, pos, negsuc, nat_abs, append-nil, leb, refl, sym, ap, subst, ◌∙◌, inl, inr, arith}
use Rattle.std.specs.Prelude.{IsTrue, ◌≤ℤ◌, ◌↔◌, int_le, if◌then◌else◌}
use Rattle.std.specs.List.{flat_map}
use Rattle.std.proofs.Math.Nat.{mod-eq_of_lt, le-div_iff_mul-le}
use Rattle.std.proofs.lemmas.Bool.{cases_Bool, le-leb}
use Rattle.std.proofs.lemmas.Int.{ints}
use Rattle.std.proofs.lemmas.List.{length_push, take_at}
use Rattle.std.proofs.lemmas.List.Elements.{All-take, recursion_from_All}
use Rattle.std.proofs.lemmas.List.Concat.{flat_map-append}
use Rattle.std.proofs.lemmas.List.Sums.{AllPass-from_list_all, list_all-from_AllPass}
use Rattle.sip_field.specs.Moduli.{m61_modulus}
use Rattle.sip_vector.specs.declared.update.Side.{Side}
use Rattle.sip_vector.specs.declared.update.Side.TheVariants.{First, Second}
use Rattle.sip_vector.specs.Streams.{int_sum}
use Rattle.sip_vector.specs.Thresholds.{is_wide, share_of}
use Rattle.sip_vector.proofs.Folds.{folds_left-two}
use Rattle.sip_wire.specs.declared.message.Message.{Message}
use Rattle.sip_wire.specs.declared.message.Message.TheVariants as messages
use Rattle.sip_wire.specs.declared.version.Version.{Version}
use Rattle.sip_wire.specs.Spelling.{fits, spelling}
use Rattle.sip_wire.specs.Versions.{deepest}
use Rattle.sip_heavy.specs.Honest.{Proving, CanBeSent, begun, honest_messages, learnt, opening_frames, proving}
use Rattle.sip_heavy.proofs.FewFooledByBytes.{positive_is}
use Rattle.sip_heavy.proofs.HonestReplies.{proving-push}
use Rattle.sip_heavy.proofs.HonestSpellings.{messages_fit}
use Rattle.sip_heavy.proofs.TrueLevels.{sum_positive}
use Rattle.sip_helper.specs.declared.hitters.HittersProver.{HittersProver}
use Rattle.sip_helper.specs.declared.hitters.Least.{Least}
use Rattle.sip_helper.specs.declared.hitters.Least.TheVariants.{Count, Share}
use Rattle.sip_helper.specs.Hitters.{HasNodes, hitters_query, heavy_query, heavy_row, is_strict, threshold}
use Rattle.sip_helper.specs.KindRows.{HelpRow, not_strict, too_many}
use Rattle.sip_helper.specs.Kinds.{help_row}
use Rattle.sip_helper.specs.Vectors.{Vectors, vector_of}
use Rattle.sip_helper.specs.inside.Legal.{HaveDepth}
use Rattle.sip_helper.proofs.SubVectors.{half_of}

-- ---- the row

-- a number that is not negative passes the test
passes : (a : ℤ) → pos 0 ≤ℤ a → int_le (pos 0) a ≡ true
passes (pos n) h = le-leb 0 n (omega arith)
passes (negsuc n) h = absurd (omega (arith, ints, h))

passed : (a : ℤ) → int_le (pos 0) a ≡ true → pos 0 ≤ℤ a
passed (pos n) h = omega (arith, ints)
passed (negsuc n) h = absurd cc

-- what a vector says of its numbers is the row's test
pub strict_is : (numbers : List ℤ) (b : Bool) → IsTrue b ↔ All (λ a. pos 0 ≤ℤ a) numbers → is_strict numbers ≡ b
strict_is numbers true says = list_all-from_AllPass (int_le (pos 0)) numbers (λ k d h. passes _ (says.0 refl k d h))
strict_is numbers false says = elim (cases_Bool (is_strict numbers)) [
  | inl t ↦ absurd (let all : false ≡ true = says.1 (λ k d h. passed _ (AllPass-from_list_all (int_le (pos 0)) numbers t k d h)) in cc)
  | inr f ↦ f
]

-- a query for heavy hitters has their row
row_is : (side : Side) (least : Least) → help_row (heavy_query side least) ≡ heavy_row side least
row_is side (Count at_least) = refl
row_is side (Share num den) = refl

module _ (v : Vectors) (side : Side) (least : Least) (numbers : List ℤ) (are : numbers ≡ (vector_of v side).numbers) where
  -- how the row refuses, by the numbers of its side
  refused : (strict wide : Bool) → is_strict numbers ≡ strict → is_wide (threshold least (int_sum numbers)) (int_sum numbers) ≡ wide
      → (help_row (heavy_query side least)).refused_by v ≡ (if strict then (if wide then Some too_many else None) else Some not_strict)
  refused strict wide is bound =
      ap (λ (row : HelpRow). row.refused_by v) (row_is side least)
      ∙ ap (λ (l : List ℤ). if is_strict l then (if is_wide (threshold least (int_sum l)) (int_sum l) then Some too_many else None) else Some not_strict) (sym are)
      ∙ rw (is, bound) refl

  -- by a negative entry
  pub refused_strict : is_strict numbers ≡ false → (help_row (heavy_query side least)).refused_by v ≡ Some not_strict
  refused_strict is = refused false (is_wide (threshold least (int_sum numbers)) (int_sum numbers)) is refl

  -- by an answer that may be too wide
  pub refused_wide : is_strict numbers ≡ true → is_wide (threshold least (int_sum numbers)) (int_sum numbers) ≡ true → (help_row (heavy_query side least)).refused_by v ≡ Some too_many
  refused_wide is bound = refused true true is bound

  -- not at all
  pub not_refused : is_strict numbers ≡ true → is_wide (threshold least (int_sum numbers)) (int_sum numbers) ≡ false → (help_row (heavy_query side least)).refused_by v ≡ None
  not_refused is bound = refused true false is bound

-- a share of any total is 1 at least
pub share_some : (num den : ℕ) (total : ℤ) → 1 ≤ num → 1 ≤ den → 1 ≤ share_of num den total
share_some num den (negsuc n) some least = omega arith
share_some num den (pos zero) some least = omega arith
share_some num den (pos (suc n)) some least =
    let product : 1 ≤ num * suc n = omega (arith, some) in
    let above : leb 1 (suc n) ≡ true = le-leb 1 (suc n) (omega arith) in
    rw above ((le-div_iff_mul-le least).1 (omega (arith, product, least)))

-- ---- levels

-- a prover at the leaves
pub begun_stands : (depth : ℕ) (v : Vectors) (side : Side) (least : Least) (numbers : List ℤ) (prover : Proving) → numbers ≡ (vector_of v side).numbers → All (λ a. pos 0 ≤ℤ a) numbers
    → nat_abs (int_sum numbers) < m61_modulus → length numbers ≡ 2 ^ depth → prover ≡ begun m61_modulus numbers (threshold least (int_sum numbers)) → length prover.level ≡ 2 ^ depth
    → HasNodes depth v [] (record { side = side; least = least; prover = prover })
begun_stands depth v side least numbers prover are strict small size is height = record {
  strict = subst (All (λ a. pos 0 ≤ℤ a)) are strict;
  small = subst (λ (l : List ℤ). nat_abs (int_sum l) < m61_modulus) are small;
  size = subst (λ (l : List ℤ). length l ≡ 2 ^ depth) are size;
  level = is ∙ ap (λ (l : List ℤ). proving m61_modulus l (threshold least (int_sum l)) []) are;
  height = height ∙ ap (λ n. 2 ^ n) (let left : depth ≡ depth - 0 = omega arith in left);
}

-- both sides have the depth
pub side_deep : (depth : ℕ) (v : Vectors) (side : Side) → HaveDepth depth v → (vector_of v side).depth ≡ depth
side_deep depth v First have = have.first
side_deep depth v Second have = have.second

-- a prover that learnt one more challenge
pub one_level : (depth : ℕ) (v : Vectors) (revealed : List ℕ) (old : HittersProver) (next : Proving) (r s : ℕ)
    → HasNodes depth v revealed old → r < m61_modulus → s ≡ r % m61_modulus → next ≡ learnt m61_modulus old.prover s
    → 2 * length next.level ≡ length old.prover.level → length revealed + 1 < depth → HasNodes depth v (revealed ++ r ∷ []) (record old { prover = next })
one_level depth v revealed old next r s h element is above half less =
    let same : s ≡ r = is ∙ mod-eq_of_lt element in
    let numbers = (vector_of v old.side).numbers in
    record {
      strict = h.strict;
      small = h.small;
      size = h.size;
      level = above ∙ ap (learnt m61_modulus old.prover) same ∙ ap (λ (x : Proving). learnt m61_modulus x r) h.level ∙ sym (proving-push m61_modulus numbers (threshold old.least (int_sum numbers)) revealed r);
      height = half_of depth (length revealed) (length old.prover.level) (length next.level) half h.height less ∙ ap (λ n. 2 ^ (depth - n)) (sym (length_push revealed r));
    }

-- a level that is reached can be folded
pub tall : (depth : ℕ) (v : Vectors) (revealed : List ℕ) (s : HittersProver) → HasNodes depth v revealed s → length revealed < depth → 2 ≤ length s.prover.level
tall depth v revealed s h less = omega (arith, folds_left-two (depth - length revealed) (omega (arith, less)), h.height)

-- ---- replies

-- the messages of an honest reply are what is shown of the prover's level, and its end
messages_are : (depth : ℕ) (v : Vectors) (revealed : List ℕ) (s : HittersProver) → HasNodes depth v revealed s
    → (help_row (hitters_query s)).honest v revealed ≡ opening_frames m61_modulus s.prover ++ messages.LevelEnd ∷ []
unfolding honest_messages
messages_are depth v revealed s h =
    ap (λ (row : HelpRow). row.honest v revealed) (row_is s.side s.least)
    ∙ ap (λ (x : Proving). opening_frames m61_modulus x ++ messages.LevelEnd ∷ []) (sym h.level)

-- their bytes
pub reply_is : (version : Version) (depth : ℕ) (v : Vectors) (revealed : List ℕ) (s : HittersProver) → HasNodes depth v revealed s
    → flat_map (spelling version) ((help_row (hitters_query s)).honest v revealed) ≡ flat_map (spelling version) (opening_frames m61_modulus s.prover) ++ spelling version messages.LevelEnd
reply_is version depth v revealed s h =
    ap (flat_map (spelling version)) (messages_are depth v revealed s h)
    ∙ flat_map-append (spelling version) (opening_frames m61_modulus s.prover) (messages.LevelEnd ∷ [])
    ∙ ap (λ (l : List ℕ). flat_map (spelling version) (opening_frames m61_modulus s.prover) ++ l) (append-nil (spelling version messages.LevelEnd))

-- each message of an honest reply has a spelling
replies_fit : (version : Version) (depth : ℕ) (v : Vectors) (revealed : List ℕ) (s : HittersProver) → HasNodes depth v revealed s → depth ≤ deepest version → length revealed < depth
    → All (λ m. IsTrue (fits version m)) (opening_frames m61_modulus s.prover ++ messages.LevelEnd ∷ [])
unfolding honest_messages
replies_fit version depth v revealed s h shallow less =
    let numbers = (vector_of v s.side).numbers in
    let t = threshold s.least (int_sum numbers) in
    let sum = positive_is (int_sum numbers) (sum_positive numbers (recursion_from_All (λ a. pos 0 ≤ℤ a) numbers h.strict)) in
    let can : CanBeSent version m61_modulus depth sum.0 numbers = record {
      counted = record {
        modulus = omega arith;
        levels = omega (arith, less);
        size = h.size;
        strict = h.strict;
        total = sum.1;
        light = omega (arith, h.small, ap nat_abs sum.1);
      };
      elements = omega arith;
      shallow = shallow;
    } in
    subst (λ (x : Proving). All (λ m. IsTrue (fits version m)) (opening_frames m61_modulus x ++ messages.LevelEnd ∷ [])) (sym h.level) (messages_fit version m61_modulus depth sum.0 numbers can t revealed)

-- so has each frame of its level
pub level_fits : (version : Version) (depth : ℕ) (v : Vectors) (revealed : List ℕ) (s : HittersProver) → HasNodes depth v revealed s → depth ≤ deepest version → length revealed < depth
    → All (λ m. IsTrue (fits version m)) (opening_frames m61_modulus s.prover)
level_fits version depth v revealed s h shallow less =
    let HasSpelling : Message → Type 0 = λ m. IsTrue (fits version m) in
    let shown = opening_frames m61_modulus s.prover in
    subst (All HasSpelling) (take_at shown (messages.LevelEnd ∷ []) (length shown) refl)
    (All-take HasSpelling (length shown) (shown ++ messages.LevelEnd ∷ []) (replies_fit version depth v revealed s h shallow less))
