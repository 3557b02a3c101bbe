-- A strategy has wrong answers to a lookup accepted at no more vectors of challenges than it has
-- wrong entries of the interval that its first reply names.
use Rattle.std.proofs.Common.{◌≡◌, ℕ, ◌*◌, ◌-◌, ◌/◌, ◌<◌, ◌≤◌, ◌^◌, All, Bool, true, false, not, ◌&&◌, List, [], ◌∷◌, length, drop, ℤ, nat_abs, Option, Some, None, Result, Ok, Err, refl, sym, ap, ◌∙◌, inl, inr, arith}
use Rattle.std.proofs.lemmas.Bool.{cases_Bool, and_parts, and_from, both_ways, not-true, not_from_false, false_from_ne_true}
use Rattle.std.proofs.lemmas.List.Elements.{All-drop}
use Rattle.sip_field.specs.Moduli.{m61_modulus}
use Rattle.sip_field.specs.LawProofs.Primes.{m61_prime}
use Rattle.sip_vector.specs.Steps.{◌>>=◌}
use Rattle.sip_vector.specs.Trees.{root}
use Rattle.sip_vector.specs.Vectors.{nonzero_within}
use Rattle.sip_counts.specs.Strategies.{Strategy, IsOfBytes, replies, before, all_there, is_wrong, takes_wrong}
use Rattle.sip_counts.proofs.Vectors.{counted-grows, counted-none}
use Rattle.sip_counts.proofs.Talks.{replies-more}
use Rattle.sip_wire.specs.declared.kind.Place.TheVariants as places
use Rattle.sip_wire.specs.declared.message.Reason.{Reason}
use Rattle.sip_wire.specs.Spelling.{asked}
use Rattle.sip_wire.proofs.ReadingLaws.{read_frame-rest}
use Rattle.sip_wire.specs.declared.version.Version.{Version}
use Rattle.sip_replies.proofs.Passing.{same_ok}
use Rattle.sip_replies.proofs.SameEntries.{same_entries}
use Rattle.sip_subvec.specs.Counting.{accepts_sub, said}
use Rattle.sip_subvec.specs.Counting as sub
use Rattle.sip_subvec.proofs.FewFooled.{few_fooled_bytes}
use Rattle.sip_lookup.specs.declared.lookup.Lookup.{Lookup}
use Rattle.sip_lookup.specs.Frames.{read_found}
use Rattle.sip_lookup.specs.Lookups.{item_of, near, is_same_answer, is_possible, range_of, are_alone, stated_answer}
use Rattle.sip_lookup.specs.AcceptsLook.{Parts, parts, said_within, accepts_parts, of_parts, accepts_look, is_right, fooled_look}
use Rattle.sip_lookup.proofs.FoundFrames.{found_read}
use Rattle.sip_lookup.proofs.NearEntries.{range_fits, alone_is_near, same_answer}

-- ---- what follows a Found

-- it is what stands behind the frame
read_rest : (version : Version) (bytes : List ℕ) (x : Option ℕ × List ℕ) → read_found version bytes ≡ Ok x → x.1 ≡ drop (asked version places.Found bytes) bytes
read_rest version bytes x h =
    let r = found_read version bytes x h in
    (read_frame-rest version places.Found bytes r.message x.1 r.frame).1

-- the strategy whose first reply is this, and whose others are the same
abbrev pub behind : Strategy → List ℕ → Strategy
behind strategy first [] = Some first
behind strategy first (x ∷ v) = strategy (x ∷ v)

behind_bytes : (strategy : Strategy) (first : List ℕ) → IsOfBytes strategy → All (λ b. b < 256) first → IsOfBytes (behind strategy first)
behind_bytes strategy first bytes all [] reply e = let same : reply ≡ first = cc in rw same all
behind_bytes strategy first bytes all (x ∷ v) reply e = bytes (x ∷ v) reply e

module _ (version : Version) (d : ℕ) (numbers : List ℤ) (l : Lookup) (len : length numbers ≡ 2 ^ d) (item : item_of l < 2 ^ d) where
  abbrev lo : Option ℕ → ℕ
  lo found = (range_of d l found).0

  abbrev hi : Option ℕ → ℕ
  hi found = (range_of d l found).1

  abbrev takes_sub : Option ℕ → List ℕ → List (List ℕ) → Bool
  takes_sub found r all = accepts_sub version m61_modulus (root m61_modulus numbers r) (lo found) (hi found) r all

  abbrev right_sub : Option ℕ → List (List ℕ) → Bool
  right_sub found all = sub.is_right version (lo found) (hi found) numbers all

  -- replies that are accepted and say another answer have wrong entries
  wrong_parts : (r : List ℕ) (x : Parts) → accepts_parts version d numbers l r x ≡ true → is_same_answer (said_within version d l x) (near numbers l) ≡ false → (takes_sub x.0 r x.1 ≡ true) × (right_sub x.0 x.1 ≡ false)
  wrong_parts r x good wrong =
      let entries = said version (lo x.0) (hi x.0) x.1 in
      let own = and_parts (is_possible d l x.0) (takes_sub x.0 r x.1 && are_alone l x.0 entries) good in
      let more = and_parts (takes_sub x.0 r x.1) (are_alone l x.0 entries) own.1 in (
        more.0,
        false_from_ne_true (right_sub x.0 x.1) (λ right.
            let same = (same_entries entries (nonzero_within (lo x.0) (hi x.0) numbers)).0 right in
            let alone = sym (ap (are_alone l x.0) same) ∙ more.1 in
            let answer = ap (stated_answer l) same ∙ alone_is_near d numbers l x.0 len item own.0 alone in
            both_ways (is_same_answer (said_within version d l x) (near numbers l)) wrong (ap (λ y. is_same_answer y (near numbers l)) answer ∙ same_answer (near numbers l))),
      )

  -- so they are where a first reply has parts
  wrong_behind : (r first : List ℕ) (rest : List (List ℕ)) (x : Option ℕ × List ℕ) → read_found version first ≡ Ok x
      → (accepts_look version d numbers l r (first ∷ rest) && not (is_right version d numbers l (first ∷ rest))) ≡ true
      → (is_possible d l x.0 ≡ true) × (takes_sub x.0 r (x.1 ∷ rest) && not (right_sub x.0 (x.1 ∷ rest))) ≡ true
  wrong_behind r first rest x read h =
      let whole : parts version (first ∷ rest) ≡ Ok (x.0, x.1 ∷ rest) = ap (λ (y : Result (Option ℕ × List ℕ) Reason). y >>= λ z. Ok (z.0, z.1 ∷ rest)) read in
      let both = and_parts (accepts_look version d numbers l r (first ∷ rest)) (not (is_right version d numbers l (first ∷ rest))) h in
      let good = sym (ap (of_parts (accepts_parts version d numbers l r)) whole) ∙ both.0 in
      let wrong = sym (ap (of_parts (λ y. is_same_answer (said_within version d l y) (near numbers l))) whole) ∙ not-true (is_right version d numbers l (first ∷ rest)) both.1 in
      let w = wrong_parts r (x.0, x.1 ∷ rest) good wrong in
      let own = and_parts (is_possible d l x.0) _ good in
      (own.0, and_from (takes_sub x.0 r (x.1 ∷ rest)) (not (right_sub x.0 (x.1 ∷ rest))) w.0 (not_from_false (right_sub x.0 (x.1 ∷ rest)) w.1))

  -- a vector at which a wrong answer is accepted: the first reply has parts, and the entries behind
  -- it are wrong
  record Opened (strategy : Strategy) (r : List ℕ) : Type 0 where
    first : List ℕ
    x : Option ℕ × List ℕ
    is : strategy [] ≡ Some first
    read : read_found version first ≡ Ok x
    possible : is_possible d l x.0 ≡ true
    wrong : takes_wrong (takes_sub x.0) (right_sub x.0) (behind strategy x.1) r ≡ true

  opened : (strategy : Strategy) (r : List ℕ) → takes_wrong (accepts_look version d numbers l) (is_right version d numbers l) strategy r ≡ true → Opened strategy r
  unfolding takes_wrong
  opened strategy [] h = absurd cc
  opened strategy (c ∷ r) h =
      by_first (strategy []) refl (sym (ap (λ k. is_wrong (accepts_look version d numbers l (c ∷ r)) (is_right version d numbers l) (all_there k)) (replies-more strategy c r)) ∙ h)
    where
      by_rest : (first : List ℕ) (x : Option ℕ × List ℕ) → strategy [] ≡ Some first → read_found version first ≡ Ok x → (o : Option (List (List ℕ))) → all_there (replies (λ v. strategy (c ∷ v)) r) ≡ o
          → is_wrong (accepts_look version d numbers l (c ∷ r)) (is_right version d numbers l) (before first o) ≡ true → Opened strategy (c ∷ r)
      by_rest first x is read None there k = absurd cc
      by_rest first x is read (Some rest) there k =
          let w = wrong_behind (c ∷ r) first rest x read k in
          record {
            first = first;
            x = x;
            is = is;
            read = read;
            possible = w.0;
            wrong = ap (λ k. is_wrong (takes_sub x.0 (c ∷ r)) (right_sub x.0) (all_there k)) (replies-more (behind strategy x.1) c r)
                ∙ ap (λ o. is_wrong (takes_sub x.0 (c ∷ r)) (right_sub x.0) (before x.1 o)) there ∙ w.1;
          }

      -- no answer is accepted where a first reply has no parts
      without : (first : List ℕ) (reason : Reason) → read_found version first ≡ Err reason → (o : Option (List (List ℕ))) → is_wrong (accepts_look version d numbers l (c ∷ r)) (is_right version d numbers l) (before first o) ≡ false
      without first reason read None = refl
      without first reason read (Some rest) = rw read refl

      by_read : (first : List ℕ) → strategy [] ≡ Some first → (o : Result (Option ℕ × List ℕ) Reason) → read_found version first ≡ o
          → is_wrong (accepts_look version d numbers l (c ∷ r)) (is_right version d numbers l) (before first (all_there (replies (λ v. strategy (c ∷ v)) r))) ≡ true → Opened strategy (c ∷ r)
      by_read first is (Ok x) read k = by_rest first x is read (all_there (replies (λ v. strategy (c ∷ v)) r)) refl k
      by_read first is (Err reason) read k = absurd (both_ways _ (without first reason read (all_there (replies (λ v. strategy (c ∷ v)) r))) k)

      by_first : (o : Option (List ℕ)) → strategy [] ≡ o → is_wrong (accepts_look version d numbers l (c ∷ r)) (is_right version d numbers l) (all_there (o ∷ replies (λ v. strategy (c ∷ v)) r)) ≡ true → Opened strategy (c ∷ r)
      by_first None is k = absurd cc
      by_first (Some first) is k = by_read first is (read_found version first) refl k

  -- ---- the count

  module _ (strategy : Strategy) (bytes : IsOfBytes strategy) (small : All (λ a. nat_abs a ≤ (m61_modulus - 1) / 2) numbers) where
    none_fooled : ((r : List ℕ) → Opened strategy r → ⊥) → fooled_look version d numbers l strategy ≤ d * m61_modulus ^ (d - 1)
    none_fooled never =
        let none = counted-none m61_modulus d (takes_wrong (accepts_look version d numbers l) (is_right version d numbers l) strategy) (λ r size. false_from_ne_true _ (λ h. never r (opened strategy r h))) in
        rw none (let least : 0 ≤ d * m61_modulus ^ (d - 1) = omega arith in least)

    same_first : (first : List ℕ) (x : Option ℕ × List ℕ) (r : List ℕ) → strategy [] ≡ Some first → read_found version first ≡ Ok x → (o : Opened strategy r) → o.x ≡ x
    same_first first x r is read o =
        let one : o.first ≡ first = (let e : Some o.first ≡ Some first = sym o.is ∙ is in cc) in
        same_ok {E = Reason} o.x x (sym o.read ∙ ap (read_found version) one ∙ read)

    not_read : (first : List ℕ) (reason : Reason) (r : List ℕ) → strategy [] ≡ Some first → read_found version first ≡ Err reason → Opened strategy r → ⊥
    not_read first reason r is read o =
        let one : o.first ≡ first = (let e : Some o.first ≡ Some first = sym o.is ∙ is in cc) in
        let e : ◌≡◌ {A = Result (Option ℕ × List ℕ) Reason} (Ok o.x) (Err reason) = sym o.read ∙ ap (read_found version) one ∙ read in
        absurd cc

    some_fooled : (first : List ℕ) (x : Option ℕ × List ℕ) → strategy [] ≡ Some first → read_found version first ≡ Ok x → is_possible d l x.0 ≡ true → fooled_look version d numbers l strategy ≤ d * m61_modulus ^ (d - 1)
    some_fooled first x is read possible =
        let fits = range_fits d l x.0 item possible in
        let rest : All (λ b. b < 256) x.1 = rw (read_rest version first x read) (All-drop (λ b. b < 256) (asked version places.Found first) first (bytes [] first is)) in
        let few = few_fooled_bytes version d (lo x.0) (hi x.0) numbers (behind strategy x.1) m61_prime len fits.0 fits.1 small (behind_bytes strategy x.1 bytes rest) in
        let grows = counted-grows m61_modulus (takes_wrong (accepts_look version d numbers l) (is_right version d numbers l) strategy) (takes_wrong (takes_sub x.0) (right_sub x.0) (behind strategy x.1)) d (λ r size below h.
        let o = opened strategy r h in
        rw (same_first first x r is read o) at o.wrong) in
        omega (arith, grows, few)

    pub few_fooled_look : fooled_look version d numbers l strategy ≤ d * m61_modulus ^ (d - 1)
    few_fooled_look = by_first (strategy []) refl
      where
        by_possible : (first : List ℕ) (x : Option ℕ × List ℕ) → strategy [] ≡ Some first → read_found version first ≡ Ok x → fooled_look version d numbers l strategy ≤ d * m61_modulus ^ (d - 1)
        by_possible first x is read = elim (cases_Bool (is_possible d l x.0)) [
          | inl t ↦ some_fooled first x is read t
          | inr t ↦ none_fooled (λ r o. both_ways (is_possible d l x.0) t (rw (same_first first x r is read o) at o.possible))
        ]

        by_read : (first : List ℕ) → strategy [] ≡ Some first → (o : Result (Option ℕ × List ℕ) Reason) → read_found version first ≡ o → fooled_look version d numbers l strategy ≤ d * m61_modulus ^ (d - 1)
        by_read first is (Ok x) read = by_possible first x is read
        by_read first is (Err reason) read = none_fooled (λ r o. not_read first reason r is read o)

        by_first : (o : Option (List ℕ)) → strategy [] ≡ o → fooled_look version d numbers l strategy ≤ d * m61_modulus ^ (d - 1)
        by_first None is = none_fooled (λ r o. (let e : Some o.first ≡ None = sym o.is ∙ is in absurd cc))
        by_first (Some first) is = by_read first is (read_found version first) refl
