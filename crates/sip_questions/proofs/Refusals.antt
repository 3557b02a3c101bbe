-- The first question that may not be asked: by those before it, and by the stream.
use Rattle.std.proofs.Common.{◌≡◌, ℕ, zero, suc, ◌+◌, ◌<◌, List, [], ◌∷◌, length, take, get_or, Option, Some, None, refl, sym, subst, ◌∙◌, arith}
use Rattle.sip_verifier.specs.declared.status.Status.{Status}
use Rattle.sip_questions.specs.Questions.{first_by, or_else}

or_parts : (here later : Option Status) → or_else here later ≡ None → (here ≡ None) × (later ≡ None)
or_parts None later e = (refl, e)
or_parts (Some status) later e = absurd (let no = e in cc)

module _ {Q : Type 0} (refuses : ℕ → Q → Option Status) where
  -- none of those before it, and it neither
  none_yet : (number : ℕ) (l : List Q) (i : ℕ) (d : Q) (k : ℕ) → k ≡ number + i → i < length l → first_by refuses number (take i l) ≡ None → refuses k (get_or l i d) ≡ None
      → first_by refuses number (take (suc i) l) ≡ None
  none_yet number [] i d k at less none here = absurd (omega (arith, less))
  none_yet number (x ∷ l) zero d k at less none here =
      let same : k ≡ number = omega (arith, at) in
      let own : refuses number x ≡ None = subst (λ (n : ℕ). refuses n x ≡ None) same here in
      rw own refl
  none_yet number (x ∷ l) (suc i) d k at less none here =
      let parts = or_parts (refuses number x) (first_by refuses (suc number) (take i l)) none in
      rw parts.0 (none_yet (suc number) l i d k (omega (arith, at)) (omega (arith, less)) parts.1 here)

  -- none of those before it, and it
  this_first : (number : ℕ) (l : List Q) (i : ℕ) (d : Q) (k : ℕ) (status : Status) → k ≡ number + i → i < length l → first_by refuses number (take i l) ≡ None → refuses k (get_or l i d) ≡ Some status
      → first_by refuses number l ≡ Some status
  this_first number [] i d k status at less none here = absurd (omega (arith, less))
  this_first number (x ∷ l) zero d k status at less none here =
      let same : k ≡ number = omega (arith, at) in
      let own : refuses number x ≡ Some status = subst (λ (n : ℕ). refuses n x ≡ Some status) same here in
      rw own refl
  this_first number (x ∷ l) (suc i) d k status at less none here =
      let parts = or_parts (refuses number x) (first_by refuses (suc number) (take i l)) none in
      rw parts.0 (this_first (suc number) l i d k status (omega (arith, at)) (omega (arith, less)) parts.1 here)

  -- ---- at a place of questions that are counted from 1

  module _ (l : List Q) (i : ℕ) (own : Q) (is : own ≡ get_or l i own) (less : i < length l) (none : first_by refuses 1 (take i l) ≡ None) (said : Option Status) (here : said ≡ refuses (i + 1) own) where
    -- none of those before it, and it neither
    pub none_behind : said ≡ None → first_by refuses 1 (take (i + 1) l) ≡ None
    none_behind none_here =
        let next : suc i ≡ i + 1 = omega arith in
        subst (λ (n : ℕ). first_by refuses 1 (take n l) ≡ None) next
        (none_yet 1 l i own (i + 1) (omega arith) less none
        (subst (λ (q : Q). refuses (i + 1) q ≡ None) is (sym here ∙ none_here)))

    -- none of those before it, and it
    pub this_there : (status : Status) → said ≡ Some status → Some status ≡ first_by refuses 1 l
    this_there status some_here =
        sym (this_first 1 l i own (i + 1) status (omega arith) less none
        (subst (λ (q : Q). refuses (i + 1) q ≡ Some status) is (sym here ∙ some_here)))
