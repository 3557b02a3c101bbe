-- What was done to each link by one that was asked, and by those that were asked before.
use Rattle.std.proofs.Common.{◌≡◌, ◌≢◌, ℕ, ◌+◌, ◌<◌, ◌≤◌, List, length, set, get_or, inl, inr, refl, sym, ap, ◌∙◌, subst, arith, get_or-set_same, get_or-set_other}
use Rattle.std.proofs.lemmas.Bool.{cases_eq}
use Rattle.std.proofs.lemmas.Option.{get_or_from_slice_get, slice_get_within}
use Rattle.sip_session.specs.Links.{EachLink}
use Rattle.sip_session.proofs.LinkLemmas.{links_then}

-- one that is at most another, and is not it, is below
below : (place i : ℕ) → place ≢ i → place ≤ i → place < i
below place i other most = omega (arith, other, most)

module _ {L : Type 0} where
  -- one link was put in the place of another
  pub link_put : (P : ℕ → L → L → Type 0) (links : List L) (i : ℕ) (one read : L)
      → i < length links → P i (get_or links i read) one
      → ((place : ℕ) (l : L) → place ≢ i → P place l l) → EachLink P links (set links i one)
  link_put P links i one read less at rest = λ place before now was is.
      elim (cases_eq place i) [
        | inl same ↦
            let was_is : get_or links i read ≡ before =
            ap (λ n. get_or links n read) (sym same)
            ∙ get_or_from_slice_get links place before read was in
            let now_is : one ≡ now =
            sym (get_or-set_same links i one read less)
            ∙ ap (λ n. get_or (set links i one) n read) (sym same)
            ∙ get_or_from_slice_get (set links i one) place now read is in
            subst (λ n. P n before now) (sym same)
            (subst (P i before) now_is (subst (λ l. P i l one) was_is at))
        | inr other ↦
            let still : before ≡ now =
            sym (get_or_from_slice_get links place before read was)
            ∙ sym (get_or-set_other links i place one read other)
            ∙ get_or_from_slice_get (set links i one) place now read is in
            subst (P place before) still (rest place before other)
      ]

  -- no other link was written to
  pub others_stay : (links : List L) (i : ℕ) (one read : L) → i < length links
      → EachLink (λ place l m. place ≢ i → m ≡ l) links (set links i one)
  others_stay links i one read less =
      link_put (λ place l m. place ≢ i → m ≡ l) links i one read less
      (λ other. absurd (other refl)) (λ place l other _. refl)

  module _ (H : L → Type 0) where
    -- what holds of the one that was asked
    pub asked_is : (links : List L) (i : ℕ) (one read : L) → i < length links → H one
        → EachLink (λ place l m. place ≡ i → H m) links (set links i one)
    asked_is links i one read less holds =
        link_put (λ place l m. place ≡ i → H m) links i one read less
        (λ _. holds) (λ place l other same. absurd (other same))

    -- one more was asked: what holds of those before its turn
    pub all_before : (old mid new : List L) (i to : ℕ) → length new ≡ length mid → to ≤ i + 1
        → EachLink (λ place l m. place < i → H m) old mid
        → EachLink (λ place l m. place ≢ i → m ≡ l) mid new
        → EachLink (λ place l m. place ≡ i → i < to → H m) mid new
        → EachLink (λ place l m. place < to → H m) old new
    all_before old mid new i to count next before others holds =
        links_then (λ place l m. place < i → H m)
        (λ place l m. (place ≢ i → m ≡ l) × (place ≡ i → i < to → H m))
        (λ place l m. place < to → H m) old mid new count
        (λ place l m n p q less. elim (cases_eq place i) [
          | inl same ↦ q.1 same (omega (arith, same, less))
          | inr other ↦ subst H (sym (q.0 other)) (p (below place i other (omega (arith, next, less))))
        ])
        before (λ place l m was is. (others place l m was is, holds place l m was is))

    -- and of all, where its turn is the last
    pub all_out : (old new : List L) (to : ℕ) → length new ≡ to
        → EachLink (λ place l m. place < to → H m) old new → EachLink (λ _ l m. H m) old new
    all_out old new to size holds = λ place l m was is.
        holds place l m was is (omega (arith, size, slice_get_within new place m is))

  module _ (K : L → Type 0) where
    -- it answered, so it is one of those that are left
    pub asked_lasts : (links : List L) (i : ℕ) (one read : L) → i < length links
        → (K (get_or links i read) → K one)
        → EachLink (λ place l m. i ≤ place → K l → K m) links (set links i one)
    asked_lasts links i one read less lasts =
        link_put (λ place l m. i ≤ place → K l → K m) links i one read less
        (λ _. lasts) (λ place l other _ k. k)

    -- it was dropped, so it is none of those that are left
    pub dropped_aside : (links : List L) (i to : ℕ) (one read : L) → i < length links → i < to
        → EachLink (λ place l m. to ≤ place → K l → K m) links (set links i one)
    dropped_aside links i to one read less behind =
        link_put (λ place l m. to ≤ place → K l → K m) links i one read less
        (λ most. absurd (omega (arith, behind, most))) (λ place l other _ k. k)

    -- one more was asked: which last
    pub all_last : (old mid new : List L) (i to : ℕ) → length new ≡ length mid → i ≤ to
        → EachLink (λ place l m. i ≤ place → K l → K m) old mid
        → EachLink (λ place l m. to ≤ place → K l → K m) mid new
        → EachLink (λ place l m. to ≤ place → K l → K m) old new
    all_last old mid new i to count further lasts more =
        links_then (λ place l m. i ≤ place → K l → K m) (λ place l m. to ≤ place → K l → K m)
        (λ place l m. to ≤ place → K l → K m) old mid new count
        (λ place l m n p q most k. q most (p (omega (arith, further, most)) k)) lasts more

    module _ (H : L → Type 0) where
      -- what the one that was asked tells
      pub asked_tells : (links : List L) (i : ℕ) (one read : L) → i < length links
          → (K (get_or links i read) → H one)
          → EachLink (λ place l m. place ≡ i → K l → H m) links (set links i one)
      asked_tells links i one read less tells =
          link_put (λ place l m. place ≡ i → K l → H m) links i one read less
          (λ _. tells) (λ place l other same. absurd (other same))

      -- one more was asked: what all tell
      pub all_tell : (old mid new : List L) (i : ℕ) → length new ≡ length mid
          → EachLink (λ _ l m. K l → H m) old mid
          → EachLink (λ place l m. i ≤ place → K l → K m) old mid
          → EachLink (λ place l m. place ≢ i → m ≡ l) mid new
          → EachLink (λ place l m. place ≡ i → K l → H m) mid new
          → EachLink (λ _ l m. K l → H m) old new
      all_tell old mid new i count told lasts others tells =
          links_then (λ place l m. (K l → H m) × (i ≤ place → K l → K m))
          (λ place l m. (place ≢ i → m ≡ l) × (place ≡ i → K l → H m)) (λ _ l m. K l → H m)
          old mid new count
          (λ place l m n p q k. elim (cases_eq place i) [
            | inl same ↦ q.1 same (p.1 (omega (arith, same)) k)
            | inr other ↦ subst H (sym (q.0 other)) (p.0 k)
          ])
          (λ place l m was is. (told place l m was is, lasts place l m was is))
          (λ place l m was is. (others place l m was is, tells place l m was is))
