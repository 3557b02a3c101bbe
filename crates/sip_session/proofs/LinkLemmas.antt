-- What calls did to each of some links, one after another.
use Rattle.std.proofs.Common.{◌≡◌, ℕ, ◌<◌, List, length, set, get_or, Some, inl, inr, sym, ap, ◌∙◌, subst, arith, get_or-set_same, get_or-set_other, length-set}
use Rattle.std.specs.List.{slice_get}
use Rattle.std.proofs.lemmas.Bool.{cases_eq}
use Rattle.std.proofs.lemmas.Option.{get_or_from_slice_get, slice_get-get_or, slice_get_within}
use Rattle.sip_session.specs.Links.{EachLink}

module _ {L : Type 0} where
  -- at one place is one link
  link_at : (links : List L) (place : ℕ) (before now : L) → slice_get links place ≡ Some before
      → slice_get links place ≡ Some now → before ≡ now
  link_at links place before now was is =
      sym (get_or_from_slice_get links place before before was)
      ∙ get_or_from_slice_get links place now before is

  -- nothing was done to any
  pub links_stay : (P : ℕ → L → L → Type 0) (links : List L)
      → ((place : ℕ) (l : L) → P place l l) → EachLink P links links
  links_stay P links holds = λ place before now was is.
      subst (P place before) (link_at links place before now was is) (holds place before)

  -- two calls in turn
  pub links_then : (P Q R : ℕ → L → L → Type 0) (old mid new : List L)
      → length new ≡ length mid
      → ((place : ℕ) (l m n : L) → P place l m → Q place m n → R place l n)
      → EachLink P old mid → EachLink Q mid new → EachLink R old new
  links_then P Q R old mid new count both p q = λ place before now was is.
      let less : place < length mid =
      omega (arith, count, slice_get_within new place now is) in
      let there = slice_get-get_or mid place now less in
      both place before (get_or mid place now) now
      (p place before (get_or mid place now) was there)
      (q place (get_or mid place now) now there is)

  -- one link was written to
  pub links_set : (P : ℕ → L → L → Type 0) (old links : List L) (i : ℕ) (one read : L)
      → i < length links → ((l : L) → P i l (get_or links i read) → P i l one)
      → EachLink P old links → EachLink P old (set links i one)
  links_set P old links i one read less step each = λ place before now was is.
      elim (cases_eq place i) [
        | inl same ↦
            let now_is : one ≡ now =
            sym (get_or-set_same links i one now less)
            ∙ ap (λ n. get_or (set links i one) n now) (sym same)
            ∙ get_or_from_slice_get (set links i one) place now now is in
            let held : P i before (get_or links i read) =
            each i before (get_or links i read)
            (subst (λ n. slice_get old n ≡ Some before) same was)
            (slice_get-get_or links i read less) in
            subst (P place before) now_is
            (subst (λ n. P n before one) (sym same) (step before held))
        | inr other ↦
            let within : place < length links =
            omega (
              arith,
              length-set links i one,
              slice_get_within (set links i one) place now is,
            ) in
            let still : get_or links place now ≡ now =
            sym (get_or-set_other links i place one now other)
            ∙ get_or_from_slice_get (set links i one) place now now is in
            each place before now was
            (slice_get-get_or links place now within ∙ ap Some still)
      ]
