-- The first of some tests that passes, test by test.
use Rattle.std.proofs.Common.{◌≡◌, ℕ, suc, ◌+◌, ◌<◌, Bool, true, false, Some, None, List, [], ◌∷◌, ◌++◌, length, map, take, drop, get_or, sym, ap, ◌∙◌, arith, length-take-le}
use Rattle.std.proofs.Math.Seq.{drop-cons}
use Rattle.std.proofs.lemmas.List.{length-map, map-append, take-append-drop, take_more}
use Rattle.sip_vector.specs.declared.update.Update.{Update}
use Rattle.sip_verifier.specs.Weights.{AreWeights, weight_in}
use Rattle.sip_verifier.specs.Widths.{first_true}
use Rattle.sip_verifier.specs.declared.weights.Weights.{Weights}
use Rattle.sip_verifier.proofs.WideSeats.{here_first, none_more}
use Rattle.sip_moments.specs.declared.moment.Moment.{Moment}
use Rattle.sip_moments.specs.Manner.{first_high, is_high}
use Rattle.sip_moments.specs.Moments.{is_too_high}

-- the moments of a stream of these weights, one after another
module _ (weights : Weights) (stream : List Update) (are : AreWeights stream weights)
    (moments : List Moment) (i : ℕ) (d : Moment) (lt : i < length moments)
    (none : first_high stream (take i moments) ≡ None) where
  abbrev here : Moment
  here = get_or moments i d

  tested : (b : Bool) → is_too_high (weight_in weights here.side) here.degree ≡ b
      → is_high stream here ≡ b
  tested b is = ap (λ (n : ℕ). is_too_high n here.degree) (sym (are here.side)) ∙ is

  pub low_so_far : is_too_high (weight_in weights here.side) here.degree ≡ false
      → first_high stream (take (i + 1) moments) ≡ None
  low_so_far low =
      ap (λ l. first_true (map (is_high stream) l)) (take_more moments i d lt)
      ∙ ap first_true (map-append (is_high stream) (take i moments) (here ∷ [])
      ∙ ap (λ b. map (is_high stream) (take i moments) ++ b ∷ []) (tested false low))
      ∙ none_more (map (is_high stream) (take i moments)) none

  pub high_here : is_too_high (weight_in weights here.side) here.degree ≡ true
      → first_high stream moments ≡ Some (i + 1)
  high_here high =
      let split : moments ≡ take i moments ++ here ∷ drop (suc i) moments =
      sym (take-append-drop i moments) ∙ ap (λ l. take i moments ++ l) (drop-cons moments i d lt) in
      let size : length (map (is_high stream) (take i moments)) ≡ i =
      length-map (take i moments) (is_high stream)
      ∙ length-take-le i moments (omega (arith, lt)) in
      ap (λ l. first_true (map (is_high stream) l)) split
      ∙ ap first_true
      (map-append (is_high stream) (take i moments) (here ∷ drop (suc i) moments)
      ∙ ap (λ b. map (is_high stream) (take i moments) ++ b
      ∷ map (is_high stream) (drop (suc i) moments)) (tested true high))
      ∙ here_first (map (is_high stream) (take i moments))
      (map (is_high stream) (drop (suc i) moments)) none
      ∙ ap (λ n. Some (n + 1)) size
