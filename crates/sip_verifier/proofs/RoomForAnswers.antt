-- Room for what the most demanding of some seats needs.
use Rattle.std.proofs.Common.{◌≡◌, ℕ, ◌+◌, ◌<◌, ◌≤◌, true, List, [], ◌∷◌, length, take, get_or, refl, ap, ◌∙◌, arith}
use Rattle.std.specs.Prelude.{nat_le, IsTrue}
use Rattle.std.proofs.lemmas.Bool.{and_parts, and_from, leb-true, le-leb}
use Rattle.std.proofs.lemmas.List.{take_more}
use Rattle.std.proofs.lemmas.List.Folds.{list_all-append}
use Rattle.sip_vector.specs.declared.query.Query.{Query}
use Rattle.sip_verifier.specs.inside.Judging.{are_enough}
use Rattle.sip_verifier.specs.QuerySeats.{RunningNumbers, Seated}

module _ (need : Query → RunningNumbers → ℕ) where
  abbrev of : Seated → ℕ
  of s = need s.query s.running

  -- more is enough too
  enough-more : (small large : ℕ) (seats : List Seated) → small ≤ large → are_enough need small seats ≡ true → are_enough need large seats ≡ true
  enough-more small large [] le h = refl
  enough-more small large (s ∷ seats) le h =
      let both = and_parts (nat_le (of s) small) (are_enough need small seats) h in
      and_from (nat_le (of s) large) (are_enough need large seats) (le-leb (of s) large (omega (arith, le, leb-true (of s) small both.0))) (enough-more small large seats le both.1)

  -- one seat more
  pub enough-snoc : (most one large i : ℕ) (seats : List Seated) (d : Seated) → i < length seats → most ≤ large → one ≤ large → IsTrue (are_enough need most (take i seats)) → of (get_or seats i d) ≤ one
      → IsTrue (are_enough need large (take (i + 1) seats))
  enough-snoc most one large i seats d less le_most le_one before here =
      let seat = get_or seats i d in
      ap (are_enough need large) (take_more seats i d less)
      ∙ list_all-append (λ (s : Seated). nat_le (of s) large) (take i seats) (seat ∷ [])
      ∙ and_from (are_enough need large (take i seats)) (are_enough need large (seat ∷ [])) (enough-more most large (take i seats) le_most before)
      (and_from (nat_le (of seat) large) true (le-leb (of seat) large (omega (arith, here, le_one))) refl)
