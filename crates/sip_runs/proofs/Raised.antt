-- A list whose elements change one after another.
use Rattle.std.proofs.Common.{◌≡◌, ℕ, zero, suc, ◌+◌, ◌<◌, ◌≤◌, List, [], ◌∷◌, length, get_or, set, sym, ap, subst, arith}
use Rattle.std.specs.List.{AllZip}

module _ {X : Type 0} (R : X → X → Type 0) where
  -- the first so many have changed, and the others are as they were
  abbrev pub RaisedTo : ℕ → List X → List X → Type 0
  RaisedTo zero old new = new ≡ old
  RaisedTo (suc k) [] new = new ≡ []
  RaisedTo (suc k) (s ∷ old) [] = ⊥
  RaisedTo (suc k) (s ∷ old) (s' ∷ new) = R s s' × RaisedTo k old new

  raised-next : (k : ℕ) (old new : List X) (d s : X) → RaisedTo k old new → k < length new → R (get_or new k d) s → RaisedTo (suc k) old (set new k s)
  raised-next zero [] new d s so lt one = absurd (omega (arith, ap length so, lt))
  raised-next zero (x ∷ old) [] d s so lt one = absurd (omega (arith, lt))
  raised-next zero (x ∷ old) (y ∷ new) d s so lt one = let same : y ≡ x = cc in let rest : new ≡ old = cc in (subst (λ z. R z s) same one, rest)
  raised-next (suc k) [] new d s so lt one = absurd (omega (arith, ap length so, lt))
  raised-next (suc k) (x ∷ old) [] d s so lt one = absurd so
  raised-next (suc k) (x ∷ old) (y ∷ new) d s so lt one = (so.0, raised-next k old new d s so.1 (omega (arith, lt)) one)

  -- one more
  pub raised-more : (k : ℕ) (old new : List X) (d s : X) → RaisedTo k old new → k < length new → R (get_or new k d) s → RaisedTo (k + 1) old (set new k s)
  raised-more k old new d s so lt one = let next : suc k ≡ k + 1 = omega arith in subst (λ n. RaisedTo n old (set new k s)) next (raised-next k old new d s so lt one)

  -- the next one is as it was
  pub raised-next-old : (k : ℕ) (old new : List X) (d : X) → RaisedTo k old new → k < length new
      → (k < length old) × (get_or new k d ≡ get_or old k d)
  raised-next-old zero old new d so lt = (omega (arith, ap length so, lt), ap (λ (l : List X). get_or l 0 d) so)
  raised-next-old (suc k) [] new d so lt = absurd (omega (arith, ap length so, lt))
  raised-next-old (suc k) (x ∷ old) [] d so lt = absurd so
  raised-next-old (suc k) (x ∷ old) (y ∷ new) d so lt =
      let rest = raised-next-old k old new d so.1 (omega (arith, lt)) in
      (omega (arith, rest.0), rest.1)

  -- in the end all have
  pub raised-all : (k : ℕ) (old new : List X) → RaisedTo k old new → length old ≤ k → AllZip R old new
  raised-all zero [] new so le = subst (AllZip R []) (sym so) tt
  raised-all zero (x ∷ old) new so le = absurd (omega (arith, le))
  raised-all (suc k) [] new so le = subst (AllZip R []) (sym so) tt
  raised-all (suc k) (x ∷ old) [] so le = absurd so
  raised-all (suc k) (x ∷ old) (y ∷ new) so le = (so.0, raised-all k old new so.1 (omega (arith, le)))
