-- The seats of a sketch before and after more updates.
use Rattle.std.proofs.Common.{◌≡◌, ℕ, zero, suc, ◌+◌, ◌-◌, ◌<◌, ◌≤◌, true, false, List, [], ◌∷◌, ◌++◌, length, All, get_or, set, sym, ap, subst, ◌∙◌, arith}
use Rattle.std.specs.List.{AllZip}
use Rattle.std.proofs.lemmas.List.Elements.{All-nil, All-cons, All-head, All-tail}
use Rattle.sip_field.specs.Moduli.{m61_modulus}
use Rattle.sip_vector.specs.Tallies.{joined, tally}
use Rattle.sip_vector.specs.declared.tally.Tally.{Tally}
use Rattle.sip_vector.specs.declared.update.Update.{Update}
use Rattle.sip_sketch.specs.declared.cursor.Size.TheVariants.{Long}
use Rattle.sip_sketch.specs.Fields.{IsValue}
use Rattle.sip_sketch.specs.Sketches.{SeatValues, element}
use Rattle.sip_sketch.specs.Standing.{SeatStands}
use Rattle.sip_sketch.specs.inside.Raising.{IsRaised}
use Rattle.sip_sketch.proofs.Whole.{SeatFits, ranged_value}

-- the updates have come to the first so many seats, and the others are as they were
abbrev pub RaisedTo : List Update → ℕ → List SeatValues → List SeatValues → Type 0
RaisedTo updates zero old new = new ≡ old
RaisedTo updates (suc k) [] new = new ≡ []
RaisedTo updates (suc k) (s ∷ old) [] = ⊥
RaisedTo updates (suc k) (s ∷ old) (s' ∷ new) = IsRaised updates s s' × RaisedTo updates k old new

module _ (updates : List Update) where
  raised-next : (k : ℕ) (old new : List SeatValues) (d s : SeatValues) → RaisedTo updates k old new → k < length new → IsRaised updates (get_or new k d) s → RaisedTo updates (suc k) old (set new k s)
  raised-next zero [] new d s so lt one = absurd (omega (arith, ap length so))
  raised-next zero (x ∷ old) [] d s so lt one = absurd (omega (arith, lt))
  raised-next zero (x ∷ old) (y ∷ new) d s so lt one = let same : y ≡ x = cc in let rest : new ≡ old = cc in (subst (λ z. IsRaised updates z s) same one, rest)
  raised-next (suc k) [] new d s so lt one = absurd (omega (arith, ap length so))
  raised-next (suc k) (x ∷ old) [] d s so lt one = absurd so
  raised-next (suc k) (x ∷ old) (y ∷ new) d s so lt one = (so.0, raised-next k old new d s so.1 (omega (arith, lt)) one)

  -- one more seat
  pub raised-more : (k : ℕ) (old new : List SeatValues) (d s : SeatValues) → RaisedTo updates k old new → k < length new → IsRaised updates (get_or new k d) s → RaisedTo updates (k + 1) old (set new k s)
  raised-more k old new d s so lt one = let next : suc k ≡ k + 1 = omega arith in subst (λ n. RaisedTo updates n old (set new k s)) next (raised-next k old new d s so lt one)

  -- the next one is as it was
  pub raised-next-old : (k : ℕ) (old new : List SeatValues) (d : SeatValues) → RaisedTo updates k old new → k < length new
      → (k < length old) × (get_or new k d ≡ get_or old k d)
  raised-next-old zero old new d so lt = (omega (arith, ap length so, lt), ap (λ (l : List SeatValues). get_or l 0 d) so)
  raised-next-old (suc k) [] new d so lt = absurd (omega (arith, ap length so, lt))
  raised-next-old (suc k) (x ∷ old) [] d so lt = absurd so
  raised-next-old (suc k) (x ∷ old) (y ∷ new) d so lt =
      let rest = raised-next-old k old new d so.1 (omega (arith, lt)) in
      (omega (arith, rest.0), rest.1)

  pub raised-length : (k : ℕ) (old new : List SeatValues) → RaisedTo updates k old new → length new ≡ length old
  raised-length zero old new so = ap length so
  raised-length (suc k) [] new so = ap length so
  raised-length (suc k) (x ∷ old) [] so = absurd so
  raised-length (suc k) (x ∷ old) (y ∷ new) so = ap suc (raised-length k old new so.1)

  -- in the end they have come to all
  pub raised-all : (k : ℕ) (old new : List SeatValues) → RaisedTo updates k old new → length old ≤ k → AllZip (IsRaised updates) old new
  raised-all zero [] new so le = subst (AllZip (IsRaised updates) []) (sym so) tt
  raised-all zero (x ∷ old) new so le = absurd (omega (arith, le))
  raised-all (suc k) [] new so le = subst (AllZip (IsRaised updates) []) (sym so) tt
  raised-all (suc k) (x ∷ old) [] so le = absurd so
  raised-all (suc k) (x ∷ old) (y ∷ new) so le = (so.0, raised-all k old new so.1 (omega (arith, le)))

  -- ---- all seats

  pub zip-kept : (old new : List SeatValues) → AllZip (IsRaised updates) old new
      → AllZip (λ was now. (now.kind ≡ was.kind) × (now.is_used ≡ was.is_used) × (now.block ≡ was.block)) old new
  zip-kept [] [] all = tt
  zip-kept [] (y ∷ new) all = absurd all
  zip-kept (x ∷ old) [] all = absurd all
  zip-kept (x ∷ old) (y ∷ new) all = ((all.0.kind, all.0.is_used, all.0.block), zip-kept old new all.1)

  pub zip-left : (old new : List SeatValues) → AllZip (IsRaised updates) old new → AllZip (λ was now. was.is_used ≡ true → now ≡ was) old new
  zip-left [] [] all = tt
  zip-left [] (y ∷ new) all = absurd all
  zip-left (x ∷ old) [] all = absurd all
  zip-left (x ∷ old) (y ∷ new) all = (all.0.left, zip-left old new all.1)

  fits-on : (depth : ℕ) (t : Tally) (s s' : SeatValues) → SeatFits depth t s → IsRaised updates s s' → SeatFits depth (joined t (tally updates)) s'
  fits-on depth t s s' fits raised = record {
    levels = ap length raised.block ∙ fits.levels;
    block = subst (All (IsValue element)) (sym raised.block) fits.block;
    first = ranged_value Long 0 (m61_modulus - 1) s'.first (omega arith) (omega (arith, raised.first)) (omega (arith, raised.first));
    second = raised.second t fits.second;
  }

  pub zip-fits : (depth : ℕ) (t : Tally) (old new : List SeatValues) → All (SeatFits depth t) old → AllZip (IsRaised updates) old new
      → All (SeatFits depth (joined t (tally updates))) new
  zip-fits depth t [] [] fits all = All-nil (SeatFits depth (joined t (tally updates)))
  zip-fits depth t [] (y ∷ new) fits all = absurd all
  zip-fits depth t (x ∷ old) [] fits all = absurd all
  zip-fits depth t (x ∷ old) (y ∷ new) fits all =
      All-cons (SeatFits depth (joined t (tally updates))) y new (fits-on depth t x y (All-head (SeatFits depth t) x old fits) all.0)
      (zip-fits depth t old new (All-tail (SeatFits depth t) x old fits) all.1)

  pub zip-stands : (depth : ℕ) (stream : List Update) (old new : List SeatValues) → All (λ s. s.is_used ≡ false → SeatStands depth stream s) old
      → AllZip (IsRaised updates) old new → All (λ s. s.is_used ≡ false → SeatStands depth (stream ++ updates) s) new
  zip-stands depth stream [] [] stand all = All-nil (λ (s : SeatValues). s.is_used ≡ false → SeatStands depth (stream ++ updates) s)
  zip-stands depth stream [] (y ∷ new) stand all = absurd all
  zip-stands depth stream (x ∷ old) [] stand all = absurd all
  zip-stands depth stream (x ∷ old) (y ∷ new) stand all =
      let Was : SeatValues → Type 0 = λ s. s.is_used ≡ false → SeatStands depth stream s in
      let Now : SeatValues → Type 0 = λ s. s.is_used ≡ false → SeatStands depth (stream ++ updates) s in
      let here : Now y = λ unused.
      (let was : x.is_used ≡ false = sym all.0.is_used ∙ unused in all.0.stands depth stream was (All-head Was x old stand was)) in
      All-cons Now y new here (zip-stands depth stream old new (All-tail Was x old stand) all.1)
