-- Each legal stream has bytes that are read back as it.
use Rattle.std.proofs.Common.{◌≡◌, ◌≢◌, ℕ, zero, suc, ◌^◌, ◌<◌, ◌≤◌, true, false, ltb, leb, ℤ, pos, negsuc, nat_abs, List, [], ◌∷◌, ◌++◌, length, All, None, refl, sym, ap, subst, ◌∙◌, append_assoc, append-nil, arith}
use Rattle.std.proofs.lemmas.Bool.{le-ltb, lt-leb, ne_eqb}
use Rattle.std.proofs.lemmas.List.{drop_at}
use Rattle.std.proofs.lemmas.List.Elements.{All-drop, All-head}
use Rattle.sip_vector.specs.Answers.{is_zero}
use Rattle.sip_vector.specs.Limits.{most_depth}
use Rattle.sip_vector.specs.Streams.{IsLegal, most_weight, same_side, weight}
use Rattle.sip_vector.specs.declared.update.Side.{Side}
use Rattle.sip_vector.specs.declared.update.Side.TheVariants.{First, Second}
use Rattle.sip_vector.specs.declared.update.Update.{Update}
use Rattle.sip_vector.proofs.Kept.{fits}
use Rattle.sip_vector.proofs.Sides.{weight-append, weight-one}
use Rattle.sip_stream.specs.Records.{records_after, records_from, update_fault}
use Rattle.sip_stream.specs.Spellings.{all_spelled}
use Rattle.sip_stream.specs.declared.form.Form.TheVariants.{Wide}
use Rattle.sip_stream.proofs.Cuts.{cut-nil}
use Rattle.sip_stream.proofs.ReadBack.{below_deeper, read_back}

own-side : (s : Side) → same_side s s ≡ true
own-side First = refl
own-side Second = refl

-- a part of a light side is light
light-front : (before rest : List Update) (u : Update) (side : Side) → weight (before ++ u ∷ rest) side ≤ most_weight → weight (before ++ u ∷ []) side ≤ most_weight
light-front before rest u side light =
    omega (arith, weight-append before (u ∷ rest) side, weight-append (u ∷ []) rest side, weight-append before (u ∷ []) side, light)

light-one : (before rest : List Update) (u : Update) → weight (before ++ u ∷ rest) u.side ≤ most_weight → nat_abs u.delta ≤ most_weight
light-one before rest u light =
    omega (arith, weight-append before (u ∷ rest) u.side, weight-append (u ∷ []) rest u.side, weight-one u u.side (own-side u.side), light)

legal-weight : (depth : ℕ) (stream : List Update) (side : Side) → IsLegal depth stream → weight stream side ≤ most_weight
legal-weight depth stream First legal = legal.first
legal-weight depth stream Second legal = legal.second

some-delta : (d : ℤ) → d ≢ pos 0 → is_zero d ≡ false
some-delta (pos zero) other = absurd (other refl)
some-delta (pos (suc n)) other = ne_eqb (suc n) 0 (λ e. omega (arith, e))
some-delta (negsuc n) other = ne_eqb (suc n) 0 (λ e. omega (arith, e))

-- what is so of all updates is so of one of them
at-one : (P : Update → Type 0) (before rest : List Update) (u : Update) → All P (before ++ u ∷ rest) → P u
at-one P before rest u all =
    All-head P u rest (subst (All P) (drop_at before (u ∷ rest) (length before) refl) (All-drop P (length before) (before ++ u ∷ rest) all))

-- an update of a legal stream has no fault
legal-one : (depth : ℕ) (before rest : List Update) (u : Update) → IsLegal depth (before ++ u ∷ rest) → update_fault depth before u ≡ None
legal-one depth before rest u legal =
    let item : leb (2 ^ depth) u.item ≡ false = lt-leb (2 ^ depth) u.item (at-one (λ (x : Update). x.item < 2 ^ depth) before rest u legal.items) in
    let delta = some-delta u.delta (at-one (λ (x : Update). x.delta ≢ pos 0) before rest u legal.deltas) in
    let light : ltb most_weight (weight (before ++ u ∷ []) u.side) ≡ false =
    le-ltb most_weight (weight (before ++ u ∷ []) u.side) (light-front before rest u u.side (legal-weight depth (before ++ u ∷ rest) u.side legal)) in
    rw (item, delta, light) refl

all-read : (depth : ℕ) → depth ≤ most_depth → (before stream : List Update) → IsLegal depth (before ++ stream)
    → records_from depth Wide before (all_spelled Wide stream) ≡ record { legal = before ++ stream; fault = None }
all-read depth most before [] legal =
    ap (records_after depth Wide before) (cut-nil 17 (omega arith)) ∙ ap (λ (l : List Update). record { legal = l; fault = None }) (sym (append-nil before))
all-read depth most before (u ∷ rest) legal =
    let item = at-one (λ (x : Update). x.item < 2 ^ depth) before rest u legal.items in
    let small = light-one before rest u (legal-weight depth (before ++ u ∷ rest) u.side legal) in
    let more = all-read depth most (before ++ u ∷ []) rest (subst (IsLegal depth) (sym (append_assoc before (u ∷ []) rest)) legal) in
    read_back depth Wide before u (all_spelled Wide rest) (below_deeper u.item depth most_depth item most) (fits u.delta small) (legal-one depth before rest u legal)
    ∙ more ∙ ap (λ (l : List Update). record { legal = l; fault = None }) (append_assoc before (u ∷ []) rest)

pub spelled-back : (depth : ℕ) (stream : List Update) → depth ≤ most_depth → IsLegal depth stream
    → records_from depth Wide [] (all_spelled Wide stream) ≡ record { legal = stream; fault = None }
spelled-back depth stream most legal = all-read depth most [] stream legal
