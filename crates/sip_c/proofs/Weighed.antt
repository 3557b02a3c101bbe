-- Updates as numbers, one by one.
use Rattle.std.proofs.Common.{◌≡◌, ◌≢◌, ◌∙◌, ℕ, zero, suc, ◌+◌, ◌^◌, ◌<◌, pos, List, [], ◌∷◌, ◌++◌, length, All, get_or, set, take, drop, sym, ap, subst, arith, length-drop, ◌-◌}
use Rattle.std.proofs.lemmas.List.{map-append, take_more, get_or-map, get_or-drop, length-map, take_more_set}
use Rattle.std.proofs.lemmas.List.Elements.{All-nil, All-push}
use Rattle.sip_vector.specs.Streams.{weight}
use Rattle.sip_vector.specs.declared.update.Side.{Side}
use Rattle.sip_vector.specs.declared.update.Side.TheVariants.{First, Second}
use Rattle.sip_vector.specs.declared.update.Update.{Update}
use Rattle.sip_vector.proofs.Sides.{weight-append}
use Rattle.sip_c.specs.Codes.{HasSide, update_of}
use Rattle.sip_c.specs.Weighing.{CanCome, Place, behind, updates_of}
use Rattle.sip_c.specs.declared.codes.UpdateCode.{UpdateCode}
use Rattle.sip_c.specs.inside.Testing.{IsNext}

-- the updates of one more
pub updates_more : (codes : List UpdateCode) (k : ℕ) (d : UpdateCode) → k < length codes
    → updates_of (take (k + 1) codes) ≡ updates_of (take k codes) ++ update_of (get_or codes k d) ∷ []
updates_more codes k d lt = ap updates_of (take_more codes k d lt) ∙ map-append update_of (take k codes) (get_or codes k d ∷ [])

pub weight_more : (codes : List UpdateCode) (k : ℕ) (d : UpdateCode) (side : Side) → k < length codes
    → weight (updates_of (take (k + 1) codes)) side ≡ weight (updates_of (take k codes)) side + weight (update_of (get_or codes k d) ∷ []) side
weight_more codes k d side lt =
    ap (λ (l : List Update). weight l side) (updates_more codes k d lt) ∙ weight-append (updates_of (take k codes)) (update_of (get_or codes k d) ∷ []) side

module _ (p : Place) (codes : List UpdateCode) where
  front_sides : (k : ℕ) → (0 < k → CanCome p (take k codes)) → All HasSide (take k codes)
  front_sides zero come = All-nil HasSide
  front_sides (suc k) come = (come (omega arith)).sides

  front_items : (k : ℕ) → (0 < k → CanCome p (take k codes)) → All (λ (u : Update). u.item < 2 ^ p.depth) (updates_of (take k codes))
  front_items zero come = All-nil (λ (u : Update). u.item < 2 ^ p.depth)
  front_items (suc k) come = (come (omega arith)).items

  front_deltas : (k : ℕ) → (0 < k → CanCome p (take k codes)) → All (λ (u : Update). u.delta ≢ pos 0) (updates_of (take k codes))
  front_deltas zero come = All-nil (λ (u : Update). u.delta ≢ pos 0)
  front_deltas (suc k) come = (come (omega arith)).deltas

  -- one more may come
  pub come_more : (k : ℕ) (d : UpdateCode) → k < length codes → (0 < k → CanCome p (take k codes)) → IsNext (behind p (take k codes)) (get_or codes k d)
      → CanCome p (take (k + 1) codes)
  come_more k d lt come next =
      let more = updates_more codes k d lt in
      record {
        sides = subst (All HasSide) (sym (take_more codes k d lt)) (All-push HasSide (take k codes) (get_or codes k d) (front_sides k come) next.side);
        items = subst (All (λ (u : Update). u.item < 2 ^ p.depth)) (sym more)
            (All-push (λ (u : Update). u.item < 2 ^ p.depth) (updates_of (take k codes)) (update_of (get_or codes k d)) (front_items k come) next.item);
        deltas = subst (All (λ (u : Update). u.delta ≢ pos 0)) (sym more)
            (All-push (λ (u : Update). u.delta ≢ pos 0) (updates_of (take k codes)) (update_of (get_or codes k d)) (front_deltas k come) next.delta);
        first = omega (arith, weight_more codes k d First lt, next.first);
        second = omega (arith, weight_more codes k d Second lt, next.second);
      }

-- the weight of a side behind one more
pub weight_next : (codes : List UpdateCode) (k t w a : ℕ) (c : UpdateCode) (side : Side) → k < length codes → ((d : UpdateCode) → c ≡ get_or codes k d)
    → w ≡ t + weight (updates_of (take k codes)) side → a ≡ weight (update_of c ∷ []) side → w + a ≡ t + weight (updates_of (take (k + 1) codes)) side
weight_next codes k t w a c side lt is behind_is more_is =
    let here = ap (λ (x : UpdateCode). weight (update_of x ∷ []) side) (is c) in
    omega (arith, weight_more codes k c side lt, here, behind_is, more_is)

-- one more may come, where the sides have these weights
pub come_next : (p : Place) (codes : List UpdateCode) (k left right : ℕ) (c : UpdateCode) → k < length codes → ((d : UpdateCode) → c ≡ get_or codes k d)
    → left ≡ p.first + weight (updates_of (take k codes)) First → right ≡ p.second + weight (updates_of (take k codes)) Second
    → (0 < k → CanCome p (take k codes)) → IsNext (record { depth = p.depth; first = left; second = right }) c → CanCome p (take (k + 1) codes)
come_next p codes k left right c lt is left_is right_is come next =
    let one = subst (λ (n : ℕ). IsNext (record { depth = p.depth; first = n; second = right }) c) left_is next in
    let both = subst (λ (n : ℕ). IsNext (record { depth = p.depth; first = p.first + weight (updates_of (take k codes)) First; second = n }) c) right_is one in
    come_more p codes k c lt come (subst (IsNext (behind p (take k codes))) (is c) both)

-- where some are written, and one more
pub filled_more : (codes : List UpdateCode) (block : List Update) (from k : ℕ) (c : UpdateCode) (u : Update) → k < length block → from + k < length codes
    → ((d : UpdateCode) → c ≡ get_or codes (from + k) d) → u ≡ update_of c
    → take k block ≡ take k (drop from (updates_of codes)) → take (k + 1) (set block k u) ≡ take (k + 1) (drop from (updates_of codes))
filled_more codes block from k c u lt fits is u_is so =
    let us = drop from (updates_of codes) in
    let long : length us ≡ length codes - from = length-drop from (updates_of codes) ∙ ap (λ n. n - from) (length-map codes update_of) in
    let here : get_or us k u ≡ u =
    get_or-drop from (updates_of codes) k u ∙ get_or-map update_of codes (from + k) c u fits ∙ ap update_of (sym (is c)) ∙ sym u_is in
    take_more_set block k u lt ∙ ap (λ (l : List Update). l ++ u ∷ []) so
    ∙ ap (λ (x : Update). take k us ++ x ∷ []) (sym here) ∙ sym (take_more us k u (omega (arith, fits, long)))
