-- Updates as numbers behind others.
use Rattle.std.specs.Prelude.{◌≡◌, ◌≢◌, ℕ, ◌+◌, ◌^◌, ◌<◌, ◌≤◌, ◌⊎◌, pos, List, [], ◌∷◌}
use Rattle.std.specs.Prelude.{length, map, take, get_or, All}
use Rattle.sip_vector.specs.Streams.{most_weight, weight}
use Rattle.sip_vector.specs.declared.update.Side.TheVariants.{First, Second}
use Rattle.sip_vector.specs.declared.update.Update.{Update}
use Rattle.sip_c.specs.Codes.{HasSide, update_of}
use Rattle.sip_c.specs.declared.codes.UpdateCode.{UpdateCode}
use Rattle.sip_c.specs.declared.refusal.Refusal.{Refusal}
use Rattle.sip_c.specs.declared.refusal.Refusal.TheVariants as refusals

-- the updates that they say
abbrev pub updates_of : List UpdateCode → List Update
updates_of codes = map update_of codes

-- where a stream stands: the depth, and the weights of the sides
pub record Place : Type 0 where
  pub depth : ℕ
  pub first : ℕ
  pub second : ℕ

-- they are updates that may come next there
pub record CanCome (p : Place) (codes : List UpdateCode) : Type 0 where
  pub sides : All HasSide codes
  pub items : All (λ u. u.item < 2 ^ p.depth) (updates_of codes)
  pub deltas : All (λ u. u.delta ≢ pos 0) (updates_of codes)
  pub first : p.first + weight (updates_of codes) First ≤ most_weight
  pub second : p.second + weight (updates_of codes) Second ≤ most_weight

-- the place behind them
abbrev pub behind : Place → List UpdateCode → Place
behind p codes = record {
  depth = p.depth;
  first = p.first + weight (updates_of codes) First;
  second = p.second + weight (updates_of codes) Second;
}

-- the first test that an update fails at a place
abbrev pub Fails : Place → UpdateCode → Refusal → Type 0
Fails p c refusals.BadSide = ¬ HasSide c
Fails p c refusals.BadItem = HasSide c × (2 ^ p.depth ≤ c.item)
Fails p c refusals.ZeroDelta = HasSide c × (c.item < 2 ^ p.depth) × (c.delta ≡ pos 0)
Fails p c refusals.TooHeavy = HasSide c × (c.item < 2 ^ p.depth) × (c.delta ≢ pos 0)
    × ((most_weight < p.first + weight (update_of c ∷ []) First)
    ⊎ (most_weight < p.second + weight (update_of c ∷ []) Second))
Fails p c _ = ⊥

-- the one at this index is the first that may not come, for this reason
pub record IsFirstBad (p : Place) (codes : List UpdateCode) (at : ℕ) (why : Refusal) : Type 0 where
  pub inside : at < length codes
  pub before : 0 < at → CanCome p (take at codes)
  pub fails : (d : UpdateCode) → Fails (behind p (take at codes)) (get_or codes at d) why
