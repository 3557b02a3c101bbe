-- What is known of the sizes of the deltas where a store was read again.
use Rattle.std.proofs.Common.{◌≡◌, ◌⊎◌, ℕ, suc, zero, Bool, true, false, ◌&&◌, ℤ, pos, negsuc, nat_abs, List, [], ◌∷◌, map, cond, if◌then◌else◌, Option, Some, None, inl, inr, refl, sym, ap, ◌∙◌}
use Rattle.std.specs.Prelude.{IfSome, int_lt, is_none}
use Rattle.std.specs.List.{list_any}
use Rattle.std.proofs.lemmas.Bool.{or_parts}
use Rattle.sip_stream.specs.declared.form.Form.{Form}
use Rattle.sip_vector.specs.Splits.{absolute}
use Rattle.sip_vector.specs.Streams.{of_side, same_side}
use Rattle.sip_vector.specs.declared.tally.Negatives.{Negatives}
use Rattle.sip_vector.specs.declared.update.Side.{Side}
use Rattle.sip_vector.specs.declared.update.Side.TheVariants.{First, Second}
use Rattle.sip_vector.specs.declared.update.Update.{Update}
use Rattle.sip_wire.specs.declared.version.Version.TheVariants.{Two}
use Rattle.sip_helper.specs.Streams.{stream_heard}
use Rattle.sip_helper.specs.Turns.{HelperState, version_opened, whole_of}
use Rattle.sip_above.specs.Serving.{OpenLarge}
use Rattle.sip_questions.specs.declared.sizes.Sizes.{Sizes}
use Rattle.sip_questions.specs.declared.sizes.Sizes.TheVariants.{Unheard, Deltas, Heard}
use Rattle.sip_questions.specs.Serving.{QuestionHelper, idle_depth}
use Rattle.sip_questions.specs.StoreFronts.{Recalls}
use Rattle.sip_questions.specs.Stores.{IsUnsigned}
use Rattle.sip_questions.specs.inside.Keeping.{IsReadAgain, again_of, stream_of}
use Rattle.sip_questions.specs.inside.StoreTurns.{AreSizes, IsWeighed}

-- ---- where no delta is below 0, the sizes are the deltas

own_size : (d : ℤ) → int_lt d (pos 0) ≡ false → pos (nat_abs d) ≡ d
own_size (pos n) not_below = refl
own_size (negsuc n) not_below = absurd (let no : true ≡ false = not_below in cc)

abbrev any_below : List Update → Bool
any_below us = list_any (λ (u : Update). int_lt u.delta (pos 0)) us

parts : (own : Bool) (u : Update) (rest : List Update) → any_below (cond own (u ∷ rest) rest) ≡ false → (own ≡ true → int_lt u.delta (pos 0) ≡ false) × (any_below rest ≡ false)
parts true u rest none = let both = or_parts (int_lt u.delta (pos 0)) (any_below rest) none in (λ is. both.0, both.1)
parts false u rest none = (λ is. absurd (let no : false ≡ true = is in cc), none)

one_side : (side : Side) → (same_side side First ≡ true) ⊎ (same_side side Second ≡ true)
one_side First = inl refl
one_side Second = inr refl

unsigned : (us : List Update) → any_below (of_side us First) ≡ false → any_below (of_side us Second) ≡ false → map absolute us ≡ us
unsigned [] first second = refl
unsigned (u ∷ us) first second =
    let one = parts (same_side u.side First) u (of_side us First) first in
    let two = parts (same_side u.side Second) u (of_side us Second) second in
    let below : int_lt u.delta (pos 0) ≡ false = elim (one_side u.side) [ inl is ↦ one.0 is | inr is ↦ two.0 is ] in
    let same : absolute u ≡ u = ap (λ (d : ℤ). record u { delta = d }) (own_size u.delta below) in
    ap (λ (x : Update). x ∷ map absolute us) same ∙ ap (λ (l : List Update). u ∷ l) (unsigned us one.1 two.1)

same_sizes : (us : List Update) → IsUnsigned us → map absolute us ≡ us
same_sizes us is = unsigned us (ap (λ (n : Negatives). n.first) is) (ap (λ (n : Negatives). n.second) is)

-- ---- where large entries may be asked for

idle_by : (query moment : Bool) (large : Option OpenLarge) (whole : Option ℕ) (depth : ℕ) → (if query && (moment && is_none large) then whole else None) ≡ Some depth → (large ≡ None) × (whole ≡ Some depth)
idle_by true true None whole depth is = (refl, is)
idle_by true true (Some o) whole depth is = absurd (let no = is in cc)
idle_by true false large whole depth is = absurd (let no = is in cc)
idle_by false moment large whole depth is = absurd (let no = is in cc)

-- nothing is open for large entries, and the stream has ended
pub idle_says : (s : QuestionHelper) (depth : ℕ) → idle_depth s ≡ Some depth → (s.large ≡ None) × (whole_of s.helper.heard ≡ Some depth)
idle_says s depth is = idle_by (is_none s.helper.open_query) (is_none s.moment) s.large (whole_of s.helper.heard) depth is

two_is : (number : ℕ) → version_opened number ≡ Two → number ≡ 2
two_is zero is = absurd (let no = is in cc)
two_is (suc zero) is = absurd (let no = is in cc)
two_is (suc (suc zero)) is = refl
two_is (suc (suc (suc n))) is = absurd (let no = is in cc)

module _ (r : Recalls) (us : List Update) (s : QuestionHelper) (stream : stream_of s.helper ≡ stream_heard r.number r.depth (us ∷ [])) where
  pub number_is : s.helper.version ≡ Two → r.number ≡ 2
  number_is two = two_is r.number (sym (ap (λ (h : HelperState). h.version) stream) ∙ two)

  pub whole_is : whole_of s.helper.heard ≡ Some r.depth
  whole_is = ap (λ (h : HelperState). whole_of h.heard) stream

  pub depth_is : (depth : ℕ) → whole_of s.helper.heard ≡ Some depth → r.depth ≡ depth
  depth_is depth whole = let same : Some r.depth ≡ Some depth = sym whole_is ∙ whole in cc

  module _ (form : Form) (again unread : Option (List ℕ)) where
    -- they are of the stream's depth
    pub sizes_fit : (sizes : Sizes) → AreSizes r form again unread us sizes → IfSome (again_of s.helper sizes) (IsReadAgain s.helper)
    sizes_fit Unheard are = tt
    sizes_fit Deltas are = record { depth = r.depth; whole = whole_is; same = whole_is }
    sizes_fit (Heard w) are = record { depth = r.depth; whole = whole_is; same = ap (λ (h : HelperState). whole_of h.heard) are.3 }

    -- and by these large entries are weighed
    pub sizes_weigh : (sizes : Sizes) → AreSizes r form again unread us sizes → IfSome (again_of s.helper sizes) (IsWeighed r form again unread us)
    sizes_weigh Unheard are = tt
    sizes_weigh Deltas are = record {
      more = us;
      reread = record { read = are.0.0; hears = are.0.1; same = are.0.2; weighs = inr (refl, are.1) };
      is = stream ∙ ap (λ (l : List Update). stream_heard r.number r.depth (l ∷ [])) (sym (same_sizes us are.1));
    }
    sizes_weigh (Heard w) are = record {
      more = are.0;
      reread = record { read = are.0; hears = are.1; same = are.2; weighs = inl refl };
      is = are.3;
    }
