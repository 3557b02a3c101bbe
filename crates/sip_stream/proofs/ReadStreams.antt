-- The spellings of a legal stream are read as that stream.
use Rattle.std.proofs.Common.{◌≡◌, ◌≢◌, ℕ, ◌^◌, ◌<◌, ◌≤◌, false, true, subst, drop, drop_at, length, List, [], ◌∷◌, ◌++◌, append_assoc, append-nil, All, pos, nat_abs, None, refl, sym, ap, ◌∙◌, arith, w64}
use Rattle.std.specs.Prelude.{nat_le}
use Rattle.std.specs.List.{flat_map}
use Rattle.std.proofs.lemmas.Bool.{le-ltb}
use Rattle.std.proofs.lemmas.Bool.Decides.{nat_tests}
use Rattle.std.proofs.lemmas.Int.{fits_signed_from_abs}
use Rattle.std.proofs.lemmas.List.Elements.{All-head, All-same, All-drop}
use Rattle.sip_vector.specs.declared.update.Side.{Side}
use Rattle.sip_vector.specs.declared.update.Side.TheVariants.{First, Second}
use Rattle.sip_vector.specs.declared.update.Update.{Update}
use Rattle.sip_vector.specs.Streams.{same_side, weight, most_weight, IsLegal}
use Rattle.sip_vector.proofs.Kept.{is_zero-false}
use Rattle.sip_vector.proofs.Sides.{weight-append, weight-one}
use Rattle.sip_stream.specs.declared.form.Form.{Form}
use Rattle.sip_stream.specs.Layouts.{layout_of, deepest_in}
use Rattle.sip_stream.specs.Reading.{Reading, IsAfter, HasRoom}
use Rattle.sip_stream.specs.Records.{update_fault, records_from, records}
use Rattle.sip_stream.specs.Spellings.{spelled}
use Rattle.sip_stream.proofs.ReadBack.{below_deeper, read_back}
use Rattle.sip_stream.proofs.RecordsRead.{records_end}

same_side-own : (s : Side) → same_side s s ≡ true
same_side-own First = refl
same_side-own Second = refl

weight-own : (u : Update) → weight (u ∷ []) u.side ≡ nat_abs u.delta
weight-own u = weight-one u u.side (same_side-own u.side)

weight_fits : (depth : ℕ) (stream : List Update) (side : Side) → IsLegal depth stream → weight stream side ≤ most_weight
weight_fits depth stream First legal = legal.first
weight_fits depth stream Second legal = legal.second

-- an update of a legal stream
record IsLegalAt (depth : ℕ) (before : List Update) (u : Update) : Type 0 where
  item : u.item < 2 ^ depth
  delta : u.delta ≢ pos 0
  weight : weight (before ++ u ∷ []) u.side ≤ most_weight
  size : nat_abs u.delta ≤ most_weight

of_rest : (P : Update → Type 0) (before : List Update) (u : Update) (more : List Update) → All P (before ++ u ∷ more) → P u
of_rest P before u more all =
    let rest = drop_at before (u ∷ more) (length before) refl in
    All-head P u more (All-same P (u ∷ more) (drop (length before) (before ++ u ∷ more)) (sym rest) (All-drop P (length before) (before ++ u ∷ more) all))

legal_at : (depth : ℕ) (before : List Update) (u : Update) (more : List Update) → IsLegal depth (before ++ u ∷ more) → IsLegalAt depth before u
legal_at depth before u more legal =
    let all = weight_fits depth (before ++ u ∷ more) u.side legal in
    let parts = weight-append before (u ∷ more) u.side in
    let tail = weight-append (u ∷ []) more u.side in
    let front = weight-append before (u ∷ []) u.side in
    let own = weight-own u in
    record {
      item = of_rest (λ v. v.item < 2 ^ depth) before u more legal.items;
      delta = of_rest (λ v. v.delta ≢ pos 0) before u more legal.deltas;
      weight = omega (arith, all, parts, tail, front);
      size = omega (arith, all, parts, tail, own);
    }

not_le : (a b : ℕ) → b < a → nat_le a b ≡ false
not_le a b below = grind (arith, nat_tests)

-- nothing stands against it
no_fault : (depth : ℕ) (before : List Update) (u : Update) → IsLegalAt depth before u → update_fault depth before u ≡ None
no_fault depth before u legal =
    let item = not_le (2 ^ depth) u.item legal.item in
    let delta = is_zero-false u.delta legal.delta in
    let light = le-ltb most_weight (weight (before ++ u ∷ []) u.side) legal.weight in
    rw (item, delta, light) refl

-- and nothing against an update that a reader has room for
pub none_against : (r : Reading) (before : List Update) (u : Update) → IsAfter r before → HasRoom r u → update_fault r.depth before u ≡ None
none_against r before u after room = no_fault r.depth before u (record {
  item = room.item;
  delta = room.delta;
  weight = omega (arith, weight-append before (u ∷ []) u.side, weight-own u, after.weights u.side, room.weight);
  size = omega (arith, room.weight);
})

read_from : (depth : ℕ) (form : Form) (before us : List Update) → depth ≤ deepest_in form → IsLegal depth (before ++ us)
    → records_from depth form before (flat_map (spelled (layout_of form)) us) ≡ record { legal = before ++ us; fault = None }
read_from depth form before [] most legal = records_end depth form before ∙ ap (λ l. record { legal = l; fault = None }) (sym (append-nil before))
read_from depth form before (u ∷ us) most legal =
    let here = legal_at depth before u us legal in
    let item = below_deeper u.item depth (deepest_in form) here.item most in
    let fits = fits_signed_from_abs w64 u.delta (omega (arith, here.size)) in
    let more = append_assoc before (u ∷ []) us in
    read_back depth form before u (flat_map (spelled (layout_of form)) us) item fits (no_fault depth before u here)
    ∙ read_from depth form (before ++ u ∷ []) us most (subst (IsLegal depth) (sym more) legal)
    ∙ ap (λ l. record { legal = l; fault = None }) more

pub stream_back : (depth : ℕ) (form : Form) (stream : List Update) → depth ≤ deepest_in form → IsLegal depth stream
    → records depth form (flat_map (spelled (layout_of form)) stream) ≡ record { legal = stream; fault = None }
stream_back depth form stream most legal = read_from depth form [] stream most legal
