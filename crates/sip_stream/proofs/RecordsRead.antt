-- Records of bytes: what a whole one says, and what a part of one is.
use Rattle.std.proofs.Common.{◌≡◌, ℕ, ◌+◌, ◌-◌, ◌*◌, ◌/◌, ◌<◌, ◌≤◌, Bool, true, false, cond, List, [], ◌∷◌, ◌++◌, length, length-drop, take, drop, refl, sym, ap, ◌∙◌, subst, arith, append-nil, take_all}
use Rattle.std.specs.Prelude.{Option, Some, None, Result, Ok, Err, nat_lt, slice_index}
use Rattle.std.specs.Io.KnownBytes.{Consumes, IsAtEnd}
use Rattle.std.proofs.Math.Nat.{mod-add-div}
use Rattle.std.proofs.lemmas.Bool.Decides.{nat_tests}
use Rattle.std.proofs.lemmas.List.{length-take-le}
use Rattle.sip_vector.specs.declared.update.Update.{Update}
use Rattle.sip_vector.specs.Pieces.{cut}
use Rattle.sip_stream.specs.declared.form.Form.{Form}
use Rattle.sip_stream.specs.declared.form.Form.TheVariants.{Binary, Text, Wide}
use Rattle.sip_stream.specs.declared.why.Why.{Why}
use Rattle.sip_stream.specs.declared.why.Why.TheVariants.{Truncated, BadSide}
use Rattle.sip_stream.specs.Layouts.{of_bytes, record_size}
use Rattle.sip_stream.specs.Records.{records_after, records_from, record_at, record_fault, update_fault}
use Rattle.sip_stream.specs.Pieces.{IsFirst, ReadsPiece, Says, record_said}
use Rattle.sip_stream.proofs.Cuts.{cut-nil, cut-cons, cut-one}

-- what is left of bytes from a place on, as a range is
pub rest_at : (n : ℕ) (bytes : List ℕ) → take (length bytes - n) (drop n bytes) ≡ drop n bytes
rest_at n bytes = take_all (length bytes - n) (drop n bytes) (omega (arith, length-drop n bytes))

-- a record behind k others fits, where so many more than k do
pub whole_fits : (n size k : ℕ) → k < n / size → k * size + size ≤ n
whole_fits n size k below =
    let q : ℕ = n / size in
    let rest : q ≡ k + 1 + (q - k - 1) = omega arith in
    let parts : size * q ≡ k * size + size + size * (q - k - 1) = ap (λ m. size * m) rest ∙ omega arith in
    omega (arith, mod-add-div n size, parts)

-- what was consumed stands in front
pub came_front : (old new : Option (List ℕ)) (bytes piece : List ℕ) → old ≡ Some bytes → Consumes old new piece → (rest : List ℕ) × (new ≡ Some rest) × (bytes ≡ piece ++ rest)
came_front None new bytes piece told took = cc
came_front (Some xs) None bytes piece told took = absurd took
came_front (Some xs) (Some ys) bytes piece told took =
    let same : xs ≡ bytes = cc in
    (ys, refl, sym same ∙ took)

-- what a read that met the end took
came_short : (old new : Option (List ℕ)) (bytes buf : List ℕ) (n : ℕ) → old ≡ Some bytes → Consumes old new (take n buf) → IsAtEnd new → (new ≡ Some []) × (bytes ≡ take n buf)
came_short None new bytes buf n told took end = cc
came_short (Some xs) None bytes buf n told took end = absurd took
came_short (Some xs) (Some ys) bytes buf n told took end =
    let same : xs ≡ bytes = cc in
    (ap Some end, sym same ∙ took ∙ ap (λ l. take n buf ++ l) end ∙ append-nil (take n buf))

module _ (width : ℕ) where
  abbrev size : ℕ
  size = record_size width

  positive : 0 < size
  positive = omega arith

  first_record : (bytes piece rest : List ℕ) → bytes ≡ piece ++ rest → length piece ≡ size → IsFirst (of_bytes width) bytes piece rest
  first_record bytes piece rest split len = record { order = split; cut = ap (cut size) split ∙ cut-cons size piece rest positive len }

  -- why a record is not legal, by whether it is short and whether its side is none
  abbrev fault_by : ℕ → List Update → List ℕ → Bool → Bool → Option Why
  fault_by depth before piece short side = cond short (Some Truncated) (cond side (Some BadSide) (update_fault depth before (record_at width piece)))

  -- what a whole record says, by whether its side is none
  says_by : (piece : List ℕ) (is : Bool) → length piece ≡ size → nat_lt 1 (slice_index piece 0) ≡ is → Says (of_bytes width) piece (cond is (Err BadSide) (Ok (record_at width piece)))
  says_by piece is len side = by_side is (λ depth before. ap (λ b. fault_by depth before piece b (nat_lt 1 (slice_index piece 0))) whole ∙ ap (fault_by depth before piece false) side)
    where
      whole : nat_lt (length piece) size ≡ false
      whole = grind (arith, nat_tests)

      by_side : (is : Bool) → ((depth : ℕ) (before : List Update) → record_fault width depth before piece ≡ fault_by depth before piece false is)
          → Says (of_bytes width) piece (cond is (Err BadSide) (Ok (record_at width piece)))
      by_side true faulty = faulty
      by_side false faulty = (refl, faulty)

  -- a whole record in front of more
  pub first_said : (piece more : List ℕ) (u : Update) → length piece ≡ size → Ok u ≡ record_said width piece → IsFirst (of_bytes width) (piece ++ more) piece more × Says (of_bytes width) piece (Ok u)
  first_said piece more u len is = (first_record (piece ++ more) piece more refl len, subst (Says (of_bytes width) piece) (sym is) (says_by piece (nat_lt 1 (slice_index piece 0)) len refl))

  -- a whole record in front, which was consumed
  pub reads_front : (old new : Option (List ℕ)) (bytes piece : List ℕ) (answer : Result Update Why) → old ≡ Some bytes → Consumes old new piece → length piece ≡ size → answer ≡ record_said width piece
      → ReadsPiece (of_bytes width) bytes new (Ok (Some answer))
  reads_front old new bytes piece answer told took len is =
      let came = came_front old new bytes piece told took in
      (piece, came.0, came.1, first_record bytes piece came.0 came.2 len, subst (Says (of_bytes width) piece) (sym is) (says_by piece (nat_lt 1 (slice_index piece 0)) len refl))

  -- a whole record that a read brought
  pub reads_whole : (old new : Option (List ℕ)) (bytes buf : List ℕ) (n : ℕ) (answer : Result Update Why) → old ≡ Some bytes → Consumes old new (take n buf) → length buf ≡ size → size ≤ n → answer ≡ record_said width buf
      → ReadsPiece (of_bytes width) bytes new (Ok (Some answer))
  reads_whole old new bytes buf n answer told took len all is =
      reads_front old new bytes buf answer told (subst (Consumes old new) (take_all n buf (omega arith)) took) len is

  -- a part of a record
  pub reads_part : (old new : Option (List ℕ)) (bytes buf : List ℕ) (n : ℕ) → old ≡ Some bytes → Consumes old new (take n buf) → IsAtEnd new → length buf ≡ size → 0 < n → n < size → ReadsPiece (of_bytes width) bytes new (Ok (Some (Err Truncated)))
  reads_part old new bytes buf n told took end len more short =
      let came = came_short old new bytes buf n told took end in
      let part_len : length (take n buf) ≡ n = length-take-le n buf (omega arith) in
      let part : nat_lt (length (take n buf)) size ≡ true = grind (arith, nat_tests) in
      let alone : cut size bytes ≡ take n buf ∷ cut size [] = ap (cut size) came.1 ∙ cut-one size (take n buf) (omega arith) (omega arith) ∙ ap (λ l. take n buf ∷ l) (sym (cut-nil size positive)) in
      (take n buf, [], came.0, record { order = came.1 ∙ sym (append-nil (take n buf)); cut = alone }, λ depth before. ap (λ b. fault_by depth before (take n buf) b (nat_lt 1 (slice_index (take n buf) 0))) part)

-- no byte is left, so the records are those that came
pub records_end : (depth : ℕ) (form : Form) (before : List Update) → records_from depth form before [] ≡ record { legal = before; fault = None }
records_end depth Binary before = ap (records_after depth Binary before) (cut-nil 13 (omega arith))
records_end depth Text before = refl
records_end depth Wide before = ap (records_after depth Wide before) (cut-nil 17 (omega arith))
