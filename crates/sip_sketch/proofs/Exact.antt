-- What is read is spelled so, and what is spelled so is read.
use Rattle.std.proofs.Common.{◌≡◌, ℕ, zero, suc, ◌+◌, ◌≤◌, true, false, ltb, List, [], ◌∷◌, ◌++◌, length, take, drop, Some, Ok, Err, refl, sym, ap, subst, ◌∙◌, append_assoc, arith, inl, inr, bytes_eq}
use Rattle.std.proofs.lemmas.Bool.{cases_Bool, ltb-false, le-ltb}
use Rattle.std.proofs.lemmas.List.{append-nil, length-append, length-drop, take_all, take_at, drop_at, take-append-drop}
use Rattle.std.proofs.lemmas.Slice.Eq.{bytes_eq-Decides}
use Rattle.sha2.specs.Sha256.{sha256}
use Rattle.sha2.proofs.Facts256.{length-sha256}
use Rattle.sip_sketch.specs.Fields.{Fields, digest, one, size, spelled, AreValues, spelled_behind, spelling, value_of, closed, reads, read}
use Rattle.sip_sketch.proofs.Values.{IsBytes, bytes-drop, which, value_takes, value_again, spelled_size}

-- what was read behind these values
pub record IsRead (bytes : List ℕ) (fields : Fields) (values : List ℕ) (at : ℕ) (all : List ℕ) : Type 0 where
  pub more : List ℕ
  pub behind : all ≡ values ++ more
  pub values_are : AreValues fields more
  pub parts : bytes ≡ spelled_behind (take at bytes) fields more

zero_sum : (m : ℕ) → 0 + m ≡ m
zero_sum m = omega arith

suc_sum : (n m : ℕ) → suc n + m ≡ suc (n + m)
suc_sum n m = omega arith

take_nil : (n : ℕ) → take {A = ℕ} n [] ≡ []
take_nil zero = refl
take_nil (suc n) = refl

-- the bytes up to a place, and the next ones
pub take_on : (n m : ℕ) (bytes : List ℕ) → take (n + m) bytes ≡ take n bytes ++ take m (drop n bytes)
take_on zero m bytes = ap (λ k. take k bytes) (zero_sum m)
take_on (suc n) m [] = take_nil (suc n + m) ∙ sym (take_nil m)
take_on (suc n) m (b ∷ bytes) = ap (λ k. take k (b ∷ bytes)) (suc_sum n m) ∙ ap (λ k. b ∷ k) (take_on n m bytes)

found_closed : (bytes values all : List ℕ) (at : ℕ) → closed bytes values at ≡ Ok all
    → (all ≡ values) × (bytes ≡ take at bytes ++ sha256 (take at bytes))
found_closed bytes values all at e =
    let ends : List ℕ = take 32 (drop at bytes) in
    elim (cases_Bool (bytes_eq ends (sha256 (take at bytes)))) [
      | inr other ↦ let h : Err at ≡ Ok all = rw other at e in absurd cc
      | inl same ↦ elim (cases_Bool (ltb (at + 32) (length bytes))) [
        | inl more ↦ let h : Err (at + 32) ≡ Ok all = rw (same, more) at e in absurd cc
        | inr ended ↦
            let h : Ok values ≡ Ok all = rw (same, ended) at e in
            let values_same : values ≡ all = cc in
            let is : ends ≡ sha256 (take at bytes) = (bytes_eq-Decides _ _).0 same in
            let few : length bytes ≤ at + 32 = ltb-false _ _ ended in
            let whole : ends ≡ drop at bytes = take_all 32 (drop at bytes) (omega (arith, few, length-drop at bytes)) in
            (sym values_same, sym (take-append-drop at bytes) ∙ ap (λ k. take at bytes ++ k) (sym whole ∙ is))
      ]
    ]

found_from : (fields : Fields) (bytes values all : List ℕ) (at : ℕ) → IsBytes bytes
    → reads bytes fields values at ≡ Ok all → IsRead bytes fields values at all
found_from digest bytes values all at fits e =
    let f = found_closed bytes values all at e in
    record { more = []; behind = f.0 ∙ sym (append-nil values); values_are = tt; parts = f.1 }
found_from (one field behind) bytes values all at fits e = elim (which (value_of field (drop at bytes))) [
  | inl missing ↦ let h : Err at ≡ Ok all = rw missing at e in absurd cc
  | inr v ↦
      let x = v.0 in
      let h : reads bytes (behind x) (values ++ x ∷ []) (at + size field) ≡ Ok all = rw v.1 at e in
      let t = value_takes field (drop at bytes) x (bytes-drop at bytes fits) v.1 in
      let r = found_from (behind x) bytes (values ++ x ∷ []) all (at + size field) fits h in
      let on = take_on at (size field) bytes ∙ ap (λ k. take at bytes ++ k) t.front in
      record {
        more = x ∷ r.more;
        behind = r.behind ∙ append_assoc values (x ∷ []) r.more;
        values_are = (t.value, r.values_are);
        parts = r.parts ∙ ap (λ k. spelled_behind k (behind x) r.more) on;
      }
]

-- what is spelled behind bytes leaves them in front
pub leaves : (fields : Fields) (before values : List ℕ)
    → (rest : List ℕ) × (spelled_behind before fields values ≡ before ++ rest)
leaves digest before values = (sha256 before, refl)
leaves (one field behind) before [] = ([], sym (append-nil before))
leaves (one field behind) before (x ∷ values) =
    let l = leaves (behind x) (before ++ spelled field x) values in
    (spelled field x ++ l.0, l.1 ∙ append_assoc before (spelled field x) l.0)

again_closed : (before values : List ℕ) → closed (before ++ sha256 before) values (length before) ≡ Ok values
again_closed before values =
    let front : take (length before) (before ++ sha256 before) ≡ before = take_at before (sha256 before) (length before) refl in
    let back : drop (length before) (before ++ sha256 before) ≡ sha256 before = drop_at before (sha256 before) (length before) refl in
    let ends : take 32 (drop (length before) (before ++ sha256 before)) ≡ sha256 before =
    ap (take 32) back ∙ take_all 32 (sha256 before) (omega (arith, length-sha256 before)) in
    let yes : bytes_eq (take 32 (drop (length before) (before ++ sha256 before))) (sha256 (take (length before) (before ++ sha256 before))) ≡ true =
    (bytes_eq-Decides _ _).1 (ends ∙ ap sha256 (sym front)) in
    let ended : ltb (length before + 32) (length (before ++ sha256 before)) ≡ false =
    le-ltb _ _ (omega (arith, length-append before (sha256 before), length-sha256 before)) in
    rw (yes, ended) refl

again_from : (fields : Fields) (whole before more values : List ℕ) → AreValues fields more
    → whole ≡ spelled_behind before fields more → reads whole fields values (length before) ≡ Ok (values ++ more)
again_from digest whole before [] values v e = subst (λ k. closed k values (length before) ≡ Ok (values ++ [])) (sym e) (again_closed before values ∙ ap Ok (sym (append-nil values)))
again_from digest whole before (x ∷ more) values v e = absurd v
again_from (one field behind) whole before [] values v e = absurd v
again_from (one field behind) whole before (x ∷ more) values v e =
    let l = leaves (behind x) (before ++ spelled field x) more in
    let parts : whole ≡ before ++ (spelled field x ++ l.0) = e ∙ l.1 ∙ append_assoc before (spelled field x) l.0 in
    let rest : drop (length before) whole ≡ spelled field x ++ l.0 =
    ap (drop (length before)) parts ∙ drop_at before (spelled field x ++ l.0) (length before) refl in
    let value : value_of field (drop (length before) whole) ≡ Some x =
    ap (value_of field) rest ∙ value_again field x l.0 v.0 in
    let place : length (before ++ spelled field x) ≡ length before + size field =
    length-append before (spelled field x) ∙ ap (λ k. length before + k) (spelled_size field.size x) in
    let step : reads whole (one field behind) values (length before) ≡ reads whole (behind x) (values ++ x ∷ []) (length before + size field) = rw value refl in
    let next = again_from (behind x) whole (before ++ spelled field x) more (values ++ x ∷ []) v.1 e in
    step ∙ ap (reads whole (behind x) (values ++ x ∷ [])) (sym place) ∙ next ∙ ap Ok (append_assoc values (x ∷ []) more)

pub is_found : (fields : Fields) (bytes values : List ℕ) → IsBytes bytes → read fields bytes ≡ Ok values
    → AreValues fields values × (bytes ≡ spelling fields values)
is_found fields bytes values fits e =
    let r = found_from fields bytes [] values 0 fits e in
    let same : r.more ≡ values = sym r.behind in
    (subst (AreValues fields) same r.values_are, r.parts ∙ ap (spelled_behind [] fields) same)

pub is_read : (fields : Fields) (values : List ℕ) → AreValues fields values → read fields (spelling fields values) ≡ Ok values
is_read fields values v = again_from fields (spelling fields values) [] values [] v refl
