-- The digits of bytes, part by part.
use Rattle.std.proofs.Common.{◌≡◌, ℕ, List, [], ◌∷◌, ◌++◌, take, drop, refl, sym, ap, ◌∙◌, append_assoc, append-nil, take-append-drop}
use Rattle.std.specs.Prelude.{codes, slice_index, ◌/◌, ◌%◌}
use Rattle.hex.specs.Hex.{encode_lower, encode_with, lower_digits}
use Rattle.sip_transcript.specs.Listings.{body_text}

-- those of two parts
pub digits-append : (xs ys : List ℕ) → encode_lower (xs ++ ys) ≡ encode_lower xs ++ encode_lower ys
unfolding encode_with
digits-append [] ys = refl
digits-append (x ∷ xs) ys = ap (λ (l : List ℕ). slice_index lower_digits (x / 16) ∷ slice_index lower_digits (x % 16) ∷ l) (digits-append xs ys)

-- no bytes have no digits
pub digits-nil : encode_lower [] ≡ []
unfolding encode_with
digits-nil = refl

-- behind a dash for a body that is empty
pub dash-empty : (front line body : List ℕ) → line ≡ front ++ codes "-" → body ≡ [] → line ++ encode_lower body ≡ front ++ body_text body
unfolding encode_with
dash-empty front line [] is none = append-nil line ∙ is
dash-empty front line (b ∷ body) is none = absurd (let no : b ∷ body ≡ [] = none in cc)

-- a part of the body moves into what is written
pub digits-step : (n : ℕ) (sent line now body whole : List ℕ) → now ≡ line ++ encode_lower (take n body) → (sent ++ line) ++ encode_lower body ≡ whole → (sent ++ now) ++ encode_lower (drop n body) ≡ whole
digits-step n sent line now body whole is all =
    let parts = ap encode_lower (sym (take-append-drop n body)) ∙ digits-append (take n body) (drop n body) in
    ap (λ (l : List ℕ). (sent ++ l) ++ encode_lower (drop n body)) is
    ∙ ap (λ (l : List ℕ). l ++ encode_lower (drop n body)) (sym (append_assoc sent line (encode_lower (take n body))))
    ∙ append_assoc (sent ++ line) (encode_lower (take n body)) (encode_lower (drop n body))
    ∙ ap (λ (l : List ℕ). (sent ++ line) ++ l) (sym parts)
    ∙ all
