-- Texts in two parts, in front of the first such byte and behind it.
use Rattle.std.proofs.Common.{◌≡◌, ◌≢◌, ℕ, zero, suc, ◌+◌, ◌-◌, ◌<◌, Bool, true, false, cond, eqb, List, [], ◌∷◌, ◌++◌, length, take, drop, get_or, refl, sym, ap, ◌∙◌, arith, eq-eqb, take-append-drop, take_all, length-drop}
use Rattle.std.specs.Prelude.{Option, Some, None, option_map}
use Rattle.std.proofs.lemmas.Bool.{ne_eqb}
use Rattle.sip_stream.specs.Lines.{parts_at}

abbrev pub Parts : Type 0
Parts = Option (List ℕ × List ℕ)

-- one more byte in front
abbrev pub push : ℕ → Parts → Parts
push x parts = option_map (λ (p : List ℕ × List ℕ). (x ∷ p.0, p.1)) parts

-- the parts of a text, by whether its first byte is the mark
abbrev pub first_step : ℕ → List ℕ → Bool → Parts → Parts
first_step x xs is rest = cond is (Some ([], xs)) (push x rest)

-- there is no mark, so the first byte is none
pub none_from : (x : ℕ) (xs : List ℕ) (is : Bool) (rest : Parts) → first_step x xs is rest ≡ None → (is ≡ false) × (rest ≡ None)
none_from x xs true rest e = cc
none_from x xs false None e = (refl, refl)
none_from x xs false (Some p) e = cc

-- behind a text without the mark comes the mark
pub parts_found : (mark : ℕ) (xs ys : List ℕ) → parts_at mark xs ≡ None → parts_at mark (xs ++ mark ∷ ys) ≡ Some (xs, ys)
parts_found mark [] ys e = ap (λ is. first_step mark ys is (parts_at mark ys)) (eq-eqb mark mark refl)
parts_found mark (x ∷ xs) ys e =
    let k = none_from x xs (eqb x mark) (parts_at mark xs) e in
    ap (λ is. first_step x (xs ++ mark ∷ ys) is (parts_at mark (xs ++ mark ∷ ys))) k.0 ∙ ap (push x) (parts_found mark xs ys k.1)

-- behind a text without the mark comes another byte
pub parts_more : (mark b : ℕ) (xs : List ℕ) → parts_at mark xs ≡ None → b ≢ mark → parts_at mark (xs ++ b ∷ []) ≡ None
parts_more mark b [] e n = ap (λ is. first_step b [] is None) (ne_eqb b mark n)
parts_more mark b (x ∷ xs) e n =
    let k = none_from x xs (eqb x mark) (parts_at mark xs) e in
    ap (λ is. first_step x (xs ++ b ∷ []) is (parts_at mark (xs ++ b ∷ []))) k.0 ∙ ap (push x) (parts_more mark b xs k.1 n)

-- what is left of a list begins with the element at that place
pub drop_cons : (xs : List ℕ) (i : ℕ) → i < length xs → drop i xs ≡ get_or xs i 0 ∷ drop (i + 1) xs
drop_cons [] i l = absurd (omega arith)
drop_cons (x ∷ xs) zero l = refl
drop_cons (x ∷ xs) (suc i) l = let on : suc i + 1 ≡ suc (i + 1) = omega arith in drop_cons xs i (omega arith) ∙ ap (λ n. get_or xs i 0 ∷ drop n (x ∷ xs)) (sym on)

-- a longer front of a list
pub take_more : (xs : List ℕ) (i : ℕ) → i < length xs → take (i + 1) xs ≡ take i xs ++ get_or xs i 0 ∷ []
take_more [] i l = absurd (omega arith)
take_more (x ∷ xs) zero l = refl
take_more (x ∷ xs) (suc i) l = let on : suc i + 1 ≡ suc (i + 1) = omega arith in ap (λ n. take n (x ∷ xs)) on ∙ ap (λ t. x ∷ t) (take_more xs i (omega arith))

-- the first mark stands at this place
pub split_found : (text : List ℕ) (mark i : ℕ) → i < length text → parts_at mark (take i text) ≡ None → get_or text i 0 ≡ mark → Some (take i text, drop (i + 1) text) ≡ parts_at mark text
split_found text mark i l none is =
    let whole : take i text ++ mark ∷ drop (i + 1) text ≡ text = ap (λ x. take i text ++ x ∷ drop (i + 1) text) (sym is) ∙ ap (λ t. take i text ++ t) (sym (drop_cons text i l)) ∙ take-append-drop i text in
    sym (parts_found mark (take i text) (drop (i + 1) text) none) ∙ ap (parts_at mark) whole

-- no mark stands at this place
pub split_more : (text : List ℕ) (mark i : ℕ) → i < length text → parts_at mark (take i text) ≡ None → get_or text i 0 ≢ mark → parts_at mark (take (i + 1) text) ≡ None
split_more text mark i l none other = ap (parts_at mark) (take_more text i l) ∙ parts_more mark (get_or text i 0) (take i text) none other

-- the same, as the code has the text behind the mark
pub split_there : (text : List ℕ) (mark i : ℕ) → i < length text → parts_at mark (take i text) ≡ None → get_or text i 0 ≡ mark → Some (take i text, take (length text - (i + 1)) (drop (i + 1) text)) ≡ parts_at mark text
split_there text mark i l none is =
    let all : take (length text - (i + 1)) (drop (i + 1) text) ≡ drop (i + 1) text = take_all (length text - (i + 1)) (drop (i + 1) text) (omega (arith, length-drop (i + 1) text)) in
    ap (λ t. Some (take i text, t)) all ∙ split_found text mark i l none is

-- the text is what stands in front of the mark, the mark, and what stands behind it, as the code has that
pub split_whole : (text : List ℕ) (mark i : ℕ) → i < length text → get_or text i 0 ≡ mark → text ≡ take i text ++ mark ∷ take (length text - (i + 1)) (drop (i + 1) text)
split_whole text mark i l is =
    let all : take (length text - (i + 1)) (drop (i + 1) text) ≡ drop (i + 1) text = take_all (length text - (i + 1)) (drop (i + 1) text) (omega (arith, length-drop (i + 1) text)) in
    sym (take-append-drop i text) ∙ ap (λ t. take i text ++ t) (drop_cons text i l) ∙ ap (λ x. take i text ++ x ∷ drop (i + 1) text) is ∙ ap (λ t. take i text ++ mark ∷ t) (sym all)
