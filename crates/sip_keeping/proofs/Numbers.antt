-- Numbers in words.
use Rattle.std.proofs.Common.{◌≡◌, ◌≢◌, ℕ, ◌^◌, ◌<◌, List, ◌∷◌, ◌++◌, length, get_or, Option, Bor, MatchOption, arith}
use Rattle.std.specs.Prelude.{decimal}
use Rattle.std.proofs.lemmas.Fmt.{digits_decimal}
use Rattle.std.proofs.lemmas.Str.Parse.{not_in_digits}
use Rattle.std.proofs.lemmas.Str.Pattern.{split_after, IsSplitOnceResult}
use Rattle.sip_words.proofs.Decimals.{digits}

-- a decimal number has no slash
pub lacks_slash : (n : ℕ) → n < 2 ^ 64 → (i : ℕ) → i < length (decimal n) → get_or (decimal n) i 0 ≢ 47
lacks_slash n small = not_in_digits digits (decimal n) 47 (digits_decimal digits n small) (λ within. omega arith)

-- the cut at the slash gives the two numbers
pub cut_numbers : (text : List ℕ) (r : Option (Bor (List ℕ) × Bor (List ℕ))) → IsSplitOnceResult 47 text r → (n m : ℕ) → n < 2 ^ 64 → text ≡ decimal n ++ 47 ∷ decimal m → MatchOption r ⊥ (λ x. (x.0.now ≡ decimal n) × (x.1.now ≡ decimal m))
cut_numbers text r split n m low same = split_after 47 text (decimal n) (decimal m) r split (omega arith) same (lacks_slash n low)
