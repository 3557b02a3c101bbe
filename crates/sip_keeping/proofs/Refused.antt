-- How words are refused, of whatever commands.
use Rattle.std.proofs.Common.{◌≡◌, ◌↔◌, Bool, true, false, IsTrue, ℕ, ◌+◌, ◌<◌, ◌≤◌, Option, None, Some, Bor, List, [], ◌∷◌, ◌++◌, length, take, sym, ◌∙◌, ap, subst, inl, inr, true≢false, arith}
use Rattle.std.specs.Prelude.{is_some}
use Rattle.std.specs.List.{slice_get}
use Rattle.std.specs.Option.{option_copied}
use Rattle.std.proofs.lemmas.Bool.{cases_lt}
use Rattle.std.proofs.lemmas.Option.{slice_get-get_or, slice_get_within, get_or_from_slice_get}
use Rattle.std.proofs.lemmas.List.{append_assoc, take_more, take_all}
use Rattle.sip_words.specs.Words.{word}
use Rattle.sip_keeping.specs.Refusing.{AreRefusedAt}

-- one word more, and others behind it
pub longer : (words front rest : List (List ℕ)) (n : ℕ) → take n words ≡ front → n < length words → take (n + 1) words ++ rest ≡ front ++ word words n ∷ rest
longer words front rest n is more =
    ap (λ ws. ws ++ rest) (take_more words n [] more ∙ ap (λ ws. ws ++ word words n ∷ []) is) ∙ append_assoc front (word words n ∷ []) rest

module _ {C : Type 0} (Says : C → List (List ℕ) → Type 0) where
  -- Where a command begins with the first n words, none goes on with the word behind them, and they
  -- are none themselves, words are refused at n.
  pub refused : (words front end : List (List ℕ)) (n : ℕ) (c : C) → n ≤ length words → take n words ≡ front → Says c (front ++ end)
      → (n < length words → (c : C) (rest : List (List ℕ)) → Says c (front ++ word words n ∷ rest) → ⊥)
      → (length words ≤ n → (c : C) → Says c front → ⊥)
      → AreRefusedAt Says words n
  refused words front end n c within is says none short = record {
    before = (c, end, subst (λ ws. Says c (ws ++ end)) (sym is) says);
    here = λ more (other, rest, all). none more other rest (subst (Says other) (longer words front rest n is more) all);
    short = λ least. (
      omega arith,
      λ other all. short least other (subst (Says other) (sym (take_all n words least) ∙ is) all),
    );
  }

-- what a test says is not so
pub no_such : {P : Type 0} (found : Bool) → IsTrue found ↔ P → found ≡ false → P → ⊥
no_such true is none p = true≢false none
no_such false is none p = true≢false (sym (is.1 p))

-- there is a word of this number, or there is none
pub there : (words : List (List ℕ)) (n : ℕ) (r : Option (Bor (List ℕ))) (found : Bool) → option_copied r ≡ slice_get words n → is_some r ≡ found → (found ≡ true → n < length words) × (found ≡ false → length words ≤ n)
there words n None found is same = (
  λ yes. absurd (true≢false (sym yes ∙ sym same)),
  λ _. elim (cases_lt n (length words)) [
    | inl more ↦ absurd (let some = slice_get-get_or words n [] more in cc)
    | inr least ↦ least
  ],
)
there words n (Some w) found is same = (λ _. slice_get_within words n w.now (sym is), λ no. absurd (true≢false (same ∙ no)))

-- the word of a number that there is
pub got : (words : List (List ℕ)) (n : ℕ) (w : Bor (List ℕ)) → Some w.now ≡ slice_get words n → (n < length words) × (word words n ≡ w.now)
got words n w is = (slice_get_within words n w.now (sym is), get_or_from_slice_get words n w.now [] (sym is))
