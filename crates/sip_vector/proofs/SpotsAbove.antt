-- The spots of a vector's entries, and the spots above a list of spots, taken from the first one
-- on.
use Rattle.std.proofs.Common.{◌≡◌, ◌≢◌, ℕ, ◌/◌, ◌%◌, ◌<◌, true, false, List, [], ◌∷◌, ◌++◌, length, get_or, set, take, drop, map, ◌+◌, ◌≤◌, ℤ, refl, sym, ap, ◌∙◌, arith, eq-eqb, ne_eqb}
use Rattle.std.proofs.lemmas.List.{append-nil, append_assoc, length-map, map-append, map-set, take-map, take_more_set, drop-map, drop-drop, drop-set-lt, drop_all}
use Rattle.sip_field.specs.Residue.{residue}
use Rattle.sip_vector.specs.declared.level.Spot.{Spot}
use Rattle.sip_vector.specs.Levels.{index_and_residue, before, residues_of, begins_with_pair, above_one, folded}

module _ {F : Type 0} (number : F → ℕ) (join : ℕ → ℕ → ℕ) where
  abbrev entries : List (Spot F) → List (ℕ × ℕ)
  entries spots = map (index_and_residue number) spots

  pub folded-two : (spots : List (Spot F)) (s t : Spot F) → s ≡ get_or spots 0 s → t ≡ get_or spots 1 t → begins_with_pair (map (λ (x : Spot F). x.index) spots) ≡ true
      → folded join (entries spots) ≡ before (s.index / 2) (join (number s.value) (number t.value)) (folded join (drop 2 (entries spots)))
  folded-two [] s t e f pair = cc
  folded-two (a ∷ []) s t e f pair = cc
  folded-two (a ∷ b ∷ spots) s t e f pair = rw (e, f, pair) refl

  pub folded-one : (spots : List (Spot F)) (s : Spot F) → 0 < length spots → s ≡ get_or spots 0 s → begins_with_pair (map (λ (x : Spot F). x.index) spots) ≡ false
      → folded join (entries spots) ≡ before (s.index / 2) (above_one join (index_and_residue number s)) (folded join (drop 1 (entries spots)))
  folded-one [] s some e pair = absurd (omega arith)
  folded-one (a ∷ []) s some e pair = rw e refl
  folded-one (a ∷ b ∷ spots) s some e pair = rw (e, pair) refl

  -- the residue above a left one alone, and above a right one alone
  pub above_left : (s : Spot F) (y z : ℕ) → s.index % 2 ≡ 0 → z ≡ 0 → y ≡ join (number s.value) z → y ≡ above_one join (index_and_residue number s)
  above_left s y z even nothing e = rw (eq-eqb (s.index % 2) 0 even) (rw nothing at e)

  pub above_right : (s : Spot F) (y z : ℕ) → s.index % 2 ≢ 0 → z ≡ 0 → y ≡ join z (number s.value) → y ≡ above_one join (index_and_residue number s)
  above_right s y z odd nothing e = rw (ne_eqb (s.index % 2) 0 odd) (rw nothing at e)

  -- the spots above the first ones, and those above the others
  pub one_above : (spots : List (Spot F)) (s : Spot F) (y : ℕ) → 0 < length spots → s ≡ get_or spots 0 s → begins_with_pair (map (λ (x : Spot F). x.index) spots) ≡ false → y ≡ above_one join (index_and_residue number s)
      → folded join (entries spots) ≡ before (s.index / 2) y (folded join (drop 1 (entries spots)))
  one_above spots s y some e pair f = folded-one spots s some e pair ∙ ap (λ x. before (s.index / 2) x (folded join (drop 1 (entries spots)))) (sym f)

  -- ---- the loop that writes the spots above: those written, and those above the spots that are left

  read_on : (spots : List (Spot F)) (read count i x : ℕ) → folded join (map (index_and_residue number) (drop read spots)) ≡ before i x (folded join (drop count (map (index_and_residue number) (drop read spots))))
      → folded join (drop read (entries spots)) ≡ before i x (folded join (drop (read + count) (entries spots)))
  read_on spots read count i x above = rw (← drop-map (index_and_residue number) read spots, drop-drop count read (entries spots)) at above

  pub fold_none : (spots : List (Spot F)) (written read count i x : ℕ) (all : List (ℕ × ℕ)) → x ≡ 0
      → folded join (map (index_and_residue number) (drop read spots)) ≡ before i x (folded join (drop count (map (index_and_residue number) (drop read spots))))
      → take written (entries spots) ++ folded join (drop read (entries spots)) ≡ all → take written (entries spots) ++ folded join (drop (read + count) (entries spots)) ≡ all
  fold_none spots written read count i x all none above invariant =
      rw (read_on spots read count i x above, eq-eqb x 0 none) at invariant

  pub fold_more : (spots : List (Spot F)) (written read count : ℕ) (s : Spot F) (all : List (ℕ × ℕ)) → number s.value ≢ 0 → written ≤ read → read < length spots → 1 ≤ count
      → folded join (map (index_and_residue number) (drop read spots)) ≡ before s.index (number s.value) (folded join (drop count (map (index_and_residue number) (drop read spots))))
      → take written (entries spots) ++ folded join (drop read (entries spots)) ≡ all
      → take (written + 1) (entries (set spots written s)) ++ folded join (drop (read + count) (entries (set spots written s))) ≡ all
  fold_more spots written read count s all some le below one above invariant =
      let len = length-map spots (index_and_residue number) in
      let there : written < length (entries spots) = omega arith in
      let later : written < read + count = omega arith in
      rw (
        map-set (index_and_residue number) spots written s,
        take_more_set (entries spots) written (index_and_residue number s) there,
        drop-set-lt (read + count) (entries spots) written (index_and_residue number s) later,
        append_assoc (take written (entries spots)) (index_and_residue number s ∷ []) (folded join (drop (read + count) (entries spots))),
      )
      (rw (read_on spots read count s.index (number s.value) above, ne_eqb (number s.value) 0 some) at invariant)

  pub fold_all : (spots : List (Spot F)) (written read : ℕ) (all : List (ℕ × ℕ)) → length spots ≤ read
      → take written (entries spots) ++ folded join (drop read (entries spots)) ≡ all → entries (take written spots) ≡ all
  fold_all spots written read all past invariant =
      let len = length-map spots (index_and_residue number) in
      let nothing : drop read (entries spots) ≡ [] = drop_all read (entries spots) (omega arith) in
      sym (take-map (index_and_residue number) written spots) ∙ sym (append-nil (take written (entries spots))) ∙ (rw nothing at invariant)

module _ {F : Type 0} (number : F → ℕ) (p : ℕ) where
  abbrev spots_of : List (Spot F) → List (ℕ × ℕ)
  spots_of spots = map (index_and_residue number) spots

  -- one more entry of a vector gives a spot, or none where its residue is 0
  pub residues_of_more : (spots : List (Spot F)) (s : Spot F) (e : ℕ × ℤ) (es : List (ℕ × ℤ)) (all : List (ℕ × ℕ)) → s.index ≡ e.0 → number s.value ≡ residue p e.1 → number s.value ≢ 0
      → spots_of spots ++ residues_of p (e ∷ es) ≡ all → spots_of (spots ++ s ∷ []) ++ residues_of p es ≡ all
  residues_of_more spots s e es all index value some before_it =
      rw (map-append (index_and_residue number) spots (s ∷ []), append_assoc (spots_of spots) (index_and_residue number s ∷ []) (residues_of p es))
      (rw (index, value) (rw (ne_eqb (residue p e.1) 0 (rw value at some)) at before_it))

  pub residues_of_none : (spots : List (Spot F)) (x : ℕ) (e : ℕ × ℤ) (es : List (ℕ × ℤ)) (all : List (ℕ × ℕ)) → x ≡ residue p e.1 → x ≡ 0
      → spots_of spots ++ residues_of p (e ∷ es) ≡ all → spots_of spots ++ residues_of p es ≡ all
  residues_of_none spots x e es all value none before_it = rw (eq-eqb (residue p e.1) 0 (sym value ∙ none)) at before_it
