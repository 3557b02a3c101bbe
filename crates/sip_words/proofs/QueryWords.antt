-- The word of a query: where its parts stand, and that no two queries share one.
use Rattle.std.proofs.Common.{◌≡◌, ◌≢◌, ◌↔◌, Bool, true, false, IsTrue, ℕ, ◌^◌, ◌<◌, ◌≤◌, suc, List, [], ◌∷◌, ◌++◌, length, get_or, MatchOption, drop, ap, sym, refl, ◌∙◌, arith}
use Rattle.std.specs.Prelude.{decimal}
use Rattle.std.proofs.lemmas.Fmt.{decimal_injective, digits_decimal}
use Rattle.std.proofs.Math.Pow.{pow_mono}
use Rattle.std.specs.Bool.{then_some}
use Rattle.std.proofs.lemmas.Str.Parse.{not_in_digits}
use Rattle.sip_vector.specs.declared.update.Side.{Side}
use Rattle.sip_vector.specs.declared.update.Side.TheVariants.{First, Second}
use Rattle.sip_vector.specs.declared.query.Query.{Query}
use Rattle.sip_vector.specs.declared.query.Query.TheVariants.{Sub, Range, F2, Inner, Heavy, Share, Above}
use Rattle.sip_vector.specs.Answers.{Fits}
use Rattle.sip_vector.specs.Built.{is_built}
use Rattle.sip_vector.specs.Limits.{most_depth}
use Rattle.sip_verifier.specs.Reports.{query_word, side_parameter}
use Rattle.sip_words.specs.Shapes.{Asks}
use Rattle.sip_words.specs.inside.QueryParts.{IsRead, bounds}
use Rattle.sip_words.proofs.Decimals.{digits}

-- no element is c
abbrev pub HasNo : ℕ → List ℕ → Type 0
HasNo c xs = (i : ℕ) → i < length xs → get_or xs i 0 ≢ c

-- two texts that are cut at their first c are cut alike
pub same_parts : (c : ℕ) (xs xs' ys ys' : List ℕ) → HasNo c xs → HasNo c xs' → xs ++ c ∷ ys ≡ xs' ++ c ∷ ys' → (xs ≡ xs') × (ys ≡ ys')
same_parts c [] [] ys ys' none none' same = (refl, cc)
same_parts c [] (x ∷ xs') ys ys' none none' same = absurd (none' 0 (omega arith) cc)
same_parts c (x ∷ xs) [] ys ys' none none' same = absurd (none 0 (omega arith) cc)
same_parts c (x ∷ xs) (x' ∷ xs') ys ys' none none' same =
    let rest = same_parts c xs xs' ys ys' (λ i h. none (suc i) (omega arith)) (λ i h. none' (suc i) (omega arith)) cc in
    let first : x ≡ x' = cc in
    let front = rest.0 in
    (cc, rest.1)

-- a decimal number has no colon
pub decimal_lacks_colon : (n : ℕ) → n < 2 ^ 64 → HasNo 58 (decimal n)
decimal_lacks_colon n small = not_in_digits digits (decimal n) 58 (digits_decimal digits n small) (λ within. omega arith)

-- two intervals with one spelling are one
same_bounds : (lo hi lo' hi' : ℕ) → lo < 2 ^ 64 → hi < 2 ^ 64 → lo' < 2 ^ 64 → hi' < 2 ^ 64 → bounds lo hi ≡ bounds lo' hi' → (lo ≡ lo') × (hi ≡ hi')
same_bounds lo hi lo' hi' low high low' high' same =
    let parts = same_parts 58 (decimal lo) (decimal lo') (decimal hi) (decimal hi') (decimal_lacks_colon lo low) (decimal_lacks_colon lo' low') same in
    (decimal_injective lo lo' low low' parts.0, decimal_injective hi hi' high high' parts.1)

-- a side is told by its digit
same_sides : (side side' : Side) → side_parameter side ≡ side_parameter side' → side ≡ side'
same_sides First First same = refl
same_sides First Second same = let digit : 48 ≡ 49 = ap (λ w. get_or w 1 0) same in absurd (omega (arith, digit))
same_sides Second First same = let digit : 49 ≡ 48 = ap (λ w. get_or w 1 0) same in absurd (omega (arith, digit))
same_sides Second Second same = refl

-- two ranges with one word are one
same_ranges : (side side' : Side) (lo hi lo' hi' : ℕ) → lo < 2 ^ 64 → hi < 2 ^ 64 → lo' < 2 ^ 64 → hi' < 2 ^ 64 → query_word (Range side lo hi) ≡ query_word (Range side' lo' hi') → (side ≡ side') × (lo ≡ lo') × (hi ≡ hi')
same_ranges First First lo hi lo' hi' low high low' high' same = let one = same_bounds lo hi lo' hi' low high low' high' (ap (drop 8) same) in (refl, one.0, one.1)
same_ranges First Second lo hi lo' hi' low high low' high' same = let digit : 48 ≡ 49 = ap (λ w. get_or w 6 0) same in absurd (omega (arith, digit))
same_ranges Second First lo hi lo' hi' low high low' high' same = let digit : 49 ≡ 48 = ap (λ w. get_or w 6 0) same in absurd (omega (arith, digit))
same_ranges Second Second lo hi lo' hi' low high low' high' same = let one = same_bounds lo hi lo' hi' low high low' high' (ap (drop 8) same) in (refl, one.0, one.1)

-- two queries for heavy hitters with one word are one
same_thresholds : (side side' : Side) (t t' : ℕ) → t < 2 ^ 64 → t' < 2 ^ 64 → query_word (Heavy side t) ≡ query_word (Heavy side' t') → (side ≡ side') × (t ≡ t')
same_thresholds First First t t' small small' same = (refl, decimal_injective t t' small small' (ap (drop 8) same))
same_thresholds First Second t t' small small' same = let digit : 48 ≡ 49 = ap (λ w. get_or w 6 0) same in absurd (omega (arith, digit))
same_thresholds Second First t t' small small' same = let digit : 49 ≡ 48 = ap (λ w. get_or w 6 0) same in absurd (omega (arith, digit))
same_thresholds Second Second t t' small small' same = (refl, decimal_injective t t' small small' (ap (drop 8) same))

-- two ratios with one spelling are one
pub same_ratios : (num den num' den' : ℕ) → num < 2 ^ 32 → den < 2 ^ 32 → num' < 2 ^ 64 → den' < 2 ^ 64 → bounds num den ≡ bounds num' den' → (num ≡ num') × (den ≡ den')
same_ratios num den num' den' small low small' low' same = same_bounds num den num' den' (omega (arith, small)) (omega (arith, low)) small' low' same

-- two shares with one word are one
same_shares : (side side' : Side) (num den num' den' : ℕ) → num < 2 ^ 32 → den < 2 ^ 32 → num' < 2 ^ 32 → den' < 2 ^ 32 → query_word (Share side num den) ≡ query_word (Share side' num' den') → (side ≡ side') × (num ≡ num') × (den ≡ den')
same_shares First First num den num' den' small low small' low' same = let one = same_ratios num den num' den' small low (omega (arith, small')) (omega (arith, low')) (ap (drop 8) same) in (refl, one.0, one.1)
same_shares First Second num den num' den' small low small' low' same = let digit : 48 ≡ 49 = ap (λ w. get_or w 6 0) same in absurd (omega (arith, digit))
same_shares Second First num den num' den' small low small' low' same = let digit : 49 ≡ 48 = ap (λ w. get_or w 6 0) same in absurd (omega (arith, digit))
same_shares Second Second num den num' den' small low small' low' same = let one = same_ratios num den num' den' small low (omega (arith, small')) (omega (arith, low')) (ap (drop 8) same) in (refl, one.0, one.1)

-- the letter that a word has behind its first, of which each kind has one of its own
abbrev letter : List ℕ → ℕ
letter word = get_or word 1 0

-- words with two such letters are two
unlike : (word other : List ℕ) → letter word ≢ letter other → word ≡ other → ⊥
unlike word other apart same = apart (ap letter same)

-- a word is that of one query
pub query_word_once : (query other : Query) → IsRead query → IsRead other → query_word query ≡ query_word other → query ≡ other
query_word_once (Above side t) other read also same = absurd read
query_word_once (Sub lo hi) (Above side' t') read also same = absurd also
query_word_once (Range side lo hi) (Above side' t') read also same = absurd also
query_word_once (F2 side) (Above side' t') read also same = absurd also
query_word_once Inner (Above side' t') read also same = absurd also
query_word_once (Heavy side t) (Above side' t') read also same = absurd also
query_word_once (Share side num den) (Above side' t') read also same = absurd also
query_word_once (Sub lo hi) (Sub lo' hi') (low, high) (low', high') same =
    let one = same_bounds lo hi lo' hi' low high low' high' (ap (drop 4) same) in
    rw (one.0, one.1) refl
query_word_once (Sub lo hi) (Range side' lo' hi') read also same = absurd (unlike _ _ (omega arith) same)
query_word_once (Sub lo hi) (F2 side') read also same = absurd (unlike _ _ (omega arith) same)
query_word_once (Sub lo hi) Inner read also same = absurd (unlike _ _ (omega arith) same)
query_word_once (Sub lo hi) (Heavy side' t') read also same = absurd (unlike _ _ (omega arith) same)
query_word_once (Sub lo hi) (Share side' num' den') read also same = absurd (unlike _ _ (omega arith) same)
query_word_once (Range side lo hi) (Sub lo' hi') read also same = absurd (unlike _ _ (omega arith) same)
query_word_once (Range side lo hi) (Range side' lo' hi') (low, high) (low', high') same =
    let one = same_ranges side side' lo hi lo' hi' low high low' high' same in
    rw (one.0, one.1, one.2) refl
query_word_once (Range side lo hi) (F2 side') read also same = absurd (unlike _ _ (omega arith) same)
query_word_once (Range side lo hi) Inner read also same = absurd (unlike _ _ (omega arith) same)
query_word_once (Range side lo hi) (Heavy side' t') read also same = absurd (unlike _ _ (omega arith) same)
query_word_once (Range side lo hi) (Share side' num' den') read also same = absurd (unlike _ _ (omega arith) same)
query_word_once (F2 side) (Sub lo' hi') read also same = absurd (unlike _ _ (omega arith) same)
query_word_once (F2 side) (Range side' lo' hi') read also same = absurd (unlike _ _ (omega arith) same)
query_word_once (F2 side) (F2 side') read also same = rw (same_sides side side' (ap (drop 2) same)) refl
query_word_once (F2 side) Inner read also same = absurd (unlike _ _ (omega arith) same)
query_word_once (F2 side) (Heavy side' t') read also same = absurd (unlike _ _ (omega arith) same)
query_word_once (F2 side) (Share side' num' den') read also same = absurd (unlike _ _ (omega arith) same)
query_word_once Inner (Sub lo' hi') read also same = absurd (unlike _ _ (omega arith) same)
query_word_once Inner (Range side' lo' hi') read also same = absurd (unlike _ _ (omega arith) same)
query_word_once Inner (F2 side') read also same = absurd (unlike _ _ (omega arith) same)
query_word_once Inner Inner read also same = refl
query_word_once Inner (Heavy side' t') read also same = absurd (unlike _ _ (omega arith) same)
query_word_once Inner (Share side' num' den') read also same = absurd (unlike _ _ (omega arith) same)
query_word_once (Heavy side t) (Sub lo' hi') read also same = absurd (unlike _ _ (omega arith) same)
query_word_once (Heavy side t) (Range side' lo' hi') read also same = absurd (unlike _ _ (omega arith) same)
query_word_once (Heavy side t) (F2 side') read also same = absurd (unlike _ _ (omega arith) same)
query_word_once (Heavy side t) Inner read also same = absurd (unlike _ _ (omega arith) same)
query_word_once (Heavy side t) (Heavy side' t') read also same =
    let one = same_thresholds side side' t t' read also same in
    rw (one.0, one.1) refl
query_word_once (Heavy side t) (Share side' num' den') read also same = absurd (unlike _ _ (omega arith) same)
query_word_once (Share side num den) (Sub lo' hi') read also same = absurd (unlike _ _ (omega arith) same)
query_word_once (Share side num den) (Range side' lo' hi') read also same = absurd (unlike _ _ (omega arith) same)
query_word_once (Share side num den) (F2 side') read also same = absurd (unlike _ _ (omega arith) same)
query_word_once (Share side num den) Inner read also same = absurd (unlike _ _ (omega arith) same)
query_word_once (Share side num den) (Heavy side' t') read also same = absurd (unlike _ _ (omega arith) same)
query_word_once (Share side num den) (Share side' num' den') (small, low) (small', low') same =
    let one = same_shares side side' num den num' den' small low small' low' same in
    rw (one.0, one.1, one.2) refl

-- the word of a query that is built and fits is read
pub is_read : (depth : ℕ) (query : Query) → depth ≤ most_depth → IsTrue (is_built query) → Fits depth query → IsRead query
is_read depth (Sub lo hi) deep built fits = let bound = pow_mono {i = depth} {j = most_depth} deep in (omega (arith, fits.0, fits.1), omega (arith, fits.1))
is_read depth (Range side lo hi) deep built fits = let bound = pow_mono {i = depth} {j = most_depth} deep in (omega (arith, fits.0, fits.1), omega (arith, fits.1))
is_read depth (F2 side) deep built fits = cc
is_read depth Inner deep built fits = cc
is_read depth (Heavy side at_least) deep built fits = omega (arith, fits.1)
is_read depth (Share side num den) deep built fits = (omega (arith, fits.1, fits.2), omega (arith, fits.2))
is_read depth (Above side at_least) deep built fits = absurd cc

-- a word asks one query
pub query_once : (depth : ℕ) (query other : Query) (word : List ℕ) → depth ≤ most_depth → Asks depth query word → Asks depth other word → query ≡ other
query_once depth query other word deep (built, fits, is) (also, suits, names) =
    query_word_once query other (is_read depth query deep built fits) (is_read depth other deep also suits) (sym is ∙ names)

-- the query of the word, where it is built and fits
pub chosen : (depth : ℕ) (query : Query) (word : List ℕ) (good : Bool) → depth ≤ most_depth → IsTrue good ↔ (IsTrue (is_built query) × Fits depth query) → IsRead query → word ≡ query_word query → MatchOption (then_some good query) ((other : Query) → Asks depth other word → ⊥) (λ q. Asks depth q word)
chosen depth query word true deep good read same = let g = good.0 refl in (g.0, g.1, same)
chosen depth query word false deep good read same =
    λ other (built, fits, is).
    let one = query_word_once query other read (is_read depth other deep built fits) (sym same ∙ is) in
    let never : false ≡ true = good.1 (rw one (built, fits)) in
    cc
