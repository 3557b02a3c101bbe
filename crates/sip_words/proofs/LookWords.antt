-- The word of a lookup: no two lookups share one.
use Rattle.std.proofs.Common.{◌≡◌, ◌≢◌, ℕ, ◌^◌, ◌<◌, ◌≤◌, List, get_or, drop, ap, sym, ◌∙◌, arith}
use Rattle.std.proofs.Math.Pow.{pow_mono}
use Rattle.std.proofs.lemmas.Fmt.{decimal_injective}
use Rattle.sip_vector.specs.Limits.{most_depth}
use Rattle.sip_lookup.specs.declared.lookup.Lookup.{Lookup}
use Rattle.sip_lookup.specs.declared.lookup.Lookup.TheVariants.{Index, Pred, Succ}
use Rattle.sip_lookup.specs.Lookups.{CanLook, item_of}
use Rattle.sip_lookup.specs.Reports.{look_word}
use Rattle.sip_words.specs.Shapes.{AsksLook}

-- words with two first letters are two
unlike : (word other : List ℕ) → get_or word 0 0 ≢ get_or other 0 0 → word ≡ other → ⊥
unlike word other apart same = apart (ap (λ w. get_or w 0 0) same)

-- a word is that of one lookup
pub look_word_once : (l other : Lookup) → item_of l < 2 ^ 64 → item_of other < 2 ^ 64 → look_word l ≡ look_word other → l ≡ other
look_word_once (Index i) (Index j) low small same = ap Index (decimal_injective i j low small (ap (drop 6) same))
look_word_once (Index i) (Pred j) low small same = absurd (unlike _ _ (omega arith) same)
look_word_once (Index i) (Succ j) low small same = absurd (unlike _ _ (omega arith) same)
look_word_once (Pred i) (Index j) low small same = absurd (unlike _ _ (omega arith) same)
look_word_once (Pred i) (Pred j) low small same = ap Pred (decimal_injective i j low small (ap (drop 5) same))
look_word_once (Pred i) (Succ j) low small same = absurd (unlike _ _ (omega arith) same)
look_word_once (Succ i) (Index j) low small same = absurd (unlike _ _ (omega arith) same)
look_word_once (Succ i) (Pred j) low small same = absurd (unlike _ _ (omega arith) same)
look_word_once (Succ i) (Succ j) low small same = ap Succ (decimal_injective i j low small (ap (drop 5) same))

-- an item of a stream has room in 64 bits
pub item_read : (depth : ℕ) (l : Lookup) → depth ≤ most_depth → CanLook depth l → item_of l < 2 ^ 64
item_read depth l deep can = let bound = pow_mono {i = depth} {j = most_depth} deep in omega (arith, can)

-- a word asks one lookup
pub lookup_once : (depth : ℕ) (l other : Lookup) (word : List ℕ) → depth ≤ most_depth → AsksLook depth l word → AsksLook depth other word → l ≡ other
lookup_once depth l other word deep (can, is) (also, names) =
    look_word_once l other (item_read depth l deep can) (item_read depth other deep also) (sym is ∙ names)
