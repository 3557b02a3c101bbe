-- The parts of a query's word.
use Rattle.std.specs.Prelude.{ℕ, ◌^◌, ◌<◌, List, ◌∷◌, ◌++◌, decimal, ⊤}
use Rattle.sip_vector.specs.declared.query.Query.{Query}
use Rattle.sip_vector.specs.declared.query.Query.TheVariants.{Sub, Range, F2, Inner, Heavy, Share}
use Rattle.sip_vector.specs.declared.query.Query.TheVariants.{Above}

-- LO:HI
abbrev pub bounds : ℕ → ℕ → List ℕ
bounds lo hi = decimal lo ++ 58 ∷ decimal hi

-- the query's word is read, whether it fits a depth or not: its numbers have room in 64 bits, and
-- those of a share in 32; no word of a kind that is not built is
abbrev pub IsRead : Query → Type 0
IsRead (Sub lo hi) = (lo < 2 ^ 64) × (hi < 2 ^ 64)
IsRead (Range _ lo hi) = (lo < 2 ^ 64) × (hi < 2 ^ 64)
IsRead (F2 _) = ⊤
IsRead Inner = ⊤
IsRead (Heavy _ at_least) = at_least < 2 ^ 64
IsRead (Share _ num den) = (num < 2 ^ 32) × (den < 2 ^ 32)
IsRead (Above _ _) = ⊥
