-- Which kinds of query this program asks and answers. A new kind begins here, as one that is not
-- built: CONTRIBUTING.md lists what it wants, crate by crate, and what it wants to be built.
use Rattle.std.specs.Prelude.{Bool, true, false}
use Rattle.sip_vector.specs.declared.query.Query.{Query}
use Rattle.sip_vector.specs.declared.query.Query.TheVariants.{Sub, Range, F2, Inner, Heavy, Share}
use Rattle.sip_vector.specs.declared.query.Query.TheVariants.{Above}

-- The queries that a verifier checks and a helper answers. To build a kind is to change its line.
abbrev pub is_built : Query → Bool
is_built (Sub _ _) = true
is_built (Range _ _ _) = true
is_built (F2 _) = true
is_built Inner = true
is_built (Heavy _ _) = true
is_built (Share _ _ _) = true
is_built (Above _ _) = false
