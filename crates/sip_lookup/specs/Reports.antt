-- The lines of answers to lookups.
use Rattle.std.specs.Prelude.{ℕ, List, [], ◌∷◌, ◌++◌, Some, None, codes}
use Rattle.std.specs.Fmt.{signed_decimal}
use Rattle.sip_verifier.specs.Reports.{pair_text, parameter}
use Rattle.sip_lookup.specs.Lookups.{Looked, nearest, value}
use Rattle.sip_lookup.specs.declared.lookup.Lookup.{Lookup}
use Rattle.sip_lookup.specs.declared.lookup.Lookup.TheVariants.{Index, Pred, Succ}

-- the word that asks a lookup
abbrev pub look_word : Lookup → List ℕ
look_word (Index i) = codes "index" ++ parameter i
look_word (Pred i) = codes "pred" ++ parameter i
look_word (Succ i) = codes "succ" ++ parameter i

abbrev pub looked_text : Looked → List ℕ
looked_text (value z) = signed_decimal z
looked_text (nearest None) = codes "none"
looked_text (nearest (Some e)) = pair_text e

-- the line of an accepted lookup: its word, a space, its answer, a line feed
abbrev pub look_line : Lookup → Looked → List ℕ
look_line l answer = look_word l ++ codes " " ++ looked_text answer ++ 10 ∷ []
