-- The words of the commands that keep a sketch.
use Rattle.std.specs.Prelude.{◌≡◌, ◌≢◌, ℕ, ◌^◌, ◌<◌, ◌≤◌, Option, None, Some, List, [], ◌∷◌, ◌++◌}
use Rattle.std.specs.Prelude.{codes, decimal, length, replicate}
use Rattle.std.specs.List.{All}
use Rattle.sip_stream.specs.declared.form.Form.{Form}
use Rattle.sip_words.specs.Shapes.{IsDepth, IsStoredWord}
use Rattle.sip_sketch.specs.SeatLines.{kind_word}
use Rattle.sip_sketch.specs.Sketches.{most_seats}
use Rattle.sip_sketch.specs.declared.kind.SeatKind.{SeatKind}
use Rattle.sip_keeping.specs.declared.command.SketchCommand.{SketchCommand}
use Rattle.sip_keeping.specs.declared.command.SketchCommand.TheVariants as command
use Rattle.sip_keeping.specs.declared.verb.SketchVerb.{SketchVerb}
use Rattle.sip_keeping.specs.declared.verb.SketchVerb.TheVariants as verb
use Rattle.sip_keeping.specs.Refusing.{AreRefusedAt}

-- ---- what one word is

-- the first word of a command
abbrev pub verb_word : SketchVerb → List ℕ
verb_word verb.Begin = codes "begin"
verb_word verb.Watch = codes "watch"
verb_word verb.Merge = codes "merge"
verb_word verb.Seats = codes "seats"

-- PART/PARTS: one part of so many
abbrev pub IsPart : ℕ → ℕ → List ℕ → Type 0
IsPart part parts word =
    (1 ≤ part) × (part ≤ parts) × (parts < 2 ^ 32) × (word ≡ decimal part ++ 47 ∷ decimal parts)

-- so many seats of a kind
abbrev pub seats_word : SeatKind → ℕ → List ℕ
seats_word kind count = kind_word kind ++ 58 ∷ decimal count

-- a number from `least` to 2^31, or this sign in its place
abbrev pub IsCount : List ℕ → ℕ → Option ℕ → List ℕ → Type 0
IsCount sign least None word = word ≡ sign
IsCount sign least (Some n) word = (least ≤ n) × (n ≤ 2 ^ 31) × (word ≡ decimal n)

-- AT: the number of a record, or `+`
abbrev pub IsAt : Option ℕ → List ℕ → Type 0
IsAt at word = IsCount (codes "+") 0 at word

-- EVERY: a number of records, or `-`
abbrev pub IsEvery : Option ℕ → List ℕ → Type 0
IsEvery every word = IsCount (codes "-") 1 every word

-- ---- words in their order

-- SEATS..: each word asks for one seat of a kind at least, and all of them for seats of these kinds
abbrev pub AreSeats : List (List ℕ) → List SeatKind → Type 0
AreSeats [] kinds = kinds ≡ []
AreSeats (word ∷ words) kinds =
    (kind : SeatKind) × (count : ℕ) × (more : List SeatKind)
    × (1 ≤ count) × (word ≡ seats_word kind count)
    × (kinds ≡ replicate count kind ++ more) × AreSeats words more

-- begin SKETCH SEED DEPTH PART/PARTS SEATS..
pub record SpellsBegin (depth part parts : ℕ) (kinds : List SeatKind) (words : List (List ℕ))
    : Type 0 where
  pub sketch : List ℕ
  pub seed : List ℕ
  pub levels : List ℕ
  pub share : List ℕ
  pub seats : List (List ℕ)
  pub order : words ≡ codes "begin" ∷ sketch ∷ seed ∷ levels ∷ share ∷ seats
  pub has_sketch : sketch ≢ []
  pub has_seed : seed ≢ []
  pub deep : IsDepth depth levels
  pub within : IsPart part parts share
  pub asked : AreSeats seats kinds
  pub some : 1 ≤ length kinds
  pub most : length kinds ≤ most_seats

-- watch SKETCH STREAM AT EVERY
pub record SpellsWatch (form : Form) (at every : Option ℕ) (words : List (List ℕ)) : Type 0 where
  pub sketch : List ℕ
  pub stream : List ℕ
  pub from : List ℕ
  pub step : List ℕ
  pub order : words ≡ codes "watch" ∷ sketch ∷ stream ∷ from ∷ step ∷ []
  pub has_sketch : sketch ≢ []
  pub stored : IsStoredWord form stream
  pub begins : IsAt at from
  pub stores : IsEvery every step

-- the parts of a sum are so many at most
abbrev pub most_parts : ℕ
most_parts = 1024

-- merge SKETCH PART..
pub record SpellsMerge (parts : ℕ) (words : List (List ℕ)) : Type 0 where
  pub sketch : List ℕ
  pub names : List (List ℕ)
  pub order : words ≡ codes "merge" ∷ sketch ∷ names
  pub has_sketch : sketch ≢ []
  pub named : All (λ name. name ≢ []) names
  pub count : length names ≡ parts
  pub some : 1 ≤ parts
  pub most : parts ≤ most_parts

-- seats SKETCH
pub record SpellsSeats (words : List (List ℕ)) : Type 0 where
  pub sketch : List ℕ
  pub order : words ≡ codes "seats" ∷ sketch ∷ []
  pub has_sketch : sketch ≢ []

-- the words are those of this command
abbrev pub Spells : SketchCommand → List (List ℕ) → Type 0
Spells (command.Begin depth part parts kinds) words =
    SpellsBegin depth part parts kinds.items words
Spells (command.Watch form at every) words = SpellsWatch form at every words
Spells (command.Merge parts) words = SpellsMerge parts words
Spells command.Seats words = SpellsSeats words

-- some words are those of the command
abbrev pub IsSpelled : SketchCommand → Type 0
IsSpelled command = (words : List (List ℕ)) × Spells command words

-- where they are refused
abbrev pub IsRefusedAt : List (List ℕ) → ℕ → Type 0
IsRefusedAt words n = AreRefusedAt Spells words n
