-- The commands: each is a verb, words of its shapes, and queries where it asks some.
use Rattle.std.specs.Prelude.{ℕ, List, [], ◌∷◌, codes, length}
use Rattle.sip_words.specs.declared.shape.Shape.{Shape}
use Rattle.sip_words.specs.declared.shape.Shape.TheVariants.{Name, Stream, Stored, Helper, Helpers}
use Rattle.sip_words.specs.declared.shape.Shape.TheVariants.{Number, Depth}
use Rattle.sip_words.specs.declared.verb.Verb.{Verb}
use Rattle.sip_words.specs.declared.verb.Verb.TheVariants.{Verify, Help, Audit, Show, Convert, Gen}
use Rattle.sip_words.specs.declared.verb.Verb.TheVariants.{Lines, Widen, Play, Lookup, HelpLook}
use Rattle.sip_words.specs.declared.verb.Verb.TheVariants.{Moments, HelpMoments, Panel, Serve}
use Rattle.sip_stream.specs.Made.{most_made}
use Rattle.sip_wire.specs.Table.{most_queries}

-- the first word of a command
abbrev pub verb_word : Verb → List ℕ
verb_word Verify = codes "verify"
verb_word Help = codes "help"
verb_word Audit = codes "audit"
verb_word Show = codes "show"
verb_word Convert = codes "convert"
verb_word Gen = codes "gen"
verb_word Lines = codes "lines"
verb_word Widen = codes "widen"
verb_word Play = codes "play"
verb_word Lookup = codes "lookup"
verb_word HelpLook = codes "helplook"
verb_word Moments = codes "moments"
verb_word HelpMoments = codes "helpmom"
verb_word Panel = codes "panel"
verb_word Serve = codes "serve"

-- The words behind the verb, and before the queries.
--   verify STREAM SEED FROM TO RECORD DEPTH
--   help FROM TO
--   audit STORED TRANSCRIPT
--   show TRANSCRIPT
--   convert TRANSCRIPT
--   gen NUMBER COUNT DEPTH
--   lines STREAM DEPTH
--   widen STREAM DEPTH
--   play STREAM SEED HELPER RECORD DEPTH
--   lookup STREAM SEED FROM TO DEPTH
--   helplook FROM TO
--   moments STREAM SEED FROM TO DEPTH
--   helpmom FROM TO
--   panel STREAM SEED HELPERS DEPTH
--   serve STORED FROM TO
abbrev pub shapes : Verb → List Shape
shapes Verify = Stream ∷ Name ∷ Name ∷ Name ∷ Name ∷ Depth ∷ []
shapes Help = Name ∷ Name ∷ []
shapes Audit = Stored ∷ Name ∷ []
shapes Show = Name ∷ []
shapes Convert = Name ∷ []
shapes Gen = Number 18446744073709551615 ∷ Number most_made ∷ Depth ∷ []
shapes Lines = Stream ∷ Depth ∷ []
shapes Widen = Stream ∷ Depth ∷ []
shapes Play = Stream ∷ Name ∷ Helper ∷ Name ∷ Depth ∷ []
shapes Lookup = Stream ∷ Name ∷ Name ∷ Name ∷ Depth ∷ []
shapes HelpLook = Name ∷ Name ∷ []
shapes Moments = Stream ∷ Name ∷ Name ∷ Name ∷ Depth ∷ []
shapes HelpMoments = Name ∷ Name ∷ []
shapes Panel = Stream ∷ Name ∷ Helpers ∷ Depth ∷ []
shapes Serve = Stored ∷ Name ∷ Name ∷ []

-- The number of the last of these words. Where queries stand behind it, it is their depth.
abbrev pub depth_at : Verb → ℕ
depth_at verb = length (shapes verb)

-- at least so many queries stand behind them
abbrev pub least_asked : Verb → ℕ
least_asked Verify = 1
least_asked Help = 0
least_asked Audit = 0
least_asked Show = 0
least_asked Convert = 0
least_asked Gen = 0
least_asked Lines = 0
least_asked Widen = 0
least_asked Play = 1
least_asked Lookup = 1
least_asked HelpLook = 0
least_asked Moments = 1
least_asked HelpMoments = 0
least_asked Panel = 1
least_asked Serve = 0

-- and at most so many; behind `panel` as many as have a seat for each helper
abbrev pub most_asked : Verb → ℕ
most_asked Verify = most_queries
most_asked Help = 0
most_asked Audit = 0
most_asked Show = 0
most_asked Convert = 0
most_asked Gen = 0
most_asked Lines = 0
most_asked Widen = 0
most_asked Play = most_queries
most_asked Lookup = most_queries
most_asked HelpLook = 0
most_asked Moments = most_queries
most_asked HelpMoments = 0
most_asked Panel = most_queries
most_asked Serve = 0
