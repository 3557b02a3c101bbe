-- What one word of a command may be.
use Rattle.std.specs.Prelude.{◌≡◌, ◌≢◌, ◌==◌, ℕ, ◌^◌, ◌<◌, ◌≤◌, false, IsTrue, nat_eq, List, []}
use Rattle.std.specs.Prelude.{◌∷◌, ◌++◌, codes, decimal, length, map}
use Rattle.std.specs.List.{slice_split, starts_with}
use Rattle.sip_stream.specs.declared.form.Form.{Form}
use Rattle.sip_stream.specs.declared.form.Form.TheVariants as forms
use Rattle.sip_stream.specs.Layouts.{made_form}
use Rattle.sip_stream.specs.Made.{most_made}
use Rattle.sip_lookup.specs.declared.lookup.Lookup.{Lookup}
use Rattle.sip_lookup.specs.Lookups.{CanLook}
use Rattle.sip_lookup.specs.Reports.{look_word}
use Rattle.sip_above.specs.declared.large.Large.{Large}
use Rattle.sip_above.specs.Questions.{query_of}
use Rattle.sip_moments.specs.declared.moment.Moment.{Moment}
use Rattle.sip_moments.specs.Manner.{moment_word}
use Rattle.sip_moments.specs.Moments.{IsDegree}
use Rattle.sip_vector.specs.declared.query.Query.{Query}
use Rattle.sip_vector.specs.Answers.{Fits}
use Rattle.sip_vector.specs.Built.{is_built}
use Rattle.sip_vector.specs.Limits.{most_depth}
use Rattle.sip_verifier.specs.Reports.{query_word}
use Rattle.sip_wire.specs.Table.{most_queries}
use Rattle.sip_words.specs.declared.helper_name.HelperName.{HelperName}
use Rattle.sip_words.specs.declared.helper_name.HelperName.TheVariants.{Honest, Skewed, Mute}
use Rattle.sip_words.specs.declared.shape.Shape.{Shape}
use Rattle.sip_words.specs.declared.shape.Shape.TheVariants as shape
use Rattle.sip_words.specs.declared.stream.Stream.{Stream}
use Rattle.sip_words.specs.declared.stream.Stream.TheVariants as stream

-- made:NUMBER:COUNT
abbrev pub made_word : ℕ → ℕ → List ℕ
made_word number count = codes "made:" ++ decimal number ++ 58 ∷ decimal count

-- The word names this stream. One that begins with `made:`, `text:` or `wide:` is read so alone.
abbrev pub IsStreamWord : Stream → List ℕ → Type 0
IsStreamWord (stream.Made number count) word =
    (number < 2 ^ 64) × (count ≤ most_made) × (word ≡ made_word number count)
IsStreamWord stream.Text word = (path : List ℕ) × (path ≢ []) × (word ≡ codes "text:" ++ path)
IsStreamWord stream.Wide word = (path : List ℕ) × (path ≢ []) × (word ≡ codes "wide:" ++ path)
IsStreamWord stream.File word =
    (word ≢ []) × (starts_with nat_eq word (codes "made:") ≡ false)
    × (starts_with nat_eq word (codes "text:") ≡ false)
    × (starts_with nat_eq word (codes "wide:") ≡ false)

-- the form of a stream at a depth
abbrev pub form_of : ℕ → Stream → Form
form_of depth (stream.Made _ _) = made_form depth
form_of depth stream.Text = forms.Text
form_of depth stream.Wide = forms.Wide
form_of depth stream.File = forms.Binary

-- the word names a stream that has this form at a depth
abbrev pub HasForm : ℕ → Form → List ℕ → Type 0
HasForm depth form word = (s : Stream) × (form_of depth s ≡ form) × IsStreamWord s word

-- a stream that a file holds, in this form
abbrev pub file_in : Form → Stream
file_in forms.Binary = stream.File
file_in forms.Text = stream.Text
file_in forms.Wide = stream.Wide

-- the word names a stream that a file holds, in this form; so it does not begin with `made:`
abbrev pub IsStoredWord : Form → List ℕ → Type 0
IsStoredWord form word = IsStreamWord (file_in form) word

-- the word is this depth
abbrev pub IsDepth : ℕ → List ℕ → Type 0
IsDepth depth word = (1 ≤ depth) × (depth ≤ most_depth) × (word ≡ decimal depth)

-- the word that names a helper
abbrev pub helper_word : HelperName → List ℕ
helper_word Honest = codes "honest"
helper_word Skewed = codes "skewed"
helper_word Mute = codes "mute"

-- the parts of a word that stand between its commas
abbrev pub parts : List ℕ → List (List ℕ)
parts word = slice_split (λ b. b == 44) word

-- the word names these helpers in their order, with a comma between two of them; 16 at most
abbrev pub AreHelpers : List HelperName → List ℕ → Type 0
AreHelpers names word = (length names ≤ most_queries) × (parts word ≡ map helper_word names)

-- the word has this shape
abbrev pub IsOf : Shape → List ℕ → Type 0
IsOf shape.Name word = word ≢ []
IsOf shape.Stream word = (s : Stream) × IsStreamWord s word
IsOf shape.Stored word = (form : Form) × IsStoredWord form word
IsOf shape.Helper word = (name : HelperName) × (word ≡ helper_word name)
IsOf shape.Helpers word = (names : List HelperName) × AreHelpers names word
IsOf (shape.Number most) word = (n : ℕ) × (n ≤ most) × (n < 2 ^ 64) × (word ≡ decimal n)
IsOf shape.Depth word = (d : ℕ) × IsDepth d word

-- the word asks this query, whose kind is built and which fits the depth
abbrev pub Asks : ℕ → Query → List ℕ → Type 0
Asks depth query word = IsTrue (is_built query) × Fits depth query × (word ≡ query_word query)

-- the word asks this lookup, which is at an item of the stream
abbrev pub AsksLook : ℕ → Lookup → List ℕ → Type 0
AsksLook depth lookup word = CanLook depth lookup × (word ≡ look_word lookup)

-- the word asks this moment, whose degree is one of those that are checked, whatever the depth
abbrev pub AsksMoment : ℕ → Moment → List ℕ → Type 0
AsksMoment depth m word = IsDegree m.degree × (word ≡ moment_word m)

-- large entries can be asked for by this threshold
abbrev pub IsThreshold : ℕ → Type 0
IsThreshold t = (1 ≤ t) × (t < 2 ^ 63)

abbrev pub large_word : Large → List ℕ
large_word l = query_word (query_of l)

-- the word asks for these large entries, whatever the depth
abbrev pub AsksLarge : ℕ → Large → List ℕ → Type 0
AsksLarge depth l word = IsThreshold l.at_least × (word ≡ large_word l)
