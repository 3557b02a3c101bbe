-- The files and made streams that a command opens.
use Rattle.std.specs.Prelude.{◌≡◌, ◌≢◌, ℕ, ◌^◌, ◌<◌, ◌≤◌, ◌⊎◌, Option, None, List, ◌++◌, codes}
use Rattle.std.specs.Prelude.{decimal, drop, length}
use Rattle.std.specs.List.{slice_get}
use Rattle.std.specs.Option.{option_map}
use Rattle.sip_words.specs.declared.command.Command.{Command}
use Rattle.sip_words.specs.declared.command.Command.TheVariants as command
use Rattle.sip_words.specs.declared.plan.Opening.{Opening}
use Rattle.sip_words.specs.declared.plan.Opening.TheVariants.{Nothing, Standard, Spared, Path, Made}
use Rattle.sip_words.specs.declared.plan.PortPlan.{PortPlan}
use Rattle.sip_words.specs.declared.stream.Stream.{Stream}
use Rattle.sip_words.specs.declared.stream.Stream.TheVariants as stream
use Rattle.sip_words.specs.Shapes.{IsStreamWord}
use Rattle.sip_words.specs.Words.{word}
use Rattle.sip_stream.specs.declared.form.Form.{Form}
use Rattle.sip_stream.specs.declared.form.Form.TheVariants as forms
use Rattle.sip_stream.specs.Made.{most_made}

-- What the stream of word 1 is opened on at a depth. A path stands behind `text:` and `wide:`.
abbrev pub opening_of : Stream → ℕ → Opening
opening_of (stream.Made number count) depth = Made number count depth
opening_of stream.Text depth = Path 1 5
opening_of stream.Wide depth = Path 1 5
opening_of stream.File depth = Path 1 0

-- the same of a word that names a stream that a file holds, in this form
abbrev pub stored_opening : Form → Opening
stored_opening forms.Binary = Path 1 0
stored_opening forms.Text = Path 1 5
stored_opening forms.Wide = Path 1 5

-- gen NUMBER COUNT DEPTH, lines STREAM DEPTH and widen STREAM DEPTH
abbrev pub source_ports : Opening → PortPlan
source_ports first =
    record { first = first; second = Nothing; from = Nothing; to = Nothing; keep = Nothing }

-- no port
abbrev pub no_ports : PortPlan
no_ports = source_ports Nothing

-- verify STREAM SEED FROM TO RECORD DEPTH QUERY.., and lookup STREAM SEED FROM TO DEPTH LOOKUP..
-- and moments STREAM SEED FROM TO DEPTH MOMENT.., which keep nothing
abbrev pub verify_ports : Opening → Opening → PortPlan
verify_ports first keep =
    record { first = first; second = Path 2 0; from = Path 3 0; to = Path 4 0; keep = keep }

-- What is opened where this word, which has this number, names a file or is `-`: the file of that
-- name, and where it is `-` what that stands for.
abbrev pub IsUnlessDash : Opening → List ℕ → ℕ → Opening → Type 0
IsUnlessDash dash word n is =
    ((word ≡ codes "-") × (is ≡ dash)) ⊎ ((word ≢ codes "-") × (is ≡ Path n 0))

-- What keeps the transcript where RECORD is this word: nothing where it is `-`.
abbrev pub IsRecord : List ℕ → ℕ → Opening → Type 0
IsRecord = IsUnlessDash Nothing

-- What an end of a link is opened on where FROM or TO is this word: standard input or standard
-- output where it is `-`.
abbrev pub IsEnd : List ℕ → ℕ → Opening → Type 0
IsEnd = IsUnlessDash Standard

-- play STREAM SEED HELPER RECORD DEPTH QUERY.., whose link is to a helper in the program, and
-- panel STREAM SEED HELPERS DEPTH QUERY.., which keeps nothing
abbrev pub play_ports : Opening → Opening → PortPlan
play_ports first keep = record no_ports { first = first; second = Path 2 0; keep = keep }

-- help FROM TO, helplook FROM TO and helpmom FROM TO
abbrev pub help_ports : PortPlan
help_ports = record no_ports { from = Path 1 0; to = Path 2 0 }

-- serve STORED FROM TO
abbrev pub serve_ports : Opening → Opening → Opening → PortPlan
serve_ports first from to = record no_ports { first = first; from = from; to = to }

-- audit STORED TRANSCRIPT
abbrev pub audit_ports : Opening → PortPlan
audit_ports first = record no_ports { first = first; second = Path 2 0 }

-- show TRANSCRIPT and convert TRANSCRIPT
abbrev pub transcript_ports : PortPlan
transcript_ports = record no_ports { second = Path 1 0 }

-- the ports of `lookup` or `moments` at a depth: those of `verify`, and no file keeps the talk
abbrev pub OpensUnkept : List (List ℕ) → ℕ → PortPlan → Type 0
OpensUnkept words depth plan =
    (s : Stream) × IsStreamWord s (word words 1)
    × (plan ≡ verify_ports (opening_of s depth) Nothing)

-- the ports of a command whose words these are
abbrev pub Opens : List (List ℕ) → Command → PortPlan → Type 0
Opens words (command.Verify task) plan =
    (s : Stream) × IsStreamWord s (word words 1)
    × (keep : Opening) × IsRecord (word words 5) 5 keep
    × (plan ≡ verify_ports (opening_of s task.depth) keep)
Opens words command.Help plan = plan ≡ help_ports
Opens words (command.Audit form) plan = plan ≡ audit_ports (stored_opening form)
Opens words command.Show plan = plan ≡ transcript_ports
Opens words command.Convert plan = plan ≡ transcript_ports
Opens words (command.Gen depth) plan =
    (number : ℕ) × (count : ℕ) × (number < 2 ^ 64) × (count ≤ most_made)
    × (word words 1 ≡ decimal number) × (word words 2 ≡ decimal count)
    × (plan ≡ source_ports (Made number count depth))
Opens words (command.Lines form depth) plan =
    (s : Stream) × IsStreamWord s (word words 1) × (plan ≡ source_ports (opening_of s depth))
Opens words (command.Widen form depth) plan =
    (s : Stream) × IsStreamWord s (word words 1) × (plan ≡ source_ports (opening_of s depth))
Opens words (command.Play task name) plan =
    (s : Stream) × IsStreamWord s (word words 1)
    × (keep : Opening) × IsRecord (word words 4) 4 keep
    × (plan ≡ play_ports (opening_of s task.depth) keep)
Opens words (command.Lookup task) plan = OpensUnkept words task.depth plan
Opens words command.HelpLook plan = plan ≡ help_ports
Opens words (command.Moments task) plan = OpensUnkept words task.depth plan
Opens words command.HelpMoments plan = plan ≡ help_ports
Opens words (command.Panel task names) plan =
    (s : Stream) × IsStreamWord s (word words 1)
    × (plan ≡ play_ports (opening_of s task.depth) Nothing)
Opens words (command.Serve form) plan =
    (from : Opening) × IsEnd (word words 2) 2 from × (to : Opening) × IsEnd (word words 3) 3 to
    × (plan ≡ serve_ports (stored_opening form) from to)

-- the name of the file that an opening is on: a word without its first bytes, if there is such a
-- word
abbrev pub file_name : Opening → List (List ℕ) → Option (List ℕ)
file_name Nothing words = None
file_name Standard words = None
file_name Spared words = None
file_name (Made number count depth) words = None
file_name (Path n skip) words = option_map (drop skip) (slice_get words n)

-- the word is a path behind a mark of five bytes
abbrev pub IsMarked : List ℕ → Type 0
IsMarked word = (path : List ℕ) × ((word ≡ codes "text:" ++ path) ⊎ (word ≡ codes "wide:" ++ path))

-- the name, if the opening is on a file, stands in a word: it is all of it, or what is behind a
-- mark
abbrev pub HasName : List (List ℕ) → Opening → Type 0
HasName words Nothing = Unit {0}
HasName words Standard = Unit {0}
HasName words Spared = Unit {0}
HasName words (Made number count depth) = Unit {0}
HasName words (Path n skip) = (n < length words)
    × ((skip ≡ 0) ⊎ ((skip ≡ 5) × IsMarked (word words n)))

-- the same of all openings of a plan
pub record HaveNames (words : List (List ℕ)) (plan : PortPlan) : Type 0 where
  pub first : HasName words plan.first
  pub second : HasName words plan.second
  pub from : HasName words plan.from
  pub to : HasName words plan.to
  pub keep : HasName words plan.keep
