-- The words of a command.
use Rattle.std.specs.Prelude.{◌≡◌, ℕ, ◌+◌, ◌-◌, ◌*◌, ◌<◌, ◌≤◌, ⊤, List, [], ◌++◌, length, take}
use Rattle.std.specs.Prelude.{slice_index_or, Some}
use Rattle.std.specs.List.{slice_get}
use Rattle.sip_stream.specs.declared.form.Form.{Form}
use Rattle.sip_vector.specs.declared.query.Query.{Query}
use Rattle.sip_verifier.specs.declared.task.Task.{Task}
use Rattle.sip_lookup.specs.declared.lookup.Lookup.{Lookup}
use Rattle.sip_lookup.specs.declared.task.LookTask.{LookTask}
use Rattle.sip_moments.specs.declared.moment.Moment.{Moment}
use Rattle.sip_moments.specs.declared.task.MomentTask.{MomentTask}
use Rattle.sip_words.specs.declared.command.Command.{Command}
use Rattle.sip_words.specs.declared.command.Command.TheVariants as command
use Rattle.sip_words.specs.declared.shape.Shape.TheVariants.{Name}
use Rattle.sip_words.specs.declared.verb.Verb.{Verb}
use Rattle.sip_words.specs.declared.verb.Verb.TheVariants as verb
use Rattle.sip_wire.specs.Table.{most_queries}
use Rattle.sip_words.specs.Shapes.{IsOf, HasForm, IsStoredWord, IsDepth, AreHelpers, Asks, AsksLook}
use Rattle.sip_words.specs.Shapes.{AsksMoment, helper_word, parts}
use Rattle.sip_words.specs.Verbs.{verb_word, shapes, depth_at, least_asked, most_asked}

-- word n, from 0
abbrev pub word : List (List ℕ) → ℕ → List ℕ
word words n = slice_index_or words n []

-- The word, behind a depth, asks what a verb asks: a lookup, a moment or a query.
abbrev pub AsksOf : Verb → ℕ → List ℕ → Type 0
AsksOf verb.Lookup depth word = (lookup : Lookup) × AsksLook depth lookup word
AsksOf verb.Moments depth word = (moment : Moment) × AsksMoment depth moment word
AsksOf _ depth word = (query : Query) × Asks depth query word

-- The query of this number, counted from 1, and those before it have a seat for each helper that
-- the word names, 16 in all. Behind other verbs there are no seats to be had.
abbrev pub HasSeats : Verb → List ℕ → ℕ → Type 0
HasSeats verb.Panel word number = number * length (parts word) ≤ most_queries
HasSeats _ word number = ⊤

-- The words are a command of this verb. What it asks fits the depth that stands before them.
pub record IsCommandOf (verb : Verb) (words : List (List ℕ)) : Type 0 where
  pub first : word words 0 ≡ verb_word verb
  pub shaped : (n : ℕ) → n < length (shapes verb)
      → IsOf (slice_index_or (shapes verb) n Name) (word words (n + 1))
  pub asked : (n : ℕ) → length (shapes verb) < n → n < length words
      → (d : ℕ) × IsDepth d (word words (depth_at verb)) × AsksOf verb d (word words n)
  pub seats : (n : ℕ) → length (shapes verb) < n → n < length words
      → HasSeats verb (word words 3) (n - length (shapes verb))
  pub least : 1 + length (shapes verb) + least_asked verb ≤ length words
  pub most : length words ≤ 1 + length (shapes verb) + most_asked verb

-- The words of a verb that asks something say a depth, the form of a stream, and behind the depth
-- what is asked, each by its word and in this order. `IsWord` says which word asks which.
pub record SaysAll {Q : Type 0} (IsWord : ℕ → Q → List ℕ → Type 0) (verb : Verb)
    (words : List (List ℕ)) (d : ℕ) (f : Form) (asked : List Q) : Type 0 where
  pub form : HasForm d f (word words 1)
  pub depth : IsDepth d (word words (depth_at verb))
  pub count : length words ≡ 1 + depth_at verb + length asked
  pub each : (i : ℕ) (q : Q) → slice_get asked i ≡ Some q
      → IsWord d q (word words (1 + depth_at verb + i))

-- the words of a verb that asks queries say this task
abbrev pub SaysTask : Verb → List (List ℕ) → Task → Type 0
SaysTask verb words task = SaysAll Asks verb words task.depth task.form task.queries.items

-- the words of `lookup` say this task
abbrev pub SaysLooks : List (List ℕ) → LookTask → Type 0
SaysLooks words task =
    SaysAll AsksLook verb.Lookup words task.depth task.form task.lookups.items

-- the words of `moments` say this task
abbrev pub SaysMoments : List (List ℕ) → MomentTask → Type 0
SaysMoments words task =
    SaysAll AsksMoment verb.Moments words task.depth task.form task.moments.items

-- the words are those of this command
abbrev pub Spells : List (List ℕ) → Command → Type 0
Spells words (command.Verify task) =
    IsCommandOf verb.Verify words × SaysTask verb.Verify words task
Spells words command.Help = IsCommandOf verb.Help words
Spells words (command.Audit form) =
    IsCommandOf verb.Audit words × IsStoredWord form (word words 1)
Spells words command.Show = IsCommandOf verb.Show words
Spells words command.Convert = IsCommandOf verb.Convert words
Spells words (command.Gen depth) = IsCommandOf verb.Gen words × IsDepth depth (word words 3)
Spells words (command.Lines form depth) =
    IsCommandOf verb.Lines words × HasForm depth form (word words 1) × IsDepth depth (word words 2)
Spells words (command.Widen form depth) =
    IsCommandOf verb.Widen words × HasForm depth form (word words 1) × IsDepth depth (word words 2)
Spells words (command.Play task name) =
    IsCommandOf verb.Play words × SaysTask verb.Play words task
    × (word words 3 ≡ helper_word name)
Spells words (command.Lookup task) = IsCommandOf verb.Lookup words × SaysLooks words task
Spells words command.HelpLook = IsCommandOf verb.HelpLook words
Spells words (command.Moments task) = IsCommandOf verb.Moments words × SaysMoments words task
Spells words command.HelpMoments = IsCommandOf verb.HelpMoments words
Spells words (command.Panel task names) =
    IsCommandOf verb.Panel words × SaysTask verb.Panel words task
    × AreHelpers names.items (word words 3)
Spells words (command.Serve form) =
    IsCommandOf verb.Serve words × IsStoredWord form (word words 1)

-- some words spell the command
abbrev pub IsSpelled : Command → Type 0
IsSpelled command = (words : List (List ℕ)) × Spells words command

-- some command begins with these words
abbrev pub BeginCommand : List (List ℕ) → Type 0
BeginCommand words = (verb : Verb) × (rest : List (List ℕ)) × IsCommandOf verb (words ++ rest)

-- Word n, from 0, is the first one such that the words up to it begin no command; or all words
-- begin one, but are none, and n is their number.
pub record IsRefusedAt (words : List (List ℕ)) (n : ℕ) : Type 0 where
  pub before : BeginCommand (take n words)
  pub here : n < length words → BeginCommand (take (n + 1) words) → ⊥
  pub short : length words ≤ n → (n ≡ length words) × ((verb : Verb) → IsCommandOf verb words → ⊥)
