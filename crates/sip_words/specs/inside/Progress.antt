-- How far the words of a command were read.
use Rattle.std.specs.Prelude.{◌≡◌, ℕ, ◌+◌, ◌-◌, ◌<◌, ◌≤◌, List, [], ◌∷◌, length, slice_index_or}
use Rattle.std.specs.Prelude.{Some}
use Rattle.std.specs.List.{slice_get}
use Rattle.sip_wire.specs.Table.{most_queries}
use Rattle.sip_words.specs.declared.shape.Shape.{Shape}
use Rattle.sip_words.specs.declared.shape.Shape.TheVariants.{Name, Stream, Stored, Depth}
use Rattle.sip_words.specs.declared.verb.Verb.{Verb}
use Rattle.sip_words.specs.Shapes.{IsOf}
use Rattle.sip_words.specs.Verbs.{verb_word, shapes, depth_at, least_asked, most_asked}
use Rattle.sip_words.specs.Words.{AsksOf, HasSeats, word}

-- there are n words behind the verb, and they have the first n shapes
abbrev pub HaveShapes : List Shape → List (List ℕ) → ℕ → Type 0
HaveShapes shapes words n = (n < length words)
    × ((i : ℕ) → i < n → IsOf (slice_index_or shapes i Name) (word words (i + 1)))

-- the word of this number is the first behind the verb that has not its shape
pub record StopsInShapes (shapes : List Shape) (words : List (List ℕ)) (number : ℕ) : Type 0 where
  pub index : ℕ
  pub number_is : number ≡ index + 1
  pub within : index < length shapes
  pub before : HaveShapes shapes words index
  pub here : number < length words → IsOf (slice_index_or shapes index Name) (word words number) → ⊥

-- the words are the verb and words of its shapes, at least
abbrev pub Fitted : Verb → List (List ℕ) → Type 0
Fitted verb words =
    (word words 0 ≡ verb_word verb) × HaveShapes (shapes verb) words (length (shapes verb))

-- behind the verb stands a name alone
pub record TakesName (verb : Verb) : Type 0 where
  pub shaped : shapes verb ≡ Name ∷ []
  pub least : least_asked verb ≡ 0
  pub most : most_asked verb ≡ 0

-- behind the verb stand the two ends of a link, and no more
pub record TakesLink (verb : Verb) : Type 0 where
  pub shaped : shapes verb ≡ Name ∷ Name ∷ []
  pub least : least_asked verb ≡ 0
  pub most : most_asked verb ≡ 0

-- behind the verb stands a stream that a file holds, the last word of all has the number before
-- `ends`, and nothing is asked
pub record TakesStored (verb : Verb) (ends : ℕ) : Type 0 where
  pub some : 1 ≤ length (shapes verb)
  pub stored : slice_index_or (shapes verb) 0 Name ≡ Stored
  pub ends_is : 1 + length (shapes verb) ≡ ends
  pub least : least_asked verb ≡ 0
  pub most : most_asked verb ≡ 0

-- behind the verb stand a stream and a depth, and nothing is asked
pub record TakesStream (verb : Verb) : Type 0 where
  pub shaped : shapes verb ≡ Stream ∷ Depth ∷ []
  pub least : least_asked verb ≡ 0
  pub most : most_asked verb ≡ 0

-- Behind the verb stand a stream first and a depth last, at word `last`, and then words each of
-- which asks something: `IsWord` says which word asks which.
pub record TakesAll {Q : Type 0} (IsWord : ℕ → Q → List ℕ → Type 0) (verb : Verb) (last : ℕ)
    : Type 0 where
  pub last_is : depth_at verb ≡ last
  pub some : 2 ≤ last
  pub stream : slice_index_or (shapes verb) 0 Name ≡ Stream
  pub depth : slice_index_or (shapes verb) (last - 1) Name ≡ Depth
  pub least : least_asked verb ≡ 1
  pub most : most_asked verb ≡ most_queries
  pub asks : (d : ℕ) (q : Q) (w : List ℕ) → IsWord d q w → AsksOf verb d w
  pub asked : (d : ℕ) (w : List ℕ) → AsksOf verb d w → (q : Q) × IsWord d q w

-- As many queries as this have a seat for each helper that the words of a verb name, and no more of
-- those that a run may have.
pub record SeatsUpTo (verb : Verb) (words : List (List ℕ)) (most : ℕ) : Type 0 where
  pub enough : (number : ℕ) → number ≤ most → HasSeats verb (word words 3) number
  pub few : (number : ℕ) → most < number → number ≤ most_queries
      → HasSeats verb (word words 3) number → ⊥

-- the words from `first` up to n ask these
pub record AreAsked {Q : Type 0} (IsWord : ℕ → Q → List ℕ → Type 0) (words : List (List ℕ))
    (depth first : ℕ) (asked : List Q) (n : ℕ) : Type 0 where
  pub within : n ≤ length words
  pub count : n ≡ first + length asked
  pub each : (i : ℕ) (q : Q) → slice_get asked i ≡ Some q → IsWord depth q (word words (first + i))

-- the word of this number is the first from `first` on that asks nothing, or one too many
pub record StopsInAsked {Q : Type 0} (IsWord : ℕ → Q → List ℕ → Type 0) (words : List (List ℕ))
    (depth first most number : ℕ) : Type 0 where
  pub asked : List Q
  pub before : AreAsked IsWord words depth first asked number
  pub within : number ≤ first + most
  pub here : number < first + most → number < length words
      → (q : Q) → IsWord depth q (word words number) → ⊥
  pub missing : length words ≤ number → number ≡ first
