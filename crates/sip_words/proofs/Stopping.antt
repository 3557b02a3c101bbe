-- Where the words behind a verb stop to be a command.
use Rattle.std.proofs.Common.{◌≡◌, ◌↔◌, Bool, true, false, true≢false, IsTrue, ℕ, zero, suc, ◌+◌, ◌-◌, ◌<◌, ◌≤◌, List, [], ◌∷◌, ◌++◌, ◌⊎◌, None, Some, Result, Ok, Err, IfErr, length, get_or, sym, refl, subst, ◌∙◌, inl, inr, arith}
use Rattle.std.specs.List.{slice_get}
use Rattle.std.proofs.lemmas.Bool.{cases_lt}
use Rattle.std.proofs.lemmas.Fmt.{decimal_injective}
use Rattle.std.proofs.lemmas.List.{length-append}
use Rattle.sip_stream.specs.declared.form.Form.{Form}
use Rattle.sip_wire.specs.Table.{most_queries}
use Rattle.sip_words.specs.declared.command.Command.{Command}
use Rattle.sip_words.specs.declared.shape.Shape.{Shape}
use Rattle.sip_words.specs.declared.shape.Shape.TheVariants.{Name, Depth}
use Rattle.sip_words.specs.declared.stream.Stream.{Stream}
use Rattle.sip_words.specs.declared.words.Usage.{Usage}
use Rattle.sip_words.specs.declared.verb.Verb.{Verb}
use Rattle.sip_words.specs.declared.verb.Verb.TheVariants.{Verify, Play, Lookup, Moments, Panel}
use Rattle.sip_words.specs.Shapes.{IsOf, IsDepth, HasForm, IsStreamWord, Asks, AsksLook, AsksMoment}
use Rattle.sip_words.specs.Verbs.{verb_word, shapes, depth_at, least_asked, most_asked}
use Rattle.sip_words.specs.Words.{word, AsksOf, HasSeats, IsCommandOf, SaysAll, IsRefusedAt}
use Rattle.sip_words.specs.inside.Progress.{HaveShapes, StopsInShapes, Fitted, SeatsUpTo, TakesStream, TakesAll, AreAsked, StopsInAsked}
use Rattle.sip_words.proofs.Beginning.{Begun, refused}

-- a word has one depth
pub depth_once : (word : List ℕ) (d e : ℕ) → IsDepth d word → IsDepth e word → d ≡ e
depth_once word d e is also = decimal_injective d e (omega (arith, is.1)) (omega (arith, also.1)) (sym is.2 ∙ also.2)

-- the words of the first shapes are begun
pub begun_shapes : (verb : Verb) (words : List (List ℕ)) (n : ℕ) → word words 0 ≡ verb_word verb → n ≤ length (shapes verb) → HaveShapes (shapes verb) words n → Begun verb words (n + 1)
begun_shapes verb words n first few have = record {
  first = first;
  some_words = omega arith;
  within = let more = have.0 in omega arith;
  most = omega arith;
  shaped = λ i less before. have.1 i (omega arith);
  asked = λ i low high. absurd (omega arith);
  seats = λ i low high. absurd (omega arith);
}

-- a word that has not its shape is refused
pub refused_shape : (verb : Verb) (words : List (List ℕ)) (number : ℕ) → word words 0 ≡ verb_word verb → StopsInShapes (shapes verb) words number → IsRefusedAt words number
refused_shape verb words number first stops =
    let within = stops.within in
    let least_of = λ (ws : List (List ℕ)) (w : IsCommandOf verb ws). w.least in
    rw (stops.number_is) (refused verb words (stops.index + 1) (begun_shapes verb words stops.index first (omega arith) stops.before)
    (λ more whole is longer reads. stops.here (rw stops.number_is more) (rw stops.number_is (subst (IsOf (get_or (shapes verb) stops.index Name)) (reads (stops.index + 1) (omega arith)) (is.shaped stops.index within))))
    (λ least is. let enough = is.least in omega arith))

-- a word behind the last one is refused
pub refused_end : (verb : Verb) (words : List (List ℕ)) (n : ℕ) → Begun verb words n → n ≡ 1 + length (shapes verb) + most_asked verb → n < length words → IsRefusedAt words n
refused_end verb words n begun last more =
    refused verb words n begun (λ _ whole is longer reads. let most = is.most in omega arith) (λ least. absurd (omega arith))

-- the verbs with a stream, a depth and words that ask something
pub takes_verify : TakesAll Asks Verify 6
takes_verify = record { last_is = refl; some = omega arith; stream = refl; depth = refl; least = refl; most = refl; asks = λ d q w is. (q, is); asked = λ d w is. is }

pub takes_play : TakesAll Asks Play 5
takes_play = record { last_is = refl; some = omega arith; stream = refl; depth = refl; least = refl; most = refl; asks = λ d q w is. (q, is); asked = λ d w is. is }

pub takes_lookup : TakesAll AsksLook Lookup 5
takes_lookup = record { last_is = refl; some = omega arith; stream = refl; depth = refl; least = refl; most = refl; asks = λ d q w is. (q, is); asked = λ d w is. is }

pub takes_moments : TakesAll AsksMoment Moments 5
takes_moments = record { last_is = refl; some = omega arith; stream = refl; depth = refl; least = refl; most = refl; asks = λ d q w is. (q, is); asked = λ d w is. is }

pub takes_panel : TakesAll Asks Panel 4
takes_panel = record { last_is = refl; some = omega arith; stream = refl; depth = refl; least = refl; most = refl; asks = λ d q w is. (q, is); asked = λ d w is. is }

-- all queries that a run may have have seats, where no number is without
pub all_seated : (verb : Verb) (words : List (List ℕ)) → ((word : List ℕ) (number : ℕ) → HasSeats verb word number) → SeatsUpTo verb words most_queries
all_seated verb words has = record {
  enough = λ number few. has (word words 3) number;
  few = λ number more most. absurd (omega arith);
}

-- at each place of a list stands one
pub one_at : {X : Type 0} (xs : List X) (i : ℕ) → i < length xs → (x : X) × (slice_get xs i ≡ Some x)
one_at [] i less = absurd (omega arith)
one_at (x ∷ xs) zero less = (x, refl)
one_at (x ∷ xs) (suc i) less = one_at xs i (omega arith)

-- in a list with one more at its end, each stands in the list before or is that one
at_end : {X : Type 0} (xs : List X) (x : X) (i : ℕ) (y : X) → slice_get (xs ++ x ∷ []) i ≡ Some y → (slice_get xs i ≡ Some y) ⊎ ((i ≡ length xs) × (x ≡ y))
at_end [] x zero y is = inr (refl, let one : Some x ≡ Some y = is in cc)
at_end [] x (suc i) y is = absurd (let one : None ≡ Some y = is in cc)
at_end (z ∷ xs) x zero y is = inl is
at_end (z ∷ xs) x (suc i) y is =
    elim (at_end xs x i y is) [
      | inl before ↦ inl before
      | inr (last, same) ↦ inr (omega (arith, last), same)
    ]

-- What is said of words each of which asks something, by how a word asks it.
module _ {Q : Type 0} (IsWord : ℕ → Q → List ℕ → Type 0) where
  -- behind the verb stand a stream and a depth
  pub stream_and_last : (verb : Verb) (words : List (List ℕ)) (last : ℕ) → TakesAll IsWord verb last → Fitted verb words → (last < length words) × ((s : Stream) × IsStreamWord s (word words 1)) × ((d : ℕ) × IsDepth d (word words last))
  stream_and_last verb words last takes fitted =
      let long = takes.last_is in
      let some = takes.some in
      let more = fitted.1.0 in
      let sum : last - 1 + 1 ≡ last = omega arith in (
        omega arith,
        subst (λ s. IsOf s (word words 1)) takes.stream (fitted.1.1 0 (omega arith)),
        subst (λ k. IsOf Depth (word words k)) sum (subst (λ s. IsOf s (word words (last - 1 + 1))) takes.depth (fitted.1.1 (last - 1) (omega arith))),
      )

  -- the words of the verb as far as they were read are begun
  pub begun_asked : (verb : Verb) (words : List (List ℕ)) (last most d n : ℕ) (asked : List Q) → TakesAll IsWord verb last → SeatsUpTo verb words most → most ≤ most_queries → Fitted verb words → IsDepth d (word words last) → n ≤ last + 1 + most → AreAsked IsWord words d (last + 1) asked n → Begun verb words n
  begun_asked verb words last most d n asked takes seated room fitted deep within are =
      let long = takes.last_is in
      let all = takes.most in
      let count = are.count in
      record {
        first = fitted.0;
        some_words = omega arith;
        within = are.within;
        most = omega arith;
        shaped = λ i less before. fitted.1.1 i less;
        asked = λ i low high.
            let sum : last + 1 + (i - (last + 1)) ≡ i = omega arith in
            let one = one_at asked (i - (last + 1)) (omega arith) in (
              d,
              subst (λ k. IsDepth d (word words k)) (sym long) deep,
              takes.asks d one.0 (word words i) (subst (λ k. IsWord d one.0 (word words k)) sum (are.each (i - (last + 1)) one.0 one.1)),
            );
        seats = λ i low high. seated.enough (i - length (shapes verb)) (omega arith);
      }

  -- a word that asks nothing is refused, and so is one too many
  pub refused_asked : (verb : Verb) (words : List (List ℕ)) (last most d n : ℕ) → TakesAll IsWord verb last → SeatsUpTo verb words most → 0 < most → most ≤ most_queries → Fitted verb words → IsDepth d (word words last) → StopsInAsked IsWord words d (last + 1) most n → IsRefusedAt words n
  refused_asked verb words last most d n takes seated any room fitted deep stops =
      let begun = begun_asked verb words last most d n stops.asked takes seated room fitted deep stops.within stops.before in
      let within = stops.within in
      let count = stops.before.count in
      let long = takes.last_is in
      let some = takes.some in
      let all = takes.most in
      let needs = takes.least in
      refused verb words n begun
      (λ more whole is longer reads.
      elim (cases_lt n (last + 1 + most)) [
        | inl fewer ↦ (
            let a = is.asked n (omega arith) longer in
            let there : IsDepth a.0 (word whole last) = subst (λ k. IsDepth a.0 (word whole k)) long a.1 in
            let same : a.0 ≡ d = depth_once (word words last) a.0 d (subst (IsDepth a.0) (reads last (omega arith)) there) deep in
            let asks : AsksOf verb d (word words n) = subst (λ e. AsksOf verb e (word words n)) same (subst (AsksOf verb a.0) (reads n (omega arith)) a.2) in
            let one = takes.asked d (word words n) asks in
            stops.here fewer more one.0 one.1)
        | inr beyond ↦ (
            let few = is.most in
            let number = n - length (shapes verb) in
            let seats = subst (λ w. HasSeats verb w number) (reads 3 (omega arith)) (is.seats n (omega arith) longer) in
            seated.few number (omega arith) (omega arith) seats)
      ])
      (λ least is. let enough = is.least in let missing = stops.missing least in omega arith)

  -- words of such a verb with all that they ask are whole
  pub whole_asked : (verb : Verb) (words : List (List ℕ)) (last most d : ℕ) (asked : List Q) → TakesAll IsWord verb last → SeatsUpTo verb words most → most ≤ most_queries → Fitted verb words → IsDepth d (word words last) → AreAsked IsWord words d (last + 1) asked (length words) → last + 1 < length words → length words ≤ last + 1 + most → IsCommandOf verb words
  whole_asked verb words last most d asked takes seated room fitted deep are enough few =
      let long = takes.last_is in
      let all = takes.most in
      let needs = takes.least in
      let begun = begun_asked verb words last most d (length words) asked takes seated room fitted deep few are in
      record {
        first = fitted.0;
        shaped = fitted.1.1;
        asked = begun.asked;
        seats = begun.seats;
        least = omega arith;
        most = omega arith;
      }

  -- and they say it all
  pub says_all : (verb : Verb) (words : List (List ℕ)) (last d : ℕ) (form : Form) (asked : List Q) → TakesAll IsWord verb last → HasForm d form (word words 1) → IsDepth d (word words last) → AreAsked IsWord words d (last + 1) asked (length words) → SaysAll IsWord verb words d form asked
  says_all verb words last d form asked takes has deep are =
      let long = takes.last_is in
      let count = are.count in
      record {
        form = has;
        depth = subst (λ k. IsDepth d (word words k)) (sym long) deep;
        count = omega arith;
        each = λ i q is.
            let sum : last + 1 + i ≡ 1 + depth_at verb + i = omega arith in
            subst (λ k. IsWord d q (word words k)) sum (are.each i q is);
      }

  -- nothing yet
  pub asked_none : (words : List (List ℕ)) (d first : ℕ) → first ≤ length words → AreAsked IsWord words d first [] first
  asked_none words d first enough = record { within = enough; count = omega arith; each = λ i q is. absurd (let none : None ≡ Some q = is in cc) }

  -- one more
  pub asked_more : (words : List (List ℕ)) (d first n : ℕ) (asked : List Q) (read : Q) → AreAsked IsWord words d first asked n → n < length words → IsWord d read (word words n) → AreAsked IsWord words d first (asked ++ read ∷ []) (n + 1)
  asked_more words d first n asked read are more asks =
      let count = are.count in
      let longer = length-append asked (read ∷ []) in
      record {
        within = omega arith;
        count = omega arith;
        each = λ i q is.
            elim (at_end asked read i q is) [
              | inl before ↦ are.each i q before
              | inr (last, same) ↦ (
                  let place : n ≡ first + i = omega (arith, last) in
                  subst (λ k. IsWord d q (word words k)) place (subst (λ x. IsWord d x (word words n)) same asks))
            ];
      }

  -- the word asks nothing
  pub stops_asking : (words : List (List ℕ)) (d first most n : ℕ) (asked : List Q) → AreAsked IsWord words d first asked n → n ≤ first + most → (n < first + most → n < length words → (q : Q) → IsWord d q (word words n) → ⊥) → (length words ≤ n → n ≡ first) → StopsInAsked IsWord words d first most n
  stops_asking words d first most n asked are within none missing = record { asked = asked; before = are; within = within; here = none; missing = missing }

  -- the words have all that they ask
  pub asked_all : (words : List (List ℕ)) (d first n : ℕ) (asked : List Q) → AreAsked IsWord words d first asked n → length words ≤ n → AreAsked IsWord words d first asked (length words)
  asked_all words d first n asked are least = let within = are.within in let same : n ≡ length words = omega arith in rw same at are

-- words with all their shapes and no more are whole, where the verb asks no query
pub whole_end : (verb : Verb) (words : List (List ℕ)) → Fitted verb words → least_asked verb ≡ 0 → length words ≤ 1 + length (shapes verb) → IsCommandOf verb words
whole_end verb words fitted none few = record {
  first = fitted.0;
  shaped = fitted.1.1;
  asked = λ n low high. absurd (omega arith);
  seats = λ n low high. absurd (omega arith);
  least = let more = fitted.1.0 in omega arith;
  most = omega arith;
}

-- a word too many behind a verb without queries is refused
pub refused_more : (verb : Verb) (words : List (List ℕ)) (n : ℕ) → Fitted verb words → most_asked verb ≡ 0 → n ≡ 1 + length (shapes verb) → n < length words → IsRefusedAt words n
refused_more verb words n fitted none last more =
    let sum : length (shapes verb) + 1 ≡ n = omega arith in
    refused_end verb words n (subst (Begun verb words) sum (begun_shapes verb words (length (shapes verb)) fitted.0 (omega arith) fitted.1)) (omega arith) more

-- behind a verb with a stream and a depth stand a stream and a depth
pub stream_and_depth : (verb : Verb) (words : List (List ℕ)) → TakesStream verb → Fitted verb words → (2 < length words) × ((s : Stream) × IsStreamWord s (word words 1)) × ((d : ℕ) × IsDepth d (word words 2))
stream_and_depth verb words takes fitted =
    let have = subst (λ ss. HaveShapes ss words (length ss)) takes.shaped fitted.1 in
    (have.0, have.1 0 (omega arith), have.1 1 (omega arith))

-- there is no word of a number
pub no_word : (r : Bool) (n m : ℕ) → IsTrue r ↔ (n < m) → r ≡ false → m ≤ n
no_word true n m is none = absurd (true≢false none)
no_word false n m is none =
    elim (cases_lt n m) [
      | inl more ↦ absurd (true≢false (sym (is.1 more)))
      | inr few ↦ few
    ]

-- the words that were read so far, of shapes that are the verb's
pub fitted_by : (verb : Verb) (words : List (List ℕ)) (read : List Shape) → (0 < length words) × (word words 0 ≡ verb_word verb) → read ≡ shapes verb → HaveShapes read words (length read) → Fitted verb words
fitted_by verb words read known same have = (known.1, subst (λ ss. HaveShapes ss words (length ss)) same have)

-- what is refused for every choice of commands is refused for this one
pub refused_by : (verb : Verb) (words : List (List ℕ)) (r : Result Command Usage) → IfErr r (λ usage. Fitted verb words → IsRefusedAt words usage.word) → Fitted verb words → IfErr r (λ usage. IsRefusedAt words usage.word)
refused_by verb words (Ok c) refused fitted = refused
refused_by verb words (Err usage) refused fitted = refused fitted
