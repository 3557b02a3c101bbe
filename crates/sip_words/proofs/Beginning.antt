-- How words begin a command, and where they are refused.
use Rattle.std.proofs.Common.{◌≡◌, ◌≢◌, ℕ, zero, suc, ◌+◌, ◌-◌, ◌<◌, ◌≤◌, List, [], ◌∷◌, ◌++◌, length, get_or, take, drop, sym, refl, ap, subst, ◌∙◌, inl, inr, arith}
use Rattle.std.specs.Prelude.{codes, decimal, ◌==◌, if◌then◌else◌}
use Rattle.std.proofs.lemmas.Bool.{cases_lt}
use Rattle.std.proofs.lemmas.List.{length-take-le, length-drop, length-append, get_or-take, get_or-drop, get_or_append_left, get_or-append_right}
use Rattle.std.proofs.lemmas.Nat.{pow_pos}
use Rattle.sip_stream.specs.declared.form.Form.TheVariants.{Binary}
use Rattle.sip_vector.specs.declared.update.Side.TheVariants.{First}
use Rattle.sip_vector.specs.declared.query.Query.TheVariants.{Sub}
use Rattle.sip_lookup.specs.declared.lookup.Lookup.TheVariants as lookups
use Rattle.sip_lookup.specs.Reports.{look_word}
use Rattle.sip_moments.specs.declared.moment.Moment.{Moment}
use Rattle.sip_verifier.specs.Reports.{query_word}
use Rattle.sip_words.specs.declared.helper_name.HelperName.TheVariants.{Mute}
use Rattle.sip_words.specs.declared.shape.Shape.TheVariants.{Name}
use Rattle.sip_words.specs.declared.stream.Stream.TheVariants as stream
use Rattle.sip_words.specs.declared.verb.Verb.{Verb}
use Rattle.sip_words.specs.declared.verb.Verb.TheVariants.{Verify, Help, Audit, Show, Convert, Gen, Lines, Widen, Play, Lookup, HelpLook, Moments, HelpMoments, Panel, Serve}
use Rattle.sip_moments.specs.Manner.{moment_word}
use Rattle.sip_words.specs.Shapes.{IsOf, IsDepth}
use Rattle.sip_words.specs.Verbs.{verb_word, shapes, depth_at, least_asked, most_asked}
use Rattle.sip_words.proofs.HelperWords.{count_named}
use Rattle.sip_words.specs.Words.{word, AsksOf, HasSeats, IsCommandOf, BeginCommand, IsRefusedAt}

-- a moment to end with
abbrev pub example_moment : Moment
example_moment = record { side = First; degree = 3 }

-- words of a command to end with
abbrev pub examples : Verb → List (List ℕ)
examples Verify = codes "verify" ∷ codes "s" ∷ codes "s" ∷ codes "f" ∷ codes "t" ∷ codes "-" ∷ decimal 1 ∷ query_word (Sub 0 0) ∷ []
examples Help = codes "help" ∷ codes "f" ∷ codes "t" ∷ []
examples Audit = codes "audit" ∷ codes "s" ∷ codes "t" ∷ []
examples Show = codes "show" ∷ codes "f" ∷ []
examples Convert = codes "convert" ∷ codes "f" ∷ []
examples Gen = codes "gen" ∷ decimal 0 ∷ decimal 0 ∷ decimal 1 ∷ []
examples Lines = codes "lines" ∷ codes "s" ∷ decimal 1 ∷ []
examples Widen = codes "widen" ∷ codes "s" ∷ decimal 1 ∷ []
examples Play = codes "play" ∷ codes "s" ∷ codes "s" ∷ codes "mute" ∷ codes "-" ∷ decimal 1 ∷ query_word (Sub 0 0) ∷ []
examples Lookup = codes "lookup" ∷ codes "s" ∷ codes "s" ∷ codes "f" ∷ codes "t" ∷ decimal 1 ∷ look_word (lookups.Index 0) ∷ []
examples HelpLook = codes "helplook" ∷ codes "f" ∷ codes "t" ∷ []
examples Moments = codes "moments" ∷ codes "s" ∷ codes "s" ∷ codes "f" ∷ codes "t" ∷ decimal 1 ∷ moment_word example_moment ∷ []
examples HelpMoments = codes "helpmom" ∷ codes "f" ∷ codes "t" ∷ []
examples Panel = codes "panel" ∷ codes "s" ∷ codes "s" ∷ codes "mute" ∷ decimal 1 ∷ query_word (Sub 0 0) ∷ []
examples Serve = codes "serve" ∷ codes "s" ∷ codes "f" ∷ codes "t" ∷ []

-- they are as many as there have to be
pub examples_long : (verb : Verb) → length (examples verb) ≡ 1 + length (shapes verb) + least_asked verb
examples_long Verify = refl
examples_long Help = refl
examples_long Audit = refl
examples_long Show = refl
examples_long Convert = refl
examples_long Gen = refl
examples_long Lines = refl
examples_long Widen = refl
examples_long Play = refl
examples_long Lookup = refl
examples_long HelpLook = refl
examples_long Moments = refl
examples_long HelpMoments = refl
examples_long Panel = refl
examples_long Serve = refl

-- each has its shape
pub examples_fit : (verb : Verb) (n : ℕ) → n < length (shapes verb) → IsOf (get_or (shapes verb) n Name) (word (examples verb) (n + 1))
examples_fit Verify zero h = (stream.File, (λ e. cc, refl, refl, refl))
examples_fit Verify (suc zero) h = λ e. cc
examples_fit Verify (suc (suc zero)) h = λ e. cc
examples_fit Verify (suc (suc (suc zero))) h = λ e. cc
examples_fit Verify (suc (suc (suc (suc zero)))) h = λ e. cc
examples_fit Verify (suc (suc (suc (suc (suc zero))))) h = (1, (omega arith, omega arith, refl))
examples_fit Verify (suc (suc (suc (suc (suc (suc n)))))) h = absurd (omega arith)
examples_fit Help zero h = λ e. cc
examples_fit Help (suc zero) h = λ e. cc
examples_fit Help (suc (suc n)) h = absurd (omega arith)
examples_fit Audit zero h = (Binary, (λ e. cc, refl, refl, refl))
examples_fit Audit (suc zero) h = λ e. cc
examples_fit Audit (suc (suc n)) h = absurd (omega arith)
examples_fit Show zero h = λ e. cc
examples_fit Show (suc n) h = absurd (omega arith)
examples_fit Convert zero h = λ e. cc
examples_fit Convert (suc n) h = absurd (omega arith)
examples_fit Gen zero h = (0, omega arith, omega arith, refl)
examples_fit Gen (suc zero) h = (0, omega arith, omega arith, refl)
examples_fit Gen (suc (suc zero)) h = (1, (omega arith, omega arith, refl))
examples_fit Gen (suc (suc (suc n))) h = absurd (omega arith)
examples_fit Lines zero h = (stream.File, (λ e. cc, refl, refl, refl))
examples_fit Lines (suc zero) h = (1, (omega arith, omega arith, refl))
examples_fit Lines (suc (suc n)) h = absurd (omega arith)
examples_fit Widen zero h = (stream.File, (λ e. cc, refl, refl, refl))
examples_fit Widen (suc zero) h = (1, (omega arith, omega arith, refl))
examples_fit Widen (suc (suc n)) h = absurd (omega arith)
examples_fit Play zero h = (stream.File, (λ e. cc, refl, refl, refl))
examples_fit Play (suc zero) h = λ e. cc
examples_fit Play (suc (suc zero)) h = (Mute, refl)
examples_fit Play (suc (suc (suc zero))) h = λ e. cc
examples_fit Play (suc (suc (suc (suc zero)))) h = (1, (omega arith, omega arith, refl))
examples_fit Play (suc (suc (suc (suc (suc n))))) h = absurd (omega arith)
examples_fit Lookup zero h = (stream.File, (λ e. cc, refl, refl, refl))
examples_fit Lookup (suc zero) h = λ e. cc
examples_fit Lookup (suc (suc zero)) h = λ e. cc
examples_fit Lookup (suc (suc (suc zero))) h = λ e. cc
examples_fit Lookup (suc (suc (suc (suc zero)))) h = (1, (omega arith, omega arith, refl))
examples_fit Lookup (suc (suc (suc (suc (suc n))))) h = absurd (omega arith)
examples_fit HelpLook zero h = λ e. cc
examples_fit HelpLook (suc zero) h = λ e. cc
examples_fit HelpLook (suc (suc n)) h = absurd (omega arith)
examples_fit Moments zero h = (stream.File, (λ e. cc, refl, refl, refl))
examples_fit Moments (suc zero) h = λ e. cc
examples_fit Moments (suc (suc zero)) h = λ e. cc
examples_fit Moments (suc (suc (suc zero))) h = λ e. cc
examples_fit Moments (suc (suc (suc (suc zero)))) h = (1, (omega arith, omega arith, refl))
examples_fit Moments (suc (suc (suc (suc (suc n))))) h = absurd (omega arith)
examples_fit HelpMoments zero h = λ e. cc
examples_fit HelpMoments (suc zero) h = λ e. cc
examples_fit HelpMoments (suc (suc n)) h = absurd (omega arith)
examples_fit Panel zero h = (stream.File, (λ e. cc, refl, refl, refl))
examples_fit Panel (suc zero) h = λ e. cc
examples_fit Panel (suc (suc zero)) h = (Mute ∷ [], (omega arith, refl))
examples_fit Panel (suc (suc (suc zero))) h = (1, (omega arith, omega arith, refl))
examples_fit Panel (suc (suc (suc (suc n)))) h = absurd (omega arith)
examples_fit Serve zero h = (Binary, (λ e. cc, refl, refl, refl))
examples_fit Serve (suc zero) h = λ e. cc
examples_fit Serve (suc (suc zero)) h = λ e. cc
examples_fit Serve (suc (suc (suc n))) h = absurd (omega arith)

-- the example asks something at each depth
pub example_asks : (verb : Verb) (n d : ℕ) → length (shapes verb) < n → n < length (examples verb) → AsksOf verb d (word (examples verb) n)
example_asks Verify n d low high = let one : n ≡ 7 = omega arith in let item = pow_pos d in rw one (Sub 0 0, (refl, (omega arith, omega arith), refl))
example_asks Help n d low high = absurd (omega arith)
example_asks Audit n d low high = absurd (omega arith)
example_asks Show n d low high = absurd (omega arith)
example_asks Convert n d low high = absurd (omega arith)
example_asks Gen n d low high = absurd (omega arith)
example_asks Lines n d low high = absurd (omega arith)
example_asks Widen n d low high = absurd (omega arith)
example_asks Play n d low high = let one : n ≡ 6 = omega arith in let item = pow_pos d in rw one (Sub 0 0, (refl, (omega arith, omega arith), refl))
example_asks Lookup n d low high = let one : n ≡ 6 = omega arith in let item = pow_pos d in rw one (lookups.Index 0, (omega arith, refl))
example_asks HelpLook n d low high = absurd (omega arith)
example_asks Moments n d low high = let one : n ≡ 6 = omega arith in rw one (example_moment, (record { least = omega arith; most = omega arith }, refl))
example_asks HelpMoments n d low high = absurd (omega arith)
example_asks Panel n d low high = let one : n ≡ 5 = omega arith in let item = pow_pos d in rw one (Sub 0 0, (refl, (omega arith, omega arith), refl))
example_asks Serve n d low high = absurd (omega arith)

-- a verb that asks something has a depth before it
pub depth_shape : (verb : Verb) (n : ℕ) → length (shapes verb) < n → n < 1 + length (shapes verb) + most_asked verb → (words : List (List ℕ)) → IsOf (get_or (shapes verb) (length (shapes verb) - 1) Name) (word words (depth_at verb)) → (d : ℕ) × IsDepth d (word words (depth_at verb))
depth_shape Verify n low high words is = is
depth_shape Help n low high words is = absurd (omega arith)
depth_shape Audit n low high words is = absurd (omega arith)
depth_shape Show n low high words is = absurd (omega arith)
depth_shape Convert n low high words is = absurd (omega arith)
depth_shape Gen n low high words is = absurd (omega arith)
depth_shape Lines n low high words is = absurd (omega arith)
depth_shape Widen n low high words is = absurd (omega arith)
depth_shape Play n low high words is = is
depth_shape Lookup n low high words is = is
depth_shape HelpLook n low high words is = absurd (omega arith)
depth_shape Moments n low high words is = is
depth_shape HelpMoments n low high words is = absurd (omega arith)
depth_shape Panel n low high words is = is
depth_shape Serve n low high words is = absurd (omega arith)

-- each verb has words behind it
pub has_shapes : (verb : Verb) → 1 ≤ length (shapes verb)
has_shapes Verify = omega arith
has_shapes Help = omega arith
has_shapes Audit = omega arith
has_shapes Show = omega arith
has_shapes Convert = omega arith
has_shapes Gen = omega arith
has_shapes Lines = omega arith
has_shapes Widen = omega arith
has_shapes Play = omega arith
has_shapes Lookup = omega arith
has_shapes HelpLook = omega arith
has_shapes Moments = omega arith
has_shapes HelpMoments = omega arith
has_shapes Panel = omega arith
has_shapes Serve = omega arith

pub least_below_most : (verb : Verb) → least_asked verb ≤ most_asked verb
least_below_most Verify = omega arith
least_below_most Help = omega arith
least_below_most Audit = omega arith
least_below_most Show = omega arith
least_below_most Convert = omega arith
least_below_most Gen = omega arith
least_below_most Lines = omega arith
least_below_most Widen = omega arith
least_below_most Play = omega arith
least_below_most Lookup = omega arith
least_below_most HelpLook = omega arith
least_below_most Moments = omega arith
least_below_most HelpMoments = omega arith
least_below_most Panel = omega arith
least_below_most Serve = omega arith

-- the first n words are those of a command of this verb, which is not yet too long
pub record Begun (verb : Verb) (words : List (List ℕ)) (n : ℕ) : Type 0 where
  pub first : word words 0 ≡ verb_word verb
  pub some_words : 0 < n
  pub within : n ≤ length words
  pub most : n ≤ 1 + length (shapes verb) + most_asked verb
  pub shaped : (i : ℕ) → i < length (shapes verb) → i + 1 < n → IsOf (get_or (shapes verb) i Name) (word words (i + 1))
  pub asked : (i : ℕ) → length (shapes verb) < i → i < n → (d : ℕ) × IsDepth d (word words (depth_at verb)) × AsksOf verb d (word words i)
  pub seats : (i : ℕ) → length (shapes verb) < i → i < n → HasSeats verb (word words 3) (i - length (shapes verb))

-- the words up to n, and the example's from there on
abbrev pub ended : Verb → List (List ℕ) → ℕ → List (List ℕ)
ended verb words n = take n words ++ drop n (examples verb)

pub ended_before : (verb : Verb) (words : List (List ℕ)) (n i : ℕ) → n ≤ length words → i < n → word (ended verb words n) i ≡ word words i
ended_before verb words n i within less =
    let counted = length-take-le n words within in
    get_or_append_left (take n words) (drop n (examples verb)) [] i (omega arith) ∙ get_or-take n words i [] less

pub ended_after : (verb : Verb) (words : List (List ℕ)) (n i : ℕ) → n ≤ length words → n ≤ i → word (ended verb words n) i ≡ word (examples verb) i
ended_after verb words n i within least =
    let counted = length-take-le n words within in
    let sum : n + (i - n) ≡ i = omega arith in
    get_or-append_right (take n words) (drop n (examples verb)) n i [] counted least ∙ (get_or-drop n (examples verb) (i - n) [] ∙ ap (λ k. word (examples verb) k) sum)

pub ended_long : (verb : Verb) (words : List (List ℕ)) (n : ℕ) → n ≤ length words → length (ended verb words n) ≡ n + (length (examples verb) - n)
ended_long verb words n within =
    let counted = length-take-le n words within in
    let rest = length-drop n (examples verb) in
    length-append (take n words) (drop n (examples verb)) ∙ omega (arith, counted, rest)

-- each word of it has its shape
pub ended_shaped : (verb : Verb) (words : List (List ℕ)) (n : ℕ) → Begun verb words n → (i : ℕ) → i < length (shapes verb) → IsOf (get_or (shapes verb) i Name) (word (ended verb words n) (i + 1))
ended_shaped verb words n b i less =
    elim (cases_lt (i + 1) n) [
      | inl before ↦ subst (IsOf (get_or (shapes verb) i Name)) (sym (ended_before verb words n (i + 1) b.within before)) (b.shaped i less before)
      | inr after ↦ subst (IsOf (get_or (shapes verb) i Name)) (sym (ended_after verb words n (i + 1) b.within after)) (examples_fit verb i less)
    ]

-- and asks something
pub ended_asked : (verb : Verb) (words : List (List ℕ)) (n : ℕ) → Begun verb words n → (i : ℕ) → length (shapes verb) < i → i < length (ended verb words n) → (d : ℕ) × IsDepth d (word (ended verb words n) (depth_at verb)) × AsksOf verb d (word (ended verb words n) i)
ended_asked verb words n b i low high =
    let long = ended_long verb words n b.within in
    let examples_are = examples_long verb in
    let few = least_below_most verb in
    let most : i < 1 + length (shapes verb) + most_asked verb = omega (arith, b.most) in
    let some = has_shapes verb in
    let last : length (shapes verb) - 1 + 1 ≡ depth_at verb = omega arith in
    elim (cases_lt i n) [
      | inl before ↦ (
          let a = b.asked i low before in
          (a.0, subst (IsDepth a.0) (sym (ended_before verb words n (depth_at verb) b.within (omega arith))) a.1, subst (AsksOf verb a.0) (sym (ended_before verb words n i b.within before)) a.2))
      | inr after ↦ (
          let shaped = subst (λ k. IsOf (get_or (shapes verb) (length (shapes verb) - 1) Name) (word (ended verb words n) k)) last (ended_shaped verb words n b (length (shapes verb) - 1) (omega arith)) in
          let deep = depth_shape verb i low most (ended verb words n) shaped in
          (deep.0, deep.1, subst (AsksOf verb deep.0) (sym (ended_after verb words n i b.within after)) (example_asks verb i deep.0 low (omega arith))))
    ]

-- helpers that a word names have a seat each for one query
one_seat_each : (w : List ℕ) → IsOf (get_or (shapes Panel) 2 Name) w → HasSeats Panel w 1
one_seat_each w (names, are) =
    let count = count_named w names are in
    let few = are.0 in
    omega arith

-- and each query of it has its seats
pub ended_seats : (verb : Verb) (words : List (List ℕ)) (n : ℕ) → Begun verb words n → (i : ℕ) → length (shapes verb) < i → i < length (ended verb words n) → HasSeats verb (word (ended verb words n) 3) (i - length (shapes verb))
ended_seats Panel words n b i low high =
    elim (cases_lt i n) [
      | inl before ↦ subst (λ w. HasSeats Panel w (i - 4)) (sym (ended_before Panel words n 3 b.within (omega arith))) (b.seats i low before)
      | inr after ↦ (
          let long = ended_long Panel words n b.within in
          let one : i ≡ 5 = omega arith in
          subst (λ k. HasSeats Panel (word (ended Panel words n) 3) (k - 4)) (sym one) (one_seat_each (word (ended Panel words n) 3) (ended_shaped Panel words n b 2 (omega arith))))
    ]
ended_seats _ words n b i low high = tt

-- words that are begun begin a command
pub begins : (verb : Verb) (words : List (List ℕ)) (n : ℕ) → Begun verb words n → BeginCommand (take n words)
begins verb words n b =
    let long = ended_long verb words n b.within in
    let examples_are = examples_long verb in
    let few = least_below_most verb in (
      verb,
      drop n (examples verb),
      record {
        first = ended_before verb words n 0 b.within b.some_words ∙ b.first;
        shaped = ended_shaped verb words n b;
        asked = ended_asked verb words n b;
        seats = ended_seats verb words n b;
        least = omega arith;
        most = omega (arith, b.most);
      },
    )

-- no words begin `verify`
pub begins_none : (words : List (List ℕ)) → BeginCommand (take 0 words)
begins_none words = (
  Verify,
  examples Verify,
  record {
    first = refl;
    shaped = examples_fit Verify;
    asked = λ n low high. (1, (omega arith, omega arith, refl), example_asks Verify n 1 low high);
    seats = λ n low high. tt;
    least = omega arith;
    most = omega arith;
  },
)

-- the verb that a word is, by its first letter and by one behind it
abbrev pub lettered : List ℕ → Verb
lettered w =
    let first = get_or w 0 0 in
    if first == 118 then Verify else (
    if first == 104 then (if get_or w 4 0 == 108 then HelpLook else (if get_or w 4 0 == 109 then HelpMoments else Help)) else (
    if first == 103 then Gen else (
    if first == 108 then (if get_or w 1 0 == 111 then Lookup else Lines) else (
    if first == 109 then Moments else (
    if first == 112 then (if get_or w 1 0 == 97 then Panel else Play) else (
    if first == 115 then (if get_or w 1 0 == 101 then Serve else Show) else (
    if first == 97 then Audit else (
    if first == 99 then Convert else Widen))))))))

lettered_word : (verb : Verb) → lettered (verb_word verb) ≡ verb
lettered_word Verify = refl
lettered_word Help = refl
lettered_word Audit = refl
lettered_word Show = refl
lettered_word Convert = refl
lettered_word Gen = refl
lettered_word Lines = refl
lettered_word Widen = refl
lettered_word Play = refl
lettered_word Lookup = refl
lettered_word HelpLook = refl
lettered_word Moments = refl
lettered_word HelpMoments = refl
lettered_word Panel = refl
lettered_word Serve = refl

-- one word has one verb
pub verb_once : (verb other : Verb) → verb_word verb ≡ verb_word other → verb ≡ other
verb_once verb other same = sym (lettered_word verb) ∙ (ap lettered same ∙ lettered_word other)

-- the words of a command that begins with the words up to n
pub reads_from : (words whole rest : List (List ℕ)) (n : ℕ) → n < length words → whole ≡ take (n + 1) words ++ rest → (k : ℕ) → k ≤ n → word whole k ≡ word words k
reads_from words whole rest n more is k within =
    let counted = length-take-le (n + 1) words (omega arith) in
    ap (λ ws. word ws k) is ∙ (get_or_append_left (take (n + 1) words) rest [] k (omega arith) ∙ get_or-take (n + 1) words k [] (omega arith))

-- where no command of the verb has the words up to number n, they are refused at n
pub refused : (verb : Verb) (words : List (List ℕ)) (n : ℕ) → Begun verb words n
    → (n < length words → (whole : List (List ℕ)) → IsCommandOf verb whole → n < length whole → ((k : ℕ) → k ≤ n → word whole k ≡ word words k) → ⊥)
    → (length words ≤ n → IsCommandOf verb words → ⊥)
    → IsRefusedAt words n
refused verb words n b none short = record {
  before = begins verb words n b;
  here = λ more (other, rest, is).
      let whole : List (List ℕ) = take (n + 1) words ++ rest in
      let reads = reads_from words whole rest n more refl in
      let same : verb ≡ other = verb_once verb other (sym b.first ∙ (sym (reads 0 (omega arith)) ∙ is.first)) in
      let counted = length-take-le (n + 1) words (omega arith) in
      none more whole (subst (λ v. IsCommandOf v whole) (sym same) is) (omega (arith, length-append (take (n + 1) words) rest)) reads;
  short = λ least. (
    omega (arith, b.within),
    λ other is.
        let same : verb ≡ other = verb_once verb other (sym b.first ∙ is.first) in
        short least (subst (λ v. IsCommandOf v words) (sym same) is),
  );
}

-- where word 0 is no verb, it is refused
pub refused_verb : (words : List (List ℕ)) → ((verb : Verb) → 0 < length words → word words 0 ≢ verb_word verb) → IsRefusedAt words 0
refused_verb words none = record {
  before = begins_none words;
  here = λ more (verb, rest, is).
      let reads = reads_from words (take 1 words ++ rest) rest 0 more refl 0 (omega arith) in
      none verb more (sym reads ∙ is.first);
  short = λ least. (omega arith, λ verb is. let enough = is.least in omega arith);
}
