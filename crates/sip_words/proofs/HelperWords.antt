-- The word of helpers: no two lists of them share one. And how many queries have a seat for each.
use Rattle.std.proofs.Common.{◌≡◌, ℕ, ◌/◌, ◌<◌, ◌≤◌, List, [], ◌∷◌, length, map, get_or, sym, refl, ap, ◌∙◌, arith}
use Rattle.std.specs.Prelude.{◌==◌, if◌then◌else◌}
use Rattle.std.proofs.Math.Nat.{le-div_iff_mul-le}
use Rattle.std.proofs.lemmas.List.{get_or-map, length-map}
use Rattle.std.proofs.lemmas.List.Splits.{length-slice_split}
use Rattle.sip_wire.specs.Table.{most_queries}
use Rattle.sip_words.specs.declared.helper_name.HelperName.{HelperName}
use Rattle.sip_words.specs.declared.helper_name.HelperName.TheVariants.{Honest, Skewed, Mute}
use Rattle.sip_words.specs.declared.verb.Verb.TheVariants.{Panel}
use Rattle.sip_words.specs.Shapes.{AreHelpers, helper_word, parts}
use Rattle.sip_words.specs.Words.{word}
use Rattle.sip_words.specs.inside.Progress.{SeatsUpTo}

-- ---- names

-- the helper whose word begins with this letter
abbrev named : ℕ → HelperName
named letter = if letter == 104 then Honest else (if letter == 115 then Skewed else Mute)

named_word : (name : HelperName) → named (get_or (helper_word name) 0 0) ≡ name
named_word Honest = refl
named_word Skewed = refl
named_word Mute = refl

-- one word names one helper
pub helper_once : (word : List ℕ) (name other : HelperName) → word ≡ helper_word name → word ≡ helper_word other → name ≡ other
helper_once word name other is also = sym (named_word name) ∙ (ap (λ w. named (get_or w 0 0)) (sym is ∙ also) ∙ named_word other)

-- the words of helpers are those of one list of them
named_once : (names others : List HelperName) → map helper_word names ≡ map helper_word others → names ≡ others
named_once [] [] same = refl
named_once [] (o ∷ others) same = absurd (let none : [] ≡ helper_word o ∷ map helper_word others = same in cc)
named_once (n ∷ names) [] same = absurd (let none : helper_word n ∷ map helper_word names ≡ [] = same in cc)
named_once (n ∷ names) (o ∷ others) same =
    let both : helper_word n ∷ map helper_word names ≡ helper_word o ∷ map helper_word others = same in
    let first : helper_word n ≡ helper_word o = cc in
    let rest : map helper_word names ≡ map helper_word others = cc in
    let one = helper_once (helper_word n) n o refl first in
    let more = named_once names others rest in
    cc

-- so one word names one list of helpers
pub helpers_once : (word : List ℕ) (names others : List HelperName) → AreHelpers names word → AreHelpers others word → names ≡ others
helpers_once word names others are also = named_once names others (sym are.1 ∙ also.1)

-- each part of a word that names helpers names one
pub part_names : (word part : List ℕ) (k : ℕ) (names : List HelperName) → k < length (parts word) → part ≡ get_or (parts word) k part → AreHelpers names word → (name : HelperName) × (part ≡ helper_word name)
part_names word part k names within is are =
    let count : length (parts word) ≡ length names = ap length are.1 ∙ length-map names helper_word in
    (get_or names k Honest, is ∙ (ap (λ ps. get_or ps k part) are.1 ∙ get_or-map helper_word names k Honest part (omega arith)))

-- ---- their number

-- they are as many as the parts
pub count_named : (word : List ℕ) (names : List HelperName) → AreHelpers names word → length (parts word) ≡ length names
count_named word names are = ap length are.1 ∙ length-map names helper_word

-- and 1 at least
pub some_named : (word : List ℕ) (names : List HelperName) → AreHelpers names word → 0 < length names
some_named word names are =
    let count = count_named word names are in
    let some = length-slice_split (λ b. b == 44) word in
    omega arith

-- ---- seats

-- how many queries have a seat for each of them
pub seats_up_to : (words : List (List ℕ)) (names : List HelperName) → AreHelpers names (word words 3) → SeatsUpTo Panel words (most_queries / length names)
seats_up_to words names are =
    let count = count_named (word words 3) names are in
    let some = some_named (word words 3) names are in
    record {
      enough = λ number few. rw count ((le-div_iff_mul-le some).0 few);
      few = λ number more most seats.
          let within : number ≤ most_queries / length names = (le-div_iff_mul-le some).1 (rw count at seats) in
          omega arith;
    }

-- one query at least has
pub some_seats : (names : List HelperName) → 0 < length names → length names ≤ most_queries → 0 < most_queries / length names
some_seats names some few =
    let one : 1 ≤ most_queries / length names = (le-div_iff_mul-le some).1 (omega arith) in
    omega arith
