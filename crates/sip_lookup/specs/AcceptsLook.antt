-- When the replies to a lookup are accepted, what they say, and how many vectors of challenges a
-- wrong answer can be accepted at. Reply 0 is a Found and the sub-vector's reply 0 behind it.
use Rattle.std.specs.Prelude.{ℕ, Bool, false, ◌&&◌, ℤ, List, [], ◌∷◌, Option, Result, Ok, Err}
use Rattle.sip_field.specs.Moduli.{m61_modulus}
use Rattle.sip_vector.specs.Steps.{◌>>=◌}
use Rattle.sip_vector.specs.Trees.{root}
use Rattle.sip_counts.specs.Strategies.{Strategy, fooled}
use Rattle.sip_wire.specs.declared.message.Reason.{Reason}
use Rattle.sip_wire.specs.declared.message.Reason.TheVariants as reasons
use Rattle.sip_wire.specs.declared.version.Version.{Version}
use Rattle.sip_subvec.specs.Counting.{accepts_sub, said}
use Rattle.sip_lookup.specs.Frames.{read_found}
use Rattle.sip_lookup.specs.Lookups.{Looked, are_alone, is_possible, is_same_answer, near, range_of}
use Rattle.sip_lookup.specs.Lookups.{stated_answer}
use Rattle.sip_lookup.specs.declared.lookup.Lookup.{Lookup}

-- the place that was found, and the sub-vector's replies
abbrev pub Parts : Type 0
Parts = Option ℕ × List (List ℕ)

abbrev pub parts : Version → List (List ℕ) → Result Parts Reason
parts version [] = Err reasons.Closed
parts version (first ∷ more) = read_found version first >>= λ x. Ok (x.0, x.1 ∷ more)

-- what the sub-vector's replies say of the interval
abbrev pub said_within : Version → ℕ → Lookup → Parts → Looked
said_within version d l x =
    stated_answer l (said version (range_of d l x.0).0 (range_of d l x.0).1 x.1)

-- The place may be found, the sub-vector's replies are accepted over its interval, and their
-- entries stand alone.
abbrev pub accepts_parts : Version → ℕ → List ℤ → Lookup → List ℕ → Parts → Bool
accepts_parts version d numbers l challenges x =
    is_possible d l x.0
    && (accepts_sub version m61_modulus (root m61_modulus numbers challenges)
    (range_of d l x.0).0 (range_of d l x.0).1 challenges x.1
    && are_alone l x.0 (said version (range_of d l x.0).0 (range_of d l x.0).1 x.1))

-- this holds of the parts, where there are such
abbrev pub of_parts : (Parts → Bool) → Result Parts Reason → Bool
of_parts test (Ok x) = test x
of_parts test (Err reason) = false

-- the replies at these challenges are accepted
abbrev pub accepts_look : Version → ℕ → List ℤ → Lookup → List ℕ → List (List ℕ) → Bool
accepts_look version d numbers l challenges replies =
    of_parts (accepts_parts version d numbers l challenges) (parts version replies)

-- they say the numbers' own answer
abbrev pub is_right : Version → ℕ → List ℤ → Lookup → List (List ℕ) → Bool
is_right version d numbers l replies =
    of_parts (λ x. is_same_answer (said_within version d l x) (near numbers l))
    (parts version replies)

-- how many of the vectors of d challenges let a strategy have a wrong answer accepted
abbrev pub fooled_look : Version → ℕ → List ℤ → Lookup → Strategy → ℕ
fooled_look version d numbers l strategy =
    fooled m61_modulus d (accepts_look version d numbers l) (is_right version d numbers l) strategy
