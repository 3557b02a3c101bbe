-- What an honest helper replies to a lookup.
use Rattle.std.specs.Prelude.{ℕ, ℤ, List, [], ◌∷◌, ◌++◌, flat_map, Option}
use Rattle.sip_field.specs.Moduli.{m61_modulus}
use Rattle.sip_vector.specs.declared.update.Side.TheVariants.{First}
use Rattle.sip_vector.specs.Streams.{vector}
use Rattle.sip_wire.specs.declared.version.Version.{Version}
use Rattle.sip_wire.specs.Spelling.{spelling}
use Rattle.sip_subvec.specs.Honest.{honest_replies}
use Rattle.sip_verifier.specs.runs.CompletenessClause.{Honesty}
use Rattle.sip_lookup.specs.Frames.{found_message}
use Rattle.sip_lookup.specs.Lookups.{CanLook, Looked, honest_found, near, range_of}
use Rattle.sip_lookup.specs.declared.lookup.Lookup.{Lookup}

-- a Found, in front of the first reply
abbrev pub behind : Version → Option ℕ → List (List ℕ) → List (List ℕ)
behind version found [] = []
behind version found (first ∷ more) = (spelling version (found_message found) ++ first) ∷ more

-- a Found, and the honest replies about the interval of its place
abbrev pub replies_about : Version → ℕ → List ℤ → Lookup → Option ℕ → List ℕ → List (List ℕ)
replies_about version depth numbers l found block = behind version found
    (honest_replies version m61_modulus numbers (range_of depth l found).0
    (range_of depth l found).1 block)

-- all replies of an honest helper: it finds the place of the answer
abbrev pub honest_looks : Version → ℕ → List ℤ → Lookup → List ℕ → List (List ℕ)
honest_looks version depth numbers l block =
    replies_about version depth numbers l (honest_found numbers l) block

-- It can answer any lookup at an item of the stream: no interval of an honest place has more than
-- one entry.
abbrev pub honesty : Honesty Lookup Looked
honesty = record {
  CanAnswer = λ version depth stream l. CanLook depth l;
  honest_bytes = λ version depth stream ask.
      flat_map (λ b. b) (honest_looks version depth (vector depth stream First) ask.0 ask.1);
  answer = λ depth stream l. near (vector depth stream First) l;
}
