-- What is seen of the lookups of a run while they are asked.
use Rattle.std.specs.Prelude.{◌≡◌, ℕ, Bool, All, List, map}
use Rattle.sip_vector.specs.declared.update.Update.{Update}
use Rattle.sip_wire.specs.declared.version.Version.{Version}
use Rattle.sip_verifier.specs.QuerySeats.{Seated, StandsFor}
use Rattle.sip_verifier.specs.runs.Askers.{Remaining}
use Rattle.sip_lookup.specs.Lookups.{Looked, nearest, value}
use Rattle.sip_lookup.specs.declared.asker.LookGiven.{LookGiven}
use Rattle.sip_lookup.specs.declared.lookup.Lookup.{Lookup}
use Rattle.sip_lookup.specs.declared.answer.LookAnswer.{LookAnswer}
use Rattle.sip_lookup.specs.declared.answer.LookAnswer.TheVariants as answers

-- The version of the talk, the depth, the lookups that were not asked yet, each with a seat that
-- has the root of side 0, and whether it is over before its time.
pub record LookSitting : Type 0 where
  pub version : Version
  pub depth : ℕ
  pub left : List (Lookup × Seated)
  pub spent : Bool

-- what is still to be asked
abbrev pub remaining_of : LookSitting → Remaining Lookup
remaining_of s = record {
  version = s.version;
  depth = s.depth;
  left = map (λ ask. (ask.0, ask.1.block)) s.left;
  spent = s.spent;
}

-- the roots of the lookups that are left are those of this stream
abbrev pub StandsOn : List Update → LookSitting → Type 0
StandsOn stream s = All (λ ask. StandsFor s.depth stream ask.1) s.left

-- an answer as the code has it
abbrev pub looked_of : LookAnswer → Looked
looked_of (answers.Value z) = value z
looked_of (answers.Nearest e) = nearest e

-- what was given is the answer to this lookup
pub record IsGiven (given : LookGiven) (l : Lookup) (answer : Looked) : Type 0 where
  pub asked : given.lookup ≡ l
  pub same : looked_of given.answer ≡ answer
