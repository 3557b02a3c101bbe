-- How a sketch begins behind a handle.
use Rattle.std.specs.Prelude.{◌≡◌, ℕ, ◌*◌, ◌<◌, ◌≤◌, List, length, map, All, None}
use Rattle.sip_vector.specs.Limits.{most_depth}
use Rattle.sip_verifier.specs.Draws.{challenges_of}
use Rattle.sip_sketch.specs.Sketches.{SketchValues, code_of, most_seats}
use Rattle.sip_sketch.specs.Standing.{IsBegun}
use Rattle.sip_sketch.specs.declared.kind.SeatKind.{SeatKind}
use Rattle.sip_c.specs.declared.refusal.Refusal.{Refusal}
use Rattle.sip_c.specs.declared.refusal.Refusal.TheVariants as refusals

-- what is asked for: a seed, a depth, a part of so many, and codes of kinds of seats
pub record Wanted : Type 0 where
  pub seed : List ℕ
  pub depth : ℕ
  pub part : ℕ
  pub parts : ℕ
  pub codes : List ℕ

abbrev pub HasLengths : Wanted → Type 0
HasLengths w = (length w.seed ≡ 32) × (0 < length w.codes) × (length w.codes ≤ most_seats)

abbrev pub HasDepth : Wanted → Type 0
HasDepth w = (1 ≤ w.depth) × (w.depth ≤ most_depth)

abbrev pub HasPart : Wanted → Type 0
HasPart w = (1 ≤ w.part) × (w.part ≤ w.parts)

-- the code of a kind of seat
abbrev pub IsKind : ℕ → Type 0
IsKind code = (1 ≤ code) × (code ≤ 8)

-- a sketch can begin
pub record CanBegin (w : Wanted) : Type 0 where
  pub lengths : HasLengths w
  pub depth : HasDepth w
  pub part : HasPart w
  pub kinds : All IsKind w.codes

-- the first that stands against it, in this order
abbrev pub StandsAgainst : Wanted → Refusal → Type 0
StandsAgainst w refusals.BadLength = ¬ HasLengths w
StandsAgainst w refusals.BadDepth = HasLengths w × ¬ HasDepth w
StandsAgainst w refusals.BadPart = HasLengths w × HasDepth w × ¬ HasPart w
StandsAgainst w refusals.BadCode = HasLengths w × HasDepth w × HasPart w × ¬ All IsKind w.codes
StandsAgainst w refusals.SeedSpent =
    CanBegin w × (challenges_of (w.depth * length w.codes) w.seed ≡ None)
StandsAgainst w refusals.NoMemory = CanBegin w
StandsAgainst w _ = ⊥

-- the sketch of the empty stream, as it was asked for
pub record Begun (w : Wanted) (s : SketchValues) : Type 0 where
  pub kinds : List SeatKind
  pub codes : map code_of kinds ≡ w.codes
  pub begun : IsBegun w.seed w.depth
      (record { count = w.parts; first = w.part; last = w.part }) kinds s
