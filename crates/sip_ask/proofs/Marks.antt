-- A sketch with used seats.
use Rattle.std.proofs.Common.{◌≡◌, ◌≢◌, ℕ, zero, suc, ◌<◌, true, false, List, [], ◌∷◌, length, get_or, refl, sym, ap, ◌∙◌, arith}
use Rattle.std.specs.List.{AllZip}
use Rattle.sip_sketch.specs.Fields.{read}
use Rattle.sip_sketch.specs.Sketches.{IsSketch, SeatValues, SketchValues, numbers, sketch_file, spelled_file}
use Rattle.sip_sketch.proofs.Apart.{sketches_same}
use Rattle.sip_sketch.proofs.Exact.{is_read}
use Rattle.std.specs.Prelude.{Ok}
use Rattle.sip_ask.specs.Marking.{is_used_at, mark, used_at}

-- ---- the seats

pub used-here : (place : ℕ) (seats : List SeatValues) → place < length seats → is_used_at place (used_at place seats) ≡ true
used-here zero [] lt = absurd (omega (arith, lt))
used-here (suc place) [] lt = absurd (omega (arith, lt))
used-here zero (x ∷ xs) lt = refl
used-here (suc place) (x ∷ xs) lt = used-here place xs (omega (arith, lt))

pub other-same : (place k : ℕ) (seats : List SeatValues) (d : SeatValues) → k ≢ place → get_or (used_at place seats) k d ≡ get_or seats k d
other-same zero k [] d other = refl
other-same (suc place) k [] d other = refl
other-same zero zero (x ∷ xs) d other = absurd (other refl)
other-same zero (suc k) (x ∷ xs) d other = refl
other-same (suc place) zero (x ∷ xs) d other = refl
other-same (suc place) (suc k) (x ∷ xs) d other = other-same place k xs d (λ e. other (ap suc e))

-- the same seat, used if it was
abbrev pub Keeps : SeatValues → SeatValues → Type 0
Keeps was now = (now.kind ≡ was.kind) × (now.block ≡ was.block) × (was.is_used ≡ true → now.is_used ≡ true)

same-keeps : (seats : List SeatValues) → AllZip Keeps seats seats
same-keeps [] = tt
same-keeps (x ∷ xs) = ((refl, refl, λ h. h), same-keeps xs)

pub used-keeps : (place : ℕ) (seats : List SeatValues) → AllZip Keeps seats (used_at place seats)
used-keeps zero [] = tt
used-keeps (suc place) [] = tt
used-keeps zero (x ∷ xs) = ((refl, refl, λ h. refl), same-keeps xs)
used-keeps (suc place) (x ∷ xs) = ((refl, refl, λ h. h), used-keeps place xs)

pub kept-used : (k : ℕ) (xs ys : List SeatValues) → AllZip Keeps xs ys → is_used_at k xs ≡ true → is_used_at k ys ≡ true
kept-used zero [] ys keeps is = absurd (let no : false ≡ true = is in cc)
kept-used (suc k) [] ys keeps is = absurd (let no : false ≡ true = is in cc)
kept-used zero (x ∷ xs) [] keeps is = absurd keeps
kept-used (suc k) (x ∷ xs) [] keeps is = absurd keeps
kept-used zero (x ∷ xs) (y ∷ ys) keeps is = keeps.0.2 is
kept-used (suc k) (x ∷ xs) (y ∷ ys) keeps is = kept-used k xs ys keeps.1 is

-- what was used stays so behind a mark
pub used-stays : (k place : ℕ) (s : SketchValues) → is_used_at k s.seats ≡ true → is_used_at k (mark place s).seats ≡ true
used-stays k place s is = kept-used k s.seats (used_at place s.seats) (used-keeps place s.seats) is

-- ---- the file

-- a file is that of one sketch
pub file-tells : (s t : SketchValues) → IsSketch s → IsSketch t → spelled_file s ≡ spelled_file t → s ≡ t
file-tells s t is it e =
    let same : Ok (numbers s) ≡ Ok (numbers t) =
    sym (is_read sketch_file (numbers s) is.values) ∙ ap (read sketch_file) e ∙ is_read sketch_file (numbers t) it.values in
    let numbers_same : numbers s ≡ numbers t = cc in
    sketches_same s t is it numbers_same
