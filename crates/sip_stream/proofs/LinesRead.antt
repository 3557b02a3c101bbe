-- Lines, taken byte by byte: what a whole line says, and where it was cut short or is too long.
use Rattle.std.proofs.Common.{◌≡◌, ◌≢◌, ℕ, ◌+◌, ◌<◌, ◌≤◌, Bool, true, false, cond, eqb, List, [], ◌∷◌, ◌++◌, length, refl, sym, ap, ◌∙◌, subst, arith, append_assoc, append-nil, length-append, take, drop, take-append-drop, eq-eqb}
use Rattle.std.specs.Prelude.{Option, Some, None, Result, Ok, Err, nat_lt, nat_le, ◌||◌, option_and_then, pos}
use Rattle.std.specs.Io.KnownBytes.{Consumes}
use Rattle.std.proofs.Math.Seq.{take-append_seam}
use Rattle.std.proofs.lemmas.Bool.{ne_eqb}
use Rattle.std.proofs.lemmas.Bool.Decides.{nat_tests}
use Rattle.sip_vector.specs.declared.update.Side.TheVariants.{First}
use Rattle.sip_vector.specs.declared.update.Update.{Update}
use Rattle.sip_stream.specs.declared.numbers.Numbers.{Numbers}
use Rattle.sip_stream.specs.declared.why.Why.{Why}
use Rattle.sip_stream.specs.declared.why.Why.TheVariants.{Truncated, BadLine, BadSide}
use Rattle.sip_stream.specs.Layouts.{of_line}
use Rattle.sip_stream.specs.Lines.{parts_at, numbers_at, lines_from, begun, most_line}
use Rattle.sip_stream.specs.Records.{said, said_fault, line_at, line_fault, update_fault}
use Rattle.sip_stream.specs.Pieces.{IsBegun, IsFirst, Says, ReadsPiece, line_said}
use Rattle.sip_stream.proofs.Parts.{none_from, parts_found, parts_more}
use Rattle.sip_stream.proofs.RecordsRead.{came_front}

-- nothing was taken yet
pub begun_empty : (bytes : List ℕ) → IsBegun bytes [] bytes
begun_empty bytes = record { order = refl; same = refl; clean = refl }

-- the lines, by whether the next byte ends one
abbrev line_step : List ℕ → ℕ → List ℕ → Bool → List (List ℕ)
line_step front b rest ends = cond ends ((front ++ b ∷ []) ∷ lines_from [] rest) (lines_from (front ++ b ∷ []) rest)

-- one more byte of the line
pub begun_more : (bytes front rest : List ℕ) (b : ℕ) → IsBegun bytes front (b ∷ rest) → b ≢ 10 → length front < 40 → IsBegun bytes (front ++ b ∷ []) rest
begun_more bytes front rest b so other short =
    let long : nat_le most_line (length front) ≡ false = grind (arith, nat_tests) in
    let ends : (eqb b 10 || nat_le most_line (length front)) ≡ false = ap (λ is. is || nat_le most_line (length front)) (ne_eqb b 10 other) ∙ long in
    record {
      order = so.order ∙ sym (append_assoc front (b ∷ []) rest);
      same = so.same ∙ ap (line_step front b rest) ends;
      clean = parts_more 10 b front so.clean other;
    }

-- a line that ends with this byte is the first one
ended : (bytes front rest : List ℕ) (b : ℕ) → IsBegun bytes front (b ∷ rest) → (eqb b 10 || nat_le most_line (length front)) ≡ true → IsFirst of_line bytes (front ++ b ∷ []) rest
ended bytes front rest b so ends = record {
  order = so.order ∙ sym (append_assoc front (b ∷ []) rest);
  cut = so.same ∙ ap (line_step front b rest) ends;
}

-- a byte that is not found equal is another one
eqb_ne : (b mark : ℕ) → eqb b mark ≡ false → b ≢ mark
eqb_ne b mark is = λ same. false_true (sym is ∙ eq-eqb b mark same)
  where
    false_true : false ≡ true → ⊥
    false_true e = cc

-- more bytes of the line, none of which ends it
begun_all : (bytes front more rest : List ℕ) → IsBegun bytes front (more ++ rest) → parts_at 10 more ≡ None → length front + length more ≤ 40 → IsBegun bytes (front ++ more) rest
begun_all bytes front [] rest so clean short = subst (λ l. IsBegun bytes l rest) (sym (append-nil front)) so
begun_all bytes front (b ∷ bs) rest so clean short =
    let k = none_from b bs (eqb b 10) (parts_at 10 bs) clean in
    let next = begun_more bytes front (bs ++ rest) b so (eqb_ne b 10 k.0) (omega (arith, short)) in
    subst (λ l. IsBegun bytes l rest) (append_assoc front (b ∷ []) bs) (begun_all bytes (front ++ b ∷ []) bs rest next k.1 (omega (arith, short, length-append front (b ∷ []))))

longer : (front : List ℕ) (b : ℕ) → length (front ++ b ∷ []) ≡ length front + 1
longer front b = length-append front (b ∷ [])

-- a line of 41 bytes
pub reads_long : (bytes front rest : List ℕ) (b : ℕ) (left : Option (List ℕ)) → IsBegun bytes front (b ∷ rest) → left ≡ Some rest → 40 ≤ length front → ReadsPiece of_line bytes left (Ok (Some (Err BadLine)))
reads_long bytes front rest b left so told long =
    let full : nat_le most_line (length front) ≡ true = grind (arith, nat_tests) in
    let above : nat_lt most_line (length (front ++ b ∷ [])) ≡ true = rw (longer front b) (grind (arith, nat_tests)) in
    (front ++ b ∷ [], rest, told, ended bytes front rest b so (either (eqb b 10) full), λ depth before. ap (λ is. cond is (Some BadLine) (after depth before)) above)
  where
    either : (is : Bool) → nat_le most_line (length front) ≡ true → (is || nat_le most_line (length front)) ≡ true
    either true full = refl
    either false full = full

    after : ℕ → List Update → Option Why
    after depth before = elim (parts_at 10 (front ++ b ∷ [])) [
      | None ↦ Some Truncated
      | Some parts ↦ elim (numbers_at parts.0) [ None ↦ Some BadLine | Some n ↦ said_fault depth before n ]
    ]

-- a line that the input ends in
pub reads_short : (bytes front : List ℕ) (left : Option (List ℕ)) → IsBegun bytes front [] → left ≡ Some [] → 0 < length front → length front ≤ 40 → ReadsPiece of_line bytes left (Ok (Some (Err Truncated)))
reads_short bytes front left so told some short =
    let fits : nat_lt most_line (length front) ≡ false = grind (arith, nat_tests) in (
      front,
      [],
      told,
      record { order = so.order; cut = so.same ∙ one front some },
      λ depth before.
          ap (λ is. cond is (Some BadLine) (after depth before (parts_at 10 front))) fits ∙ ap (after depth before) so.clean,
    )
  where
    one : (xs : List ℕ) → 0 < length xs → begun xs ≡ xs ∷ []
    one [] l = absurd (omega arith)
    one (x ∷ xs) l = refl

    after : ℕ → List Update → Option (List ℕ × List ℕ) → Option Why
    after depth before None = Some Truncated
    after depth before (Some parts) = elim (numbers_at parts.0) [ None ↦ Some BadLine | Some n ↦ said_fault depth before n ]

-- the end
pub reads_end : (bytes front : List ℕ) (left : Option (List ℕ)) → IsBegun bytes front [] → left ≡ Some [] → front ≡ [] → ReadsPiece of_line bytes left (Ok None)
reads_end bytes front left so told none = (so.order ∙ ap (λ l. l ++ []) none, told)

-- ---- a line with its line feed

-- why a text says no legal update
abbrev after_numbers : ℕ → List Update → Option Numbers → Option Why
after_numbers depth before None = Some BadLine
after_numbers depth before (Some n) = said_fault depth before n

-- the update that a text says
abbrev update_said : Option Numbers → Update
update_said None = record { side = First; item = 0; delta = pos 0 }
update_said (Some n) = said n

abbrev answer_said : Option Numbers → Result Update Why
answer_said None = Err BadLine
answer_said (Some n) = cond (nat_lt 1 n.side) (Err BadSide) (Ok (said n))

after_parts : ℕ → List Update → Option (List ℕ × List ℕ) → Option Why
after_parts depth before None = Some Truncated
after_parts depth before (Some parts) = after_numbers depth before (numbers_at parts.0)

module _ (front : List ℕ) (clean : parts_at 10 front ≡ None) (short : length front < 40) where
  found : parts_at 10 (front ++ 10 ∷ []) ≡ Some (front, [])
  found = parts_found 10 front [] clean

  faulty : (depth : ℕ) (before : List Update) → line_fault depth before (front ++ 10 ∷ []) ≡ after_numbers depth before (numbers_at front)
  unfolding after_parts
  faulty depth before =
      let fits : nat_lt most_line (length (front ++ 10 ∷ [])) ≡ false = rw (longer front 10) (grind (arith, nat_tests)) in
      ap (λ is. cond is (Some BadLine) (after_parts depth before (parts_at 10 (front ++ 10 ∷ [])))) fits ∙ ap (after_parts depth before) found

  updated : line_at (front ++ 10 ∷ []) ≡ update_said (numbers_at front)
  updated = ap (λ parts. update_said (option_and_then (λ (p : List ℕ × List ℕ). numbers_at p.0) parts)) found

  by_side : (n : Numbers) (is : Bool) → nat_lt 1 n.side ≡ is → numbers_at front ≡ Some n → Says of_line (front ++ 10 ∷ []) (cond is (Err BadSide) (Ok (said n)))
  by_side n true e is = λ depth before. faulty depth before ∙ ap (after_numbers depth before) is ∙ ap (λ t. cond t (Some BadSide) (update_fault depth before (said n))) e
  by_side n false e is = (updated ∙ ap update_said is, λ depth before. faulty depth before ∙ ap (after_numbers depth before) is ∙ ap (λ t. cond t (Some BadSide) (update_fault depth before (said n))) e)

  by_numbers : (o : Option Numbers) → numbers_at front ≡ o → Says of_line (front ++ 10 ∷ []) (answer_said o)
  by_numbers None is = λ depth before. faulty depth before ∙ ap (after_numbers depth before) is
  by_numbers (Some n) is = by_side n (nat_lt 1 n.side) refl is

  says_line : Says of_line (front ++ 10 ∷ []) (line_said front)
  says_line = by_numbers (numbers_at front) refl

-- a whole line
pub reads_line : (bytes front rest : List ℕ) (left : Option (List ℕ)) (answer : Result Update Why) → IsBegun bytes front (10 ∷ rest) → left ≡ Some rest → length front < 40 → answer ≡ line_said front → ReadsPiece of_line bytes left (Ok (Some answer))
reads_line bytes front rest left answer so told short is =
    (front ++ 10 ∷ [], rest, told, ended bytes front rest 10 so refl, subst (Says of_line (front ++ 10 ∷ [])) (sym is) (says_line front so.clean short))

-- ---- a whole line that is held

-- the line and its line feed, in front of what is held
pub held_line : (ahead near line behind : List ℕ) (n : ℕ) → near ≡ take n ahead → near ≡ line ++ 10 ∷ behind → take (length line + 1) ahead ≡ line ++ 10 ∷ []
held_line ahead near line behind n is parts =
    let whole : ahead ≡ (line ++ 10 ∷ []) ++ (behind ++ drop n ahead) =
    sym (take-append-drop n ahead) ∙ ap (λ l. l ++ drop n ahead) (sym is ∙ parts) ∙ append_assoc line (10 ∷ behind) (drop n ahead) ∙ sym (append_assoc line (10 ∷ []) (behind ++ drop n ahead)) in
    ap (λ m. take m ahead) (sym (longer line 10)) ∙ ap (take (length (line ++ 10 ∷ []))) whole ∙ take-append_seam (line ++ 10 ∷ []) (behind ++ drop n ahead)

-- a whole line in front, which was consumed
pub reads_held : (old new : Option (List ℕ)) (bytes line : List ℕ) (answer : Result Update Why) → old ≡ Some bytes → Consumes old new (line ++ 10 ∷ []) → parts_at 10 line ≡ None → length line < 40 → answer ≡ line_said line
    → ReadsPiece of_line bytes new (Ok (Some answer))
reads_held old new bytes line answer told took clean short is =
    let came = came_front old new bytes (line ++ 10 ∷ []) told took in
    let order : bytes ≡ line ++ 10 ∷ came.0 = came.2 ∙ append_assoc line (10 ∷ []) came.0 in
    let so = begun_all bytes [] line (10 ∷ came.0) (subst (IsBegun bytes []) order (begun_empty bytes)) clean (omega (arith, short)) in
    reads_line bytes line came.0 new answer so came.1 short is

-- a line in front of more
pub first_line : (line more : List ℕ) (answer : Result Update Why) → parts_at 10 line ≡ None → length line < 40 → answer ≡ line_said line
    → IsFirst of_line ((line ++ 10 ∷ []) ++ more) (line ++ 10 ∷ []) more × Says of_line (line ++ 10 ∷ []) answer
first_line line more answer clean short is =
    let whole = (line ++ 10 ∷ []) ++ more in
    let order : whole ≡ line ++ 10 ∷ more = append_assoc line (10 ∷ []) more in
    let so = begun_all whole [] line (10 ∷ more) (subst (IsBegun whole []) order (begun_empty whole)) clean (omega (arith, short)) in
    (ended whole line more 10 so refl, subst (Says of_line (line ++ 10 ∷ [])) (sym is) (says_line line clean short))
