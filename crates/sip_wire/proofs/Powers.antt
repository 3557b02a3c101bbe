-- Powers: as many coefficients as their degree asks for, written and read as rows of one element.
use Rattle.std.proofs.Common.{◌≡◌, ℕ, suc, ◌+◌, ◌*◌, ◌-◌, ◌≤◌, Bool, true, false, ◌&&◌, nat_le, ◌==◌, Ok, Err, List, [], ◌∷◌, length, refl, sym, ap, ◌∙◌, arith}
use Rattle.std.specs.List.{flat_map}
use Rattle.std.proofs.lemmas.Bool.{and_parts, and_from, leb-true, le-leb, eqb-true, eq-eqb}
use Rattle.arrayvec.specs.ArrayVec.{ArrayVec}
use Rattle.sip_wire.specs.declared.kind.Kind.TheVariants as kinds
use Rattle.sip_wire.specs.declared.message.Message.TheVariants as messages
use Rattle.sip_wire.specs.declared.message.WireFault.TheVariants as faults
use Rattle.sip_wire.specs.declared.version.Version.{Version}
use Rattle.sip_wire.specs.Table.{Field, element, most_degree, power_shape, repeat, shape, size}
use Rattle.sip_wire.specs.Spelling.{ReadsBody, all_hold, body_fault, body_of, coefficient_numbers, fits, has_room, in_bytes, mark_fits, numbers_in, spelled}
use Rattle.sip_wire.specs.Rows.{bytes, holds, rooms}
use Rattle.sip_wire.proofs.Counting.{size_repeat}
use Rattle.sip_wire.proofs.Shapes.{fit_parts, no_fault_in}

-- the fields of so many coefficients
abbrev elements : ℕ → List Field
elements n = repeat n (element ∷ [])

-- ---- written

-- one more coefficient than the degree
as_many : (n : ℕ) → 1 ≤ n → suc (n - 1) ≡ n
as_many n some = omega (arith, some)

-- coefficients that have room are there
some_room : (cs : List ℕ) → has_room (elements (suc (length cs - 1))) (flat_map coefficient_numbers cs) ≡ true → 1 ≤ length cs
unfolding has_room
some_room [] room = absurd cc
some_room (c ∷ cs) room = omega arith

-- the rows of a power that fits
pub record PowerRows (version : Version) (v : ArrayVec ℕ) : Type 0 where
  pub some : 1 ≤ length v.items
  pub room : rooms coefficient_numbers (element ∷ []) v.items ≡ true
  pub body : body_of version (messages.Power v) ≡ bytes coefficient_numbers (element ∷ []) v.items

pub power_rows : (version : Version) (v : ArrayVec ℕ) → fits version (messages.Power v) ≡ true → PowerRows version v
unfolding fits in_bytes
power_rows version v fit =
    let parts = fit_parts (shape version (kinds.Power (length v.items - 1))) 0 (flat_map coefficient_numbers v.items) fit in
    let some = some_room v.items parts.room in
    let same = as_many (length v.items) some in
    record {
      some = some;
      room = ap (λ (n : ℕ). has_room (elements n) (flat_map coefficient_numbers v.items)) (sym same) ∙ parts.room;
      body = ap (λ (n : ℕ). spelled (elements n) (flat_map coefficient_numbers v.items)) same;
    }

-- a power fits where there are coefficients, and each is an element
pub power_fits : (version : Version) (v : ArrayVec ℕ) → length v.items ≤ suc most_degree → 1 ≤ length v.items
    → (rooms coefficient_numbers (element ∷ []) v.items && holds coefficient_numbers (element ∷ []) v.items) ≡ fits version (messages.Power v)
unfolding fits
power_fits version v most some =
    let same = as_many (length v.items) some in
    let ns = flat_map coefficient_numbers v.items in
    let low : nat_le (length v.items - 1) most_degree ≡ true = le-leb (length v.items - 1) most_degree (omega (arith, most)) in
    by_tests (has_room (elements (suc (length v.items - 1))) ns) (all_hold (elements (suc (length v.items - 1))) ns) _ _ _
    (ap (λ (n : ℕ). has_room (elements n) ns) (sym same)) (ap (λ (n : ℕ). all_hold (elements n) ns) (sym same)) low
  where
    by_tests : (a b c d e : Bool) → c ≡ a → d ≡ b → e ≡ true → (c && d) ≡ (((e && true) && a && true) && b)
    by_tests true b c d e ea eb ec = rw (ea, eb, ec) refl
    by_tests false b c d e ea eb ec = rw (ea, ec) refl

-- a power without coefficients does not
pub power_fits_not : (version : Version) (v : ArrayVec ℕ) → v.items ≡ [] → false ≡ fits version (messages.Power v)
unfolding fits has_room
power_fits_not version v none = rw none refl

-- ---- read

-- the length of a body of coefficients says that their degree is not too high, and how many there
-- are
pub power_long : (degree n count : ℕ) → count ≡ suc degree → (power_shape degree).has_length n ≡ true → (count ≤ suc most_degree) × (n ≡ size (elements count))
power_long degree n count is has =
    let both = and_parts (nat_le degree most_degree) (n == 8 * (degree + 1)) has in
    (omega (arith, is, leb-true degree most_degree both.0), omega (arith, is, eqb-true n (8 * (degree + 1)) both.1, size_repeat count (element ∷ [])))

-- the mark passes
power_marks : (degree : ℕ) (body : List ℕ) → (power_shape degree).has_length (length body) ≡ true → mark_fits (power_shape degree) 0 (length body) ≡ true
power_marks degree body has =
    let both = and_parts (nat_le degree most_degree) (length body == 8 * (degree + 1)) has in
    let total : 0 + size (elements (suc degree)) ≡ length body = omega (arith, eqb-true (length body) (8 * (degree + 1)) both.1, size_repeat (suc degree) (element ∷ [])) in
    and_from _ _ (and_from _ _ both.0 refl) (eq-eqb _ _ total)

-- as many elements as there are to be are the power of a body
pub power_read : (version : Version) (degree count : ℕ) (body : List ℕ) (v : ArrayVec ℕ) → count ≡ suc degree → (power_shape degree).has_length (length body) ≡ true → length v.items ≡ count
    → flat_map coefficient_numbers v.items ≡ numbers_in (elements count) body → all_hold (elements count) (numbers_in (elements count) body) ≡ true
    → ReadsBody version (kinds.Power degree) body (Ok (messages.Power v))
unfolding in_bytes
power_read version degree count body v is has many said held =
    let same : length v.items - 1 ≡ degree = omega (arith, many, is) in
    let said_is : flat_map coefficient_numbers v.items ≡ numbers_in (elements (suc degree)) body = said ∙ ap (λ (n : ℕ). numbers_in (elements n) body) is in
    let hold : all_hold (elements (suc degree)) (numbers_in (elements (suc degree)) body) ≡ true = ap (λ (n : ℕ). all_hold (elements n) (numbers_in (elements n) body)) (sym is) ∙ held in
    (ap kinds.Power same, record { its_mark = refl; its_numbers = said_is; no_fault = no_fault_in (power_shape degree) body (power_marks degree body has) hold }, tt)

-- and where one of them is none, the body has a bad number
pub power_bad : (version : Version) (degree count : ℕ) (body : List ℕ) → count ≡ suc degree → (power_shape degree).has_length (length body) ≡ true
    → all_hold (elements count) (numbers_in (elements count) body) ≡ false → ReadsBody version (kinds.Power degree) body (Err faults.BadNumber)
unfolding body_fault in_bytes
power_bad version degree count body is has barred =
    let hold : all_hold (elements (suc degree)) (numbers_in (elements (suc degree)) body) ≡ false = ap (λ (n : ℕ). all_hold (elements n) (numbers_in (elements n) body)) (sym is) ∙ barred in
    rw (power_marks degree body has, hold) refl
