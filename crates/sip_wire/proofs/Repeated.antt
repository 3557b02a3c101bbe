-- A loop over rows: what was read so far, and what stands in the rest.
use Rattle.std.proofs.Common.{◌≡◌, ℕ, suc, ◌+◌, ◌-◌, ◌<◌, ◌≤◌, Bool, true, false, ◌&&◌, List, [], ◌∷◌, ◌++◌, length, drop, refl, sym, ap, ◌∙◌, append_assoc, arith, length-drop, length-append}
use Rattle.std.proofs.lemmas.List.{append-nil, flat_map_more}
use Rattle.std.specs.Prelude.{IfNone, Option, Some, None}
use Rattle.std.specs.List.{flat_map}
use Rattle.sip_wire.specs.Table.{Field, size, repeat}
use Rattle.sip_wire.specs.Spelling.{numbers_in, all_hold}
use Rattle.sip_wire.proofs.Fields.{size-append, numbers_in-append, all_hold-append}

-- whether these rows hold what they may
abbrev pub holds_in : List Field → List ℕ → Bool
holds_in fs bytes = all_hold fs (numbers_in fs bytes)

-- i rows were read: their numbers and those of the rest are those of all, and all hold theirs where
-- the rest does
pub record SoFar {T : Type 0} (said : T → List ℕ) (layout : List Field) (count : ℕ) (bytes : List ℕ) (i : ℕ) (items : List T) (rest : List ℕ) : Type 0 where
  pub count_is : length items ≡ i
  pub rest_len : length rest ≡ size (repeat (count - i) layout)
  pub numbers : flat_map said items ++ numbers_in (repeat (count - i) layout) rest ≡ numbers_in (repeat count layout) bytes
  pub hold : holds_in (repeat count layout) bytes ≡ holds_in (repeat (count - i) layout) rest

-- the row at the front of what is left
one_less : (count i : ℕ) (layout : List Field) → i < count → repeat (count - i) layout ≡ layout ++ repeat (count - (i + 1)) layout
one_less count i layout lt = let k : count - i ≡ suc (count - (i + 1)) = omega arith in rw k refl

pub has_row : {T : Type 0} (said : T → List ℕ) (layout : List Field) (count : ℕ) (bytes : List ℕ) (i : ℕ) (items : List T) (rest : List ℕ) → SoFar said layout count bytes i items rest → i < count → size layout ≤ length rest
has_row said layout count bytes i items rest so lt =
    let e : length rest ≡ size layout + size (repeat (count - (i + 1)) layout) = so.rest_len ∙ ap size (one_less count i layout lt) ∙ size-append layout (repeat (count - (i + 1)) layout) in
    omega arith

-- the first row and the others may each hold their numbers
split_hold : (layout more : List Field) (rest : List ℕ) → holds_in (layout ++ more) rest ≡ (holds_in layout rest && holds_in more (drop (size layout) rest))
split_hold layout more rest = ap (λ (ns : List ℕ). all_hold (layout ++ more) ns) (numbers_in-append layout more rest) ∙ all_hold-append layout more rest (numbers_in more (drop (size layout) rest))

-- one more row was read
pub goes_on : {T : Type 0} (said : T → List ℕ) (layout : List Field) (count : ℕ) (bytes : List ℕ) (i : ℕ) (items : List T) (rest : List ℕ) (x : T) → SoFar said layout count bytes i items rest → i < count
    → said x ≡ numbers_in layout rest → holds_in layout rest ≡ true → SoFar said layout count bytes (i + 1) (items ++ x ∷ []) (drop (size layout) rest)
goes_on said layout count bytes i items rest x so lt said_is held =
    let more = repeat (count - (i + 1)) layout in
    let e = one_less count i layout lt in
    record {
      count_is = omega (arith, length-append items (x ∷ []), so.count_is);
      rest_len = omega (arith, length-drop (size layout) rest, so.rest_len ∙ ap size e ∙ size-append layout more);
      numbers =
          ap (λ (ns : List ℕ). ns ++ numbers_in more (drop (size layout) rest)) (sym (flat_map_more said [] items x))
          ∙ append_assoc (flat_map said items) (said x) (numbers_in more (drop (size layout) rest))
          ∙ ap (λ (ns : List ℕ). flat_map said items ++ (ns ++ numbers_in more (drop (size layout) rest))) said_is
          ∙ ap (λ (ns : List ℕ). flat_map said items ++ ns) (sym (numbers_in-append layout more rest))
          ∙ ap (λ (fs : List Field). flat_map said items ++ numbers_in fs rest) (sym e)
          ∙ so.numbers;
      hold = so.hold ∙ ap (λ (fs : List Field). holds_in fs rest) e ∙ split_hold layout more rest ∙ ap (λ (b : Bool). b && holds_in more (drop (size layout) rest)) held;
    }

-- the same for the names of a call
pub goes_on_to : {T : Type 0} (said : T → List ℕ) (layout : List Field) (count : ℕ) (bytes : List ℕ) (i : ℕ) (items : List T) (rest : List ℕ) (x : T) (after : List ℕ) (longer : List T) → SoFar said layout count bytes i items rest → i < count
    → said x ≡ numbers_in layout rest → after ≡ drop (size layout) rest → holds_in layout rest ≡ true → longer ≡ items ++ x ∷ [] → SoFar said layout count bytes (i + 1) longer after
goes_on_to said layout count bytes i items rest x after longer so lt said_is after_is held longer_is =
    rw (after_is, longer_is) (goes_on said layout count bytes i items rest x so lt said_is held)

-- what holds in any case holds where there is none
pub none_from : {A : Type 0} {P : Type 0} (r : Option A) → P → IfNone r P
none_from None p = p
none_from (Some x) p = tt

-- a row that doesn't hold what it may refuses all
pub stops : {T : Type 0} (said : T → List ℕ) (layout : List Field) (count : ℕ) (bytes : List ℕ) (i : ℕ) (items : List T) (rest : List ℕ) → SoFar said layout count bytes i items rest → i < count
    → holds_in layout rest ≡ false → holds_in (repeat count layout) bytes ≡ false
stops said layout count bytes i items rest so lt held =
    let more = repeat (count - (i + 1)) layout in
    so.hold ∙ ap (λ (fs : List Field). holds_in fs rest) (one_less count i layout lt) ∙ split_hold layout more rest ∙ ap (λ (b : Bool). b && holds_in more (drop (size layout) rest)) held

-- at the end the numbers are those of the rows
pub all_said : {T : Type 0} (said : T → List ℕ) (layout : List Field) (count : ℕ) (bytes : List ℕ) (i : ℕ) (items : List T) (rest : List ℕ) → SoFar said layout count bytes i items rest → count ≤ i
    → flat_map said items ≡ numbers_in (repeat count layout) bytes
unfolding numbers_in
all_said said layout count bytes i items rest so le =
    let none : count - i ≡ 0 = omega arith in
    let e : numbers_in (repeat (count - i) layout) rest ≡ [] = rw none refl in
    sym (append-nil (flat_map said items)) ∙ ap (λ (ns : List ℕ). flat_map said items ++ ns) (sym e) ∙ so.numbers

-- and each field may hold its number
pub all_held : {T : Type 0} (said : T → List ℕ) (layout : List Field) (count : ℕ) (bytes : List ℕ) (i : ℕ) (items : List T) (rest : List ℕ) → SoFar said layout count bytes i items rest → count ≤ i
    → holds_in (repeat count layout) bytes ≡ true
unfolding numbers_in all_hold
all_held said layout count bytes i items rest so le =
    let none : count - i ≡ 0 = omega arith in
    let e : holds_in (repeat (count - i) layout) rest ≡ true = rw none refl in
    so.hold ∙ e
