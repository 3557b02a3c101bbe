-- The test of two lists of entries decides whether they are the same.
use Rattle.std.proofs.Common.{◌≡◌, ℕ, true, eqb, List, ℤ, ap, ◌∙◌}
use Rattle.std.specs.Ordering.{int_eq}
use Rattle.std.specs.Cmp.{signed_Decides}
use Rattle.std.specs.Cmp.Lexicographic.{pointwise, pointwise_decides}
use Rattle.std.proofs.lemmas.Bool.{and_parts, and_from, eqb-true, eq-eqb}
use Rattle.sip_vector.specs.declared.update.Entry.{Entry}
use Rattle.sip_replies.specs.SameEntries.{is_same_entry}

abbrev entry : ℕ → ℤ → Entry
entry i v = record { index = i; value = v }

entry_decides : (a b : Entry) → (is_same_entry a b ≡ true → a ≡ b) × (a ≡ b → is_same_entry a b ≡ true)
entry_decides a b = (
  (λ h.
      let both = and_parts (eqb a.index b.index) (int_eq a.value b.value) h in
      let one : a.index ≡ b.index = eqb-true a.index b.index both.0 in
      let two : a.value ≡ b.value = (signed_Decides a.value b.value).0 both.1 in
      ap (λ (i : ℕ). entry i a.value) one ∙ ap (λ (v : ℤ). entry b.index v) two),
  (λ e. and_from (eqb a.index b.index) (int_eq a.value b.value) (eq-eqb a.index b.index (ap (λ (x : Entry). x.index) e)) ((signed_Decides a.value b.value).1 (ap (λ (x : Entry). x.value) e))),
)

pub same_entries : (xs ys : List Entry) → (pointwise is_same_entry xs ys ≡ true → xs ≡ ys) × (xs ≡ ys → pointwise is_same_entry xs ys ≡ true)
same_entries = pointwise_decides entry_decides
