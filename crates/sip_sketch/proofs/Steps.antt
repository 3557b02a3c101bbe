-- Reading one part behind the other.
use Rattle.std.proofs.Common.{◌≡◌, ℕ, zero, suc, ◌+◌, ◌<◌, ◌≤◌, nat_eq, List, [], ◌∷◌, ◌++◌, length, get_or, take, drop, refl, sym, ap, subst, ◌∙◌, append_assoc, arith}
use Rattle.std.specs.Int.{from_bool}
use Rattle.std.proofs.lemmas.List.{at_drop_more}
use Rattle.sip_sketch.specs.Sketches.{byte, element, elements, fixed}
use Rattle.sip_sketch.proofs.Exact.{take_on}
use Rattle.sip_sketch.specs.declared.cursor.Cursor.{Cursor}
use Rattle.sip_sketch.specs.declared.fault.SketchFault.{SketchFault}
use Rattle.sip_sketch.specs.Fields.{Field, Fields, one, reads}
use Rattle.sip_sketch.specs.Reading.{IsFaultOf, Passes, Faults}

pub passes_on : {a b c : Cursor} {f g h : Fields} {xs ys : List ℕ} → Passes a b f g xs
    → Passes b c g h ys → Passes a c f h (xs ++ ys)
passes_on {c = c} {h = h} {xs = xs} {ys = ys} p q = record {
  passes = λ values. p.passes values ∙ q.passes (values ++ xs)
      ∙ ap (λ k. reads c.bytes.now h k c.at) (append_assoc values xs ys);
}

-- a fault behind what was read is that of all
pub fault_behind : {a b : Cursor} {f g : Fields} {xs : List ℕ} {fault : SketchFault}
    → Passes a b f g xs → Faults b g fault → Faults a f fault
fault_behind {xs = xs} {fault = fault} p q = record {
  faults = λ values. subst (λ r. IsFaultOf r fault) (sym (p.passes values)) (q.faults (values ++ xs));
}

-- one field more, whatever its value says of those behind it
pub passes_next : {a b c : Cursor} {f g : Fields} {xs : List ℕ} (field : Field) (h : Fields) (x : ℕ)
    → g ≡ one field (λ _. h) → Passes a b f g xs
    → ((k : ℕ → Fields) → Passes b c (one field k) (k x) (x ∷ [])) → Passes a c f h (xs ++ x ∷ [])
passes_next {a = a} {b = b} {f = f} {xs = xs} field h x e p q =
    passes_on (subst (λ g. Passes a b f g xs) e p) (q (λ _. h))

pub fault_next : {a b : Cursor} {f g : Fields} {xs : List ℕ} {fault : SketchFault} (field : Field) (h : Fields)
    → g ≡ one field (λ _. h) → Passes a b f g xs → ((k : ℕ → Fields) → Faults b (one field k) fault)
    → Faults a f fault
fault_next {a = a} {b = b} {f = f} {xs = xs} field h e p q =
    fault_behind (subst (λ g. Passes a b f g xs) e p) (q (λ _. h))

-- so many bytes of a head, and the next one
pub fixed_at : (bytes : List ℕ) (i x : ℕ) (behind : Fields) → i < length bytes → x ≡ get_or bytes i 0
    → fixed (drop i bytes) behind ≡ one (byte x x) (λ _. fixed (drop (i + 1) bytes) behind)
fixed_at bytes i x behind lt is = at_drop_more (λ l. fixed l behind) bytes i 0 lt
    ∙ ap (λ k. one (byte k k) (λ _. fixed (drop (i + 1) bytes) behind)) (sym is)

pub take_next : (bytes : List ℕ) (i x : ℕ) → i < length bytes → x ≡ get_or bytes i 0
    → take i bytes ++ x ∷ [] ≡ take (i + 1) bytes
take_next bytes i x lt is = sym (take_on i 1 bytes ∙ ap (λ k. take i bytes ++ k)
    (at_drop_more (take 1) bytes i 0 lt ∙ ap (λ k. k ∷ []) (sym is)))

-- so many elements, and those behind the first
pub elements_at : (n m : ℕ) (behind : Fields) → n ≡ suc m
    → elements n behind ≡ one element (λ _. elements m behind)
elements_at n m behind e = ap (λ k. elements k behind) e

pub bit_back : (n : ℕ) → n ≤ 1 → from_bool (nat_eq n 1) ≡ n
bit_back zero few = refl
bit_back (suc zero) few = refl
bit_back (suc (suc n)) few = absurd (omega (arith, few))
