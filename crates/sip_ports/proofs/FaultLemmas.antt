-- How the counts of a port pass through several calls, for callers of ports.
use Rattle.std.proofs.Common.{◌≡◌, ℕ, ◌≤◌, Result, Ok, arith, le_refl}
use Rattle.std.specs.Prelude.{IsErrOf}
use Rattle.sip_ports.specs.declared.port.PortStop.{PortStop}
use Rattle.sip_ports.specs.declared.port.PortStop.TheVariants.{Failed, OutOfMemory}
use Rattle.sip_ports.specs.Ports.{Rose, HasCause, Lasts}

-- a count that rose since some moment rose since any earlier one
pub Rose-since : (earlier before now : ℕ) → earlier ≤ before → Rose before now → Rose earlier now
Rose-since earlier before now later rose = omega arith

-- a count that rose by some moment rose by any later one
pub Rose-until : (before now later : ℕ) → Rose before now → now ≤ later → Rose before later
Rose-until before now later rose more = omega arith

-- a count that rose is not 0
pub Rose-positive : (before now : ℕ) → Rose before now → now ≡ 0 → ⊥
Rose-positive before now rose none = absurd (omega arith)

module _ {P : Type 0} (faults wants : P → ℕ) (is_sure : P → Type 0) where
  pub Lasts-refl : (port : P) → Lasts faults wants is_sure port port
  Lasts-refl port = record { later = le_refl (faults port); wants_later = le_refl (wants port); sure = λ sure. sure }

  pub Lasts-trans : (a b c : P) → Lasts faults wants is_sure a b → Lasts faults wants is_sure b c → Lasts faults wants is_sure a c
  Lasts-trans a b c p q = record {
    later = omega (arith, p.later, q.later);
    wants_later = omega (arith, p.wants_later, q.wants_later);
    sure = λ sure. q.sure (p.sure sure);
  }

  -- a call that has its cause leaves a port that lasts
  pub Lasts-of_HasCause : {T : Type 0} (a b : P) (result : Result T PortStop) → HasCause faults wants is_sure a b result → Lasts faults wants is_sure a b
  Lasts-of_HasCause a b result p = record { later = p.later; wants_later = p.wants_later; sure = p.sure }

  -- with no call there is no fault
  pub HasCause-refl : {T : Type 0} (port : P) (x : T) → HasCause faults wants is_sure port port (Ok x)
  HasCause-refl port x = record {
    later = le_refl (faults port);
    wants_later = le_refl (wants port);
    failed = λ failed. cc;
    wanted = λ wanted. cc;
    sure = λ sure. sure;
  }

  -- calls before it leave a call's cause
  pub HasCause-since : {T : Type 0} (a b c : P) (result : Result T PortStop) → Lasts faults wants is_sure a b → HasCause faults wants is_sure b c result
      → HasCause faults wants is_sure a c result
  HasCause-since a b c result p q = record {
    later = omega (arith, p.later, q.later);
    wants_later = omega (arith, p.wants_later, q.wants_later);
    failed = λ failed. Rose-since (faults a) (faults b) (faults c) p.later (q.failed failed);
    wanted = λ wanted. Rose-since (wants a) (wants b) (wants c) p.wants_later (q.wanted wanted);
    sure = λ sure. q.sure (p.sure sure);
  }

  -- calls after it leave a call's cause
  pub HasCause-until : {T : Type 0} (a b c : P) (result : Result T PortStop) → HasCause faults wants is_sure a b result → Lasts faults wants is_sure b c
      → HasCause faults wants is_sure a c result
  HasCause-until a b c result p q = record {
    later = omega (arith, p.later, q.later);
    wants_later = omega (arith, p.wants_later, q.wants_later);
    failed = λ failed. Rose-until (faults a) (faults b) (faults c) (p.failed failed) q.later;
    wanted = λ wanted. Rose-until (wants a) (wants b) (wants c) (p.wanted wanted) q.wants_later;
    sure = λ sure. q.sure (p.sure sure);
  }

  -- a port that never fails has not failed, by the traits' law `sure_counts`
  pub HasCause-sure : {T : Type 0} → ((port : P) → is_sure port → faults port ≡ 0)
      → (a b : P) (result : Result T PortStop) → is_sure a → HasCause faults wants is_sure a b result → IsErrOf result Failed → ⊥
  HasCause-sure counts a b result sure p failed = Rose-positive (faults a) (faults b) (p.failed failed) (counts b (p.sure sure))

  -- a port that takes no memory has no want of it
  pub HasCause-no_wants : {T : Type 0} → ((port : P) → wants port ≡ 0)
      → (a b : P) (result : Result T PortStop) → HasCause faults wants is_sure a b result → IsErrOf result OutOfMemory → ⊥
  HasCause-no_wants none a b result p wanted = Rose-positive (wants a) (wants b) (p.wanted wanted) (none b)
