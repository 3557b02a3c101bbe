-- What several calls do that were made again, of which each that was interrupted moved nothing.
use Rattle.std.proofs.Common.{◌≡◌, ◌⊎◌, ℕ, zero, suc, List, length, take, None, Some, Result, Ok, Err, sym, subst, inl, inr, [], ◌<◌, append-nil, ◌∙◌}
use Rattle.std.specs.Prelude.{MatchResult}
use Rattle.std.specs.declared.option.Option.{Option}
use Rattle.std.specs.IoError.{error_kind}
use Rattle.std.specs.declared.io.Error.{Error}
use Rattle.std.specs.declared.io.ErrorKind.TheVariants.{WriteZero}
use Rattle.std.specs.Io.{ReadsAtMost, WritesAtMost}
use Rattle.std.specs.Io.KnownBytes.{Appends, Consumes, Keeps, ReadConsumes, WriteAppends}
use Rattle.std.proofs.KnownBytes.{Keeps-refl, Keeps-trans}
use Rattle.sip_ports.specs.Retried.{Interruptions, Settles, writing}

Consumes-behind : (a b c : Option (List ℕ)) (bytes : List ℕ) → Keeps a b → Consumes b c bytes → Consumes a c bytes
Consumes-behind None b c bytes p q = tt
Consumes-behind (Some x) None c bytes p q = absurd p
Consumes-behind (Some x) (Some y) c bytes p q = subst (λ z. Consumes (Some z) c bytes) p q

Appends-behind : (a b c : Option (List ℕ)) (bytes : List ℕ) → Keeps a b → Appends b c bytes → Appends a c bytes
Appends-behind None b c bytes p q = tt
Appends-behind (Some x) None c bytes p q = absurd p
Appends-behind (Some x) (Some y) c bytes p q = subst (λ z. Appends (Some z) c bytes) p q

ReadConsumes-behind : (a b c : Option (List ℕ)) (r : Result ℕ Error) (buf : List ℕ) → Keeps a b → ReadConsumes b c r buf → ReadConsumes a c r buf
ReadConsumes-behind a b c (Ok n) buf p q = (Consumes-behind a b c (take n buf) p q.0, q.1)
ReadConsumes-behind a b c (Err e) buf p q = Keeps-trans a b c p q

WriteAppends-behind : (a b c : Option (List ℕ)) (r : Result ℕ Error) (buf : List ℕ) → Keeps a b → WriteAppends b c r buf → WriteAppends a c r buf
WriteAppends-behind a b c (Ok n) buf p q = Appends-behind a b c (take n buf) p q
WriteAppends-behind a b c (Err e) buf p q = Keeps-trans a b c p q

Keeps-of_none : (a b : Option (List ℕ)) → Appends a b [] → Keeps a b
Keeps-of_none None b p = tt
Keeps-of_none (Some x) None p = absurd p
Keeps-of_none (Some x) (Some y) p = p ∙ append-nil x

-- to take nothing is an error, and leaves what was there
pub taken : (a b : Option (List ℕ)) (buf : List ℕ) (answer r : Result ℕ Error) → WriteAppends a b answer buf
    → MatchResult r (λ n. (answer ≡ Ok n) × (0 < n)) (λ e. (answer ≡ Err e) ⊎ ((answer ≡ Ok 0) × (error_kind e ≡ WriteZero)))
    → WriteAppends a b r buf
taken a b buf answer (Ok n) went is = subst (λ x. WriteAppends a b x buf) is.0 went
taken a b buf answer (Err e) went (inl same) = subst (λ x. WriteAppends a b x buf) same went
taken a b buf answer (Err e) went (inr none) = Keeps-of_none a b (subst (λ x. WriteAppends a b x buf) none.0 went)

module _ {A : Type 0} (bytes_of : A → Option (List ℕ)) where
  -- what one read may do, and one write
  abbrev pub reads : A → List ℕ → Result ℕ Error → A → List ℕ → Type 0
  reads before buf r now left = (length left ≡ length buf) × ReadsAtMost r left × ReadConsumes (bytes_of before) (bytes_of now) r left

  abbrev pub writes : A → List ℕ → Result ℕ Error → A → Type 0
  writes before buf r now = WritesAtMost r buf × WriteAppends (bytes_of before) (bytes_of now) r buf

  reads_kept : (n : ℕ) (before : A) (buf : List ℕ) (now : A) (left : List ℕ) → Interruptions reads n before buf now left → Keeps (bytes_of before) (bytes_of now)
  reads_kept zero before buf now left h = subst (λ a. Keeps (bytes_of before) (bytes_of a)) (sym h.0) (Keeps-refl (bytes_of before))
  reads_kept (suc n) before buf now left (mid, bytes, Ok k, chain, gives, stopped) = absurd stopped
  reads_kept (suc n) before buf now left (mid, bytes, Err e, chain, gives, stopped) =
      Keeps-trans (bytes_of before) (bytes_of mid) (bytes_of now) (reads_kept n before buf mid bytes chain) gives.2

  writes_kept : (n : ℕ) (before : A) (buf : List ℕ) (now : A) (left : List ℕ) → Interruptions (writing writes) n before buf now left
      → (left ≡ buf) × Keeps (bytes_of before) (bytes_of now)
  writes_kept zero before buf now left h = (h.1, subst (λ a. Keeps (bytes_of before) (bytes_of a)) (sym h.0) (Keeps-refl (bytes_of before)))
  writes_kept (suc n) before buf now left (mid, bytes, Ok k, chain, gives, stopped) = absurd stopped
  writes_kept (suc n) before buf now left (mid, bytes, Err e, chain, gives, stopped) =
      let first = writes_kept n before buf mid bytes chain in
      (gives.0 ∙ first.0, Keeps-trans (bytes_of before) (bytes_of mid) (bytes_of now) first.1 gives.1.1)

  pub settled_read : (most : ℕ) (before : A) (buf : List ℕ) (now : A) (left : List ℕ) (r : Result ℕ Error)
      → Settles reads most before buf now left r → ReadConsumes (bytes_of before) (bytes_of now) r left
  settled_read most before buf now left r (n, mid, bytes, chain, inl (below, gives, last)) =
      ReadConsumes-behind (bytes_of before) (bytes_of mid) (bytes_of now) r left (reads_kept n before buf mid bytes chain) gives.2
  settled_read most before buf now left (Ok k) (n, mid, bytes, chain, inr (all, same, same_bytes, late)) = absurd late
  settled_read most before buf now left (Err e) (n, mid, bytes, chain, inr (all, same, same_bytes, late)) =
      subst (λ a. Keeps (bytes_of before) (bytes_of a)) (sym same) (reads_kept n before buf mid bytes chain)

  pub settled_write : (most : ℕ) (before : A) (buf : List ℕ) (now : A) (left : List ℕ) (r : Result ℕ Error)
      → Settles (writing writes) most before buf now left r → WriteAppends (bytes_of before) (bytes_of now) r buf
  settled_write most before buf now left r (n, mid, bytes, chain, inl (below, gives, last)) =
      let kept = writes_kept n before buf mid bytes chain in
      WriteAppends-behind (bytes_of before) (bytes_of mid) (bytes_of now) r buf kept.1 (subst (WriteAppends (bytes_of mid) (bytes_of now) r) kept.0 gives.1.1)
  settled_write most before buf now left (Ok k) (n, mid, bytes, chain, inr (all, same, same_bytes, late)) = absurd late
  settled_write most before buf now left (Err e) (n, mid, bytes, chain, inr (all, same, same_bytes, late)) =
      subst (λ a. Keeps (bytes_of before) (bytes_of a)) (sym same) (writes_kept n before buf mid bytes chain).1
