-- A head that stops, by what stopped it.
use Rattle.std.proofs.Common.{◌≡◌, ℕ, ◌+◌, ◌*◌, ◌<◌, Option, Some, Err, List, [], ◌∷◌, ◌++◌, length, refl, sym, ap, subst, ◌∙◌, arith}
use Rattle.std.proofs.KnownBytes.{Consumes-nil, Consumes-trans}
use Rattle.std.specs.Prelude.{IsTrue}
use Rattle.std.specs.Io.KnownBytes.{Consumes}
use Rattle.sip_wire.specs.Transcript.{magic}
use Rattle.sip_wire.specs.Versions.{number_of}
use Rattle.sip_wire.specs.declared.version.Version.{Version}
use Rattle.sip_verifier.specs.Exchanges.{TakesAtMost}
use Rattle.sip_transcript.specs.declared.head.Head.{Head}
use Rattle.sip_transcript.specs.declared.fault.HeadFault.{HeadFault}
use Rattle.sip_transcript.specs.declared.fault.HeadFault.TheVariants as faults
use Rattle.sip_transcript.specs.Fields.{ask_fields, byte_field, element_field, head_fault, is_count, is_depth, is_version, query_field, text_field, times}
use Rattle.sip_transcript.specs.Heads.{ReadsHead, longest_field}
use Rattle.sip_transcript.specs.Parts.{FailsIn, TakesBlock}
use Rattle.sip_transcript.proofs.Growing.{IsBegun, ask-fails, begun-fails, block-fails, no-count, no-depth, no-magic, no-version}
use Rattle.sip_transcript.proofs.Taking.{takes-most}
use Rattle.sip_transcript.proofs.There.{IsNotThere}

-- a challenge is not there
pub block-stops : (k count from : ℕ) (o m n : Option (List ℕ)) (before mid : List ℕ) (f : HeadFault) → TakesBlock k o m before mid → k < count → IsNotThere element_field (from + 8 * k) m n f
    → FailsIn (times count (element_field ∷ [])) from o n f
block-stops k count from o m n before mid (faults.Bad at) took lt not =
    subst (λ (x : ℕ). FailsIn (times count (element_field ∷ [])) from o n (faults.Bad x)) (sym not.0) (block-fails k count from o m n before mid took lt not.1 not.2)
block-stops k count from o m n before mid faults.ReadFault took lt not = tt
block-stops k count from o m n before mid faults.OutOfMemory took lt not = tt

-- a query is not there
pub ask-stops : (version : Version) (depth from : ℕ) (o n : Option (List ℕ)) (f : HeadFault) → IsNotThere (query_field version depth) from o n f → FailsIn (ask_fields version depth) from o n f
ask-stops version depth from o n (faults.Bad at) not =
    subst (λ (x : ℕ). FailsIn (ask_fields version depth) from o n (faults.Bad x)) (sym not.0) (ask-fails version depth from o n not.1 not.2)
ask-stops version depth from o n faults.ReadFault not = tt
ask-stops version depth from o n faults.OutOfMemory not = tt

-- the field behind what was taken is not there
by_place : (o a n : Option (List ℕ)) (got : List ℕ) (at offset : ℕ) → Consumes o a got → length got ≡ at → TakesAtMost longest_field a n → offset ≡ at → ((bytes : List ℕ) → o ≡ Some bytes → head_fault bytes ≡ Some at)
    → ReadsHead o n (Err (faults.Bad offset))
by_place o a n got at offset taken long few same none = (
  takes-most o a n got longest_field (offset + longest_field) taken few (omega arith),
  λ bytes told. none bytes told ∙ ap (λ (x : ℕ). Some x) (sym same),
)

-- no magic
pub magic-stops : (o n : Option (List ℕ)) (f : HeadFault) → IsNotThere (text_field magic) 0 o n f → ReadsHead o n (Err f)
magic-stops o n (faults.Bad at) not = by_place o o n [] 0 at (Consumes-nil o) refl not.1 not.0 (no-magic o not.2)
magic-stops o n faults.ReadFault not = tt
magic-stops o n faults.OutOfMemory not = tt

-- no version
pub version-stops : (o a n : Option (List ℕ)) (f : HeadFault) → Consumes o a magic → IsNotThere (byte_field is_version) 4 a n f → ReadsHead o n (Err f)
version-stops o a n (faults.Bad at) p not = by_place o a n magic 4 at p refl not.1 not.0 (no-version o a p not.2)
version-stops o a n faults.ReadFault p not = tt
version-stops o a n faults.OutOfMemory p not = tt

-- no depth
pub depth-stops : (version : Version) (o a b n : Option (List ℕ)) (f : HeadFault) → Consumes o a magic → Consumes a b (number_of version ∷ []) → IsNotThere (byte_field (is_depth version)) 5 b n f → ReadsHead o n (Err f)
depth-stops version o a b n (faults.Bad at) p q not =
    by_place o b n (magic ++ number_of version ∷ []) 5 at (Consumes-trans o a b magic (number_of version ∷ []) p q) refl not.1 not.0 (no-depth version o a b p q not.2)
depth-stops version o a b n faults.ReadFault p q not = tt
depth-stops version o a b n faults.OutOfMemory p q not = tt

-- no number of queries
pub count-stops : (version : Version) (depth : ℕ) (o a b d n : Option (List ℕ)) (f : HeadFault) → Consumes o a magic → Consumes a b (number_of version ∷ []) → Consumes b d (depth ∷ []) → IsTrue (is_depth version depth)
    → IsNotThere (byte_field is_count) 6 d n f → ReadsHead o n (Err f)
count-stops version depth o a b d n (faults.Bad at) p q r is not =
    let opened = Consumes-trans o a b magic (number_of version ∷ []) p q in
    by_place o d n ((magic ++ number_of version ∷ []) ++ depth ∷ []) 6 at (Consumes-trans o b d (magic ++ number_of version ∷ []) (depth ∷ []) opened r) refl not.1 not.0 (no-count version depth o a b d p q r is not.2)
count-stops version depth o a b d n faults.ReadFault p q r is not = tt
count-stops version depth o a b d n faults.OutOfMemory p q r is not = tt

-- a query or a challenge is not there
pub begun-stops : (version : Version) (depth count k : ℕ) (o m n : Option (List ℕ)) (head : Head) (f : HeadFault) → IsTrue (is_depth version depth) → IsTrue (is_count count) → IsBegun version depth count k o m head → k < count
    → FailsIn (ask_fields head.version head.depth) head.length m n f → ReadsHead o n (Err f)
begun-stops version depth count k o m n head (faults.Bad at) deep some begun lt fails = begun-fails version depth count k at o m n head deep some begun lt fails
begun-stops version depth count k o m n head faults.ReadFault deep some begun lt fails = tt
begun-stops version depth count k o m n head faults.OutOfMemory deep some begun lt fails = tt
