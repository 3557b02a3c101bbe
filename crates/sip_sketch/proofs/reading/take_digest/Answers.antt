use Rattle.std.proofs.Common.{◌≡◌, ◌-◌, false, length, take, drop, bytes_eq, ap, ap₂, sym, ◌∙◌, arith}
use Rattle.std.proofs.lemmas.List.{length-drop, take_all}
use Rattle.sha2.specs.Sha256.{sha256}
use Rattle.sip_sketch.proofs.Closing.{short_closed, other_closed, not_true}
use Rattle.sip_sketch.proofs.reading.take_digest.Goals.{then-behind-lt-DIGEST-via-then-behind-lt-DIGEST, then-behind-lt-DIGEST-via-else-behind-lt-DIGEST+then-ne}
use Rattle.sip_sketch.proofs.reading.take_digest.Goals as goal

pub returns-then-behind-lt-DIGEST-clause-fault : goal.returns-then-behind-lt-DIGEST-clause-fault
returns-then-behind-lt-DIGEST-clause-fault c = λ values.
    let bytes = c.args.cursor.now.bytes.now in
    let at = c.args.cursor.now.at in
    let whole : take (length bytes - at) (drop at bytes) ≡ drop at bytes =
    take_all (length bytes - at) (drop at bytes) (omega (arith, length-drop at bytes)) in
    elim c.then-behind-lt-DIGEST.branch [
      | then-behind-lt-DIGEST-via-then-behind-lt-DIGEST w ↦
          short_closed bytes values at (omega (arith, w.if-behind-lt-DIGEST.true, ap length whole))
      | then-behind-lt-DIGEST-via-else-behind-lt-DIGEST+then-ne w ↦
          let fails = not_true _ (sym w.ne.ensures ∙ w.if-ne.true) in
          let other : bytes_eq (take 32 (drop at bytes)) (sha256 (take at bytes)) ≡ false =
          sym (ap₂ (λ k d. bytes_eq (take 32 k) d) whole c.digest-digest.ensures) ∙ fails in
          other_closed bytes values at other
    ]
