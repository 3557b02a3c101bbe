-- While an honest reply comes it has no fault but that more is to come.
use Rattle.std.proofs.Common.{◌≡◌, ℕ, ◌<◌, ◌≤◌, Result, Ok, Err, List, [], ◌∷◌, ◌++◌, length, All, ℤ, refl, sym, ap, ◌∙◌, subst, arith, append-nil, append_assoc, length-append}
use Rattle.sip_wire.specs.declared.message.Reason.{Reason}
use Rattle.sip_wire.specs.declared.version.Version.{Version}
use Rattle.sip_replies.specs.Replies.{read_reply, run, IsUnfinished}
use Rattle.sip_replies.proofs.Fronts.{reply_front}
use Rattle.sip_replies.proofs.Running.{run-fault}
use Rattle.sip_replies.proofs.Turns.{closed_next}
use Rattle.sip_sums.specs.Honest.{honest_reply, honest_replies, CanBeSummed}
use Rattle.sip_sums.specs.Protocol.{SumState, sum_asked, sum_protocol, sum_rules}
use Rattle.sip_sums.proofs.HonestSums.{all_front, stated, replies_count, replies_more}

module _ (version : Version) (p depth : ℕ) (first second : List ℤ) (can : CanBeSummed p depth first second) (revealed : List ℕ) (r : ℕ) (more : List ℕ) (short : length (revealed ++ r ∷ more) ≤ depth) (rs : All (λ x. x < p) (revealed ++ r ∷ more)) where
  abbrev block : List ℕ
  block = revealed ++ r ∷ more

  abbrev replies : List (List ℕ)
  replies = honest_replies version p depth first second revealed

  abbrev next : List ℕ
  next = honest_reply version p depth first second revealed

  abbrev longer : List ℕ
  longer = revealed ++ r ∷ []

  same : longer ++ more ≡ block
  same = append_assoc revealed (r ∷ []) more

  passed : (s : SumState) × (run (sum_rules version p) block replies ≡ Ok s)
  passed =
      stated version p depth first second can revealed (r ∷ more) (omega (arith, length-append revealed (r ∷ more), short)) (all_front (λ x. x < p) revealed (r ∷ more) rs)

  -- the next reply is whole behind those before it
  all_passed : (s : SumState) × (run (sum_rules version p) block (replies ++ next ∷ []) ≡ Ok s)
  all_passed =
      let a = stated version p depth first second can longer more (omega (arith, length-append longer more, ap length same, short))
      (all_front (λ x. x < p) longer more (subst (All (λ x. x < p)) (sym same) rs)) in (
        a.0,
        ap (run (sum_rules version p) block) (sym (replies_more version p depth first second can revealed r))
            ∙ ap (λ l. run (sum_rules version p) l (honest_replies version p depth first second longer)) (sym same) ∙ a.1,
      )

  next_whole : (u : SumState) × (read_reply (sum_rules version p) passed.0 next ≡ Ok u)
  next_whole = by_read (read_reply (sum_rules version p) passed.0 next) refl
    where
      by_read : (q : Result SumState Reason) → read_reply (sum_rules version p) passed.0 next ≡ q → (u : SumState) × (read_reply (sum_rules version p) passed.0 next ≡ Ok u)
      by_read (Ok u) is = (u, is)
      by_read (Err reason) is =
          absurd (let fault = run-fault (sum_rules version p) block replies passed.0 passed.1 next reason is in
          let both = sym fault ∙ all_passed.1 in cc)

  few : length replies < length block
  few = omega (arith, replies_count version p depth first second can revealed, length-append revealed (r ∷ more))

  -- so a front of the next reply lacks no more than its end
  pub front_unfinished : (front rest : List ℕ) → next ≡ front ++ rest → IsUnfinished (sum_rules version p) block (replies ++ front ∷ [])
  front_unfinished front [] is =
      let its : next ≡ front = is ∙ append-nil front in
      let whole = ap (λ (b : List ℕ). run (sum_rules version p) block (replies ++ b ∷ [])) (sym its) ∙ all_passed.1 in
      record {
        few = omega (arith, few, length-append replies (front ∷ []));
        passes = λ fault e. absurd (let both = sym e ∙ whole in cc);
      }
  front_unfinished front (byte ∷ others) is =
      let closed = reply_front (sum_rules version p) passed.0 front byte others next_whole.0
      (ap (read_reply (sum_rules version p) passed.0) (sym is) ∙ next_whole.1) in
      closed_next (sum_protocol (sum_asked version p 0)) block replies passed.0 passed.1 few front closed
