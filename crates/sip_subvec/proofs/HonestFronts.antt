-- While an honest reply comes it has no fault but that more is to come.
use Rattle.std.proofs.Common.{◌≡◌, ℕ, ◌<◌, Result, Ok, Err, List, [], ◌∷◌, ◌++◌, length, ℤ, refl, sym, ap, ◌∙◌, arith, append-nil, length-append}
use Rattle.sip_wire.specs.declared.message.Reason.{Reason}
use Rattle.sip_wire.specs.declared.version.Version.{Version}
use Rattle.sip_replies.specs.Replies.{read_reply, run, IsUnfinished}
use Rattle.sip_replies.proofs.Fronts.{reply_front}
use Rattle.sip_replies.proofs.Running.{run-fault}
use Rattle.sip_replies.proofs.Turns.{closed_next}
use Rattle.sip_subvec.specs.AcceptsSub.{Stated}
use Rattle.sip_subvec.specs.Honest.{honest_reply, honest_replies, CanBeShown}
use Rattle.sip_subvec.specs.Protocol.{sub_asked, sub_protocol, sub_rules}
use Rattle.sip_subvec.proofs.HonestLaws.{replies_count, shown_stated}
use Rattle.sip_subvec.proofs.HonestStates.{all_stated, replies_more}

module _ (version : Version) (p depth lo hi : ℕ) (numbers : List ℤ)
    (shown : CanBeShown version p depth lo hi numbers) (revealed : List ℕ) (r : ℕ)
    (more : List ℕ) where
  abbrev block : List ℕ
  block = revealed ++ r ∷ more

  abbrev replies : List (List ℕ)
  replies = honest_replies version p numbers lo hi revealed

  abbrev next : List ℕ
  next = honest_reply version p numbers lo hi revealed

  abbrev state : Stated
  state = all_stated version p numbers lo hi revealed

  passed : run (sub_rules version lo hi) block replies ≡ Ok state
  passed = shown_stated version p depth lo hi numbers block revealed shown

  -- the next reply is whole behind those before it
  all_passed : run (sub_rules version lo hi) block (replies ++ next ∷ [])
      ≡ Ok (all_stated version p numbers lo hi (revealed ++ r ∷ []))
  all_passed =
      ap (run (sub_rules version lo hi) block) (sym (replies_more version p numbers lo hi revealed r))
      ∙ shown_stated version p depth lo hi numbers block (revealed ++ r ∷ []) shown

  next_whole : (u : Stated) × (read_reply (sub_rules version lo hi) state next ≡ Ok u)
  next_whole = by_read (read_reply (sub_rules version lo hi) state next) refl
    where
      by_read : (q : Result Stated Reason) → read_reply (sub_rules version lo hi) state next ≡ q
          → (u : Stated) × (read_reply (sub_rules version lo hi) state next ≡ Ok u)
      by_read (Ok u) is = (u, is)
      by_read (Err reason) is =
          absurd (let fault = run-fault (sub_rules version lo hi) block replies state passed next reason is in
          let both = sym fault ∙ all_passed in cc)

  few : length replies < length block
  few = omega (arith, replies_count version p numbers lo hi revealed, length-append revealed (r ∷ more))

  pub front_unfinished : (front rest : List ℕ) → next ≡ front ++ rest
      → IsUnfinished (sub_rules version lo hi) block (replies ++ front ∷ [])
  front_unfinished front [] is =
      let same : next ≡ front = is ∙ append-nil front in
      let whole = ap (λ (b : List ℕ). run (sub_rules version lo hi) block (replies ++ b ∷ [])) (sym same)
      ∙ all_passed in
      record {
        few = omega (arith, few, length-append replies (front ∷ []));
        passes = λ fault e. absurd (let both = sym e ∙ whole in cc);
      }
  front_unfinished front (byte ∷ others) is =
      let closed = reply_front (sub_rules version lo hi) state front byte others next_whole.0
      (ap (read_reply (sub_rules version lo hi) state) (sym is) ∙ next_whole.1) in
      closed_next (sub_protocol (sub_asked version p 0 lo hi block)) block replies state passed few
      front closed
