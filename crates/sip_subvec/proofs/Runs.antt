-- Replies one after another: challenges change nothing of what they state.
use Rattle.std.proofs.Common.{◌≡◌, ℕ, ◌+◌, Result, Ok, Err, List, [], ◌∷◌, drop, refl, sym, ap, ◌∙◌}
use Rattle.sip_vector.specs.declared.update.Entry.{Entry}
use Rattle.sip_vector.specs.Steps.{◌>>=◌}
use Rattle.sip_wire.specs.declared.message.Reason.{Reason}
use Rattle.sip_wire.specs.declared.version.Version.{Version}
use Rattle.sip_replies.specs.Protocols.{Rules}
use Rattle.sip_replies.specs.Replies.{in_round, learnt, read_reply, run_from}
use Rattle.sip_subvec.specs.AcceptsSub.{Siblings, Stated}
use Rattle.sip_subvec.specs.Protocol.{sub_rules}
use Rattle.sip_replies.proofs.Passing as passing

-- these entries and these siblings, level by level
abbrev pub stated_as : List Entry → List Siblings → Stated
stated_as es ss = record { entries = es; siblings = ss }

module _ (version : Version) (lo hi : ℕ) where
  abbrev R : Rules Stated
  R = sub_rules version lo hi

  not_learnt : (rs : List ℕ) (s : Stated) → learnt R rs s ≡ s
  not_learnt [] s = refl
  not_learnt (r ∷ rs) s = refl

  -- one reply that was read so, and those behind it
  pub run_is : (j : ℕ) (rs : List ℕ) (s : Stated) (bytes : List ℕ) (more : List (List ℕ))
      (t : Stated) → read_reply R s bytes ≡ Ok t
      → run_from R j rs s (bytes ∷ more) ≡ run_from R (j + 1) (drop 1 rs) t more
  run_is j rs s bytes more t is =
      passing.run_is R j rs s bytes more t is
      ∙ ap (λ (u : Stated). run_from R (j + 1) (drop 1 rs) u more) (not_learnt rs t)

  same_step : (j : ℕ) (rs qs : List ℕ) (more : List (List ℕ)) (r : Result Stated Reason)
      → ((t : Stated)
      → run_from R (j + 1) (drop 1 rs) t more ≡ run_from R (j + 1) (drop 1 qs) t more)
      → (in_round j r >>= λ t. run_from R (j + 1) (drop 1 rs) (learnt R rs t) more)
      ≡ (in_round j r >>= λ t. run_from R (j + 1) (drop 1 qs) (learnt R qs t) more)
  same_step j rs qs more (Ok t) same =
      ap (λ (u : Stated). run_from R (j + 1) (drop 1 rs) u more) (not_learnt rs t)
      ∙ same t
      ∙ sym (ap (λ (u : Stated). run_from R (j + 1) (drop 1 qs) u more) (not_learnt qs t))
  same_step j rs qs more (Err reason) same = refl

  -- so replies state the same at other challenges
  pub same_run : (replies : List (List ℕ)) (j : ℕ) (rs qs : List ℕ) (s : Stated)
      → run_from R j rs s replies ≡ run_from R j qs s replies
  unfolding run_from
  same_run [] j rs qs s = refl
  same_run (bytes ∷ more) j rs qs s =
      same_step j rs qs more (read_reply R s bytes)
      (λ t. same_run more (j + 1) (drop 1 rs) (drop 1 qs) t)

  -- what one reply states, and where those behind it lead
  pub record RunParts (j : ℕ) (rs : List ℕ) (s : Stated) (bytes : List ℕ) (more : List (List ℕ))
      (t : Stated) : Type 0 where
    pub next : Stated
    pub first : read_reply R s bytes ≡ Ok next
    pub rest : run_from R (j + 1) (drop 1 rs) next more ≡ Ok t

  pub run_parts : (j : ℕ) (rs : List ℕ) (s : Stated) (bytes : List ℕ) (more : List (List ℕ))
      (t : Stated) → run_from R j rs s (bytes ∷ more) ≡ Ok t → RunParts j rs s bytes more t
  run_parts j rs s bytes more t e =
      let a = passing.run_parts R j rs s bytes more t e in
      record {
        next = a.next;
        first = a.first;
        rest = ap (λ (u : Stated). run_from R (j + 1) (drop 1 rs) u more)
            (sym (not_learnt rs a.next)) ∙ a.rest;
      }

  -- no replies lead nowhere
  pub run_none : (j : ℕ) (rs : List ℕ) (s : Stated) → run_from R j rs s [] ≡ Ok s
  run_none j rs s = passing.run_none R j rs s
