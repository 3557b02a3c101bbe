-- Reply 0 by the protocol: entries, frame by frame, and then siblings.
use Rattle.std.proofs.Common.{◌≡◌, ℕ, zero, suc, ◌/◌, ◌^◌, true, Result, Ok, Err, List, [], ◌∷◌, length, refl, subst}
use Rattle.sip_vector.specs.declared.update.Entry.{Entry}
use Rattle.sip_vector.specs.Steps.{◌>>=◌}
use Rattle.sip_wire.specs.declared.kind.Place.TheVariants as places
use Rattle.sip_wire.specs.declared.message.Message.{Message}
use Rattle.sip_wire.specs.declared.message.Message.TheVariants as messages
use Rattle.sip_wire.specs.declared.message.Reason.{Reason}
use Rattle.sip_wire.specs.declared.message.WireFault.{WireFault}
use Rattle.sip_wire.specs.declared.version.Version.{Version}
use Rattle.sip_wire.specs.Reading.{read_frame}
use Rattle.arrayvec.specs.ArrayVec.{ArrayVec}
use Rattle.sip_replies.specs.declared.check.More.TheVariants as mores
use Rattle.sip_replies.specs.Replies.{step_says, frame_says, read_from, read_reply}
use Rattle.sip_replies.proofs.Passing.{at_end_is}
use Rattle.sip_subvec.specs.AcceptsSub.{Siblings, Stated}
use Rattle.sip_subvec.specs.Counting.{rise_within}
use Rattle.sip_subvec.specs.Protocol.{sub_step, sub_rules}
use Rattle.sip_subvec.specs.Replies.{with_entries, are_asked, asked_siblings}
use Rattle.sip_subvec.proofs.Halvings.{whole}
use Rattle.sip_subvec.proofs.Passing.{siblings_passed}
use Rattle.sip_subvec.proofs.RisingEntries.{entries-taken}
use Rattle.sip_subvec.proofs.StatedEntries.{rise-nil}

-- reply 0 in part
abbrev pub in_part : List Entry → Stated
in_part es = record { entries = es; siblings = [] }

-- reply 0, whole
abbrev pub as_whole : List Entry → Siblings → Stated
as_whole es x = record { entries = es; siblings = x ∷ [] }

-- `Keeps` holds of the entries of reply 0, and its siblings are those that are asked for
pub record FirstKept (lo hi : ℕ) (Keeps : List Entry → Type 0) (t : Stated) : Type 0 where
  pub x : Siblings
  pub one : as_whole t.entries x ≡ t
  pub keeps : Keeps t.entries
  pub asked : are_asked lo hi x ≡ true

-- What each frame of entries keeps, reply 0 keeps.
module _ (version : Version) (lo hi : ℕ) (Keeps : List Entry → Type 0) (Fine : List ℕ → Type 0)
    (step : (before more : List Entry) (bytes rest : List ℕ) (v : ArrayVec Entry) → Fine bytes
    → read_frame version places.Entries bytes ≡ Ok (messages.Entries v, rest)
    → with_entries lo hi before v.items ≡ Ok more → Keeps before → Keeps more × Fine rest) where
  -- the siblings at its end
  last : (next : Stated → List ℕ → Result Stated Reason) (before : List Entry) (rest : List ℕ)
      (given : Siblings) (t : Stated) (r : Result Siblings Reason) → Keeps before
      → asked_siblings (lo / 2 ^ 0) (hi / 2 ^ 0) given ≡ r
      → step_says next rest (r >>= λ x. Ok (mores.Complete, as_whole before x)) ≡ Ok t
      → FirstKept lo hi Keeps t
  last next before rest given t (Err reason) keeps is h = absurd (cc)
  last next before rest given t (Ok x) keeps is h =
      let asked : are_asked (lo / 2 ^ 0) (hi / 2 ^ 0) x
      ≡ true = (siblings_passed (lo / 2 ^ 0) (hi / 2 ^ 0) given x is).0 in
      subst (FirstKept lo hi Keeps) (at_end_is (as_whole before x) t rest h) (record {
        x = x;
        one = refl;
        keeps = keeps;
        asked = rw (whole lo, whole hi) at asked;
      })

  -- the rest behind a frame of entries
  abbrev GoesOn : (Stated → List ℕ → Result Stated Reason) → Stated → Type 0
  GoesOn next t =
      (more : List Entry) (after : List ℕ) → Fine after → Keeps more
      → next (in_part more) after ≡ Ok t → FirstKept lo hi Keeps t

  entries : (next : Stated → List ℕ → Result Stated Reason) (before : List Entry)
      (bytes rest : List ℕ) (t : Stated) (v : ArrayVec Entry) (r : Result (List Entry) Reason)
      → GoesOn next t → Fine bytes → Keeps before
      → read_frame version places.Entries bytes ≡ Ok (messages.Entries v, rest)
      → with_entries lo hi before v.items ≡ r
      → step_says next rest (r >>= λ all. Ok (mores.Due, in_part all)) ≡ Ok t
      → FirstKept lo hi Keeps t
  entries next before bytes rest t v (Err reason) goes_on fine keeps is passes h = absurd (cc)
  entries next before bytes rest t v (Ok more) goes_on fine keeps is passes h =
      let then = step before more bytes rest v fine is passes keeps in
      goes_on more rest then.1 then.0 h

  by_message : (next : Stated → List ℕ → Result Stated Reason) (before : List Entry)
      (bytes rest : List ℕ) (t : Stated) → GoesOn next t → Fine bytes → Keeps before
      → (m : Message) → read_frame version places.Entries bytes ≡ Ok (m, rest)
      → step_says next rest (sub_step lo hi (in_part before) m) ≡ Ok t → FirstKept lo hi Keeps t
  by_message next before bytes rest t goes_on fine keeps (messages.Entries v) is h =
      entries next before bytes rest t v (with_entries lo hi before v.items) goes_on fine keeps is
      refl h
  by_message next before bytes rest t goes_on fine keeps (messages.Siblings left right) is h =
      last next before rest (record { left = left; right = right }) t
      (asked_siblings (lo / 2 ^ 0) (hi / 2 ^ 0) (record { left = left; right = right })) keeps refl h
  by_message next before bytes rest t goes_on fine keeps (messages.Refuse code) is h = absurd (cc)
  by_message next before bytes rest t goes_on fine keeps (messages.Open number depth) is h = absurd (cc)
  by_message next before bytes rest t goes_on fine keeps (messages.Updates us) is h = absurd (cc)
  by_message next before bytes rest t goes_on fine keeps messages.EndStream is h = absurd (cc)
  by_message next before bytes rest t goes_on fine keeps (messages.Query q) is h = absurd (cc)
  by_message next before bytes rest t goes_on fine keeps (messages.Reveal r) is h = absurd (cc)
  by_message next before bytes rest t goes_on fine keeps messages.Bye is h = absurd (cc)
  by_message next before bytes rest t goes_on fine keeps (messages.Claim v) is h = absurd (cc)
  by_message next before bytes rest t goes_on fine keeps (messages.Poly a b c) is h = absurd (cc)
  by_message next before bytes rest t goes_on fine keeps (messages.Leaves v) is h = absurd (cc)
  by_message next before bytes rest t goes_on fine keeps (messages.Nodes v) is h = absurd (cc)
  by_message next before bytes rest t goes_on fine keeps messages.LevelEnd is h = absurd (cc)
  by_message next before bytes rest t goes_on fine keeps (messages.AskLook code item) is h = absurd (cc)
  by_message next before bytes rest t goes_on fine keeps (messages.Found flag index) is h = absurd (cc)
  by_message next before bytes rest t goes_on fine keeps messages.End is h = absurd (cc)
  by_message next before bytes rest t goes_on fine keeps (messages.AskMoment side degree) is h = absurd (cc)
  by_message next before bytes rest t goes_on fine keeps (messages.Held held) is h = absurd (cc)
  by_message next before bytes rest t goes_on fine keeps (messages.Recall count) is h = absurd (cc)
  by_message next before bytes rest t goes_on fine keeps (messages.Marks v) is h = absurd (cc)
  by_message next before bytes rest t goes_on fine keeps (messages.Power v) is h = absurd (cc)

  by_frame : (next : Stated → List ℕ → Result Stated Reason) (before : List Entry) (bytes : List ℕ)
      (t : Stated) → GoesOn next t → Fine bytes → Keeps before
      → (r : Result (Message × List ℕ) WireFault) → read_frame version places.Entries bytes ≡ r
      → frame_says (sub_rules version lo hi) next (in_part before) r ≡ Ok t
      → FirstKept lo hi Keeps t
  by_frame next before bytes t goes_on fine keeps (Err fault) is h = absurd (cc)
  by_frame next before bytes t goes_on fine keeps (Ok frame) is h =
      by_message next before bytes frame.1 t goes_on fine keeps frame.0 is h

  from_frame : (n : ℕ) (before : List Entry) (bytes : List ℕ) (t : Stated) → Fine bytes
      → Keeps before → read_from (sub_rules version lo hi) n (in_part before) bytes ≡ Ok t
      → FirstKept lo hi Keeps t
  unfolding read_from
  from_frame zero before bytes t fine keeps e = absurd (cc)
  from_frame (suc n) before bytes t fine keeps e =
      by_frame (read_from (sub_rules version lo hi) n) before bytes t
      (λ more after f k h. from_frame n more after t f k h) fine keeps
      (read_frame version places.Entries bytes) refl e

  pub first_keeps : (bytes : List ℕ) (t : Stated) → Fine bytes → Keeps []
      → read_reply (sub_rules version lo hi) (in_part []) bytes ≡ Ok t → FirstKept lo hi Keeps t
  first_keeps bytes t fine keeps e = from_frame (length bytes) [] bytes t fine keeps e

-- the entries of reply 0 rise
pub first_rises : (version : Version) (lo hi : ℕ) (bytes : List ℕ) (t : Stated)
    → read_reply (sub_rules version lo hi) (in_part []) bytes ≡ Ok t
    → FirstKept lo hi (λ es. rise_within lo hi es ≡ true) t
first_rises version lo hi bytes t e =
    first_keeps version lo hi (λ es. rise_within lo hi es ≡ true) (λ _. Unit {0})
    (λ before more from rest v fine is taken rise.
    ((entries-taken lo hi before v.items more rise taken).0, tt))
    bytes t tt (rise-nil lo hi) e
