-- How many bytes replies have, whatever their protocol, by how many a row, the last frame and a
-- frame that is not whole have.
use Rattle.std.proofs.Common.{◌≡◌, ◌≢◌, ℕ, zero, suc, ◌+◌, ◌*◌, ◌-◌, ◌<◌, ◌≤◌, Result, Ok, Err, List, [], ◌∷◌, ◌++◌, length, refl, sym, ap, subst, ◌∙◌, arith, length-append}
use Rattle.sip_wire.specs.declared.message.Message.{Message}
use Rattle.sip_wire.specs.declared.message.Reason.{Reason}
use Rattle.sip_wire.specs.declared.message.Reason.TheVariants as reasons
use Rattle.sip_wire.specs.declared.message.WireFault.{WireFault}
use Rattle.sip_wire.specs.Reading.{read_frame}
use Rattle.sip_wire.proofs.ReadingLaws.{read_frame-shrinks}
use Rattle.sip_replies.specs.declared.check.More.{More}
use Rattle.sip_replies.specs.declared.check.More.TheVariants as mores
use Rattle.sip_replies.specs.Protocols.{Rules}
use Rattle.sip_replies.specs.Replies.{at_end, joined, read_reply, reason_of, run_from, step_says}
use Rattle.sip_replies.proofs.Ends.{last_of}
use Rattle.sip_replies.proofs.Passing.{run_parts}
use Rattle.sip_replies.proofs.Reading.{read_reply-fault, read_reply-step}
use Rattle.sip_replies.proofs.Saying.{joined-snoc}
use Rattle.sip_verifier.proofs.TakenReplies.{AreTaken, Ends, IsTaken, came_faulty, came_open, came_whole}

-- What replies that are read by rules may have: `Holds` of each state that they lead to, how many
-- bytes are `left` for frames behind which the reply goes on, how many the last frame has, and how
-- many one that is not whole may come to.
pub record Sizes {S : Type 0} (R : Rules S) (Holds : S → Type 0) (left : S → ℕ) (later last part : ℕ) : Type 0 where
  -- a frame behind which the reply goes on takes of what is left
  pub due : (s t : S) (m : Message) (bytes rest : List ℕ) → Holds s
      → read_frame R.version (R.place s) bytes ≡ Ok (m, rest) → R.step s m ≡ Ok (mores.Due, t)
      → Holds t × (length bytes + left t ≤ left s + length rest)
  -- the frame that completes it has so many bytes at most
  pub complete : (s t : S) (m : Message) (bytes rest : List ℕ) → Holds s
      → read_frame R.version (R.place s) bytes ≡ Ok (m, rest) → R.step s m ≡ Ok (mores.Complete, t)
      → (length bytes ≤ last + length rest) × ((r : ℕ) → Holds (R.learn t r) × (left (R.learn t r) ≤ later))
  -- and one that is not whole has fewer than so many
  pub cut : (s : S) (bytes : List ℕ) (fault : WireFault) → Holds s
      → read_frame R.version (R.place s) bytes ≡ Err fault → reason_of fault ≡ reasons.Closed
      → length bytes < part
  -- no test of a frame is that the link closed
  pub tests : (s : S) (m : Message) (reason : Reason) → R.step s m ≡ Err reason → reason ≢ reasons.Closed

-- a product grows with its first factor
mul-le : (a b c : ℕ) → a ≤ b → a * c ≤ b * c
mul-le zero b c h = omega arith
mul-le (suc a) zero c h = absurd (omega (arith, h))
mul-le (suc a) (suc b) c h = omega (arith, mul-le a b c (omega (arith, h)))

same_state : {S : Type 0} (s t : S) → ◌≡◌ {A = Result S Reason} (Ok s) (Ok t) → s ≡ t
same_state s t e = cc

-- a step that passed led to one state, behind which the reply goes on or not
pub same_due : {S : Type 0} (m n : More) (s t : S) → ◌≡◌ {A = Result (More × S) Reason} (Ok (m, s)) (Ok (n, t)) → (m ≡ n) × (s ≡ t)
same_due {S} m n s t e = let both : ◌≡◌ {A = More × S} (m, s) (n, t) = cc in (ap (λ (x : More × S). x.0) both, ap (λ (x : More × S). x.1) both)

same_reason : {S : Type 0} (a b : Reason) → ◌≡◌ {A = Result S Reason} (Err a) (Err b) → a ≡ b
same_reason a b e = cc

module _ {S : Type 0} (R : Rules S) (Holds : S → Type 0) (left : S → ℕ) (later last part : ℕ) (sizes : Sizes R Holds left later last part) where
  -- ---- one reply

  -- what a whole reply leaves for the next one, which learns a challenge first
  abbrev Leads : S → Type 0
  Leads t = (r : ℕ) → Holds (R.learn t r) × (left (R.learn t r) ≤ later)

  abbrev IsWhole : S → List ℕ → Result S Reason → Type 0
  IsWhole s bytes (Ok t) = (length bytes ≤ left s + last) × Leads t
  IsWhole s bytes (Err reason) = reason ≡ reasons.Closed → length bytes < left s + part

  ended : (s t u : S) (bytes rest : List ℕ) → (length bytes ≤ last + length rest) × Leads t → (r : Result S Reason) → at_end t rest ≡ r → IsWhole s bytes r
  ended s t u bytes [] (few, leads) (Ok x) e = let same : t ≡ x = same_state t x e in (omega (arith, few), subst Leads same leads)
  ended s t u bytes [] (few, leads) (Err reason) e = absurd cc
  ended s t u bytes (b ∷ rest) (few, leads) (Ok x) e = absurd cc
  ended s t u bytes (b ∷ rest) (few, leads) (Err reason) e = λ closed. absurd (let other : reasons.BadLength ≡ reason = same_reason {S = S} reasons.BadLength reason e in let both : reasons.BadLength ≡ reasons.Closed = other ∙ closed in cc)

  went_on : (s t : S) (bytes rest : List ℕ) → length bytes + left t ≤ left s + length rest → (r : Result S Reason) → IsWhole t rest r → IsWhole s bytes r
  went_on s t bytes rest less (Ok x) (few, leads) = (omega (arith, less, few), leads)
  went_on s t bytes rest less (Err reason) short = λ closed. omega (arith, less, short closed)

  stepped : (s : S) (m : Message) (bytes rest : List ℕ) → Holds s → read_frame R.version (R.place s) bytes ≡ Ok (m, rest)
      → ((t : S) → Holds t → IsWhole t rest (read_reply R t rest)) → (r : Result (More × S) Reason) → R.step s m ≡ r → IsWhole s bytes (step_says (read_reply R) rest r)
  stepped s m bytes rest h read next (Err reason) e = λ closed. absurd (sizes.tests s m reason e closed)
  stepped s m bytes rest h read next (Ok (mores.Due, t)) e =
      let d = sizes.due s t m bytes rest h read e in went_on s t bytes rest d.1 (read_reply R t rest) (next t d.0)
  stepped s m bytes rest h read next (Ok (mores.Complete, t)) e =
      ended s t t bytes rest (sizes.complete s t m bytes rest h read e) (at_end t rest) refl

  framed : (s : S) (bytes : List ℕ) → Holds s → ((t : S) (rest : List ℕ) → length rest + 3 ≤ length bytes → Holds t → IsWhole t rest (read_reply R t rest))
      → (r : Result (Message × List ℕ) WireFault) → read_frame R.version (R.place s) bytes ≡ r → IsWhole s bytes (read_reply R s bytes)
  framed s bytes h next (Err fault) e = subst (IsWhole s bytes) (sym (read_reply-fault R s bytes fault e)) (λ closed. omega (arith, sizes.cut s bytes fault h e closed))
  framed s bytes h next (Ok frame) e =
      subst (IsWhole s bytes) (sym (read_reply-step R s bytes frame.1 frame.0 (R.step s frame.0) e refl))
      (stepped s frame.0 bytes frame.1 h e (λ t. next t frame.1 (read_frame-shrinks R.version (R.place s) bytes frame.0 frame.1 e)) (R.step s frame.0) refl)

  reply_within : (n : ℕ) (s : S) (bytes : List ℕ) → length bytes ≤ n → Holds s → IsWhole s bytes (read_reply R s bytes)
  reply_within zero s bytes le h = framed s bytes h (λ t rest less. absurd (omega (arith, le, less))) (read_frame R.version (R.place s) bytes) refl
  reply_within (suc n) s bytes le h = framed s bytes h (λ t rest less. reply_within n t rest (omega (arith, le, less))) (read_frame R.version (R.place s) bytes) refl

  reply_size : (s : S) (bytes : List ℕ) (r : Result S Reason) → Holds s → read_reply R s bytes ≡ r → IsWhole s bytes r
  reply_size s bytes r h e = subst (IsWhole s bytes) e (reply_within (length bytes) s bytes (omega arith) h)

  -- ---- several replies

  -- where replies that were read without a fault lead to, and how many bytes they have
  record Got (s : S) (replies : List (List ℕ)) (t : S) : Type 0 where
    holds : Holds t
    few : length (joined replies) + left t ≤ left s + length replies * (later + last)

  length_joined : (bytes : List ℕ) (more : List (List ℕ)) → length (joined (bytes ∷ more)) ≡ length bytes + length (joined more)
  length_joined bytes more = length-append bytes (joined more)

  runs : (j : ℕ) (rs : List ℕ) (s : S) (replies : List (List ℕ)) (t : S) → length replies ≤ length rs → Holds s → run_from R j rs s replies ≡ Ok t → Got s replies t
  unfolding run_from
  runs j rs s [] t le h e = let same : s ≡ t = cc in subst (Got s []) same (record { holds = h; few = omega arith })
  runs j [] s (bytes ∷ more) t le h e = absurd (omega (arith, le))
  runs j (r ∷ rs) s (bytes ∷ more) t le h e =
      let parts = run_parts R j (r ∷ rs) s bytes more t e in
      let one = reply_size s bytes (Ok parts.next) h parts.first in
      let leads = one.1 r in
      let rest = runs (j + 1) rs (R.learn parts.next r) more t (omega (arith, le)) leads.0 parts.rest in
      record { holds = rest.holds; few = omega (arith, length_joined bytes more, one.0, leads.1, rest.few) }

  -- ---- all replies that were taken

  taken_size : (t : S) (bytes : List ℕ) → last ≤ part → Holds t → IsTaken R t bytes → length bytes ≤ left t + part
  taken_size t bytes le h (came_whole u e) = omega (arith, le, (reply_size t bytes (Ok u) h e).0)
  taken_size t bytes le h (came_open e) = omega (arith, reply_size t bytes (Err reasons.Closed) h e refl)
  taken_size t bytes le h (came_faulty front byte is e) =
      omega (arith, ap length is, length-append front (byte ∷ []), reply_size t front (Err reasons.Closed) h e refl)

  ended_size : (rs : List ℕ) (first : ℕ) (earlier : List (List ℕ)) (bytes : List ℕ) → last ≤ part → Holds R.start → left R.start ≤ first → length earlier + 1 ≤ length rs
      → Ends R rs earlier bytes → length (joined (earlier ++ bytes ∷ [])) ≤ first + (length rs - 1) * (later + last) + part
  ended_size rs first earlier bytes le h start few ends =
      let got = runs 0 rs R.start earlier ends.state (omega (arith, few)) h ends.passed in
      let one = taken_size ends.state bytes le got.holds ends.taken in
      let most : length earlier * (later + last) ≤ (length rs - 1) * (later + last) = mul-le (length earlier) (length rs - 1) (later + last) (omega (arith, few)) in
      omega (arith, ap length (joined-snoc earlier bytes), length-append (joined earlier) bytes, got.few, one, start, most)

  by_last : (rs : List ℕ) (first : ℕ) (replies same : List (List ℕ)) → replies ≡ same → last ≤ part → Holds R.start → left R.start ≤ first → AreTaken R rs replies
      → length (joined replies) ≤ first + (length rs - 1) * (later + last) + part
  by_last rs first replies [] e le h start taken = rw e (omega arith)
  by_last rs first replies (b ∷ more) e le h start taken =
      let x = last_of b more in
      let split : replies ≡ x.0 ++ x.1 ∷ [] = e ∙ x.2 in
      subst (λ (l : List (List ℕ)). length (joined l) ≤ first + (length rs - 1) * (later + last) + part) (sym split)
      (ended_size rs first x.0 x.1 le h start (omega (arith, taken.few, ap length split, length-append x.0 (x.1 ∷ []))) (taken.ends x.0 x.1 split))

  -- Replies that were taken have no more bytes than the first one may have rows, each later one so
  -- much and a last frame, and at last one frame that is not taken whole, or fails.
  pub replies_size : (rs : List ℕ) (first : ℕ) (replies : List (List ℕ)) → last ≤ part → Holds R.start → left R.start ≤ first → AreTaken R rs replies
      → length (joined replies) ≤ first + (length rs - 1) * (later + last) + part
  replies_size rs first replies le h start taken = by_last rs first replies replies refl le h start taken
