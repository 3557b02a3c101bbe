-- A reply whose bytes are those of messages, spelled in another version.
use Rattle.std.proofs.Common.{◌≡◌, ◌≢◌, ℕ, ◌≤◌, Bool, true, false, Option, Some, Result, Ok, Err, List, [], ◌∷◌, ◌++◌, length, take, drop, inl, inr, refl, sym, ap, subst, ◌∙◌, arith, append_assoc, append-nil, length-append}
use Rattle.std.specs.Prelude.{IsTrue, slice_index}
use Rattle.std.specs.List.{flat_map}
use Rattle.std.proofs.lemmas.List.{append_cancel_left}
use Rattle.std.proofs.lemmas.List.Concat.{flat_map-cons}
use Rattle.sip_wire.specs.declared.kind.Kind.{Kind}
use Rattle.sip_wire.specs.declared.kind.Place.{Place}
use Rattle.sip_wire.specs.declared.kind.Place.TheVariants.{ToVerifier}
use Rattle.sip_wire.specs.declared.message.Message.{Message}
use Rattle.sip_wire.specs.declared.message.Message.TheVariants as messages
use Rattle.sip_wire.specs.declared.message.Reason.{Reason}
use Rattle.sip_wire.specs.declared.message.Reason.TheVariants as reasons
use Rattle.sip_wire.specs.declared.message.WireFault.{WireFault}
use Rattle.sip_wire.specs.declared.message.WireFault.TheVariants as faults
use Rattle.sip_wire.specs.declared.version.Version.{Version}
use Rattle.sip_wire.specs.Reading.{read_frame, read_of}
use Rattle.sip_wire.specs.Spelling.{asked, asked_by, body_of, frame_fault, in_bytes, kind_fault, kind_of, spelling}
use Rattle.sip_wire.specs.Table.{allows, byte_of, kind_at}
use Rattle.sip_wire.proofs.ReadingLaws.{asked-least, asked-spelling, length-spelling, read_frame-closed, read_frame-short, read_frame-spelling}
use Rattle.sip_wire.proofs.Whole.{heard_again, past_length}
use Rattle.sip_replies.specs.declared.check.More.{More}
use Rattle.sip_replies.specs.declared.check.More.TheVariants as mores
use Rattle.sip_replies.specs.Protocols.{Rules}
use Rattle.sip_replies.specs.Replies.{at_end, read_reply, step_says}
use Rattle.sip_replies.specs.LawProofs.Refusals.{same_err}
use Rattle.sip_replies.proofs.Agreeing.{two_fronts}
use Rattle.sip_replies.proofs.Fronts.{closed_or_not}
use Rattle.sip_replies.proofs.Reading.{read_reply-fault, read_reply-nil, read_reply-step}
use Rattle.sip_transcript.specs.Tales.{IsReply}
use Rattle.sip_transcript.proofs.SameReplies.{IsCutAt}

-- ---- lists of bytes

-- both are at their end, or neither is
pub record SameEnd (a b : List ℕ) : Type 0 where
  pub there : a ≡ [] → b ≡ []
  pub back : b ≡ [] → a ≡ []

ends_nil : SameEnd [] []
ends_nil = record { there = λ e. e; back = λ e. e }

nil_first : (a b : List ℕ) → a ++ b ≡ [] → a ≡ []
nil_first [] b e = refl
nil_first (x ∷ a) b e = absurd cc

nil_second : (a b : List ℕ) → a ++ b ≡ [] → b ≡ []
nil_second [] b e = e
nil_second (x ∷ a) b e = absurd cc

nil_both : (a b : List ℕ) → a ≡ [] → b ≡ [] → a ++ b ≡ []
nil_both a b e f = cc

-- ---- frames

-- a body is empty in every version, or in none
body-empty : (v w : Version) (m : Message) → body_of v m ≡ [] → body_of w m ≡ []
unfolding in_bytes
body-empty v w (messages.Updates rows) e = absurd (let l = ap length e in omega (arith, l))
body-empty v w (messages.Query query) e = absurd (let l = ap length e in omega (arith, l))
body-empty v w (messages.Entries rows) e = absurd (let l = ap length e in omega (arith, l))
body-empty v w (messages.Siblings left right) e = absurd (let l = ap length e in omega (arith, l))
body-empty v w (messages.Leaves rows) e = absurd (let l = ap length e in omega (arith, l))
body-empty v w (messages.Nodes rows) e = absurd (let l = ap length e in omega (arith, l))
body-empty v w _ e = e

-- what a frame begins with
front-spelling : (v : Version) (m : Message) → (y : ℕ) × (z : ℕ) × (spelling v m ≡ byte_of (kind_of m) ∷ y ∷ z ∷ body_of v m)
unfolding spelling in_bytes
front-spelling v m = (_, _, refl)

-- a frame of a kind that may not stand at its place is a fault at its third byte
stray-asked : (v : Version) (place : Place) (kind : Kind) (bytes : List ℕ) → allows place kind ≡ false → asked_by v place (Some kind) bytes ≡ 3
stray-asked v place kind bytes barred = rw barred refl

stray-fault : (v : Version) (place : Place) (kind : Kind) (bytes : List ℕ) → allows place kind ≡ false → kind_fault v place (Some kind) bytes ≡ Some faults.BadKind
unfolding kind_fault
stray-fault v place kind bytes barred = rw barred refl

stray-frame : (v : Version) (place : Place) (kind : Kind) (y z : ℕ) (more : List ℕ) → allows ToVerifier kind ≡ true → allows place kind ≡ false → read_frame v place (byte_of kind ∷ y ∷ z ∷ more) ≡ Err faults.BadKind
unfolding read_frame asked
stray-frame v place kind y z more heard barred =
    let again = heard_again place kind heard in
    let bytes = byte_of kind ∷ y ∷ z ∷ more in
    let frame = byte_of kind ∷ y ∷ z ∷ [] in
    let three : asked v place bytes ≡ 3 = ap (λ (o : Option Kind). asked_by v place o bytes) again ∙ stray-asked v place kind bytes barred in
    let fault : frame_fault v place frame ≡ Some faults.BadKind =
    past_length v place frame (omega arith) ∙ ap (λ (o : Option Kind). kind_fault v place o frame) again ∙ stray-fault v place kind frame barred in
    ap (λ (n : ℕ). read_of v (kind_at place (slice_index bytes 0)) (frame_fault v place (take n bytes)) (take n bytes) (drop n bytes)) three
    ∙ ap (λ (o : Option WireFault). read_of v (kind_at place (slice_index bytes 0)) o frame more) fault

-- ---- messages that are replies in two versions

abbrev pub AreBoth : Version → Version → List Message → Type 0
AreBoth v w [] = Unit {0}
AreBoth v w (m ∷ ms) = IsReply v m × IsReply w m × AreBoth v w ms

-- their bytes
abbrev pub bytes_in : Version → List Message → List ℕ
bytes_in v ms = flat_map (spelling v) ms

pub bytes-cons : (v : Version) (m : Message) (ms : List Message) → bytes_in v (m ∷ ms) ≡ spelling v m ++ bytes_in v ms
bytes-cons v m ms = flat_map-cons (spelling v) m ms

no-spelling : (v : Version) (m : Message) (rest : List ℕ) → spelling v m ++ rest ≡ [] → ⊥
no-spelling v m rest e = let l = ap length e in omega (arith, l, length-append (spelling v m) rest, length-spelling v m)

-- none are there in every version, or in none
bytes-empty : (v w : Version) (ms : List Message) → bytes_in v ms ≡ [] → bytes_in w ms ≡ []
bytes-empty v w [] e = refl
bytes-empty v w (m ∷ ms) e = absurd (no-spelling v m (bytes_in v ms) (sym (bytes-cons v m ms) ∙ e))

pub bytes_end : (v w : Version) (ms : List Message) → SameEnd (bytes_in v ms) (bytes_in w ms)
bytes_end v w ms = record { there = bytes-empty v w ms; back = bytes-empty w v ms }

-- behind the head of a frame
behind_end : (v w : Version) (m : Message) (ms : List Message) → SameEnd (body_of v m ++ bytes_in v ms) (body_of w m ++ bytes_in w ms)
behind_end v w m ms = record {
  there = λ e. nil_both (body_of w m) (bytes_in w ms) (body-empty v w m (nil_first (body_of v m) (bytes_in v ms) e)) (bytes-empty v w ms (nil_second (body_of v m) (bytes_in v ms) e));
  back = λ e. nil_both (body_of v m) (bytes_in v ms) (body-empty w v m (nil_first (body_of w m) (bytes_in w ms) e)) (bytes-empty w v ms (nil_second (body_of w m) (bytes_in w ms) e));
}

-- ---- reading a reply that begins with a message

module _ {S : Type 0} (R : Rules S) (s : S) (m : Message) (is : IsReply R.version m) where
  -- a message that may stand here is taken
  read_whole : IsTrue (allows (R.place s) (kind_of m)) → (rest : List ℕ) → read_reply R s (spelling R.version m ++ rest) ≡ step_says (read_reply R) rest (R.step s m)
  read_whole may rest =
      read_reply-step R s (spelling R.version m ++ rest) rest m (R.step s m) (read_frame-spelling R.version (R.place s) m rest is.has_spelling may is.in_range) refl

  -- a part of it is not a whole reply
  read_part : IsTrue (allows (R.place s) (kind_of m)) → (front : List ℕ) (c : ℕ) (cs : List ℕ) → spelling R.version m ≡ front ++ c ∷ cs → read_reply R s front ≡ Err reasons.Closed
  read_part may front c cs e =
      let long = asked-spelling R.version (R.place s) m [] is.has_spelling may in
      let same : asked R.version (R.place s) (front ++ c ∷ cs) ≡ length (front ++ c ∷ cs) =
      ap (asked R.version (R.place s)) (sym e ∙ sym (append-nil (spelling R.version m))) ∙ long ∙ ap length e in
      read_reply-fault R s front faults.Closed (read_frame-short R.version (R.place s) front (c ∷ cs) (λ nil. cc) (omega (arith, same)))

  -- one that may not is a fault at its third byte
  read_stray : allows (R.place s) (kind_of m) ≡ false → (y z : ℕ) (more : List ℕ) → read_reply R s (byte_of (kind_of m) ∷ y ∷ z ∷ more) ≡ Err reasons.BadKind
  read_stray barred y z more =
      read_reply-fault R s (byte_of (kind_of m) ∷ y ∷ z ∷ more) faults.BadKind (stray-frame R.version (R.place s) (kind_of m) y z more is.allowed barred)

-- fewer than three bytes are no whole reply
read_few : {S : Type 0} (R : Rules S) (s : S) (bytes : List ℕ) → length bytes ≤ 2 → read_reply R s bytes ≡ Err reasons.Closed
read_few R s bytes le = read_reply-fault R s bytes faults.Closed (read_frame-closed R.version (R.place s) bytes (omega (arith, le, asked-least R.version (R.place s) bytes)))

-- ---- a reply in another version

abbrev pub in_version : {S : Type 0} → Version → Rules S → Rules S
in_version w R = record R { version = w }

-- A reply whose bytes, and those that follow, are these messages. In the other version it is as whole, or has the same fault, and
-- what follows ends where it did.
pub record IsRespelled {S : Type 0} (R : Rules S) (w : Version) (s : S) (reply behind : List ℕ) (ms : List Message) : Type 0 where
  pub respelled : List ℕ
  pub left : List ℕ
  pub all : respelled ++ left ≡ bytes_in w ms
  pub same : read_reply (in_version w R) s respelled ≡ read_reply R s reply
  pub is_cut : IsCutAt (read_reply (in_version w R) s) respelled left
  pub ends : SameEnd behind left
  -- behind a whole one there are other messages
  pub on : (x : S) → read_reply R s reply ≡ Ok x → (more : List Message) × AreBoth R.version w more × (behind ≡ bytes_in R.version more) × (left ≡ bytes_in w more)

no_ok : {X : Type 0} (x : X) (reason : Reason) (r : Result X Reason) → r ≡ Err reason → r ≡ Ok x → ⊥
no_ok {X = X} x reason r e f = let both : ◌≡◌ {A = Result X Reason} (Err reason) (Ok x) = sym e ∙ f in cc

at_end_open : {X : Type 0} (x : X) (rest : List ℕ) → at_end x rest ≡ Err reasons.Closed → ⊥
at_end_open x [] e = absurd cc
at_end_open x (b ∷ rest) e = absurd cc

module _ {S : Type 0} (R : Rules S) (w : Version) (s : S) where
  abbrev R2 : Rules S
  R2 = in_version w R

  -- all that was sent, where more is to come
  respelled-open : (reply behind : List ℕ) (ms : List Message) → read_reply R s reply ≡ Err reasons.Closed → behind ≡ [] → read_reply R2 s (bytes_in w ms) ≡ Err reasons.Closed → IsRespelled R w s reply behind ms
  respelled-open reply behind ms closed none also = record {
    respelled = bytes_in w ms;
    left = [];
    all = append-nil (bytes_in w ms);
    same = also ∙ sym closed;
    is_cut = record { closed = λ e. refl; front = λ front byte more e other. absurd (other also) };
    ends = record { there = λ e. refl; back = λ e. none };
    on = λ x e. absurd (no_ok x reasons.Closed (read_reply R s reply) closed e);
  }

  module _ (m : Message) (ms : List Message) (is : IsReply R.version m) (also : IsReply w m) (are : AreBoth R.version w ms) where
    -- a message that is a whole reply, or shows a fault at its last byte
    respelled-whole : IsTrue (allows (R.place s) (kind_of m)) → (reply behind : List ℕ) → reply ≡ spelling R.version m → behind ≡ bytes_in R.version ms
        → read_reply R2 s (spelling w m) ≡ read_reply R s reply → read_reply R s reply ≢ Err reasons.Closed → IsRespelled R w s reply behind (m ∷ ms)
    respelled-whole may reply behind first rest same other = record {
      respelled = spelling w m;
      left = bytes_in w ms;
      all = sym (bytes-cons w m ms);
      same = same;
      is_cut = record { closed = λ e. absurd (other (sym same ∙ e)); front = λ front byte more e _. read_part R2 s m also may front byte more e };
      ends = let ends = bytes_end R.version w ms in record { there = λ e. ends.there (sym rest ∙ e); back = λ e. rest ∙ ends.back e };
      on = λ x e. (ms, are, rest, refl);
    }

    -- one that may not stand here
    respelled-stray : allows (R.place s) (kind_of m) ≡ false → (reply behind : List ℕ) → IsCutAt (read_reply R s) reply behind → reply ++ behind ≡ spelling R.version m ++ bytes_in R.version ms
        → IsRespelled R w s reply behind (m ∷ ms)
    respelled-stray barred reply behind cut e = by_reply reply cut (e ∙ ap (λ (l : List ℕ). l ++ bytes_in R.version ms) head.2)
      where
        head : (y : ℕ) × (z : ℕ) × (spelling R.version m ≡ byte_of (kind_of m) ∷ y ∷ z ∷ body_of R.version m)
        head = front-spelling R.version m

        front : (y : ℕ) × (z : ℕ) × (spelling w m ≡ byte_of (kind_of m) ∷ y ∷ z ∷ body_of w m)
        front = front-spelling w m

        frame : List ℕ
        frame = byte_of (kind_of m) ∷ front.0 ∷ front.1 ∷ []

        few : (a more : List ℕ) (byte : ℕ) → frame ≡ a ++ byte ∷ more → read_reply R2 s a ≡ Err reasons.Closed
        few a more byte is = read_few R2 s a (let l = ap length is in omega (arith, l, length-append a (byte ∷ more)))

        three : (x y z : ℕ) (reply : List ℕ) → reply ≡ x ∷ y ∷ z ∷ [] → (x ≡ byte_of (kind_of m)) → behind ≡ body_of R.version m ++ bytes_in R.version ms → IsRespelled R w s reply behind (m ∷ ms)
        three x y z reply made first rest =
            let stray = read_stray R2 s m also barred front.0 front.1 [] in
            let own : read_reply R s reply ≡ Err reasons.BadKind = ap (read_reply R s) (made ∙ ap (λ (b : ℕ). b ∷ y ∷ z ∷ []) first) ∙ read_stray R s m is barred y z [] in
            let ends = behind_end R.version w m ms in record {
              respelled = frame;
              left = body_of w m ++ bytes_in w ms;
              all = ap (λ (l : List ℕ). l ++ bytes_in w ms) (sym front.2) ∙ sym (bytes-cons w m ms);
              same = stray ∙ sym own;
              is_cut = record { closed = λ c. absurd (let both : ◌≡◌ {A = Result S Reason} (Err reasons.BadKind) (Err reasons.Closed) = sym stray ∙ c in cc); front = λ a byte more at other. few a more byte at };
              ends = record { there = λ c. ends.there (sym rest ∙ c); back = λ c. rest ∙ ends.back c };
              on = λ t c. absurd (no_ok t reasons.BadKind (read_reply R s reply) own c);
            }

        by_reply : (reply : List ℕ) → IsCutAt (read_reply R s) reply behind
            → reply ++ behind ≡ byte_of (kind_of m) ∷ head.0 ∷ head.1 ∷ (body_of R.version m ++ bytes_in R.version ms) → IsRespelled R w s reply behind (m ∷ ms)
        by_reply [] cut e = absurd (let none = cut.closed (read_few R s [] (omega arith)) in cc)
        by_reply (x ∷ []) cut e = absurd (let none = cut.closed (read_few R s (x ∷ []) (omega arith)) in cc)
        by_reply (x ∷ y ∷ []) cut e = absurd (let none = cut.closed (read_few R s (x ∷ y ∷ []) (omega arith)) in cc)
        by_reply (x ∷ y ∷ z ∷ []) cut e = three x y z (x ∷ y ∷ z ∷ []) refl (cc) (cc)
        by_reply (x ∷ y ∷ z ∷ c ∷ cs) cut e =
            let first : x ≡ byte_of (kind_of m) = cc in
            let stray : (more : List ℕ) → read_reply R s (x ∷ y ∷ z ∷ more) ≡ Err reasons.BadKind =
            λ more. ap (λ (b : ℕ). read_reply R s (b ∷ y ∷ z ∷ more)) first ∙ read_stray R s m is barred y z more in
            let short = cut.front (x ∷ y ∷ z ∷ []) c cs refl (λ closed. let both : ◌≡◌ {A = Result S Reason} (Err reasons.BadKind) (Err reasons.Closed) = sym (stray (c ∷ cs)) ∙ closed in cc) in
            absurd (let both : ◌≡◌ {A = Result S Reason} (Err reasons.BadKind) (Err reasons.Closed) = sym (stray []) ∙ short in cc)

    -- one that may, and goes on behind it
    module _ (may : IsTrue (allows (R.place s) (kind_of m))) (rest behind : List ℕ) (follows : rest ++ behind ≡ bytes_in R.version ms)
        (cut : IsCutAt (read_reply R s) (spelling R.version m ++ rest) behind) where
      -- the rest of the reply
      rest_is_cut : (t : S) → ((l : List ℕ) → read_reply R s (spelling R.version m ++ l) ≡ read_reply R t l) → IsCutAt (read_reply R t) rest behind
      rest_is_cut t reads = record {
        closed = λ e. cut.closed (reads rest ∙ e);
        front = λ front byte more e other.
            sym (reads front) ∙ cut.front (spelling R.version m ++ front) byte more (ap (λ (l : List ℕ). spelling R.version m ++ l) e ∙ sym (append_assoc (spelling R.version m) front (byte ∷ more))) (λ closed. other (sym (reads rest) ∙ closed));
      }

      -- and of the one in the other version, with the message before it
      more_is_cut : (t : S) (others left : List ℕ) → ((l : List ℕ) → read_reply R2 s (spelling w m ++ l) ≡ read_reply R2 t l) → IsCutAt (read_reply R2 t) others left → IsCutAt (read_reply R2 s) (spelling w m ++ others) left
      more_is_cut t others left reads at = record {
        closed = λ e. at.closed (sym (reads others) ∙ e);
        front = λ front byte more e other. elim (two_fronts front (byte ∷ more) (spelling w m) others (sym e)) [
          | inl x ↦ within front byte more x.0 x.1 e other
          | inr x ↦ past front byte more x.0 x.1 e other
        ];
      }
        where
          past : (front : List ℕ) (byte : ℕ) (more others_front : List ℕ) → front ≡ spelling w m ++ others_front → spelling w m ++ others ≡ front ++ byte ∷ more
              → read_reply R2 s (spelling w m ++ others) ≢ Err reasons.Closed → read_reply R2 s front ≡ Err reasons.Closed
          past front byte more others_front is_front e other =
              let same : others ≡ others_front ++ byte ∷ more =
              append_cancel_left (spelling w m) others (others_front ++ byte ∷ more) (e ∙ ap (λ (l : List ℕ). l ++ byte ∷ more) is_front ∙ append_assoc (spelling w m) others_front (byte ∷ more)) in
              ap (read_reply R2 s) is_front ∙ reads others_front ∙ at.front others_front byte more same (λ closed. other (reads others ∙ closed))

          within : (front : List ℕ) (byte : ℕ) (more part : List ℕ) → spelling w m ≡ front ++ part → spelling w m ++ others ≡ front ++ byte ∷ more
              → read_reply R2 s (spelling w m ++ others) ≢ Err reasons.Closed → read_reply R2 s front ≡ Err reasons.Closed
          within front byte more [] is_part e other = past front byte more [] (sym (append-nil front) ∙ sym is_part ∙ sym (append-nil (spelling w m))) e other
          within front byte more (c ∷ cs) is_part e other = read_part R2 s m also may front c cs is_part

      due : (t : S) → R.step s m ≡ Ok (mores.Due, t) → IsRespelled R w t rest behind ms → IsRespelled R w s (spelling R.version m ++ rest) behind (m ∷ ms)
      due t step x =
          let reads : (l : List ℕ) → read_reply R s (spelling R.version m ++ l) ≡ read_reply R t l = λ l. read_whole R s m is may l ∙ ap (step_says (read_reply R) l) step in
          let reads_other : (l : List ℕ) → read_reply R2 s (spelling w m ++ l) ≡ read_reply R2 t l = λ l. read_whole R2 s m also may l ∙ ap (step_says (read_reply R2) l) step in record {
            respelled = spelling w m ++ x.respelled;
            left = x.left;
            all = append_assoc (spelling w m) x.respelled x.left ∙ ap (λ (l : List ℕ). spelling w m ++ l) x.all ∙ sym (bytes-cons w m ms);
            same = reads_other x.respelled ∙ x.same ∙ sym (reads rest);
            is_cut = more_is_cut t x.respelled x.left reads_other x.is_cut;
            ends = x.ends;
            on = λ y e. x.on y (sym (reads rest) ∙ e);
          }

      -- where no byte less decides it, nothing stands behind the message that does
      nothing_more : read_reply R s (spelling R.version m ++ rest) ≢ Err reasons.Closed → read_reply R s (spelling R.version m) ≢ Err reasons.Closed → rest ≡ []
      nothing_more other own = by_rest rest refl
        where
          by_rest : (l : List ℕ) → rest ≡ l → rest ≡ []
          by_rest [] e = e
          by_rest (c ∷ cs) e = absurd (own (cut.front (spelling R.version m) c cs (ap (λ (l : List ℕ). spelling R.version m ++ l) e) other))

      -- the message decides the reply
      decided : (result : Result S Reason) → read_reply R s (spelling R.version m) ≡ result → read_reply R2 s (spelling w m) ≡ result → result ≢ Err reasons.Closed
          → read_reply R s (spelling R.version m ++ rest) ≢ Err reasons.Closed → IsRespelled R w s (spelling R.version m ++ rest) behind (m ∷ ms)
      decided result own same decides other =
          let none = nothing_more other (λ closed. decides (sym own ∙ closed)) in
          let whole : spelling R.version m ++ rest ≡ spelling R.version m = ap (λ (l : List ℕ). spelling R.version m ++ l) none ∙ append-nil (spelling R.version m) in
          respelled-whole may (spelling R.version m ++ rest) behind whole (ap (λ (l : List ℕ). l ++ behind) (sym none) ∙ follows) (same ∙ sym own ∙ ap (read_reply R s) (sym whole)) other

      by_step : (r : Result (More × S) Reason) → R.step s m ≡ r → ((t : S) → IsCutAt (read_reply R t) rest behind → IsRespelled R w t rest behind ms) → IsRespelled R w s (spelling R.version m ++ rest) behind (m ∷ ms)
      by_step (Err reason) step again =
          let own : (l : List ℕ) → read_reply R s (spelling R.version m ++ l) ≡ Err reason = λ l. read_whole R s m is may l ∙ ap (step_says (read_reply R) l) step in
          let same : (l : List ℕ) → read_reply R2 s (spelling w m ++ l) ≡ Err reason = λ l. read_whole R2 s m also may l ∙ ap (step_says (read_reply R2) l) step in
          elim (closed_or_not reason) [
            | inl closed ↦
                let whole = own rest ∙ ap (λ (x : Reason). Err x) closed in
                respelled-open (spelling R.version m ++ rest) behind (m ∷ ms) whole (cut.closed whole) (ap (read_reply R2 s) (bytes-cons w m ms) ∙ same (bytes_in w ms) ∙ ap (λ (x : Reason). Err x) closed)
            | inr other ↦
                let decides : ◌≡◌ {A = Result S Reason} (Err reason) (Err reasons.Closed) → ⊥ = λ e. other (same_err {X = S} reason reasons.Closed e) in
                decided (Err reason) (ap (read_reply R s) (sym (append-nil (spelling R.version m))) ∙ own []) (ap (read_reply R2 s) (sym (append-nil (spelling w m))) ∙ same []) decides (λ e. decides (sym (own rest) ∙ e))
          ]
      by_step (Ok (mores.Due, t)) step again = due t step (again t (rest_is_cut t (λ l. read_whole R s m is may l ∙ ap (step_says (read_reply R) l) step)))
      by_step (Ok (mores.Complete, t)) step again =
          let own : (l : List ℕ) → read_reply R s (spelling R.version m ++ l) ≡ at_end t l = λ l. read_whole R s m is may l ∙ ap (step_says (read_reply R) l) step in
          let same : (l : List ℕ) → read_reply R2 s (spelling w m ++ l) ≡ at_end t l = λ l. read_whole R2 s m also may l ∙ ap (step_says (read_reply R2) l) step in
          decided (Ok t) (ap (read_reply R s) (sym (append-nil (spelling R.version m))) ∙ own []) (ap (read_reply R2 s) (sym (append-nil (spelling w m))) ∙ same []) (at_end_open t []) (λ e. at_end_open t rest (sym (own rest) ∙ e))

-- every reply whose bytes, and those that follow, are those of messages
pub one_respelled : {S : Type 0} (R : Rules S) (w : Version) (ms : List Message) (s : S) (reply behind : List ℕ) → AreBoth R.version w ms → IsCutAt (read_reply R s) reply behind
    → reply ++ behind ≡ bytes_in R.version ms → IsRespelled R w s reply behind ms
one_respelled R w [] s reply behind are cut e =
    respelled-open R w s reply behind [] (ap (read_reply R s) (nil_first reply behind e) ∙ read_reply-nil R s) (nil_second reply behind e) (read_reply-nil (in_version w R) s)
one_respelled R w (m ∷ ms) s reply behind are cut e =
    by_place (allows (R.place s) (kind_of m)) refl (λ t rest at follows. one_respelled R w ms t rest behind are.2 at follows)
  where
    whole : reply ++ behind ≡ spelling R.version m ++ bytes_in R.version ms
    whole = e ∙ bytes-cons R.version m ms

    Again : Type 0
    Again = (t : _) (rest : List ℕ) → IsCutAt (read_reply R t) rest behind → rest ++ behind ≡ bytes_in R.version ms → IsRespelled R w t rest behind ms

    beyond : IsTrue (allows (R.place s) (kind_of m)) → (rest : List ℕ) → reply ≡ spelling R.version m ++ rest → Again → IsRespelled R w s reply behind (m ∷ ms)
    beyond may rest is again =
        let follows : rest ++ behind ≡ bytes_in R.version ms =
        append_cancel_left (spelling R.version m) (rest ++ behind) (bytes_in R.version ms) (sym (append_assoc (spelling R.version m) rest behind) ∙ ap (λ (l : List ℕ). l ++ behind) (sym is) ∙ whole) in
        subst (λ (r : List ℕ). IsRespelled R w s r behind (m ∷ ms)) (sym is)
        (by_step R w s m ms are.0 are.1 are.2 may rest behind follows (subst (λ (r : List ℕ). IsCutAt (read_reply R s) r behind) is cut) (R.step s m) refl (λ t at. again t rest at follows))

    inside : IsTrue (allows (R.place s) (kind_of m)) → (more : List ℕ) → spelling R.version m ≡ reply ++ more → Again → IsRespelled R w s reply behind (m ∷ ms)
    inside may [] is again = beyond may [] (sym (append-nil reply) ∙ sym is ∙ sym (append-nil (spelling R.version m))) again
    inside may (c ∷ cs) is again =
        let none = cut.closed (read_part R s m are.0 may reply c cs is) in
        absurd (omega (arith, ap length whole, ap length none, ap length is, length-append reply behind, length-append reply (c ∷ cs), length-append (spelling R.version m) (bytes_in R.version ms)))

    by_place : (b : Bool) → allows (R.place s) (kind_of m) ≡ b → Again → IsRespelled R w s reply behind (m ∷ ms)
    by_place false barred again = respelled-stray R w s m ms are.0 are.1 are.2 barred reply behind cut whole
    by_place true may again = elim (two_fronts reply behind (spelling R.version m) (bytes_in R.version ms) whole) [
      | inl x ↦ inside may x.0 x.1 again
      | inr x ↦ beyond may x.0 x.1 again
    ]
