-- How many bytes the replies to a query for a sub-vector have.
use Rattle.std.proofs.Common.{◌≡◌, ℕ, ◌+◌, ◌-◌, ◌*◌, ◌<◌, ◌≤◌, true, Ok, Err, List, [], ◌∷◌, ◌++◌, length, refl, ap, subst, ◌∙◌, arith, length-append}
use Rattle.sip_vector.specs.declared.update.Entry.{Entry}
use Rattle.sip_wire.specs.declared.kind.Kind.{Kind}
use Rattle.sip_wire.specs.declared.kind.Kind.TheVariants as kinds
use Rattle.sip_wire.specs.declared.kind.Place.TheVariants as places
use Rattle.sip_wire.specs.declared.message.Message.{Message}
use Rattle.sip_wire.specs.declared.message.Message.TheVariants as messages
use Rattle.sip_wire.specs.declared.message.Reason.TheVariants as reasons
use Rattle.sip_wire.specs.declared.message.WireFault.{WireFault}
use Rattle.sip_wire.specs.declared.version.Version.{Version}
use Rattle.sip_wire.specs.declared.version.Version.TheVariants.{One, Two}
use Rattle.sip_wire.specs.Reading.{read_frame}
use Rattle.sip_wire.specs.Spelling.{mark_of}
use Rattle.sip_wire.specs.Table.{allows, entry_fields, most_rows, size}
use Rattle.sip_replies.specs.declared.check.More.TheVariants as mores
use Rattle.sip_replies.specs.Replies.{joined, reason_of}
use Rattle.sip_replies.proofs.Passing.{step_passed}
use Rattle.sip_subvec.specs.AcceptsSub.{Siblings, Stated}
use Rattle.sip_subvec.specs.Asking.{most_answer}
use Rattle.sip_subvec.specs.Checking.{nothing}
use Rattle.sip_subvec.specs.Counting.{rise_within}
use Rattle.sip_subvec.specs.LawProofs.ReplyTests.{sub_tests}
use Rattle.sip_subvec.specs.Protocol.{place_of, sub_asked, sub_rules, sub_step}
use Rattle.sip_subvec.specs.Replies.{asked_siblings, most_entries, with_entries}
use Rattle.sip_subvec.proofs.RisingEntries.{entries-taken}
use Rattle.sip_subvec.proofs.RoomForEntries.{rise-few, taken-few}
use Rattle.sip_subvec.proofs.StatedEntries.{rise-nil}
use Rattle.sip_verifier.specs.ReplyBound.{most_entry_bytes, rows_frame}
use Rattle.sip_verifier.proofs.FrameSizes.{read_frame-size}
use Rattle.sip_verifier.proofs.PlaceSizes.{at_entries, at_siblings, cut_most, entries_most, siblings_most}
use Rattle.sip_verifier.proofs.ReplySizes.{Sizes, replies_size, same_due}
use Rattle.sip_verifier.proofs.TakenReplies.{AreTaken}

-- ---- how many entries pass

-- the entries so far rise within the interval, and are no more than an answer may have
pub record HasFew (lo hi : ℕ) (s : Stated) : Type 0 where
  pub rise : rise_within lo hi s.entries ≡ true
  pub few : length s.entries ≤ most_entries

-- so many bytes are left for entries: none once the siblings of reply 0 came
abbrev pub left_of : Version → ℕ → ℕ → List Siblings → ℕ → ℕ
left_of version lo hi [] count = rows_frame (entry_fields version) 1 * (most_answer lo hi - count)
left_of version lo hi (x ∷ xs) count = 0

abbrev pub entries_left : Version → ℕ → ℕ → Stated → ℕ
entries_left version lo hi s = left_of version lo hi s.siblings (length s.entries)

-- k rows in one frame are no more than k frames of one
rows_less : (version : Version) (m b k n rest bytes : ℕ) → 1 ≤ k → b + k ≤ m → n ≡ b + k
    → bytes ≡ 3 + (2 + k * size (entry_fields version)) + rest
    → bytes + rows_frame (entry_fields version) 1 * (m - n) ≤ rows_frame (entry_fields version) 1 * (m - b) + rest
rows_less One m b k n rest bytes some most is long = omega (arith, some, most, is, long)
rows_less Two m b k n rest bytes some most is long = omega (arith, some, most, is, long)

module _ (version : Version) (lo hi : ℕ) where
  heard_entries : (kind : Kind) → allows places.Entries kind ≡ true → allows places.ToVerifier kind ≡ true
  heard_entries kinds.Entries a = refl
  heard_entries kinds.Siblings a = refl
  heard_entries kinds.Refuse a = refl
  heard_entries kinds.Open a = absurd cc
  heard_entries kinds.Updates a = absurd cc
  heard_entries kinds.EndStream a = absurd cc
  heard_entries kinds.Query a = absurd cc
  heard_entries kinds.Reveal a = absurd cc
  heard_entries kinds.Bye a = absurd cc
  heard_entries kinds.Claim a = absurd cc
  heard_entries kinds.Poly a = absurd cc
  heard_entries kinds.Leaves a = absurd cc
  heard_entries kinds.Nodes a = absurd cc
  heard_entries kinds.LevelEnd a = absurd cc
  heard_entries kinds.AskLook a = absurd cc
  heard_entries kinds.Found a = absurd cc
  heard_entries kinds.End a = absurd cc
  heard_entries kinds.AskMoment a = absurd cc
  heard_entries kinds.Held a = absurd cc
  heard_entries kinds.Recall a = absurd cc
  heard_entries kinds.Marks a = absurd cc
  heard_entries (kinds.Power degree) a = absurd cc

  heard_siblings : (kind : Kind) → allows places.Siblings kind ≡ true → allows places.ToVerifier kind ≡ true
  heard_siblings kinds.Siblings a = refl
  heard_siblings kinds.Refuse a = refl
  heard_siblings kinds.Open a = absurd cc
  heard_siblings kinds.Updates a = absurd cc
  heard_siblings kinds.EndStream a = absurd cc
  heard_siblings kinds.Query a = absurd cc
  heard_siblings kinds.Reveal a = absurd cc
  heard_siblings kinds.Bye a = absurd cc
  heard_siblings kinds.Claim a = absurd cc
  heard_siblings kinds.Poly a = absurd cc
  heard_siblings kinds.Entries a = absurd cc
  heard_siblings kinds.Leaves a = absurd cc
  heard_siblings kinds.Nodes a = absurd cc
  heard_siblings kinds.LevelEnd a = absurd cc
  heard_siblings kinds.AskLook a = absurd cc
  heard_siblings kinds.Found a = absurd cc
  heard_siblings kinds.End a = absurd cc
  heard_siblings kinds.AskMoment a = absurd cc
  heard_siblings kinds.Held a = absurd cc
  heard_siblings kinds.Recall a = absurd cc
  heard_siblings kinds.Marks a = absurd cc
  heard_siblings (kinds.Power degree) a = absurd cc

  heard_sub : (xs : List Siblings) (kind : Kind) → allows (place_of xs) kind ≡ true → allows places.ToVerifier kind ≡ true
  heard_sub [] kind a = heard_entries kind a
  heard_sub (x ∷ xs) kind a = heard_siblings kind a

  abbrev state : List Entry → List Siblings → Stated
  state es xs = record { entries = es; siblings = xs }

  -- entries go on in reply 0 alone
  due : (es : List Entry) (xs : List Siblings) (t : Stated) (m : Message) (bytes rest : List ℕ) → HasFew lo hi (state es xs)
      → read_frame version (place_of xs) bytes ≡ Ok (m, rest) → sub_step lo hi (state es xs) m ≡ Ok (mores.Due, t)
      → HasFew lo hi t × (length bytes + entries_left version lo hi t ≤ left_of version lo hi xs (length es) + length rest)
  due es [] t (messages.Entries v) bytes rest h read e =
      let a = step_passed (with_entries lo hi es v.items) (λ all. Ok (mores.Due, state all [])) (mores.Due, t) e in
      let same : state a.x [] ≡ t = (same_due mores.Due mores.Due (state a.x []) t a.then).1 in
      let size_is = read_frame-size version places.Entries bytes (messages.Entries v) rest heard_entries read in
      let many = entries_most version (length v.items) size_is.is_mark in
      let taken = entries-taken lo hi es v.items a.x h.rise a.first in
      let few = taken-few lo hi es v.items a.x h.few a.first in
      let count : length a.x ≡ length es + length v.items = ap length taken.1 ∙ length-append es v.items in
      let room : length a.x ≤ most_answer lo hi = omega (arith, rise-few lo hi a.x taken.0, few) in
      subst (λ (s : Stated). HasFew lo hi s × (length bytes + entries_left version lo hi s ≤ left_of version lo hi [] (length es) + length rest)) same (
        record { rise = taken.0; few = few },
        rows_less version (most_answer lo hi) (length es) (length v.items) (length a.x) (length rest) (length bytes) many.0 (omega (arith, count, room)) count (omega (arith, size_is.long, many.1)),
      )
  due es (x ∷ xs) t (messages.Entries v) bytes rest h read e = absurd cc
  due es xs t (messages.Siblings l r) bytes rest h read e =
      let a = step_passed (asked_siblings _ _ (record { left = l; right = r })) (λ x. Ok (mores.Complete, state es (xs ++ x ∷ []))) (mores.Due, t) e in absurd (let both = (same_due mores.Complete mores.Due _ t a.then).0 in cc)
  due es xs t (messages.Refuse code) bytes rest h read e = absurd cc
  due es xs t (messages.Open v d) bytes rest h read e = absurd cc
  due es xs t (messages.Updates us) bytes rest h read e = absurd cc
  due es xs t messages.EndStream bytes rest h read e = absurd cc
  due es xs t (messages.Query q) bytes rest h read e = absurd cc
  due es xs t (messages.Reveal r) bytes rest h read e = absurd cc
  due es xs t messages.Bye bytes rest h read e = absurd cc
  due es xs t (messages.Claim v) bytes rest h read e = absurd cc
  due es xs t (messages.Poly a b c) bytes rest h read e = absurd cc
  due es xs t (messages.Leaves v) bytes rest h read e = absurd cc
  due es xs t (messages.Nodes v) bytes rest h read e = absurd cc
  due es xs t messages.LevelEnd bytes rest h read e = absurd cc
  due es xs t (messages.AskLook code item) bytes rest h read e = absurd cc
  due es xs t (messages.Found flag index) bytes rest h read e = absurd cc
  due es xs t messages.End bytes rest h read e = absurd cc
  due es xs t (messages.AskMoment side degree) bytes rest h read e = absurd cc
  due es xs t (messages.Held held) bytes rest h read e = absurd cc
  due es xs t (messages.Recall count) bytes rest h read e = absurd cc
  due es xs t (messages.Marks v) bytes rest h read e = absurd cc
  due es xs t (messages.Power v) bytes rest h read e = absurd cc

  none_left : (xs : List Siblings) (x : Siblings) (count : ℕ) → left_of version lo hi (xs ++ x ∷ []) count ≤ 0
  none_left [] x count = omega arith
  none_left (y ∷ xs) x count = omega arith

  -- siblings complete each reply, and after them no entry comes
  complete : (es : List Entry) (xs : List Siblings) (t : Stated) (m : Message) (bytes rest : List ℕ) → HasFew lo hi (state es xs)
      → read_frame version (place_of xs) bytes ≡ Ok (m, rest) → sub_step lo hi (state es xs) m ≡ Ok (mores.Complete, t)
      → (length bytes ≤ 20 + length rest) × ((r : ℕ) → HasFew lo hi t × (entries_left version lo hi t ≤ 0))
  complete es [] t (messages.Entries v) bytes rest h read e =
      let a = step_passed (with_entries lo hi es v.items) (λ all. Ok (mores.Due, state all [])) (mores.Complete, t) e in absurd (let both = (same_due mores.Due mores.Complete _ t a.then).0 in cc)
  complete es (x ∷ xs) t (messages.Entries v) bytes rest h read e = absurd cc
  complete es xs t (messages.Siblings l r) bytes rest h read e =
      let a = step_passed (asked_siblings _ _ (record { left = l; right = r })) (λ x. Ok (mores.Complete, state es (xs ++ x ∷ []))) (mores.Complete, t) e in
      let same : state es (xs ++ a.x ∷ []) ≡ t = (same_due mores.Complete mores.Complete _ t a.then).1 in
      let size_is = read_frame-size version (place_of xs) bytes (messages.Siblings l r) rest (heard_sub xs) read in (
        omega (arith, size_is.long, siblings_most (mark_of (messages.Siblings l r)) size_is.is_mark),
        λ r. subst (λ (s : Stated). HasFew lo hi s × (entries_left version lo hi s ≤ 0)) same (record { rise = h.rise; few = h.few }, none_left xs a.x (length es)),
      )
  complete es xs t (messages.Refuse code) bytes rest h read e = absurd cc
  complete es xs t (messages.Open v d) bytes rest h read e = absurd cc
  complete es xs t (messages.Updates us) bytes rest h read e = absurd cc
  complete es xs t messages.EndStream bytes rest h read e = absurd cc
  complete es xs t (messages.Query q) bytes rest h read e = absurd cc
  complete es xs t (messages.Reveal r) bytes rest h read e = absurd cc
  complete es xs t messages.Bye bytes rest h read e = absurd cc
  complete es xs t (messages.Claim v) bytes rest h read e = absurd cc
  complete es xs t (messages.Poly a b c) bytes rest h read e = absurd cc
  complete es xs t (messages.Leaves v) bytes rest h read e = absurd cc
  complete es xs t (messages.Nodes v) bytes rest h read e = absurd cc
  complete es xs t messages.LevelEnd bytes rest h read e = absurd cc
  complete es xs t (messages.AskLook code item) bytes rest h read e = absurd cc
  complete es xs t (messages.Found flag index) bytes rest h read e = absurd cc
  complete es xs t messages.End bytes rest h read e = absurd cc
  complete es xs t (messages.AskMoment side degree) bytes rest h read e = absurd cc
  complete es xs t (messages.Held held) bytes rest h read e = absurd cc
  complete es xs t (messages.Recall count) bytes rest h read e = absurd cc
  complete es xs t (messages.Marks v) bytes rest h read e = absurd cc
  complete es xs t (messages.Power v) bytes rest h read e = absurd cc

  cut : (xs : List Siblings) (bytes : List ℕ) (fault : WireFault) → read_frame version (place_of xs) bytes ≡ Err fault → reason_of fault ≡ reasons.Closed
      → length bytes < rows_frame (entry_fields version) most_rows
  cut [] bytes fault e closed = cut_most version places.Entries bytes fault _ (omega arith) (at_entries version) e closed
  cut (x ∷ xs) bytes fault e closed = omega (arith, cut_most version places.Siblings bytes fault 20 (omega arith) (at_siblings version) e closed)

  sub_sizes : Sizes (sub_rules version lo hi) (HasFew lo hi) (entries_left version lo hi) 0 20 (rows_frame (entry_fields version) most_rows)
  sub_sizes = record {
    due = λ s t m bytes rest h read e. due s.entries s.siblings t m bytes rest h read e;
    complete = λ s t m bytes rest h read e. complete s.entries s.siblings t m bytes rest h read e;
    cut = λ s bytes fault h e closed. cut s.siblings bytes fault e closed;
    tests = λ s m reason e. sub_tests (sub_asked version 0 0 lo hi []) s m reason e;
  }

  -- before the first entry all are left
  start_left : entries_left version lo hi nothing ≤ rows_frame (entry_fields version) 1 * most_answer lo hi
  start_left = let all : most_answer lo hi - 0 ≡ most_answer lo hi = omega arith in rw all (omega arith)

  -- The replies to a query for the entries from lo to hi have no more bytes than these.
  pub entries_short : (rs : List ℕ) (replies : List (List ℕ)) → AreTaken (sub_rules version lo hi) rs replies → length (joined replies) ≤ most_entry_bytes version (length rs) lo hi
  entries_short rs replies taken =
      omega (
        arith,
        replies_size (sub_rules version lo hi) (HasFew lo hi) (entries_left version lo hi) 0 20 (rows_frame (entry_fields version) most_rows) sub_sizes
            rs (rows_frame (entry_fields version) 1 * most_answer lo hi) replies (omega arith) (record { rise = rise-nil lo hi; few = omega arith }) start_left taken,
      )
