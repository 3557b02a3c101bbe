-- What a call did that begins a sketch, watches a stream for it or adds up its parts is a run over its file.
use Rattle.std.proofs.Common.{◌≡◌, ℕ, true, List, [], ◌∷◌, length, take, flat_map, All, Option, Some, None, inl, inr, refl, sym, subst, ◌∙◌, append-nil, take_all, arith}
use Rattle.std.specs.Prelude.{Contains, bytes_eq, ◌==◌, ◌&&◌}
use Rattle.std.specs.Cmp.Lexicographic.{pointwise}
use Rattle.std.specs.List.{AllZip}
use Rattle.std.proofs.lemmas.Bool.{and_from, and_parts, eq-eqb}
use Rattle.std.proofs.lemmas.List.Elements.{All-cons, All-nil}
use Rattle.std.proofs.lemmas.Slice.Eq.{bytes_eq-Decides}
use Rattle.sip_ports.specs.Desk.{Loads, may_hold, steps}
use Rattle.sip_ports.specs.Ports.{GoesOn}
use Rattle.sip_ports.specs.declared.port.TalkEvent.{TalkEvent}
use Rattle.sip_stream.specs.declared.form.Form.{Form}
use Rattle.sip_vector.specs.declared.update.Update.{Update}
use Rattle.sip_sketch.specs.Beginnings as beginnings
use Rattle.sip_sketch.specs.Beginnings.{Begins}
use Rattle.sip_sketch.specs.Joining.{same_seat, same_shape}
use Rattle.sip_sketch.specs.Merging as merging
use Rattle.sip_sketch.specs.Merging.{HasUsed, IsThere, Merges}
use Rattle.sip_sketch.specs.Sketches.{IsSketch, SeatValues, SketchValues, code_of, spelled_file}
use Rattle.sip_sketch.specs.Watching as watching
use Rattle.sip_sketch.specs.Watching.{IsFileAt, Watches}
use Rattle.sip_sketch.specs.declared.kind.SeatKind.{SeatKind}
use Rattle.sip_sketch.specs.declared.parts.Parts.{Parts}
use Rattle.sip_sketch.specs.declared.status.SketchPort.TheVariants as ports
use Rattle.sip_sketch.specs.declared.status.SketchStatus.{SketchStatus}
use Rattle.sip_sketch.specs.declared.status.SketchStatus.TheVariants as statuses
use Rattle.sip_sketch.proofs.Alike.{seats_block, seats_kind}
use Rattle.sip_sketch.proofs.Shapes.{shape_of_sketch}
use Rattle.sip_ask.specs.Marking.{KeepsUsed}
use Rattle.sip_ask.specs.Runs.{Follows, stores}
use Rattle.sip_ask.proofs.AskRuns.{IsARun, held-whole, idle-run}
use Rattle.sip_ask.proofs.HonestFile.{file-once}

-- ---- files that follow a sketch

-- the file of a sketch that keeps the used seats of the loaded one
follows : (s now : SketchValues) (file : List ℕ) → IsSketch s → IsSketch now → file ≡ spelled_file now → KeepsUsed s now → Follows (Some (spelled_file s)) file
follows s now file is it spelled keeps = λ was is_was same.
    let one : spelled_file s ≡ spelled_file was = cc in
    (now, it, spelled, subst (λ (x : SketchValues). KeepsUsed x now) (file-once s was is is_was one) keeps)

-- any file follows where none was loaded
follows-none : (file : List ℕ) → Follows None file
follows-none file = λ was is same. absurd cc

-- the kept seats are the same
kept-used : (old new : List SeatValues) → AllZip (λ was now. (now.kind ≡ was.kind) × (now.is_used ≡ was.is_used) × (now.block ≡ was.block)) old new
    → AllZip (λ was now. (now.kind ≡ was.kind) × (now.block ≡ was.block) × (was.is_used ≡ true → now.is_used ≡ true)) old new
kept-used [] [] all = tt
kept-used [] (x ∷ xs) all = absurd all
kept-used (x ∷ xs) [] all = absurd all
kept-used (x ∷ xs) (y ∷ ys) (here, rest) = ((here.0, here.2, λ used. here.1 ∙ used), kept-used xs ys rest)

-- a sketch has its own shape
own-seats : (seats : List SeatValues) → pointwise same_seat seats seats ≡ true
own-seats [] = refl
own-seats (s ∷ seats) =
    and_from (same_seat s s) (pointwise same_seat seats seats)
    (and_from (code_of s.kind == code_of s.kind) (bytes_eq s.block s.block) (eq-eqb (code_of s.kind) (code_of s.kind) refl) ((bytes_eq-Decides s.block s.block).1 refl))
    (own-seats seats)

own-shape : (s : SketchValues) → same_shape s s ≡ true
own-shape s =
    and_from (s.depth == s.depth) ((s.parts.count == s.parts.count) && pointwise same_seat s.seats s.seats) (eq-eqb s.depth s.depth refl)
    (and_from (s.parts.count == s.parts.count) (pointwise same_seat s.seats s.seats) (eq-eqb s.parts.count s.parts.count refl) (own-seats s.seats))

-- ---- a run that stores files

module _ (start : Option (List ℕ)) (talk : List TalkEvent) (new : Option (List TalkEvent)) where
  storing : (content : Option (List ℕ)) (files : List (List ℕ)) (count : ℕ) → Contains (may_hold start talk) content → All (Follows content) files
      → GoesOn (Some talk) new (take count (flat_map steps files)) → IsARun start talk new
  storing content files count has follow goes = (record { loaded = content; deed = stores files; count = count }, (has, follow), goes)

  -- all of it
  storing-all : (content : Option (List ℕ)) (files : List (List ℕ)) → Contains (may_hold start talk) content → All (Follows content) files
      → GoesOn (Some talk) new (flat_map steps files) → IsARun start talk new
  storing-all content files has follow goes =
      storing content files (length (flat_map steps files)) has follow
      (subst (GoesOn (Some talk) new) (sym (take_all (length (flat_map steps files)) (flat_map steps files) (omega arith))) goes)

  -- of one file
  one-file : (content : Option (List ℕ)) (file : List ℕ) → Contains (may_hold start talk) content → Follows content file → GoesOn (Some talk) new (steps file) → IsARun start talk new
  one-file content file has follow goes =
      storing-all content (file ∷ []) has (All-cons (Follows content) file [] follow (All-nil (Follows content))) (subst (GoesOn (Some talk) new) (sym (append-nil (steps file))) goes)

  part-file : (content : Option (List ℕ)) (file : List ℕ) (count : ℕ) → Contains (may_hold start talk) content → Follows content file
      → GoesOn (Some talk) new (take count (steps file)) → IsARun start talk new
  part-file content file count has follow goes =
      storing content (file ∷ []) count has (All-cons (Follows content) file [] follow (All-nil (Follows content)))
      (subst (λ (es : List TalkEvent). GoesOn (Some talk) new (take count es)) (sym (append-nil (steps file))) goes)

  -- where nothing was loaded the file may be missing
  missing : Loads start (Some talk) None → Contains (may_hold start talk) None
  missing (None, has, same) = has
  missing (Some bytes, has, same) = absurd (let no = same in cc)

  -- ---- begin

  module _ (depth : ℕ) (part : Parts) (kinds : List SeatKind) (left : Option (List ℕ)) where
    cut-begin : Loads start (Some talk) None → beginnings.IsCut depth part kinds left (Some talk) new → IsARun start talk new
    cut-begin loads c = part-file None c.file c.count (missing loads) (follows-none c.file) c.talk

    pub begin-run : (status : SketchStatus) → Begins depth part kinds left start (Some talk) new status → IsARun start talk new
    begin-run statuses.Wrote (loads, s) = one-file None s.file (missing loads) (follows-none s.file) s.talk
    begin-run statuses.Exists (bytes, loads, same) = idle-run start talk new same
    begin-run statuses.BadSeed (loads, short, same) = idle-run start talk new same
    begin-run statuses.SeedSpent (loads, spent, same) = idle-run start talk new same
    begin-run statuses.Busy same = idle-run start talk new same
    begin-run (statuses.ReadFault ports.Second) (loads, same) = idle-run start talk new same
    begin-run (statuses.ReadFault ports.Sketch) same = idle-run start talk new same
    begin-run (statuses.WriteFault ports.Sketch) (loads, c) = cut-begin loads c
    begin-run statuses.OutOfMemory (inl same) = idle-run start talk new same
    begin-run statuses.OutOfMemory (inr (loads, c)) = cut-begin loads c
    begin-run _ none = absurd none

  -- ---- watch

  module _ (form : Form) (at every : Option ℕ) (left left' : Option (List ℕ)) where
    -- each file that was stored follows the loaded sketch
    files-follow : (s : SketchValues) → IsSketch s → (added : List Update) (counts : List ℕ) (files : List (List ℕ)) → AllZip (IsFileAt s added) counts files
        → All (Follows (Some (spelled_file s))) files
    files-follow s is added [] [] each = All-nil (Follows (Some (spelled_file s)))
    files-follow s is added [] (file ∷ files) each = absurd each
    files-follow s is added (n ∷ counts) [] each = absurd each
    files-follow s is added (n ∷ counts) (file ∷ files) (here, rest) =
        All-cons (Follows (Some (spelled_file s))) file files
        (follows s here.now file is here.is here.spelled (kept-used s.seats here.now.seats here.grown.kept.seats)) (files-follow s is added counts files rest)

    abbrev Opened : SketchValues → Type 0
    Opened s = watching.IsOpened form at every start left (Some talk) s

    stored-watch : (s : SketchValues) → Opened s → (added : List Update) → watching.IsStored every s added (Some talk) new → IsARun start talk new
    stored-watch s o added k =
        storing-all (Some (spelled_file s)) k.files (held-whole start talk new s o.is o.loads) (files-follow s o.is added (watching.due every (length added)) k.files k.each) k.talk

    cut-watch : (s : SketchValues) → Opened s → (added : List Update) → watching.IsCut every s added (Some talk) new → IsARun start talk new
    cut-watch s o added k =
        storing (Some (spelled_file s)) k.files k.count (held-whole start talk new s o.is o.loads) (files-follow s o.is added (watching.due every (length added)) k.files k.each) k.talk

    pub watch-run : (status : SketchStatus) → Watches form at every start left (Some talk) left' new status → IsARun start talk new
    watch-run statuses.Wrote (s, o, added, k, read) = stored-watch s o added k
    watch-run (statuses.BadSketch part offset) (first, file, loads, bad, (unread, same)) = idle-run start talk new same
    watch-run statuses.Busy (unread, same) = idle-run start talk new same
    watch-run (statuses.BadStart records is_sum) (s, is, loads, own, none, (unread, same)) = idle-run start talk new same
    watch-run (statuses.Behind number) (s, o, added, (none, same), read) = idle-run start talk new same
    watch-run (statuses.BadStream number why) (s, o, added, k, read) = stored-watch s o added k
    watch-run (statuses.ReadFault ports.First) (s, o, added, k, read) = stored-watch s o added k
    watch-run (statuses.ReadFault ports.Sketch) (unread, same) = idle-run start talk new same
    watch-run (statuses.WriteFault ports.Sketch) (s, o, added, k, read) = cut-watch s o added k
    watch-run statuses.OutOfMemory (inl (unread, same)) = idle-run start talk new same
    watch-run statuses.OutOfMemory (inr (inl (s, o, added, k, read))) = stored-watch s o added k
    watch-run statuses.OutOfMemory (inr (inr (s, o, added, k, read))) = cut-watch s o added k
    watch-run _ none = absurd none

  -- ---- merge

  module _ (files : Option (ℕ → Option (List ℕ))) (count : ℕ) where
    -- seats of one shape have their kinds and their challenges
    alike-used : (old new : List SeatValues) → pointwise same_seat new old ≡ true
        → AllZip (λ was now. (now.is_used ≡ was.is_used) × (was.is_used ≡ true → now ≡ was)) old new
        → AllZip (λ was now. (now.kind ≡ was.kind) × (now.block ≡ was.block) × (was.is_used ≡ true → now.is_used ≡ true)) old new
    alike-used [] [] same all = tt
    alike-used [] (y ∷ ys) same all = absurd all
    alike-used (x ∷ xs) [] same all = absurd all
    alike-used (x ∷ xs) (y ∷ ys) same (here, rest) =
        let both = and_parts (same_seat y x) (pointwise same_seat ys xs) same in
        ((sym (seats_kind y x both.0), sym (seats_block y x both.0), λ used. here.0 ∙ used), alike-used xs ys both.1 rest)

    sum-follows : (sketch : Option SketchValues) (parts : List SketchValues) (sum : SketchValues) → merging.IsNew files count start (Some talk) sketch parts sum
        → (content : Option (List ℕ)) × Contains (may_hold start talk) content × Follows content (spelled_file sum)
    sum-follows None parts sum n = (None, missing n.summed.there, follows-none (spelled_file sum))
    sum-follows (Some s) parts sum n =
        let there = n.summed.there in
        let shape : same_shape sum s ≡ true = shape_of_sketch s parts sum s n.summed.sums ∙ own-shape s in
        let depths = and_parts (sum.depth == s.depth) ((sum.parts.count == s.parts.count) && pointwise same_seat sum.seats s.seats) shape in
        let seats = and_parts (sum.parts.count == s.parts.count) (pointwise same_seat sum.seats s.seats) depths.1 in (
          Some (spelled_file s),
          held-whole start talk new s there.0 there.1,
          follows s sum (spelled_file sum) there.0 n.is refl (alike-used s.seats sum.seats seats.1 n.used),
        )

    stored-merge : merging.IsStored files count start (Some talk) new → IsARun start talk new
    stored-merge (sketch, parts, sum, n, goes) =
        let f = sum-follows sketch parts sum n in
        one-file f.0 (spelled_file sum) f.1 f.2 goes

    cut-merge : merging.IsCut files count start (Some talk) new → IsARun start talk new
    cut-merge (sketch, parts, sum, n, (k, short, goes)) =
        let f = sum-follows sketch parts sum n in
        part-file f.0 (spelled_file sum) k f.1 f.2 goes

    pub merge-run : (status : SketchStatus) → Merges files count start (Some talk) new status → IsARun start talk new
    merge-run statuses.Wrote k = stored-merge k
    merge-run (statuses.BadSketch number offset) (bad, same) = idle-run start talk new same
    merge-run statuses.Busy same = idle-run start talk new same
    merge-run (statuses.Unlike number why) (refused, same) = idle-run start talk new same
    merge-run (statuses.ReadFault ports.Sketch) same = idle-run start talk new same
    merge-run (statuses.ReadFault (ports.Part number)) (next, same) = idle-run start talk new same
    merge-run (statuses.WriteFault ports.Sketch) k = cut-merge k
    merge-run statuses.OutOfMemory (inl same) = idle-run start talk new same
    merge-run statuses.OutOfMemory (inr k) = cut-merge k
    merge-run _ none = absurd none
