-- What is kept of a run: the head, and then what is heard.
use Rattle.std.proofs.Common.{◌≡◌, ℕ, Option, Some, None, Result, Ok, Err, List, [], ◌∷◌, ◌++◌, refl, sym, ap, subst, ◌∙◌, inl, inr, append_assoc, append-nil}
use Rattle.std.specs.Prelude.{IfErr, IfSome, IsTrue}
use Rattle.sip_ports.specs.declared.port.TalkEvent.{TalkEvent}
use Rattle.sip_ports.specs.Ports.{GoesOn, heard, outs}
use Rattle.sip_ports.proofs.TalkLemmas.{GoesOn-refl, GoesOn-trans, heard-append, outs-append}
use Rattle.sip_replies.specs.Talks.{IsPrefix}
use Rattle.sip_wire.specs.declared.kind.Place.TheVariants as places
use Rattle.sip_wire.specs.declared.version.Version.{Version}
use Rattle.sip_replies.proofs.Framed.{AreFrames-none}
use Rattle.sip_replies.proofs.Reading.{no_frame}
use Rattle.sip_verifier.specs.declared.session.SessionStart.{SessionStart}
use Rattle.sip_verifier.specs.declared.session.SessionStart.TheVariants as starts
use Rattle.sip_verifier.specs.declared.status.Port.TheVariants as ports
use Rattle.sip_verifier.specs.declared.status.Status.{Status}
use Rattle.sip_verifier.specs.declared.status.Status.TheVariants as statuses
use Rattle.sip_verifier.specs.declared.task.Task.{Task}
use Rattle.sip_verifier.specs.Exchanges.{Appends, Exchange}
use Rattle.sip_verifier.specs.Inquiries.{inquiry_of}
use Rattle.sip_verifier.specs.Gathering.{Refuses, IsCut}
use Rattle.sip_verifier.specs.inside.Ending.{status_of_start}
use Rattle.sip_verifier.specs.Keeping.{HeadIsKept, HeadIsCut, KeepsHead, AllIsKept, FramesAreKept, FrontIsKept, KeepsTalk}
use Rattle.sip_verifier.specs.KeepClause.{IsTranscript, HasFrames, IsCutTranscript, Keeps}
use Rattle.sip_verifier.specs.Seats.{Seating}
use Rattle.sip_verifier.specs.Statuses.{stops_asking}
use Rattle.sip_verifier.specs.Talks.{stream_sent, whole_frames}
use Rattle.sip_verifier.specs.TalkClause.{before_end}
use Rattle.sip_verifier.specs.Tasks.{version_of}
use Rattle.sip_verifier.specs.Transcripts.{asks_of, head_of, transcript_of}
use Rattle.sip_verifier.specs.Questions.{updates}
use Rattle.sip_verifier.proofs.HeardTalks.{heard-opening, heard-stream}
use Rattle.sip_verifier.specs.Concluding.{Reports, status_of}
use Rattle.sip_verifier.proofs.KeptQueries.{all_of_whole}
use Rattle.sip_verifier.proofs.RunTalks.{Adds, Moves, said_is, nothing_new, written_is, front_before}

-- ---- fronts of what is heard

-- of a talk in which nothing is heard, nothing is heard in a front
silent_front : (said whole : List TalkEvent) → IsPrefix said whole → heard whole ≡ [] → heard said ≡ []
silent_front said whole (more, is) none = front_of_none (heard said) (heard more) (sym (heard-append said more) ∙ ap heard (sym is) ∙ none)
  where
    front_of_none : (xs ys : List ℕ) → xs ++ ys ≡ [] → xs ≡ []
    front_of_none [] ys e = refl
    front_of_none (x ∷ xs) ys e = absurd cc

-- a front of what may follow is a front behind the same
behind : (xs ys zs : List ℕ) → IsPrefix ys zs → IsPrefix (xs ++ ys) (xs ++ zs)
behind xs ys zs (more, is) = (more, ap (λ (l : List ℕ). xs ++ l) is ∙ sym (append_assoc xs ys more))

-- ---- ports that need not tell

-- bytes that went on a sink are those that it tells are new, where it tells
pub kept_is : (P : List ℕ → Type 0) (old new : Option (List TalkEvent)) (bytes : List ℕ) (kept : Option (List ℕ)) → GoesOn old new (outs bytes) → Appends old new kept → P bytes → IfSome kept P
kept_is P old new bytes None went told is = tt
kept_is P old new bytes (Some k) went told is = subst P (sym (written_is old new bytes k went told)) is

-- ---- that something is written at all

abbrev same_moves : (before now : Option (List TalkEvent)) → now ≡ before → Reports before now
same_moves before now same = ([], subst (λ (o : Option (List TalkEvent)). GoesOn before o []) (sym same) (GoesOn-refl before))

module _ (task : Task) (seed : List ℕ) (before now : Option (List TalkEvent)) where
  abbrev whole : List ℕ → List ℕ
  whole challenges = head_of (version_of task) task.depth (asks_of task challenges)

  pub head_moves : (result : Result Seating Status) → KeepsHead task seed before now result → Reports before now
  head_moves (Ok seats) k = (whole k.challenges, k.wrote)
  head_moves (Err statuses.BadSeed) k = same_moves before now k
  head_moves (Err statuses.SeedSpent) k = same_moves before now k
  head_moves (Err (statuses.ReadFault ports.First)) k = (whole k.challenges, k.wrote)
  head_moves (Err (statuses.ReadFault ports.Second)) k = same_moves before now k
  head_moves (Err (statuses.ReadFault ports.Report)) k = (whole k.challenges, k.wrote)
  head_moves (Err (statuses.ReadFault ports.Keep)) k = (whole k.challenges, k.wrote)
  head_moves (Err (statuses.WriteFault ports.First)) k = (whole k.challenges, k.wrote)
  head_moves (Err (statuses.WriteFault ports.Second)) k = (whole k.challenges, k.wrote)
  head_moves (Err (statuses.WriteFault ports.Report)) k = (whole k.challenges, k.wrote)
  head_moves (Err (statuses.WriteFault ports.Keep)) k = (k.wrote.0, k.wrote.2)
  head_moves (Err statuses.OutOfMemory) (inl same) = same_moves before now same
  head_moves (Err statuses.OutOfMemory) (inr cut) = (cut.wrote.0, cut.wrote.2)
  head_moves (Err _) k = (whole k.challenges, k.wrote)

module _ (version : Version) (old new before now : Option (List TalkEvent)) where
  pub replies_move : (r : Result (Unit {0}) Status) → KeepsTalk old new before now version r → Reports before now
  replies_move (Ok u) k = (heard k.said, k.wrote)
  replies_move (Err (statuses.Rejected query round reason)) k = (heard k.said, k.wrote)
  replies_move (Err (statuses.WriteFault ports.First)) k = (k.wrote.0, k.wrote.2)
  replies_move (Err (statuses.WriteFault ports.Second)) k = (k.wrote.0, k.wrote.2)
  replies_move (Err (statuses.WriteFault ports.Report)) k = (heard k.said, k.wrote)
  replies_move (Err (statuses.WriteFault ports.Keep)) k = (k.wrote.0, k.wrote.2)
  replies_move (Err statuses.PeerFault) k = (k.wrote.whole, k.wrote.kept)
  replies_move (Err _) k = (k.wrote.0, k.wrote.2)

  pub talk_moves : (r : Result (Unit {0}) Status) → KeepsTalk old new before now version r → Moves old new
  talk_moves (Ok u) k = (k.said, k.talk)
  talk_moves (Err (statuses.Rejected query round reason)) k = (k.said, k.talk)
  talk_moves (Err (statuses.WriteFault ports.First)) k = (k.said, k.talk)
  talk_moves (Err (statuses.WriteFault ports.Second)) k = (k.said, k.talk)
  talk_moves (Err (statuses.WriteFault ports.Report)) k = (k.said, k.talk)
  talk_moves (Err (statuses.WriteFault ports.Keep)) k = (k.said, k.talk)
  talk_moves (Err statuses.PeerFault) k = (k.said, k.talk)
  talk_moves (Err _) k = (k.said, k.talk)

-- both, one behind the other
pub both_move : (before during now : Option (List TalkEvent)) → Reports before during → Reports during now → Reports before now
both_move before during now (head, first) (more, then) =
    (head ++ more, subst (GoesOn before now) (sym (outs-append head more)) (GoesOn-trans before during now (outs head) (outs more) first then))

-- ---- what a run keeps

-- these bytes were kept where a run ended so
abbrev pub KeptSo : Task → Exchange → Status → Option (List TalkEvent) → Option (List TalkEvent) → Type 0
KeptSo task x status before now = (bytes : List ℕ) × GoesOn before now (outs bytes) × Keeps task x status bytes

module _ (task : Task) (x : Exchange) where
  abbrev streamed : List TalkEvent
  streamed = stream_sent (version_of task) task.depth (updates (inquiry_of task x) x)

  streamed_silent : heard streamed ≡ []
  streamed_silent = heard-stream (version_of task) task.depth (updates (inquiry_of task x) x)

  -- what is said while the stream is read
  before_silent : heard (before_end (inquiry_of task x) x) ≡ []
  before_silent = heard-opening (version_of task) task.depth (whole_frames (updates (inquiry_of task x) x))

  abbrev head : List ℕ → List ℕ
  head challenges = head_of (version_of task) task.depth (asks_of task challenges)

  -- ---- the head alone, where nothing was heard

  module _ (silent : heard x.talk ≡ []) (before now : Option (List TalkEvent)) where
    head_only : (k : HeadIsKept task x.seed before now) → IsTranscript task x (head k.challenges)
    head_only k = record {
      challenges = k.challenges;
      drawn = k.draws;
      all = sym (append-nil (head k.challenges)) ∙ ap (λ (l : List ℕ). head k.challenges ++ l) (sym silent);
    }

    head_frames : (k : HeadIsKept task x.seed before now) → HasFrames task x (head k.challenges)
    head_frames k = record {
      challenges = k.challenges;
      drawn = k.draws;
      whole = [];
      part = [];
      split = silent;
      frames = AreFrames-none (version_of task);
      cut = (places.Entries, no_frame (version_of task) places.Entries);
      all = sym (append-nil (head k.challenges));
    }

    head_whole : (k : HeadIsKept task x.seed before now) → IsCutTranscript task x (head k.challenges)
    head_whole k = record { challenges = k.challenges; drawn = k.draws; front = (heard x.talk, refl) }

    head_cut : (k : HeadIsCut task x.seed before now) → IsCutTranscript task x k.wrote.0
    head_cut k = record { challenges = k.challenges; drawn = k.draws; front = front_before k.wrote.0 (head k.challenges) (heard x.talk) k.wrote.1 }

  -- ---- a run that ends before its first query

  module _ (old new before now : Option (List TalkEvent)) (told : Adds old new x.talk) where
    cut_silent : IsCut task x.stream old new → heard x.talk ≡ []
    cut_silent cut = ap heard (said_is old new cut.said x.talk cut.talk told) ∙ silent_front cut.said streamed cut.order streamed_silent

    pub gather_kept : (status : Status) → Refuses task x.stream x.seed old new status → KeepsHead task x.seed before now (Err status) → KeptSo task x status before now
    gather_kept statuses.BadSeed refuses k = ([], (same_moves before now k).1, refl)
    gather_kept statuses.SeedSpent refuses k = ([], (same_moves before now k).1, refl)
    gather_kept (statuses.BadStream at why) (seed, breaks) k =
        (head k.challenges, k.wrote, head_only (ap heard (said_is old new _ x.talk breaks.2 told) ∙ before_silent) before now k)
    gather_kept (statuses.ReadFault ports.First) (seed, cut) k =
        (head k.challenges, k.wrote, head_only (ap heard (said_is old new cut.said x.talk cut.talk told) ∙ silent_front cut.said (before_end (inquiry_of task x) x) cut.order before_silent) before now k)
    gather_kept (statuses.ReadFault ports.Second) refuses k = ([], (same_moves before now k).1, refl)
    gather_kept (statuses.ReadFault ports.Report) refuses k = absurd refuses
    gather_kept (statuses.ReadFault ports.Keep) refuses k = absurd refuses
    gather_kept (statuses.WriteFault ports.First) refuses k = absurd refuses
    gather_kept (statuses.WriteFault ports.Second) refuses k = absurd refuses
    gather_kept (statuses.WriteFault ports.Report) refuses k = absurd refuses
    gather_kept (statuses.WriteFault ports.Keep) (seed, same) k =
        (k.wrote.0, k.wrote.2, head_cut (ap heard (nothing_new old new x.talk same told)) before now k)
    gather_kept statuses.PeerFault (seed, cut) k = (head k.challenges, k.wrote, head_frames (cut_silent cut) before now k)
    gather_kept statuses.OutOfMemory refuses (inl same) = ([], (same_moves before now same).1, inl refl)
    gather_kept statuses.OutOfMemory (inl same) (inr k) =
        (k.wrote.0, k.wrote.2, inr (head_cut (ap heard (nothing_new old new x.talk same told)) before now k))
    gather_kept statuses.OutOfMemory (inr (seed, cut)) (inr k) = (k.wrote.0, k.wrote.2, inr (head_cut (cut_silent cut) before now k))
    gather_kept _ refuses k = absurd refuses

  -- there is no session
  pub start_kept : (before now : Option (List TalkEvent)) (start : SessionStart) → x.talk ≡ streamed → HeadIsKept task x.seed before now → KeptSo task x (status_of_start start) before now
  start_kept before now (starts.TooWide query) talk k = (head k.challenges, k.wrote, head_only (ap heard talk ∙ streamed_silent) before now k)
  start_kept before now starts.OutOfMemory talk k = (head k.challenges, k.wrote, inr (head_whole (ap heard talk ∙ streamed_silent) before now k))

  -- ---- a run that came to its queries

  module _ (t0 t1 t2 k0 k1 k2 : Option (List TalkEvent)) (went : GoesOn t0 t1 streamed) (told : Adds t0 t2 x.talk) (k : HeadIsKept task x.seed k0 k1) where
    -- all that was heard, was heard behind the stream
    heard_is : (said : List TalkEvent) → GoesOn t1 t2 said → heard x.talk ≡ heard said
    heard_is said asked =
        ap heard (said_is t0 t2 _ x.talk (GoesOn-trans t0 t1 t2 streamed said went asked) told)
        ∙ heard-append streamed said
        ∙ ap (λ (l : List ℕ). l ++ heard said) streamed_silent

    -- the head and these bytes were written
    wrote_more : (more : List ℕ) → GoesOn k1 k2 (outs more) → GoesOn k0 k2 (outs (transcript_of task k.challenges more))
    wrote_more more then = subst (GoesOn k0 k2) (sym (outs-append (head k.challenges) more)) (GoesOn-trans k0 k1 k2 (outs (head k.challenges)) (outs more) k.wrote then)

    all_kept : (a : AllIsKept t1 t2 k1 k2) → IsTranscript task x (transcript_of task k.challenges (heard a.said))
    all_kept a = record { challenges = k.challenges; drawn = k.draws; all = ap (transcript_of task k.challenges) (sym (heard_is a.said a.talk)) }

    module _ (f : FrontIsKept t1 t2 k1 k2) where
      front_heard : IsPrefix f.wrote.0 (heard x.talk)
      front_heard = subst (IsPrefix f.wrote.0) (sym (heard_is f.said f.talk)) f.wrote.1

      front_cut : IsCutTranscript task x (transcript_of task k.challenges f.wrote.0)
      front_cut = record { challenges = k.challenges; drawn = k.draws; front = behind (head k.challenges) f.wrote.0 (heard x.talk) front_heard }

    frames_kept : (f : FramesAreKept t1 t2 k1 k2 (version_of task)) → HasFrames task x (transcript_of task k.challenges f.wrote.whole)
    frames_kept f = record {
      challenges = k.challenges;
      drawn = k.draws;
      whole = f.wrote.whole;
      part = f.wrote.part;
      split = heard_is f.said f.talk ∙ f.wrote.split;
      frames = f.wrote.frames;
      cut = f.wrote.cut;
      all = refl;
    }

    -- what came of the queries
    pub asked_kept : (r : Result (Unit {0}) Status) → IfErr r (λ status. IsTrue (stops_asking status)) → KeepsTalk t1 t2 k1 k2 (version_of task) r → KeptSo task x (status_of r) k0 k2
    asked_kept (Ok u) is w =
        let a = all_of_whole t1 t2 k1 k2 (version_of task) w in
        (transcript_of task k.challenges (heard a.said), wrote_more (heard a.said) a.wrote, all_kept a)
    asked_kept (Err (statuses.Rejected query round reason)) is a = (transcript_of task k.challenges (heard a.said), wrote_more (heard a.said) a.wrote, all_kept a)
    asked_kept (Err (statuses.WriteFault ports.First)) is f = absurd (let no = is in cc)
    asked_kept (Err (statuses.WriteFault ports.Second)) is f = absurd (let no = is in cc)
    asked_kept (Err (statuses.WriteFault ports.Report)) is a = (transcript_of task k.challenges (heard a.said), wrote_more (heard a.said) a.wrote, all_kept a)
    asked_kept (Err (statuses.WriteFault ports.Keep)) is f = (transcript_of task k.challenges f.wrote.0, wrote_more f.wrote.0 f.wrote.2, front_cut f)
    asked_kept (Err statuses.PeerFault) is f = (transcript_of task k.challenges f.wrote.whole, wrote_more f.wrote.whole f.wrote.kept, frames_kept f)
    asked_kept (Err statuses.OutOfMemory) is f = (transcript_of task k.challenges f.wrote.0, wrote_more f.wrote.0 f.wrote.2, inr (front_cut f))
    asked_kept (Err _) is f = absurd (let no = is in cc)
