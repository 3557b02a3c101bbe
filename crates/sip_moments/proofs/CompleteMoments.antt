-- A run of moments that heard honest replies is accepted, with the moments of the stream.
use Rattle.std.proofs.Common.{◌≡◌, ◌≢◌, ℕ, ◌*◌, ◌≤◌, ℤ, List, [], ◌∷◌, ◌++◌, length, All, None, Some, refl, ap, ◌∙◌, arith}
use Rattle.std.proofs.lemmas.List.{length-map}
use Rattle.std.proofs.lemmas.List.Elements.{All-head, All-tail}
use Rattle.sip_field.specs.Moduli.{m61_modulus}
use Rattle.sip_stream.specs.Records.{records}
use Rattle.sip_stream.proofs.LegalRecords.{records_legal}
use Rattle.sip_vector.specs.declared.update.Update.{Update}
use Rattle.sip_vector.specs.Answers.{number}
use Rattle.sip_vector.specs.Pieces.{cut}
use Rattle.sip_vector.specs.Streams.{IsLegal}
use Rattle.sip_vector.proofs.Sides.{length-vector}
use Rattle.sip_wire.specs.declared.message.Reason.TheVariants as reasons
use Rattle.sip_wire.specs.declared.version.Version.{Version}
use Rattle.sip_replies.specs.Protocols.{Protocol}
use Rattle.sip_replies.specs.Replies as general
use Rattle.sip_replies.specs.Replies.{Fault, joined}
use Rattle.sip_replies.proofs.Hearing.{heard-asked}
use Rattle.sip_verifier.specs.declared.status.Status.{Status}
use Rattle.sip_verifier.specs.declared.status.Status.TheVariants as statuses
use Rattle.sip_verifier.specs.Draws.{challenges_of}
use Rattle.sip_verifier.specs.Exchanges.{Exchange}
use Rattle.sip_verifier.specs.Snapshots.{Counts}
use Rattle.sip_verifier.specs.runs.CauseClause.{CauseClause}
use Rattle.sip_verifier.specs.runs.CompletenessClause.{CompletenessClause}
use Rattle.sip_verifier.specs.runs.Manners.{Question}
use Rattle.sip_verifier.specs.runs.VerdictClause.{VerdictClause}
use Rattle.sip_verifier.proofs.Blocks.{IsBlock, are_blocks, none_drawn}
use Rattle.sip_verifier.proofs.CompleteManners.{Judges, all_zipped, completes}
use Rattle.sip_verifier.proofs.HonestReplies as replies
use Rattle.sip_moments.specs.declared.moment.Moment.{Moment}
use Rattle.sip_moments.specs.declared.task.MomentTask.{MomentTask}
use Rattle.sip_moments.specs.Honest.{honest_replies}
use Rattle.sip_moments.specs.Manner.{CanBeCounted, answer, asking, first_high, honest_bytes, honesty, is_refused, numbers_of, protocol_of}
use Rattle.sip_moments.specs.Protocol.{MomentState}
use Rattle.sip_moments.specs.Questions.{ask_of}
use Rattle.sip_moments.specs.Sittings.{square_of}
use Rattle.sip_moments.specs.Tasks.{run_of, squares_of}
use Rattle.sip_moments.proofs.HonestMoments.{shown_accepted}
use Rattle.sip_moments.proofs.LightVectors.{moment_fits}

-- ---- one question

same_number : (written z : ℤ) → number written ≡ number z → written ≡ z
same_number written z e = cc

module _ (version : Version) (depth : ℕ) (stream : List Update) (some : 1 ≤ depth)
    (legal : IsLegal depth stream) where
  -- the moment may be asked, and its block has a challenge for each level
  abbrev pub CanBeJudged : Moment × List ℕ → Type 0
  CanBeJudged ask = CanBeCounted stream ask.0 × IsBlock depth ask.1

  module _ (t : Question Moment) where
    abbrev P : Protocol MomentState
    P = protocol_of version depth stream t

    abbrev shown : List (List ℕ)
    shown = honest_replies version m61_modulus t.query.degree depth (numbers_of depth stream t.query) t.block

    own : CanBeJudged (t.query, t.block)
        → general.IsStated P t.block shown (number (answer depth stream t.query))
    own can =
        shown_accepted version t.query.degree depth (numbers_of depth stream t.query)
        (record {
          low = omega (arith, can.0.degree.most);
          levels = some;
          size = length-vector depth stream t.query.side;
          small = moment_fits depth stream t.query legal can.0;
        }) t.block can.1.size can.1.below

    pub accepted : (written : ℤ) (b a : List ℕ) → CanBeJudged (t.query, t.block)
        → (asking version depth stream).Accepts t written
        → honest_bytes version depth stream (t.query, t.block) ++ b ≡ joined t.replies ++ a
        → (b ≡ a) × (written ≡ answer depth stream t.query)
    accepted written b a can accepts agree =
        let both = replies.stated_honest P t.block shown (number (answer depth stream t.query))
        (own can) t.replies b a agree (number written) accepts in
        (both.0, same_number written (answer depth stream t.query) both.1)

    pub faulty : (fault : Fault) (b a : List ℕ) → CanBeJudged (t.query, t.block)
        → (asking version depth stream).IsFaulty t fault → fault.reason ≢ reasons.Closed
        → honest_bytes version depth stream (t.query, t.block) ++ b ≡ joined t.replies ++ a → ⊥
    faulty fault b a can is other agree =
        replies.none_faulty P t.block shown (number (answer depth stream t.query)) (own can)
        t.replies b a agree fault is other

-- ---- all questions

-- no moment is too high where each can be counted
none_high : (stream : List Update) (moments : List Moment) → All (CanBeCounted stream) moments
    → first_high stream moments ≡ None
none_high stream [] all = refl
none_high stream (m ∷ moments) all =
    let low = (All-head (CanBeCounted stream) m moments all).low in
    let rest = none_high stream moments (All-tail (CanBeCounted stream) m moments all) in
    rw (low, rest) refl

not_refused : (stream : List Update) (moments : List Moment) (status : Status)
    → All (CanBeCounted stream) moments → is_refused stream moments status → ⊥
not_refused stream moments (statuses.TooHigh query) all is =
    let none = none_high stream moments all in absurd cc
not_refused stream moments _ all is = is

-- ---- a run

module _ (task : MomentTask) (x : Exchange) (some : 1 ≤ task.depth) where
  abbrev stream : List Update
  stream = (records task.depth task.form x.stream).legal

  legal : IsLegal task.depth stream
  legal = records_legal task.depth task.form x.stream

  judges : Judges asking honesty (run_of task x) x
      (CanBeJudged (run_of task x).version task.depth stream some legal)
  judges = record {
    accepted = λ t written b a can accepts agree.
        accepted (run_of task x).version task.depth stream some legal t written b a can accepts
        (agree ∙ ap (λ l. l ++ a) (heard-asked (run_of task x).version (ask_of t.query) t.block
        t.replies (omega (arith, accepts.all))));
    faulty = λ t fault b a can is other agree.
        faulty (run_of task x).version task.depth stream some legal t fault b a can is other
        (agree ∙ ap (λ l. l ++ a) (heard-asked (run_of task x).version (ask_of t.query) t.block
        t.replies (omega (arith, is.taken))));
  }

  full_blocks : (challenges : List ℕ)
      → challenges_of (task.depth * length task.moments.items) x.seed ≡ Some challenges
      → All (IsBlock task.depth) (cut task.depth challenges)
  full_blocks challenges drawn =
      are_blocks (squares_of task) x.seed challenges some
      (ap (λ (n : ℕ). challenges_of (task.depth * n) x.seed) (length-map task.moments.items square_of)
      ∙ drawn)

  pub moments_complete : (before now : Counts) (status : Status)
      → VerdictClause asking (run_of task x) x status
      → CauseClause asking (run_of task x) x before now status
      → CompletenessClause asking honesty (run_of task x) x before now status
  moments_complete before now status verdict cause =
      completes asking honesty (run_of task x) x
      (CanBeJudged (run_of task x).version task.depth stream some legal) judges
      (λ h. all_zipped (CanBeCounted stream) (IsBlock task.depth) task.moments.items
      (cut task.depth h.challenges) h.can (full_blocks h.challenges h.drawn))
      (λ h s refuses. not_refused stream task.moments.items s h.can refuses)
      (none_drawn (task.depth * length task.moments.items) x.seed)
      before now status verdict cause
