-- A piece more, until there is a frame, or the end.
use Rattle.std.proofs.Common.{◌≡◌, ℕ, ◌<◌, List, ◌++◌, take, length, sym, ap, subst, ◌∙◌, length-append, arith, rules}
use Rattle.std.proofs.KnownBytes.{Consumes-kept, Consumes-nil, Consumes-trans}
use Rattle.std.specs.Io.KnownBytes.{Consumes}
use Rattle.sip_wire.specs.declared.kind.Place.TheVariants.{ToVerifier}
use Rattle.sip_wire.specs.Frames.{frame_bytes}
use lib.Seq.{take-append-le}
use Rattle.sip_transcript.proofs.Framing.{asked-short, reply-cut, still-told}
use Rattle.sip_transcript.proofs.frames.fill.Given as given
use Rattle.sip_transcript.proofs.frames.fill.Goals as goal
use Rattle.sip_transcript.proofs.frames.fill.Goals.{After-put}

pub loop-version-init : goal.loop-version-init
loop-version-init g c = record {
  came = subst (Consumes _ _) (sym c.clear.ensures.bytes) (Consumes-nil _);
  most = search rules;
  told = λ some. some;
  lasts = search rules;
}

pub returns-then-room-eq0-clause-has : goal.returns-then-room-eq0-clause-has
returns-then-room-eq0-clause-has g c = (
  c.loop-version.invariant.came,
  c.loop-version.invariant.most,
  λ less. absurd (let some = c.room.ensures.some less in let none = c.if-room-eq0.true in let least = c.min-room.ensures in omega (arith, some, none, least)),
)

pub returns-then-room-eq0-clause-told : goal.returns-then-room-eq0-clause-told
returns-then-room-eq0-clause-told g c = c.loop-version.invariant.told

pub returns-in_err-came-clause-told : goal.returns-in_err-came-clause-told
returns-in_err-came-clause-told g c = λ some.
    still-told _ _ _ (Consumes-kept _ _ _ _ c.loop-version.invariant.came c.in_err-came.ensures.bytes) some

pub returns-then-came-eq0-clause-has : goal.returns-then-came-eq0-clause-has
returns-then-came-eq0-clause-has g c =
    let kept = c.loop-version.invariant in
    let read = c.in_ok-came.ensures.bytes in
    let room : 0 < length c.read.new.buf = search rules in
    reply-cut c.args.version _ _ _ _ kept.came kept.most
    (subst (λ (n : ℕ). Consumes (g.S.Source.left c.loop-version.source) (g.S.Source.left c.read.new.self) (take n c.read.new.buf)) c.if-came-eq0.true read.0) (read.1 c.if-came-eq0.true room)

pub returns-then-came-eq0-clause-told : goal.returns-then-came-eq0-clause-told
returns-then-came-eq0-clause-told g c = λ some.
    still-told _ _ _ c.in_ok-came.ensures.bytes.0 (c.loop-version.invariant.told some)

-- the bytes with a piece more
joined : (g : given.Over) (c : After-put g) → frame_bytes c.loop-version.frame ++ take c.in_ok-came.came c.read.new.buf ≡ frame_bytes c.put.new.self
joined g c =
    sym (c.put.ensures.takes ∙ ap (λ (l : List ℕ). frame_bytes c.loop-version.frame ++ l) (take-append-le c.in_ok-came.came c.read.new.buf _ c.in_ok-came.ensures.bound.0))

pub loop-version-smaller : goal.loop-version-smaller
loop-version-smaller g c =
    let more = sym (ap length (joined g c)) ∙ length-append (frame_bytes c.loop-version.frame) (take c.in_ok-came.came c.read.new.buf) in
    let came = c.in_ok-came.ensures.bound.1 in
    let some = c.if-came-eq0.false in
    let fits = c.put.ensures.most c.loop-version.invariant.most in
    let most = asked-short c.args.version ToVerifier (frame_bytes c.put.new.self) in
    omega (arith, more, came, some, fits, most)

pub loop-version-preserved : goal.loop-version-preserved
loop-version-preserved g c = record {
  came = subst (Consumes _ _) (joined g c) (Consumes-trans _ _ _ _ _ c.loop-version.invariant.came c.in_ok-came.ensures.bytes.0);
  most = c.put.ensures.most c.loop-version.invariant.most;
  told = λ some. still-told _ _ _ c.in_ok-came.ensures.bytes.0 (c.loop-version.invariant.told some);
  lasts = search rules;
}
