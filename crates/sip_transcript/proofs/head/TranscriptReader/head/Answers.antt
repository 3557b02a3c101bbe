-- Field by field: what is there was taken, and where the first that is not begins.
use Rattle.std.proofs.Common.{◌≡◌, ◌+◌, ℕ, [], ◌∷◌, length, ap, subst, ◌∙◌, arith, rules, length-append}
use Rattle.std.specs.Prelude.{IsTrue}
use Rattle.std.proofs.lemmas.Result.{err_from_is_err_and}
use Rattle.sip_wire.specs.Transcript.{magic}
use Rattle.sip_wire.specs.Versions.{number_of}
use Rattle.sip_transcript.specs.Fields.{byte_field, is_count, is_depth, is_version, text_field}
use Rattle.sip_transcript.proofs.Growing.{IsBegun, begun-next, begun-start, begun-whole, opening-taken, room-left}
use Rattle.sip_transcript.proofs.Failing.{begun-stops, count-stops, depth-stops, magic-stops, version-stops}
use Rattle.sip_transcript.proofs.Tests.{count-within, depth-same, depth-within}
use Rattle.sip_transcript.proofs.There.{there-ok, there-err}
use Rattle.sip_transcript.proofs.head.TranscriptReader.head.Goals as goal

pub returns-in_err-there-clause-reads : goal.returns-in_err-there-clause-reads
returns-in_err-there-clause-reads g c =
    let p = err_from_is_err_and c.from_residual.result c.from_residual.ensures.1 in
    let not = there-err (text_field magic) (λ _. magic) (λ _. Unit {0}) _ _ c.read_magic.result _ _ c.in_err-there.ensures c.read_magic.ensures.reads in
    rw (p.1, p.2) (magic-stops _ _ _ not)

pub returns-in_err-version-clause-reads : goal.returns-in_err-version-clause-reads
returns-in_err-version-clause-reads g c =
    let p = err_from_is_err_and c.from_residual-in_err-version.result c.from_residual-in_err-version.ensures.1 in
    let first = rw (there-ok c.read_magic.result _ _ c.in_ok-there.ensures) at c.read_magic.ensures.reads in
    let not = there-err (byte_field is_version) (λ version. number_of version ∷ []) (λ _. Unit {0}) _ _ c.read_version.result _ _ c.in_err-version.ensures c.read_version.ensures.reads in
    rw (p.1, p.2) (version-stops _ _ _ _ first.1 not)

pub returns-in_err-depth-clause-reads : goal.returns-in_err-depth-clause-reads
returns-in_err-depth-clause-reads g c =
    let p = err_from_is_err_and c.from_residual-in_err-depth.result c.from_residual-in_err-depth.ensures.1 in
    let version = c.in_ok-version.version in
    let first = rw (there-ok c.read_magic.result _ _ c.in_ok-there.ensures) at c.read_magic.ensures.reads in
    let second = rw (there-ok c.read_version.result _ version c.in_ok-version.ensures) at c.read_version.ensures.reads in
    let not = there-err (byte_field (is_depth version)) (λ depth. depth ∷ []) (λ depth. IsTrue (is_depth version depth)) _ _ c.read_depth.result _ _ c.in_err-depth.ensures c.read_depth.ensures.reads in
    rw (p.1, p.2) (depth-stops version _ _ _ _ _ first.1 second.1 not)

pub returns-in_err-count-clause-reads : goal.returns-in_err-count-clause-reads
returns-in_err-count-clause-reads g c =
    let p = err_from_is_err_and c.from_residual-in_err-count.result c.from_residual-in_err-count.ensures.1 in
    let version = c.in_ok-version.version in
    let depth = c.in_ok-depth.depth in
    let first = rw (there-ok c.read_magic.result _ _ c.in_ok-there.ensures) at c.read_magic.ensures.reads in
    let second = rw (there-ok c.read_version.result _ version c.in_ok-version.ensures) at c.read_version.ensures.reads in
    let third = rw (there-ok c.read_depth.result _ depth c.in_ok-depth.ensures) at c.read_depth.ensures.reads in
    let not = there-err (byte_field is_count) (λ count. count ∷ []) (λ count. IsTrue (is_count count)) _ _ c.read_count.result _ _ c.in_err-count.ensures c.read_count.ensures.reads in
    rw (p.1, p.2) (count-stops version depth _ _ _ _ _ _ first.1 second.1 third.1 third.0 not)

pub loop-head-init : goal.loop-head-init
loop-head-init g c =
    let version = c.in_ok-version.version in
    let depth = c.in_ok-depth.depth in
    let count = c.in_ok-count.count in
    let first = rw (there-ok c.read_magic.result _ _ c.in_ok-there.ensures) at c.read_magic.ensures.reads in
    let second = rw (there-ok c.read_version.result _ version c.in_ok-version.ensures) at c.read_version.ensures.reads in
    let third = rw (there-ok c.read_depth.result _ depth c.in_ok-depth.ensures) at c.read_depth.ensures.reads in
    let fourth = rw (there-ok c.read_count.result _ count c.in_ok-count.ensures) at c.read_count.ensures.reads in
    record {
      begun = begun-start count _ _ _ (search rules) (search rules) (search rules) (opening-taken version depth count _ _ _ _ _ first.1 second.1 third.1 fourth.1);
      deep = third.0;
      some = fourth.0;
      within = search rules;
      lasts = search rules;
    }

pub read_ask-requires-clause-few : goal.read_ask-requires-clause-few
read_ask-requires-clause-few g c =
    let most = count-within c.in_ok-count.count c.loop-head.invariant.some in
    omega arith

pub read_ask-requires-clause-room : goal.read_ask-requires-clause-room
read_ask-requires-clause-room g c =
    let kept = c.loop-head.invariant in
    let most = count-within c.in_ok-count.count kept.some in
    let deep = depth-within c.loop-head.head.version c.loop-head.head.depth kept.deep in
    omega (arith, kept.begun.room, room-left c.loop-head.head.depth (length c.loop-head.head.queries.items) (search rules) (omega arith))

pub read_ask-requires-clause-near : goal.read_ask-requires-clause-near
read_ask-requires-clause-near g c =
    let most = count-within c.in_ok-count.count c.loop-head.invariant.some in
    omega (arith, c.loop-head.invariant.begun.near)

pub read_ask-requires-clause-shallow : goal.read_ask-requires-clause-shallow
read_ask-requires-clause-shallow g c = (depth-within c.loop-head.head.version c.loop-head.head.depth c.loop-head.invariant.deep).1

pub loop-head-preserved : goal.loop-head-preserved
loop-head-preserved g c =
    let kept = c.loop-head.invariant in
    let took = c.in_ok-read_ask.ensures.took in
    let more : length c.read_ask.new.self.queries.items ≡ length c.loop-head.head.queries.items + 1 = ap length took.queries ∙ length-append _ _ in
    record {
      begun = begun-next _ _ _ _ c.loop-head.head _ (search rules) kept.begun took;
      deep = depth-same c.loop-head.head.version c.read_ask.new.self.version c.loop-head.head.depth c.read_ask.new.self.depth took.version took.depth kept.deep;
      some = kept.some;
      within = omega arith;
      lasts = search rules;
    }

pub returns-in_err-read_ask-clause-reads : goal.returns-in_err-read_ask-clause-reads
returns-in_err-read_ask-clause-reads g c =
    let p = err_from_is_err_and c.from_residual-in_err-read_ask.result c.from_residual-in_err-read_ask.ensures.1 in
    let kept = c.loop-head.invariant in
    rw (p.1, p.2) (begun-stops _ _ _ _ _ _ _ c.loop-head.head _ kept.deep kept.some kept.begun (search rules) c.in_err-read_ask.ensures.bad)

pub returns-clause-reads : goal.returns-clause-reads
returns-clause-reads g c =
    let kept = c.loop-head.invariant in
    let deep = depth-within c.loop-head.head.version c.loop-head.head.depth kept.deep in
    let most = count-within c.in_ok-count.count kept.some in
    let all : length c.loop-head.head.queries.items ≡ c.in_ok-count.count = search rules in
    let old = g.S.Source.left c.args.source.now in
    let new = g.S.Source.left c.loop-head.source in
    begun-whole _ _ _ old new c.loop-head.head kept.deep kept.some deep.0 deep.1 most.0 most.1
    (subst (λ (k : ℕ). IsBegun c.loop-head.head.version c.loop-head.head.depth c.in_ok-count.count k old new c.loop-head.head) all kept.begun)
