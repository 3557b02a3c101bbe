-- What was read stands behind those that waited, and has a spelling.
use Rattle.std.proofs.Common.{rules, ◌≡◌, ◌≤◌, ◌+◌, ◌-◌, ◌++◌, ◌∙◌, List, ap, length, subst, sym, take}
use Rattle.std.specs.Prelude.{IsTrue}
use Rattle.std.specs.List.{list_all}
use Rattle.sip_vector.specs.declared.update.Update.{Update}
use Rattle.sip_wire.specs.Versions.{deepest}
use Rattle.sip_wire.specs.declared.version.Version.{Version}
use Rattle.sip_verifier.specs.Feeding.{Waiting, has_spelling}
use Rattle.sip_verifier.proofs.FramesFit.{spelled_fair}
use Rattle.sip_verifier.proofs.HeldRows.{rows_behind}
use Rattle.sip_verifier.proofs.feed.Feed.take_held.Goals as goal
use borrow.Rule.Slice.PartMut.{put_mid}

pub invariant_of-self : goal.invariant_of-self
invariant_of-self g c =
    let version = c.self.inside.version in
    let count = c.self.inside.count in
    let rows = c.self.inside.rows in
    let block = c.read_held.new.block in
    let came = c.read_held.result in
    let same : version ≡ c.args.self.now.version = ap (λ (w : Waiting). w.version) c.self.view_is in
    let shallow = subst (λ (v : Version). c.args.reader.now.depth ≤ deepest v) (sym same) c.requires.shallow in
    let within : count ≤ length rows = search rules in
    let behind : take (count + came) (put_mid count (511 - count) rows block) ≡ take count rows ++ take came block = rows_behind count (511 - count) came rows block within c.read_held.ensures.few in (
      search rules,
      subst (λ (l : List Update). IsTrue (list_all (has_spelling version) l)) (sym behind) (spelled_fair version c.args.reader.now.depth (take count rows) (take came block) shallow c.self.invariant.1 c.read_held.ensures.took.1.fair),
    )

pub returns-clause-took : goal.returns-clause-took
returns-clause-took g c =
    let count = c.self.inside.count in
    let rows = c.self.inside.rows in
    let block = c.read_held.new.block in
    let came = c.read_held.result in
    let within : count ≤ length rows = search rules in
    let behind : take (count + came) (put_mid count (511 - count) rows block) ≡ take count rows ++ take came block = rows_behind count (511 - count) came rows block within c.read_held.ensures.few in
    let waited : take count rows ≡ c.args.self.now.waiting = ap (λ (w : Waiting). w.waiting) c.self.view_is in
    let took = c.read_held.ensures.took in
    (take came block, took.0, behind ∙ ap (λ l. l ++ take came block) waited, took.1, took.2)
