-- One more record is made, behind those of the block.
use Rattle.std.proofs.Common.{◌≡◌, ◌+◌, ◌-◌, ◌++◌, ap, refl, sym, ◌∙◌, arith, append_assoc, length-take, take}
use Rattle.std.proofs.lemmas.List.{drop_all}
use Rattle.sip_stream.specs.Layouts.{made_form}
use Rattle.sip_stream.specs.Made.{made_bytes}
use Rattle.sip_stream.specs.Spellings.{record_bytes, spelled}
use Rattle.sip_stream.proofs.MadeSteps.{made_step}
use Rattle.sip_stream.proofs.made.MadeSource.make.Goals as goal

pub put_at-requires : goal.put_at-requires
put_at-requires g c =
    let fits = c.update_at.ensures.fits in
    record {
      width = c.requires.most;
      item = omega (arith, fits, c.requires.room);
      room = omega (arith, c.loop-more.invariant.long, c.loop-more-test.true, c.size_of-size.ensures.size);
    }

pub loop-more-preserved : goal.loop-more-preserved
loop-more-preserved g c =
    let width = g.row.WIDTH in
    let self = c.args.self.now in
    let end = c.loop-more.end in
    let size = c.size_of-size.result in
    let x = c.loop-more.state in
    let y = c.next_state-state.result in
    let more = c.loop-more.more in
    let u = c.update_at.result in
    let made = take end c.loop-more.self.block in
    let rest = made_bytes y (more - 1) self.depth in
    let form = ap (λ l. spelled l u) c.requires.form in
    let step = made_step x y more self.depth (made_form self.depth) u (omega (arith, c.loop-more-test.true)) refl c.next_state-state.ensures c.update_at.ensures.update in
    let put : take (end + size) c.put_at.new.block ≡ made ++ record_bytes width u = ap (λ n. take (end + n) c.put_at.new.block) c.size_of-size.ensures.size ∙ c.put_at.ensures.put in
    record {
      within = omega (arith, c.loop-more-test.true);
      long = c.put_at.ensures.len ∙ c.loop-more.invariant.long;
      same = ap (λ l. l ++ rest) put ∙ append_assoc made (record_bytes width u) rest ∙ ap (λ l. made ++ (l ++ rest)) (sym form) ∙ ap (λ l. made ++ l) (sym step) ∙ c.loop-more.invariant.same;
      depth = c.loop-more.invariant.depth;
      kept = c.loop-more.invariant.kept;
    }

pub returns-clause-same : goal.returns-clause-same
returns-clause-same g c =
    let self = c.args.self.now in
    let so = c.loop-more.invariant in
    let made = take c.loop-more.end c.loop-more.self.block in
    let none = drop_all self.at (take self.end self.block) (omega (arith, length-take self.end self.block, c.requires.read)) in
    ap (λ depth. made ++ made_bytes c.loop-more.state c.loop-more.more depth) (so.kept ∙ sym so.depth)
    ∙ so.same
    ∙ ap (λ l. l ++ made_bytes self.state self.more self.depth) (sym none)
