-- The vectors are those with the updates added, or memory was refused.
use Rattle.std.proofs.Common.{◌≡◌, Bool, true, false, if◌then◌else◌, Option, Some, None, Result, Ok, Err, IfOk, refl, sym, ap, ◌∙◌}
use Rattle.std.specs.Option.{option_map}
use Rattle.std.specs.Result.{result_ok}
use Rattle.sip_helper.specs.Turns.{with_updates}
use Rattle.sip_helper.proofs.vectors.grown.Goals as goal

-- what is left of a result where an error is as good as none
kept : {V E : Type 0} (r : Result V E) (before : Option V) (v : V) (f : V → V) → before ≡ Some v → IfOk r (λ w. w ≡ f v) → (refused : Bool) × (result_ok r ≡ (if refused then None else option_map f before))
kept (Ok w) before v f was is = (false, ap (λ x. Some x) is ∙ sym (ap (option_map f) was))
kept (Err e) before v f was is = (true, refl)

pub returns : goal.returns
returns c =
    rw c.ok.ensures.value (kept c.with.result c.args.vectors c.in_ok-vectors.field-0 (λ v. with_updates v c.args.updates.now) c.in_ok-vectors.was c.with.ensures)
