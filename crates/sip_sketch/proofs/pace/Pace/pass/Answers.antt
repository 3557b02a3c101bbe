-- The next multiple was reached, or is nearer.
use Rattle.std.proofs.Common.{arith, ◌≡◌, ◌<◌, ◌≤◌, ◌-◌, Some, subst, sym, ◌+◌, false, true}
use Rattle.std.specs.Prelude.{Option, ℕ, IfSome}
use Rattle.sip_sketch.specs.inside.Pacing.{IsUntil, Paces}
use Rattle.sip_sketch.proofs.Paces.{paces_all, paces_fewer}
use Rattle.sip_sketch.proofs.pace.Pace.pass.Goals as goal

pub returns-then-more-gt0 : goal.returns-then-more-gt0
returns-then-more-gt0 c = record {
  paces = λ before is.
      let p = c.args.self.now in
      let few : c.args.count < c.in-Some.until = omega arith in
      let here : IsUntil p.every (Some c.in-Some.until) before = subst (λ (u : Option ℕ). IsUntil p.every u before) c.in-Some.is is in
      subst (λ (u : Option ℕ). Paces (record { every = p.every; until = u }) (record { every = p.every; until = Some (c.in-Some.until - c.args.count) }) before (before + c.args.count) false)
      (sym c.in-Some.is) (paces_fewer p.every c.in-Some.until before c.args.count few here);
}

pub returns : goal.returns
returns c = record {
  paces = λ before is.
      let p = c.args.self.now in
      let within : c.args.count ≤ c.in-Some.until = subst (λ (u : Option ℕ). IfSome u (λ n. c.args.count ≤ n)) c.in-Some.is c.requires in
      let all : c.args.count ≡ c.in-Some.until = omega arith in
      let here : IsUntil p.every (Some c.in-Some.until) before = subst (λ (u : Option ℕ). IsUntil p.every u before) c.in-Some.is is in
      subst (λ (u : Option ℕ). Paces (record { every = p.every; until = u }) (record { every = p.every; until = p.every }) before (before + c.args.count) true)
      (sym c.in-Some.is) (paces_all p.every c.in-Some.until before c.args.count all here);
}
