-- The bytes of a made stream are those of its next record, and those after it.
use Rattle.std.proofs.Common.{◌≡◌, ℕ, zero, suc, ◌-◌, ◌^◌, ◌<◌, ◌≤◌, true, false, ◌++◌, refl, arith}
use Rattle.std.specs.Prelude.{nat_le}
use Rattle.std.proofs.Math.Nat.{pow-le-pow_right}
use Rattle.std.proofs.lemmas.Bool.Decides.{nat_tests}
use Rattle.sip_vector.specs.declared.update.Update.{Update}
use Rattle.sip_stream.specs.declared.form.Form.{Form}
use Rattle.sip_stream.specs.Layouts.{layout_of, made_form, of_bytes}
use Rattle.sip_stream.specs.Made.{made_bytes, made_update, next_state}
use Rattle.sip_stream.specs.Spellings.{spelled}

pub made_step : (x y more depth : ℕ) (form : Form) (u : Update) → 1 ≤ more → form ≡ made_form depth → y ≡ next_state x → u ≡ made_update depth y
    → made_bytes x more depth ≡ spelled (layout_of form) u ++ made_bytes y (more - 1) depth
made_step x y zero depth form u some is next said = absurd (omega (arith, some))
made_step x y (suc rest) depth form u some is next said =
    let one : suc rest - 1 ≡ rest = omega arith in
    rw (one, said, is, next) refl

-- at the lower depths an item has four bytes
pub narrow_form : (depth : ℕ) → depth ≤ 32 → layout_of (made_form depth) ≡ of_bytes 4
narrow_form depth low = let is : nat_le depth 32 ≡ true = grind (arith, nat_tests) in rw is refl

pub narrow_room : (depth : ℕ) → depth ≤ 32 → 2 ^ depth ≤ 256 ^ 4
narrow_room depth low = let power : 2 ^ depth ≤ 2 ^ 32 = pow-le-pow_right (omega arith) low in omega (arith, power)

-- and at the others eight
pub wide_form : (depth : ℕ) → 32 < depth → layout_of (made_form depth) ≡ of_bytes 8
wide_form depth high = let is : nat_le depth 32 ≡ false = grind (arith, nat_tests) in rw is refl

pub wide_room : (depth : ℕ) → depth ≤ 48 → 2 ^ depth ≤ 256 ^ 8
wide_room depth most = let power : 2 ^ depth ≤ 2 ^ 64 = (let le : depth ≤ 64 = omega (arith, most) in pow-le-pow_right (omega arith) le) in omega (arith, power)
