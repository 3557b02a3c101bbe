-- Bytes as the records of a form.
use Rattle.std.proofs.Common.{◌≡◌, ◌⊎◌, ℕ, List, Option, Some, inr, sym, subst}
use Rattle.std.specs.Prelude.{MatchOption}
use Rattle.sip_c.specs.Records.{AreRecords, ByRecords, codes_of, width_of}
use Rattle.sip_c.specs.declared.codes.UpdateCode.{UpdateCode}
use Rattle.sip_c.specs.declared.refusal.Refusal.{Refusal}
use Rattle.sip_c.specs.declared.refusal.Refusal.TheVariants as refusals

-- they are some
pub found : (form : ℕ) (bytes : List ℕ) (Q : Refusal → Type 0) (P : List UpdateCode → Type 0) (width : ℕ) (own : List ℕ) → (width_of form ≡ Some width) × AreRecords width bytes × (own ≡ bytes)
    → P (codes_of width own) → ByRecords form bytes Q P
found form bytes Q P width own is so =
    let here : AreRecords width bytes × P (codes_of width bytes) = (is.1, subst (λ (l : List ℕ). P (codes_of width l)) is.2 so) in
    subst (λ (o : Option ℕ). MatchOption o (Q refusals.BadCode) (λ (w : ℕ). (Q refusals.BadLength × ¬ AreRecords w bytes) ⊎ (AreRecords w bytes × P (codes_of w bytes)))) (sym is.0) (inr here)
