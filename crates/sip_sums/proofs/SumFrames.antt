-- The frames of a claim and of a polynomial are read as what they say.
use Rattle.std.proofs.Common.{◌≡◌, ℕ, ◌≤◌, Bool, Ok, List, [], ◌++◌, ℤ, nat_abs, refl, ap}
use Rattle.std.proofs.lemmas.Bool.{eq-eqb}
use Rattle.sip_field.specs.Residue.{residue}
use Rattle.sip_vector.specs.Steps.{needs}
use Rattle.sip_wire.specs.declared.kind.Place.TheVariants as places
use Rattle.sip_wire.specs.declared.message.Message.TheVariants as messages
use Rattle.sip_wire.specs.declared.message.Reason.TheVariants as reasons
use Rattle.sip_wire.specs.declared.version.Version.{Version}
use Rattle.sip_wire.specs.Spelling.{spelling}
use Rattle.sip_wire.specs.Table.{most_claim}
use Rattle.sip_wire.proofs.Longest.{claim_fits}
use Rattle.sip_wire.proofs.ReadingLaws.{read_frame-spelling}
use Rattle.sip_wire.proofs.SmallNumbers.{in_range}
use Rattle.sip_replies.specs.declared.check.More.TheVariants as mores
use Rattle.sip_replies.specs.Replies.{read_reply}
use Rattle.sip_replies.proofs.Reading.{read_reply-step}
use Rattle.sip_sums.specs.AcceptsSum.{Coefficients, sum_of_ends}
use Rattle.sip_sums.specs.Checking.{zero_polynomial}
use Rattle.sip_sums.specs.Honest.{poly_message}
use Rattle.sip_sums.specs.Protocol.{sum_step, sum_rules}
use Rattle.sip_sums.specs.Stating.{AreElements}
use Rattle.sip_sums.proofs.ReadFrames.{poly_fits}
use Rattle.sip_sums.proofs.ReadSums.{known, as_complete}

module _ (version : Version) (p : ℕ) where
  -- a polynomial that adds up to what is expected
  pub poly_read : (claim : ℤ) (expected : ℕ) (last c : Coefficients) → AreElements c → sum_of_ends p c ≡ expected
      → read_reply (sum_rules version p) (known claim expected last) (spelling version (poly_message c) ++ []) ≡ Ok (known claim expected c)
  poly_read claim expected last c are adds =
      let step : sum_step p (known claim expected last) (poly_message c) ≡ Ok (mores.Complete, known claim expected c) =
      ap (λ (b : Bool). as_complete claim expected c (needs b reasons.Sum)) (eq-eqb (sum_of_ends p c) expected adds) in
      read_reply-step (sum_rules version p) (known claim expected last) (spelling version (poly_message c) ++ []) [] (poly_message c) (Ok (mores.Complete, known claim expected c))
      (read_frame-spelling version places.Poly (poly_message c) [] (poly_fits version c are) refl tt) step

  -- a claim, and what follows it
  pub claim_read : (claim : ℤ) (rest : List ℕ) → nat_abs claim ≤ most_claim
      → read_reply (sum_rules version p) (sum_rules version p).start (spelling version (messages.Claim claim) ++ rest) ≡ read_reply (sum_rules version p) (known claim (residue p claim) zero_polynomial) rest
  claim_read claim rest le =
      read_reply-step (sum_rules version p) (sum_rules version p).start (spelling version (messages.Claim claim) ++ rest) rest (messages.Claim claim) (Ok (mores.Due, known claim (residue p claim) zero_polynomial))
      (read_frame-spelling version places.Claim (messages.Claim claim) rest (claim_fits version claim (in_range claim le) le) refl (in_range claim le)) refl
