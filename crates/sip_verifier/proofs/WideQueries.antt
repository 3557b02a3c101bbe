-- A query whose answer has few entries is not too wide.
use Rattle.std.proofs.Common.{◌≡◌, ℕ, ◌<◌, ◌^◌, ◌∙◌, false, None, List, [], ◌∷◌, All, refl, ap}
use Rattle.std.proofs.lemmas.List.Elements.{All-head, All-tail}
use Rattle.sip_vector.specs.declared.query.Query.{Query}
use Rattle.sip_vector.specs.declared.query.Query.TheVariants.{Sub, Range, F2, Inner, Heavy, Share, Above}
use Rattle.sip_vector.specs.declared.update.Update.{Update}
use Rattle.sip_vector.specs.Streams.{total}
use Rattle.sip_vector.specs.Thresholds.{is_wide, share_of}
use Rattle.sip_vector.proofs.Sides.{total-is}
use Rattle.sip_wire.specs.declared.version.Version.{Version}
use Rattle.sip_verifier.specs.CompletenessClause.{HasFewEntries}
use Rattle.sip_verifier.specs.Widths.{first_wide, is_too_wide}

few_narrow : (version : Version) (depth : ℕ) (stream : List Update) (query : Query) → All (λ (u : Update). u.item < 2 ^ depth) stream → HasFewEntries version depth stream query → is_too_wide stream query ≡ false
few_narrow version depth stream (Sub lo hi) below few = refl
few_narrow version depth stream (Range side lo hi) below few = refl
few_narrow version depth stream (F2 side) below few = refl
few_narrow version depth stream Inner below few = refl
few_narrow version depth stream (Heavy side at_least) below few = few.1
few_narrow version depth stream (Above side at_least) below few = refl
few_narrow version depth stream (Share side num den) below few =
    ap (λ n. is_wide (share_of num den n) (total stream side)) (total-is depth stream side below) ∙ few.1

pub none_wide : (version : Version) (depth : ℕ) (stream : List Update) (queries : List Query) → All (λ (u : Update). u.item < 2 ^ depth) stream → All (HasFewEntries version depth stream) queries → first_wide stream queries ≡ None
none_wide version depth stream [] below few = refl
none_wide version depth stream (q ∷ queries) below few =
    let here = few_narrow version depth stream q below (All-head (HasFewEntries version depth stream) q queries few) in
    let rest = none_wide version depth stream queries below (All-tail (HasFewEntries version depth stream) q queries few) in
    rw (here, rest) refl
