-- The protocol by which a question is judged is that of its kind, for each stream whose numbers
-- these are.
use Rattle.std.proofs.Common.{◌≡◌, ℕ, ℤ, ◌*◌, ◌%◌, ◌^◌, List, length, refl, ap, subst, ◌∙◌, arith}
use Rattle.std.specs.Prelude.{IsTrue}
use Rattle.sip_field.specs.Moduli.{m61_modulus}
use Rattle.sip_vector.specs.declared.query.Query.{Query}
use Rattle.sip_vector.specs.declared.query.Query.TheVariants as queries
use Rattle.sip_vector.specs.declared.update.Side.{Side}
use Rattle.sip_vector.specs.declared.update.Update.{Update}
use Rattle.sip_vector.specs.Extensions.{ext, ones}
use Rattle.sip_vector.specs.Thresholds.{share_of}
use Rattle.sip_wire.specs.declared.version.Version.{Version}
use Rattle.sip_wire.specs.Spelling.{fits}
use Rattle.sip_wire.proofs.Asking.{query-fits}
use Rattle.sip_subvec.specs.Protocol.{sub_asked, sub_protocol}
use Rattle.sip_sums.specs.Protocol.{sum_asked, sum_protocol}
use Rattle.sip_heavy.specs.Protocol.{above_asked, heavy_asked, heavy_protocol}
use Rattle.sip_verifier.specs.QuerySeats.{RunningNumbers, RunsOn, Seated, aug_root_is, point_is, points_are, root_is, split_root_is}
use Rattle.sip_verifier.proofs.SeatAsked.{heavy_protocol_is, inner_product, range_product, share_protocol_is, square_product, sub_protocol_is, sum_is_protocol}
use Rattle.sip_above.specs.declared.large.Large.{Large}
use Rattle.sip_above.specs.Questions.{query_of}
use Rattle.sip_above.proofs.LargeAsked.{root_asks}
use Rattle.sip_moments.specs.declared.moment.Moment.{Moment}
use Rattle.sip_moments.proofs.AskFrames.{ask_fits}
use Rattle.sip_steps.specs.declared.opening.Opening.{Opening}
use Rattle.sip_steps.specs.declared.opening.Opening.TheVariants as openings
use Rattle.sip_steps.specs.Openings.{CanOpen, IsOf, message_of, query_like, subject_at}
use Rattle.sip_steps.specs.Posed.{IsOfLarge, IsOfMoment, IsOfQuery}

-- what can be opened has a spelling
pub opening_fits : (version : Version) (depth : ℕ) (o : Opening) → CanOpen version depth o → IsTrue (fits version (message_of o))
opening_fits version depth (openings.Query query) can = query-fits version depth query can.1 can.0.1
opening_fits version depth (openings.Moment moment) can = let most = can.most in ask_fits version moment (omega (arith, most))
opening_fits version depth (openings.Large large) can = query-fits version depth (query_of large) can.1 can.0

module _ (version : Version) (depth : ℕ) (o : Opening) (block : List ℕ) where
  -- the numbers of an opening are those of its query
  of_query : (stream : List Update) (query : Query) (running : RunningNumbers) → o ≡ openings.Query query → IsOf (subject_at version depth o block running) stream → RunsOn depth stream query block running
  of_query stream query running is of = subst (λ (x : Opening). RunsOn depth stream (query_like x) block running) is of

  abbrev seat : Query → RunningNumbers → Seated
  seat query running = record { query = query; block = block; running = running }

  pub entries_kind : (lo hi value : ℕ) → o ≡ openings.Query (queries.Sub lo hi) → IsOfQuery (subject_at version depth o block (root_is value)) (sub_protocol (sub_asked version m61_modulus value lo hi block))
  entries_kind lo hi value is = record {
    query = queries.Sub lo hi;
    is = is;
    own = λ stream of. sub_protocol_is version depth stream (seat (queries.Sub lo hi) (root_is value)) block lo hi value refl refl refl (of_query stream (queries.Sub lo hi) (root_is value) is of);
  }

  pub range_kind : (side : Side) (lo hi value interval product : ℕ) → o ≡ openings.Query (queries.Range side lo hi) → interval ≡ ext m61_modulus (ones (length block) lo hi) block → product ≡ (value * interval) % m61_modulus
      → IsOfQuery (subject_at version depth o block (point_is value)) (sum_protocol (sum_asked version m61_modulus product))
  range_kind side lo hi value interval product is interval_is product_is = record {
    query = queries.Range side lo hi;
    is = is;
    own = λ stream of.
        let lists = range_product depth stream (seat (queries.Range side lo hi) (point_is value)) side lo hi value interval product block refl refl refl interval_is product_is (of_query stream (queries.Range side lo hi) (point_is value) is of) in
        sum_is_protocol version depth stream (queries.Range side lo hi) block _ product lists.0 lists.1;
  }

  pub square_kind : (side : Side) (value product : ℕ) → o ≡ openings.Query (queries.F2 side) → product ≡ (value * value) % m61_modulus
      → IsOfQuery (subject_at version depth o block (point_is value)) (sum_protocol (sum_asked version m61_modulus product))
  square_kind side value product is product_is = record {
    query = queries.F2 side;
    is = is;
    own = λ stream of.
        let lists = square_product depth stream (seat (queries.F2 side) (point_is value)) side value product refl refl product_is (of_query stream (queries.F2 side) (point_is value) is of) in
        sum_is_protocol version depth stream (queries.F2 side) block _ product lists.0 lists.1;
  }

  pub inner_kind : (first second product : ℕ) → o ≡ openings.Query queries.Inner → product ≡ (first * second) % m61_modulus
      → IsOfQuery (subject_at version depth o block (points_are first second)) (sum_protocol (sum_asked version m61_modulus product))
  inner_kind first second product is product_is = record {
    query = queries.Inner;
    is = is;
    own = λ stream of.
        let lists = inner_product depth stream (seat queries.Inner (points_are first second)) first second product refl refl product_is (of_query stream queries.Inner (points_are first second) is of) in
        sum_is_protocol version depth stream queries.Inner block _ product lists.0 lists.1;
  }

  pub heavy_kind : (side : Side) (at_least hash : ℕ) (total : ℤ) → o ≡ openings.Query (queries.Heavy side at_least)
      → IsOfQuery (subject_at version depth o block (aug_root_is hash total)) (heavy_protocol (heavy_asked version m61_modulus hash total (length block) at_least))
  heavy_kind side at_least hash total is = record {
    query = queries.Heavy side at_least;
    is = is;
    own = λ stream of. heavy_protocol_is version depth stream (seat (queries.Heavy side at_least) (aug_root_is hash total)) block side at_least hash total refl refl refl (of_query stream (queries.Heavy side at_least) (aug_root_is hash total) is of);
  }

  pub share_kind : (side : Side) (num den at_least hash : ℕ) (total : ℤ) → o ≡ openings.Query (queries.Share side num den) → at_least ≡ share_of num den total
      → IsOfQuery (subject_at version depth o block (aug_root_is hash total)) (heavy_protocol (heavy_asked version m61_modulus hash total (length block) at_least))
  share_kind side num den at_least hash total is least = record {
    query = queries.Share side num den;
    is = is;
    own = λ stream of. share_protocol_is version depth stream (seat (queries.Share side num den) (aug_root_is hash total)) block side num den at_least hash total refl least refl refl (of_query stream (queries.Share side num den) (aug_root_is hash total) is of);
  }

  pub large_kind : (large : Large) (hash weight : ℕ) → o ≡ openings.Large large
      → IsOfLarge (subject_at version depth o block (split_root_is hash weight)) (heavy_protocol (above_asked version m61_modulus hash weight (length block) large.at_least))
  large_kind large hash weight is = record {
    large = large;
    is = is;
    own = λ stream of. ap heavy_protocol (root_asks version depth stream large block hash weight (subst (λ (x : Opening). RunsOn depth stream (query_like x) block (split_root_is hash weight)) is of));
  }

  pub moment_kind : (moment : Moment) (value extension : ℕ) → o ≡ openings.Moment moment → extension ≡ value
      → IsOfMoment (subject_at version depth o block (point_is value)) moment ((extension ^ moment.degree) % m61_modulus)
  moment_kind moment value extension is same = record {
    is = is;
    own = λ stream of.
        let stands = subst (λ (x : Opening). RunsOn depth stream (query_like x) block (point_is value)) is of in
        ap (λ (n : ℕ). (n ^ moment.degree) % m61_modulus) same ∙ ap (λ (n : ℕ). (n ^ moment.degree) % m61_modulus) stands.same;
  }
