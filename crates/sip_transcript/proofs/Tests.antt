-- The tests of a depth and of a number of queries.
use Rattle.std.proofs.Common.{◌≡◌, ℕ, ◌≤◌, ◌&&◌, ◌||◌, Bool, true, false, refl, sym, subst, arith}
use Rattle.std.specs.Prelude.{IsTrue, nat_le}
use Rattle.std.proofs.lemmas.Bool.{and_parts}
use Rattle.std.proofs.lemmas.Bool.Decides.{nat_tests}
use Rattle.sip_wire.specs.declared.version.Version.{Version}
use Rattle.sip_wire.specs.Table.{most_queries}
use Rattle.sip_wire.specs.Versions.{deepest}
use Rattle.sip_transcript.specs.Fields.{is_count, is_depth}

-- two tests that pass
both : (a b : Bool) → a ≡ true → b ≡ true → (a && b) ≡ true
both true b ea eb = eb
both false b ea eb = ea

-- a number between two
between : (low high n : ℕ) → low ≤ n → n ≤ high → (nat_le low n && nat_le n high) ≡ true
between low high n le most =
    let first : nat_le low n ≡ true = grind (arith, nat_tests) in
    let second : nat_le n high ≡ true = grind (arith, nat_tests) in
    both (nat_le low n) (nat_le n high) first second

-- and back
within : (low high n : ℕ) → (nat_le low n && nat_le n high) ≡ true → (low ≤ n) × (n ≤ high)
within low high n is =
    let parts = and_parts (nat_le low n) (nat_le n high) is in
    (grind (arith, nat_tests, parts.0), grind (arith, nat_tests, parts.1))

-- a depth that a version goes to passes
pub depth-test : (version : Version) (depth : ℕ) → 1 ≤ depth → depth ≤ deepest version → IsTrue (is_depth version depth)
depth-test version depth deep shallow = between 1 (deepest version) depth deep shallow

-- and what passes is one
pub depth-within : (version : Version) (depth : ℕ) → IsTrue (is_depth version depth) → (1 ≤ depth) × (depth ≤ deepest version)
depth-within version depth is = within 1 (deepest version) depth is

-- the same of the same version and depth
pub depth-same : (version version' : Version) (depth depth' : ℕ) → version' ≡ version → depth' ≡ depth → IsTrue (is_depth version depth) → IsTrue (is_depth version' depth')
depth-same version version' depth depth' v d is =
    subst (λ (x : ℕ). IsTrue (is_depth version' x)) (sym d) (subst (λ (x : Version). IsTrue (is_depth x depth)) (sym v) is)

-- a number of queries passes
pub count-test : (count : ℕ) → 1 ≤ count → count ≤ most_queries → IsTrue (is_count count)
count-test count some most = between 1 most_queries count some most

-- and what passes is one
pub count-within : (count : ℕ) → IsTrue (is_count count) → (1 ≤ count) × (count ≤ most_queries)
count-within count is = within 1 most_queries count is

-- the second of two tests passes
pub or_second : (a b : Bool) → b ≡ true → (a || b) ≡ true
or_second true b is = refl
or_second false b is = is
