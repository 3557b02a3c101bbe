-- What is heard on a link whose replies come out of a source.
use Rattle.std.specs.Prelude.{◌≡◌, ℕ, ◌-◌, ◌^◌, min, List, ◌∷◌, ◌++◌, length, ⊤, None, Some}
use Rattle.std.specs.Coded.{Coded-set, coded_list, coded_ℕ, Π_prop, Unit-prop}
use Rattle.std.proofs.Common.{ap, ◌∙◌}
use Rattle.std.specs.declared.option.Option.{Option}
use Rattle.sip_ports.specs.Ports.{heard}
use Rattle.sip_ports.specs.declared.port.TalkEvent.{TalkEvent}
use Rattle.sip_ports.specs.declared.port.TalkEvent.TheVariants.{Ended}

-- Of a source that had these bytes at first the talk has heard a front, in order, and the others
-- are left. The end is told only where all of them had been heard.
pub record Follows (first : List ℕ) (talk : List TalkEvent) (left : List ℕ) : Type 0 where
  pub came : first ≡ heard talk ++ left
  pub ended : (before after : List TalkEvent) → talk ≡ before ++ Ended ∷ after
      → first ≡ heard before

-- the same of a source that may tell its bytes; one that tells them goes on to
abbrev pub Replays : Option (List ℕ) → List TalkEvent → Option (List ℕ) → Type 0
Replays None talk left = ⊤
Replays (Some first) talk None = ⊥
Replays (Some first) talk (Some left) = Follows first talk left

-- how many bytes a talk has heard, as a count tells it that ends at 2^64 - 1
abbrev pub heard_count : List TalkEvent → ℕ
heard_count talk = min (length (heard talk)) (2 ^ 64 - 1)

-- what the link's ghost field rests on: there is one proof of it at most
bytes_set : (xs ys : List ℕ) → IsProp (xs ≡ ys)
bytes_set xs ys = Coded-set (coded_list coded_ℕ) xs ys

Follows-prop : (first : List ℕ) (talk : List TalkEvent) (left : List ℕ)
    → IsProp (Follows first talk left)
Follows-prop first talk left p q =
    let told = Π_prop (λ before. Π_prop (λ after. Π_prop (λ _. bytes_set first (heard before)))) in
    ap (λ h. record { came = h; ended = p.ended }) (bytes_set _ _ p.came q.came)
    ∙ ap (λ h. record { came = q.came; ended = h }) (told p.ended q.ended)

pub Replays-prop : (first : Option (List ℕ)) (talk : List TalkEvent) (left : Option (List ℕ))
    → IsProp (Replays first talk left)
Replays-prop None talk left = Unit-prop
Replays-prop (Some first) talk None = λ p q. absurd p
Replays-prop (Some first) talk (Some left) = Follows-prop first talk left
