-- A run that was not begun, since memory was refused to a helper or a link, keeps what a panel promises.
use Rattle.std.proofs.Common.{◌≡◌, ℕ, zero, suc, ◌*◌, ◌<◌, ◌≤◌, List, [], ◌∷◌, length, map, replicate, All, Option, refl, sym, append-nil, arith}
use Rattle.std.proofs.lemmas.List.{get_or-replicate, length-replicate}
use Rattle.sip_ports.specs.declared.port.TalkEvent.{TalkEvent}
use Rattle.sip_ports.proofs.FaultLemmas.{Rose-positive}
use Rattle.sip_ports.proofs.TalkLemmas.{GoesOn-refl}
use Rattle.sip_vector.specs.Limits.{most_depth}
use Rattle.sip_wire.specs.Table.{most_queries}
use Rattle.sip_verifier.specs.declared.status.Status.TheVariants as statuses
use Rattle.sip_verifier.specs.declared.task.Task.{Task}
use Rattle.sip_verifier.specs.Tasks.{CanBeDone}
use Rattle.sip_verifier.proofs.RunTalks.{nothing_reported}
use Rattle.sip_session.specs.PanelClause.{PanelRunClause}
use Rattle.sip_session.specs.PanelExchanges.{panel_snapshot}
use Rattle.sip_session.proofs.Begun.{queries_few}
use Rattle.sip_session.proofs.PanelRuns.{not_begun, panel_tells}
use Rattle.sip_cli.specs.PanelWordsClause.{PanelWordsClause}

-- ---- links

-- links on which nothing has happened tell no event
pub none_told : {L : Type 0} (talk : L → List TalkEvent) (links : List L) (n : ℕ) → length links ≡ n → All (λ l. talk l ≡ []) links → map talk links ≡ replicate n []
none_told talk [] zero count all = refl
none_told talk [] (suc n) count all = absurd (omega (arith, count))
none_told talk (l ∷ links) zero count all = absurd (omega (arith, count))
none_told talk (l ∷ links) (suc n) count all =
    let first : talk l ≡ [] = all 0 l (omega arith) in
    let rest : map talk links ≡ replicate n [] = none_told talk links n (omega (arith, count)) (λ i d less. all (suc i) d (omega arith)) in
    rw (first, rest) refl

-- ---- a run that was not begun

module _ (helpers : ℕ) (task : Task) (some : 0 < helpers) (can : CanBeDone task) (deep : 1 ≤ task.depth) (most : task.depth ≤ most_depth)
    (few : helpers * length task.queries.items ≤ most_queries)
    (first second : Option (List ℕ)) (firsts seconds : ℕ) (report : Option (List TalkEvent)) (reports : ℕ) where
  -- it wanted memory
  begun_not : PanelRunClause helpers task (panel_snapshot first firsts second seconds (replicate helpers []) report reports)
      (panel_snapshot first firsts second seconds (replicate helpers []) report reports) statuses.OutOfMemory
  begun_not = record {
    promises = λ x t.
        not_begun helpers task some can deep most (queries_few helpers (length task.queries.items) most_queries some few) x _ _ (λ r. Rose-positive 0 0 r refl) (λ r. Rose-positive 0 0 r refl) first (replicate helpers []) (length-replicate helpers [])
        (λ k less. get_or-replicate helpers k [] [] (omega (arith, less, length-replicate {A = List TalkEvent} helpers []))) (replicate helpers []) t.talks refl (nothing_reported _ _ t.report) statuses.OutOfMemory
        (λ place less. record { said = []; talk = sym (append-nil _); order = (_, refl); illegal = λ _. (_, refl) }) tt;
    moves = λ told. panel_tells _ _ told (λ still. still) [] (GoesOn-refl _);
    fault = tt;
    listed = refl;
  }

  -- and keeps what words of `panel` do
  pub unbegun : PanelWordsClause task helpers (λ talks. panel_snapshot first firsts second seconds talks report reports)
      (λ talks. panel_snapshot first firsts second seconds talks report reports) statuses.OutOfMemory
  unbegun = record {
    talks = replicate helpers [];
    keeps = begun_not;
    peer = λ e. cc;
    keep = λ e. cc;
  }
