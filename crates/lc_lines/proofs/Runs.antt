-- One more step is taken.
use Rattle.std.proofs.Common.{◌≡◌, ℕ, List, [], ◌∷◌, ◌++◌, refl, sym, ◌∙◌, ap, subst, append_assoc}
use Rattle.lc_frame.specs.Stored.{Stored}
use Rattle.lc_peer.specs.declared.delivery.Delivery.{Delivery}
use Rattle.lc_peer.specs.Deliveries.{Delivers}
use Rattle.lc_lines.specs.declared.scheduler.Notice.{Notice}
use Rattle.lc_lines.specs.Scheduler.{SchedulerState, Steps}
use Rattle.lc_lines.specs.Lines.{LinesState, Ran, Runs, DeliversAndSettles}

ran_push : (ran : List Notice) (n : Notice) (s mid s' : SchedulerState) → Ran ran s mid → Steps n mid s' → Ran (ran ++ n ∷ []) s s'
ran_push [] n s mid s' ran stepped = (s', (subst (λ (m : SchedulerState). Steps n m s') ran stepped, refl))
ran_push (h ∷ later) n s mid s' ran stepped = (ran.0, (ran.1.0, ran_push later n ran.0 mid s' ran.1.1 stepped))

pub runs_none : (s : SchedulerState) (notices : List Notice) → notices ++ [] ≡ notices → Runs s notices s notices
runs_none s notices e = record { ran = []; steps = refl; noticed = sym e }

pub runs_push : (s mid s' : SchedulerState) (notices now : List Notice) (n : Notice) → Runs s notices mid now → Steps n mid s' → Runs s notices s' (now ++ n ∷ [])
runs_push s mid s' notices now n runs stepped = record {
  ran = runs.ran ++ n ∷ [];
  steps = ran_push runs.ran n s mid s' runs.steps stepped;
  noticed = ap (λ (xs : List Notice). xs ++ n ∷ []) runs.noticed ∙ append_assoc notices runs.ran (n ∷ []);
}

-- bytes arrived, and then calls stepped
pub delivers_and_settles : (l l' : LinesState) (mid : SchedulerState) (held held' : Stored) (piece : List ℕ) (d : Delivery) → Delivers l.scheduler.peer held piece mid.peer held' d → mid ≡ record l.scheduler { peer = mid.peer } → Runs mid l.notices l'.scheduler l'.notices → l'.entries ≡ l.entries → DeliversAndSettles l held piece l' held' d
delivers_and_settles l l' mid held held' piece d delivers rest runs entries = record {
  peer = mid.peer;
  delivers = delivers;
  settles = record { runs = subst (λ (m : SchedulerState). Runs m l.notices l'.scheduler l'.notices) rest runs; same_entries = entries };
}
