-- The ends of a queue's first lanes, as they are made in turn.
use Rattle.std.proofs.Common.{◌≡◌, ◌∙◌, refl, sym, ap, subst, arith, ℕ, zero, suc, ◌+◌, List, [], ◌∷◌, ◌++◌}
use Rattle.std.specs.List.{All}
use Rattle.std.proofs.lemmas.List.Elements.{All-map}
use Rattle.lc_frame.specs.declared.version.Version.{Version}
use Rattle.lc_frame.specs.Lane.{lane_count}
use Rattle.lc_queue.specs.Parts.{QueueId, End, IsSame, new_end, new_ends}

abbrev pub first_ends : QueueId → Version → ℕ → List End
first_ends queue version zero = []
first_ends queue version (suc lane) = first_ends queue version lane ++ new_end queue version lane ∷ []

-- one end more
pub ends_grow : (queue : QueueId) (version : Version) (lane : ℕ) (before : List End) (end : End) (after : List End) → before ≡ first_ends queue version lane → end ≡ new_end queue version lane → after ≡ before ++ end ∷ [] → after ≡ first_ends queue version (lane + 1)
ends_grow queue version lane before end after first is pushed =
    let more : suc lane ≡ lane + 1 = omega arith in
    pushed ∙ (λ i. first i ++ is i ∷ []) ∙ ap (first_ends queue version) more

-- all of them
pub ends_all : (queue : QueueId) (version : Version) (lane : ℕ) (ends : List End) → lane ≡ lane_count → ends ≡ first_ends queue version lane → ends ≡ new_ends queue version
ends_all queue version lane ends last first = first ∙ ap (first_ends queue version) last

-- the same ends, by the queue and the version under other names; and they are all of that queue
pub ends_as : (queue other : QueueId) (version given : Version) (ends : List End) → other ≡ queue → version ≡ given → ends ≡ new_ends queue version → ends ≡ new_ends other given
ends_as queue other version given ends same is made = made ∙ (λ i. new_ends (sym same i) (is i))

pub ends_are_one : (queue : QueueId) (version : Version) (ends : List End) → ends ≡ new_ends queue version → All (λ end. IsSame queue end.queue) ends
ends_are_one queue version ends made = subst (All (λ (end : End). IsSame queue end.queue)) (sym made) (All-map (λ (end : End). IsSame queue end.queue) (new_end queue version) (0 ∷ 1 ∷ 2 ∷ 3 ∷ 4 ∷ 5 ∷ 6 ∷ 7 ∷ 8 ∷ 9 ∷ 10 ∷ 11 ∷ 12 ∷ 13 ∷ []) (λ k d few. refl))
